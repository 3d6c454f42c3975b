use Rattle.std.proofs.Common.{◌≤◌, length}
use Rattle.std.specs.Io.KnownBytes.{Consumes}
use Rattle.ipc_script.specs.Line.{longest_script}
use Rattle.ipc_script.proofs.input.read_script.Given as goal

-- what was read is the script so far, which has a byte for each turn and is not too long yet
abbrev pub invariant-loop : goal.invariant-loop
invariant-loop g l = record {
  read : Consumes (g.R.Read.remaining l.fn.reader) (g.R.Read.remaining l.reader) l.script.items;
  turns : l.counter ≤ length l.script.items;
  short : length l.script.items ≤ longest_script;
}
