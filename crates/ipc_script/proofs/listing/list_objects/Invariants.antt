use Rattle.std.proofs.Common.{take}
use Rattle.std.specs.Io.KnownBytes.{Appends}
use Rattle.ipc_script.proofs.DumpText.{lines_text}
use Rattle.ipc_script.proofs.listing.list_objects.Given as goal

-- the lines of the rows before this one are written
abbrev pub invariant-loop-row : goal.invariant-loop-row
invariant-loop-row g l =
    Appends (g.W.Write.contents l.fn.writer) (g.W.Write.contents l.writer) (lines_text (take l.row-index l.row-items))
