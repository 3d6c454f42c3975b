-- So many sectors are taken.
use Rattle.std.proofs.Common.{◌≡◌, length, vec_capacity}
use Rattle.ipc_heap.specs.Relations.Uses.{AreTaken}
use Rattle.ipc_heap.proofs.turning.take_table.Given as goal

abbrev pub invariant-loop : goal.invariant-loop
invariant-loop l = record {
  taken : AreTaken l.first l.fn.uses l.table.items l.uses;
  long : length l.table.items ≡ l.counter;
  capacity : vec_capacity l.table ≡ vec_capacity l.fn.table;
}
