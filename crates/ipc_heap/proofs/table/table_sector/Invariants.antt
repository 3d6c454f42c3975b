-- So many words are in the sector.
use Rattle.std.proofs.Common.{◌≡◌, ◌∷◌}
use Rattle.ipc_heap.specs.Heap.{words_in}
use Rattle.ipc_heap.proofs.Parts.{filled}
use Rattle.ipc_heap.proofs.table.table_sector.Given as goal

abbrev pub invariant-loop-k : goal.invariant-loop-k
invariant-loop-k g l = words_in l.sector ≡ l.next ∷ filled l.j l.k (g.T.Table.words l.table)
