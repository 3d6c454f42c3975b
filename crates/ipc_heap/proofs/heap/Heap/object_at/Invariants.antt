use Rattle.std.proofs.Common.{◌≡◌, ◌+◌, ◌<◌, ◌≤◌, length, take}
use Rattle.ipc_heap.specs.Relations.Words.{AreWords}
use Rattle.ipc_heap.proofs.Placed.{words_for}
use Rattle.ipc_heap.proofs.heap.Heap.object_at.Given as goal

-- as many objects were passed over as turns were taken, and the words of the next one are there
abbrev pub invariant-loop : goal.invariant-loop
invariant-loop l = record {
  are : AreWords l.self-inside.words.items l.self.placed;
  less : l.i < length l.self.placed;
  at : l.at ≡ 1 + words_for (take l.counter l.self.placed);
  room : l.counter ≤ l.i → l.at + 4 ≤ length l.self-inside.words.items;
}
