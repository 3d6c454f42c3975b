-- The objects so far have no more words than come before the one that is asked for.
use Rattle.std.proofs.Common.{◌≡◌, ◌+◌, ◌≤◌, take}
use Rattle.ipc_base.specs.Objects.{object_sectors}
use Rattle.ipc_heap.specs.Relations.Table.{placed_after}
use Rattle.ipc_heap.proofs.Placed.{words_for}
use Rattle.ipc_heap.proofs.objects.LaidTable.word.Given as goal

abbrev pub invariant-loop-k : goal.invariant-loop-k
invariant-loop-k g l = record {
  place : l.at ≡ 1 + words_for (placed_after l.self.first (take l.k (g.O.Objects.objects l.self.objects.now)));
  stands : l.sector ≡ l.self.first + object_sectors (take l.k (g.O.Objects.objects l.self.objects.now));
  passed : l.at ≤ l.i;
}
