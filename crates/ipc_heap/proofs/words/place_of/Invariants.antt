-- The objects before the place have lower numbers, and the place comes nearer to the end.
use Rattle.std.proofs.Common.{length, ◌-◌}
use Rattle.ipc_heap.specs.Relations.Words.{placed_in}
use Rattle.ipc_heap.proofs.Placed.{ArePassed}
use Rattle.ipc_heap.proofs.words.place_of.Given as goal

abbrev pub invariant-objects : goal.invariant-objects
invariant-objects l = ArePassed (placed_in l.words) l.number l.at

abbrev pub decreases-objects : goal.decreases-objects
decreases-objects l = length l.words - l.at
