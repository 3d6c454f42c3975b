-- The last values are as they were, and what is unsynced is on the rest of the list.
use Rattle.std.proofs.Common.{◌≡◌, map, drop}
use Rattle.ipc_disk.specs.Relations.Slots.{ListsUnsynced, flushed}
use Rattle.ipc_disk.proofs.memory.flush_listed.Given as goal

abbrev pub invariant-loop-at : goal.invariant-loop-at
invariant-loop-at l = record {
  same : map flushed l.slots ≡ map flushed l.initial.slots;
  rest : ListsUnsynced (drop l.at-index l.listed) l.slots;
}
