-- The slots so far are synced, the others as they were.
use Rattle.std.proofs.Common.{◌≡◌, ◌++◌, map, take, drop}
use Rattle.ipc_disk.specs.Relations.Slots.{flushed}
use Rattle.ipc_disk.proofs.memory.flush_all.Given as goal

abbrev pub invariant-loop-slot : goal.invariant-loop-slot
invariant-loop-slot l = l.slots ≡ map flushed (take l.slot-index l.initial.slots) ++ drop l.slot-index l.initial.slots
