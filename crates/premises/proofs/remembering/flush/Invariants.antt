-- The slots so far are synced, the others as they were.
use Rattle.std.proofs.Common.{◌≡◌, ◌++◌, map, take, drop}
use Rattle.ipc_disk.specs.Relations.Slots.{flushed}
use Rattle.premises.specs.Remembered.{slots_of}
use Rattle.premises.proofs.remembering.flush.Given as goal

abbrev pub invariant-loop-slot : goal.invariant-loop-slot
invariant-loop-slot l = slots_of l.slots ≡ map flushed (take l.slot-index (slots_of l.initial.slots)) ++ drop l.slot-index (slots_of l.initial.slots)
