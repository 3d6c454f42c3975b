-- The slots so far are chosen, and the unsynced ones among them are counted.
use Rattle.std.proofs.Common.{◌≡◌, ◌≤◌}
use Rattle.ipc_disk.proofs.Choices.{chosen, place}
use Rattle.ipc_disk.proofs.memory.choose.Given as goal

abbrev pub invariant-loop-slot : goal.invariant-loop-slot
invariant-loop-slot l = record {
  chosen : l.slots ≡ chosen l.keep 0 l.slot-index l.initial.slots;
  place : l.before ≡ place 0 l.slot-index l.initial.slots;
  few : l.before ≤ l.slot-index;
}
