use Rattle.std.proofs.Common.{take}
use Rattle.std.specs.Prelude.{All}
use Rattle.ipc_state.proofs.Adjusting.{AreKept}
use Rattle.ipc_state.proofs.adjustments.are_at_semaphores.Given as goal

-- those of each before this one are
abbrev pub invariant-loop-item : goal.invariant-loop-item
invariant-loop-item l = All (AreKept l.sets.objects) (take l.item-index l.items)
