use Rattle.sem_undo.specs.Undo.{cleared}
use Rattle.ipc_state.proofs.Clearing.{SeenUpTo}
use Rattle.ipc_state.proofs.adjustments.clear_each.Given as goal

-- those before this one are cleared
abbrev pub invariant-loop-item : goal.invariant-loop-item
invariant-loop-item l = SeenUpTo (cleared l.set.0 l.num) l.item-index l.initial.items l.items
