use Rattle.sem_undo.specs.Undo.{cleared}
use Rattle.ipc_state.proofs.Clearing.{rises-after}
use Rattle.ipc_state.proofs.adjustments.Rows+SemUndo.clear_at.Goals as goal

pub invariant_of-self : goal.invariant_of-self
invariant_of-self c rises =
    rises-after (cleared c.args.set.0 c.args.num) c.self.inside.items c.deref_mut.result.now c.clear_each.new.items
    c.deref_mut.ensures.value c.clear_each.ensures (c.self.invariant rises)
