use Rattle.sem_undo.specs.Undo.{cleared}
use Rattle.ipc_state.proofs.Clearing.{seen-all}
use Rattle.ipc_state.proofs.adjustments.clear_each.Goals as goal

pub returns : goal.returns
returns c =
    seen-all (cleared c.args.set.0 c.args.num) c.loop-item.item-index c.args.items.now c.loop-item.items c.loop-item.invariant c.loop-item-test.false
