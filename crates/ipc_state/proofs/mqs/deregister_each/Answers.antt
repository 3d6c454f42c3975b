use Rattle.ipc_state.specs.Opening.{deregistered, is_by}
use Rattle.ipc_state.proofs.Clearing.{seen-all}
use Rattle.ipc_state.proofs.mqs.deregister_each.Goals as goal

pub returns : goal.returns
returns c =
    seen-all (deregistered (is_by c.args.pid c.args.fd)) c.loop-item.item-index c.args.items.now c.loop-item.items c.loop-item.invariant c.loop-item-test.false
