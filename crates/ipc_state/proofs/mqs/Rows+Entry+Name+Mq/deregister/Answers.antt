use Rattle.ipc_state.specs.Opening.{deregistered, is_by}
use Rattle.ipc_state.proofs.Clearing.{rises-after}
use Rattle.ipc_state.proofs.mqs.Rows+Entry+Name+Mq.deregister.Goals as goal

pub invariant_of-self : goal.invariant_of-self
invariant_of-self c rises =
    rises-after (deregistered (is_by c.args.pid c.args.fd)) c.self.inside.items c.deref_mut.result.now c.deregister_each.new.items
    c.deref_mut.ensures.value c.deregister_each.ensures (c.self.invariant rises)
