use Rattle.std.proofs.Common.{sym, subst, arith}
use Rattle.ipc_hub.specs.declared.connection.Connection.{Connection}
use Rattle.ipc_hub.specs.Relations.Delivery.{failed, HasSpare}
use Rattle.ipc_hub.proofs.Rows.{each-get, seen-all}
use Rattle.ipc_hub.proofs.connections.fail_all.Goals as goal

pub fail-requires : goal.fail-requires
fail-requires c =
    let i = c.loop-connection.connection-index in
    let was = c.connection-item.result in
    subst (λ (d : Connection). HasSpare d.session) (sym (c.loop-connection.invariant.rest i was (omega arith)))
    (each-get HasSpare c.args.connections.now i was c.requires c.loop-connection-test.true)

pub returns : goal.returns
returns c =
    seen-all failed c.loop-connection.connection-index c.args.connections.now c.loop-connection.connections
    c.loop-connection.invariant c.loop-connection-test.false
