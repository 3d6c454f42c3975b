use Rattle.ipc_hub.specs.Relations.Delivery.{released}
use Rattle.ipc_hub.proofs.Rows.{seen-all}
use Rattle.ipc_hub.proofs.connections.release_all.Goals as goal

pub returns : goal.returns
returns c =
    seen-all released c.loop-connection.connection-index c.args.connections.now c.loop-connection.connections
    c.loop-connection.invariant c.loop-connection-test.false
