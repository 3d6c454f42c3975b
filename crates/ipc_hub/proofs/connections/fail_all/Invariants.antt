use Rattle.ipc_hub.specs.Relations.Delivery.{failed}
use Rattle.ipc_hub.proofs.Rows.{SeenUpTo}
use Rattle.ipc_hub.proofs.connections.fail_all.Given as goal

abbrev pub invariant-loop-connection : goal.invariant-loop-connection
invariant-loop-connection l = SeenUpTo failed l.connection-index l.initial.connections l.connections
