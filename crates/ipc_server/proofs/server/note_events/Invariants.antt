use Rattle.ipc_server.specs.Rows.{KeepsClients}
use Rattle.ipc_server.proofs.server.note_events.Given as goal

abbrev pub invariant-loop-event : goal.invariant-loop-event
invariant-loop-event g l =
    (goal.iterator-loop-event g).can_next l.event-iterator × (goal.iterator-loop-event g).is_finite l.event-iterator × KeepsClients l.fn.clients l.clients
