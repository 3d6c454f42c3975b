use Rattle.ipc_server.specs.Rows.{KeepsClients}
use Rattle.ipc_server.proofs.rounds.ask_for_space.Given as goal

abbrev pub invariant-loop-key : goal.invariant-loop-key
invariant-loop-key g l = KeepsClients l.fn.clients l.clients
