use Rattle.std.proofs.Common.{◌≡◌, false}
use Rattle.ipc_server.specs.Rest.{has_work}
use Rattle.ipc_server.specs.Rows.{EachBelow, clients_of}
use Rattle.ipc_server.proofs.rounds.any_has_work.Given as goal

abbrev pub invariant-loop-key : goal.invariant-loop-key
invariant-loop-key g l = EachBelow l.key (λ c. has_work l.fn.hub.hub c ≡ false) (clients_of l.fn.clients)
