use Rattle.std.proofs.Common.{◌≡◌, ℕ, List, [], Option, true, false}
use Rattle.ipc_server.specs.Rows.{EachBelow, KeepsClients, StandsIn, clients_of}
use Rattle.ipc_server.specs.Streams.{AreSent}
use Rattle.ipc_server.specs.View.{is_gone}
use Rattle.ipc_server.proofs.rounds.note_ends.Given as goal

abbrev pub invariant-loop-key : goal.invariant-loop-key
invariant-loop-key g l = record {
  keeps : KeepsClients l.fn.clients l.clients;
  sockets : (contents : g.row.S.Denot → Option (List ℕ)) → AreSent contents l.fn.clients l.clients [];
  stands : StandsIn (clients_of l.fn.clients) (clients_of l.clients);
  gone : EachBelow l.key (λ c. c.over ≡ false → is_gone l.fn.hub.hub c ≡ false) (clients_of l.clients);
  failed : EachBelow l.key (λ c. c.writing.failed ≡ true → c.over ≡ true) (clients_of l.clients);
}
