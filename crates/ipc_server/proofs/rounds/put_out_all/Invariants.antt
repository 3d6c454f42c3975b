use Rattle.std.proofs.Common.{◌≡◌}
use Rattle.ipc_hub.specs.View.{numbers_of}
use Rattle.ipc_server.specs.Rows.{EachBelow, KeepsClients, Stays, clients_of}
use Rattle.ipc_server.specs.Streams.{SendsEach}
use Rattle.ipc_server.specs.View.{HaveOwnNumbers, WasWritten}
use Rattle.ipc_server.proofs.rounds.put_out_all.Given as goal

abbrev pub invariant-loop-key : goal.invariant-loop-key
invariant-loop-key g l = record {
  sends : SendsEach g.S.Write.contents l.fn.hub l.hub l.fn.clients l.clients;
  numbers : numbers_of l.hub.hub ≡ numbers_of l.fn.hub.hub;
  keeps : KeepsClients l.fn.clients l.clients;
  stays : Stays (clients_of l.fn.clients) (clients_of l.clients);
  written : HaveOwnNumbers (clients_of l.fn.clients) → EachBelow l.key (WasWritten l.hub.hub) (clients_of l.clients);
}
