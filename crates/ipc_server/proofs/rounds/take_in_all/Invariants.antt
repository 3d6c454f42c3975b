use Rattle.std.proofs.Common.{◌≡◌, false}
use Rattle.ipc_hub.specs.View.{numbers_of}
use Rattle.ipc_server.specs.Runs.{RunsSuch}
use Rattle.ipc_server.specs.Rows.{EachBelow, KeepsClients, clients_of}
use Rattle.ipc_server.specs.Streams.{HearsEach}
use Rattle.ipc_server.specs.View.{WasRead}
use Rattle.ipc_server.proofs.rounds.take_in_all.Given as goal

abbrev pub invariant-loop-key : goal.invariant-loop-key
invariant-loop-key g l = record {
  hears : RunsSuch g.D.SectorDisk.medium l.fn.moment.0 l.fn.hub l.hub (HearsEach g.S.Read.remaining l.fn.clients l.clients);
  numbers : numbers_of l.hub.hub ≡ numbers_of l.fn.hub.hub;
  keeps : KeepsClients l.fn.clients l.clients;
  read : EachBelow l.key (λ c. c.over ≡ false → WasRead c) (clients_of l.clients);
}
