use Rattle.std.proofs.Common.{◌≡◌, ℕ, List, [], Option, false}
use Rattle.ipc_server.specs.Rows.{EachBelow, IsServing, StandsIn, clients_of}
use Rattle.ipc_server.specs.Streams.{AreSent, PartsWith}
use Rattle.ipc_server.proofs.rounds.part_with_gone.Given as goal

abbrev pub invariant-loop-key : goal.invariant-loop-key
invariant-loop-key g l = record {
  hangs_up : PartsWith g.D.SectorDisk.medium l.fn.moment.0 l.fn.hub l.hub l.fn.clients l.clients;
  sockets : (contents : g.row.S.Denot → Option (List ℕ)) → AreSent contents l.fn.clients l.clients [];
  serving : IsServing l.fn.hub.hub l.fn.clients → IsServing l.hub.hub l.clients;
  capacity : l.clients.capacity ≡ l.fn.clients.capacity;
  stands : StandsIn (clients_of l.fn.clients) (clients_of l.clients);
  left : EachBelow l.key (λ c. c.over ≡ false) (clients_of l.clients);
}
