use Rattle.std.proofs.Common.{ℕ}
use Rattle.ipc_server.specs.Runs.{RunsSuch}
use Rattle.ipc_server.specs.Rows.{KeepsFailed}
use Rattle.ipc_server.specs.Streams.{OnlyJoins}
use Rattle.ipc_server.proofs.server.Server.admit.Given as goal

abbrev pub invariant-loop : goal.invariant-loop
invariant-loop g l = record {
  goes : (moment : ℕ) → RunsSuch g.D.SectorDisk.medium moment l.fn.self.hub l.self.hub (OnlyJoins l.fn.self.hub.hub l.self.hub.hub);
  failed : KeepsFailed l.fn.self.clients l.self.clients;
}
