use Rattle.ipc_server.specs.Served.{Served}
use Rattle.ipc_server.proofs.server.Server.serve.Given as goal

abbrev pub invariant-loop-count : goal.invariant-loop-count
invariant-loop-count g l = Served g.D.SectorDisk.medium 0 l.fn.self.hub l.count l.moment.0 l.self.hub
