use Rattle.ipc_server.specs.Served.{Served}
use Rattle.ipc_server.proofs.server.Server.serve_on_demand.Given as goal

abbrev pub invariant-loop-round : goal.invariant-loop-round
invariant-loop-round g l = Served g.D.SectorDisk.medium 0 l.fn.self.hub l.round l.moment.0 l.self.hub
