use Rattle.std.proofs.Common.{◌≡◌}
use Rattle.ipc_server.proofs.server.Server.rest.Given as goal

abbrev pub invariant-loop-wait : goal.invariant-loop-wait
invariant-loop-wait g l = l.self.hub ≡ l.fn.self.hub
