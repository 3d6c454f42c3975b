use Rattle.ipc_server.proofs.Standing.{serving-none}
use Rattle.ipc_server.proofs.server.Server.new.Goals as goal

pub invariant_of-result : goal.invariant_of-result
invariant_of-result g c = serving-none c.args.hub.hub c.new.result c.requires c.new.ensures.empty
