use Rattle.std.proofs.Common.{refl}
use Rattle.ipc_server.proofs.Standing.{serving-kept}
use Rattle.ipc_server.proofs.server.Server.ask_for_space.Goals as goal

pub invariant_of-self : goal.invariant_of-self
invariant_of-self g c =
    serving-kept c.self.inside.hub.hub c.self.inside.hub.hub c.self.inside.clients c.ask_for_space.new.clients refl
    c.ask_for_space.ensures c.self.invariant

pub returns-clause-connected : goal.returns-clause-connected
returns-clause-connected g c = (
    serving-kept c.self.inside.hub.hub c.self.inside.hub.hub c.self.inside.clients c.ask_for_space.new.clients refl
    c.ask_for_space.ensures c.self.invariant).connected
