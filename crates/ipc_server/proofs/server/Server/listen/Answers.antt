use Rattle.std.proofs.Common.{refl}
use Rattle.ipc_server.proofs.Standing.{serving-kept}
use Rattle.ipc_server.proofs.server.Server.listen.Goals as goal

pub invariant_of-self-2 : goal.invariant_of-self-2
invariant_of-self-2 g c =
    serving-kept c.self.inside.hub.hub c.self.inside.hub.hub c.self.inside.clients c.note_events.new.clients refl c.note_events.ensures c.self.invariant

pub returns-clause-connected : goal.returns-clause-connected
returns-clause-connected g c = (
    serving-kept c.self.inside.hub.hub c.self.inside.hub.hub c.self.inside.clients c.note_events.new.clients refl c.note_events.ensures
    c.self.invariant).connected
