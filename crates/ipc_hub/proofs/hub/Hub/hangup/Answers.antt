use Rattle.std.proofs.Common.{length, ap, ◌∙◌, arith, rules}
use Rattle.ipc_store.proofs.CallerLemmas.{left-goes-on}
use Rattle.ipc_store.specs.View.{events_left}
use Rattle.ipc_hub.specs.Relations.Invariant.{HubInvariant}
use Rattle.ipc_hub.specs.Relations.Rows.{hub_view}
use Rattle.ipc_hub.proofs.Changes.{without-invariant, without-leaves, without-nobodys}
use Rattle.ipc_hub.proofs.Coming.{comes-gone}
use Rattle.ipc_hub.proofs.Ending.{exit-few}
use Rattle.ipc_hub.proofs.hub.Hub.hangup.Given.{Over}
use Rattle.ipc_hub.proofs.hub.Hub.hangup.Goals.{After-remove-process}
use Rattle.ipc_hub.proofs.hub.Hub.hangup.Goals as goal

-- when time has passed
invariant : (g : Over) (c : After-remove-process g) → HubInvariant (hub_view c.self-2.inside.store.machine c.self-2.inside.connections)
invariant g c =
    c.self-2.invariant
    (ap (λ v. v.store.stopped) c.self-2.view_is ∙ left-goes-on c.advance.new.self.store (omega (arith, c.in_default.ensures.ready.1)))

pub leave-requires-clause-ready : goal.leave-requires-clause-ready
leave-requires-clause-ready g c =
    let inv = without-invariant (hub_view c.self-2.inside.store.machine c.self-2.inside.connections) c.args.conn
    (invariant g (goal.at.leave-requires-clause-ready g c).After-remove-process) in
    let ready = c.in_default.ensures.ready in
    let store = c.self-2.view_is in
    record {
      invariant = rw c.remove-process.ensures.left inv;
      events = (omega (arith, ready.0, ap (λ v. length v.store.records) store), omega (arith, ready.1, ap (λ v. events_left v.store) store));
    }

pub leave-requires-clause-nobodys : goal.leave-requires-clause-nobodys
leave-requires-clause-nobodys g c = search (rules, without-nobodys)

pub returns-clause-ok : goal.returns-clause-ok
returns-clause-ok g c limits h m =
    comes-gone g.D.SectorDisk.medium limits c.args.self.now c.self-2.inside.store c.leave.new.store c.self-2.inside.connections
    c.remove-process.new.self c.leave.new.connections c.args.conn c.args.moment.0 _ h c.remove-process.ensures.left
    c.remove-process.ensures.process (rw c.self-2.view_is (c.in_default.ensures.ok limits h m)) c.leave.ensures.leaves c.leave.ensures.accepts.pends

pub returns-clause-leaves : goal.returns-clause-leaves
returns-clause-leaves g c other = search (rules, without-leaves)

pub returns-clause-spends : goal.returns-clause-spends
returns-clause-spends g c = search (rules, exit-few)
