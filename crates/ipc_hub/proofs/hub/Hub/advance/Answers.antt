use Rattle.std.proofs.Common.{[], ◌∷◌, length, refl, ap, arith, rules}
use Rattle.ipc_engine.specs.Event.{Tick}
use Rattle.ipc_store.specs.View.{IsReadyFor, events_left}
use Rattle.ipc_hub.specs.Clients.{tick}
use Rattle.ipc_hub.specs.Relations.Matches.{Serves, StoredMatches}
use Rattle.ipc_hub.specs.Relations.Rows.{stored_view}
use Rattle.ipc_hub.proofs.Committing.{some-left}
use Rattle.ipc_hub.proofs.Coming.{comes-further, comes-same, passes-then}
use Rattle.ipc_hub.proofs.hub.Hub.advance.Given.{Over}
use Rattle.ipc_hub.proofs.hub.Hub.advance.Goals.{After-tick}
use Rattle.ipc_hub.proofs.hub.Hub.advance.Goals as goal

-- it serves the hubs that matched before the space was made
serves : (g : Over) (c : After-tick g) → Serves g.D.SectorDisk.medium c.args.self.now (stored_view c.tick.new.store c.tick.new.connections)
    (λ limits h. tick limits h c.args.moment.0)
serves g c limits h m =
    let medium = g.D.SectorDisk.medium in
    let mid = stored_view c.self.inside.store c.self.inside.connections in
    let kept = c.in_default.ensures.settles.ok limits h m in
    let here : StoredMatches limits mid h = rw c.self.view_is kept in
    comes-further medium limits c.args.self.now mid _ h h (tick limits h c.args.moment.0)
    (rw c.self.view_is (comes-same medium limits c.args.self.now c.make_space.new.self h kept c.in_default.ensures.settles.takes))
    (c.tick.ensures.ticks limits _ h here.hub)
    (record { events = Tick c.args.moment.0 ∷ []; adds = refl; pends = c.tick.ensures.accepts.pends })

-- records of so many bytes have room then, and two events more can be counted
ready : (g : Over) (c : After-tick g) → IsReadyFor c.tick.new.store c.args.more 2
ready g c =
    let three = some-left c.args.self.now c.requires.running in (
      c.tick.ensures.room c.args.more (omega (arith, c.in_default.ensures.room, ap (λ v. length v.store.records) c.self.view_is)),
      c.tick.ensures.left 2 (omega (arith, three, c.in_default.ensures.left, ap (λ v. events_left v.store) c.self.view_is)),
    )

pub returns : goal.returns
returns g c = search (rules, passes-then, serves g (goal.at.returns g c).After-tick, ready g (goal.at.returns g c).After-tick)
