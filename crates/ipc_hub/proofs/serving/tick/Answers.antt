use Rattle.std.proofs.Common.{refl, rules}
use Rattle.ipc_engine.specs.Event.{Tick}
use Rattle.ipc_engine.proofs.CallerLemmas.{tick-stays}
use Rattle.ipc_store.proofs.CallerLemmas.{tick-length}
use Rattle.ipc_hub.specs.Relations.Rows.{hub_view}
use Rattle.ipc_hub.specs.Relations.Requests.{Happened}
use Rattle.ipc_hub.proofs.Deliveries.{happened-matches}
use Rattle.ipc_hub.proofs.Keeping.{quiet-goes-on, quiet-happens, quiet-passes}
use Rattle.ipc_hub.proofs.serving.tick.Given.{Over}
use Rattle.ipc_hub.proofs.serving.tick.Goals.{After-accept}
use Rattle.ipc_hub.proofs.serving.tick.Goals as goal

happened : (g : Over) (c : After-accept g) → Happened (hub_view c.args.store.now.machine c.args.connections.now)
    (hub_view c.accept.new.store.machine c.accept.new.connections) (Tick c.args.moment.0)
happened g c =
    quiet-happens g.D.SectorDisk.medium c.args.store.now c.accept.new.store _ _ (Tick c.args.moment.0) c.accept.ensures.steps c.accept.ensures.replies

pub returns-clause-accepts : goal.returns-clause-accepts
returns-clause-accepts g c =
    let machine = c.args.store.now.machine in
    record {
      continues = quiet-goes-on _ (Tick c.args.moment.0) c.accept.ensures.steps.sound c.requires.invariant (λ pid. refl) _
          (happened g (goal.at.returns-clause-accepts g c).After-accept)
          (λ conn pid mine. tick-stays machine.limits machine.state c.args.moment.0 pid (c.requires.invariant.own.connected conn pid mine));
      pends = c.accept.ensures.steps.pends;
    }

pub returns-clause-passed : goal.returns-clause-passed
returns-clause-passed g c =
    quiet-passes _ (Tick c.args.moment.0) c.accept.ensures.steps.sound c.requires.invariant (λ pid. refl) _
    (happened g (goal.at.returns-clause-passed g c).After-accept)

pub returns-clause-ticks : goal.returns-clause-ticks
returns-clause-ticks g c limits confirmed h m = search (rules, happened, happened-matches)

pub accept-requires-clause-ready : goal.accept-requires-clause-ready
accept-requires-clause-ready g c = record { invariant = c.requires.invariant; events = rw (tick-length c.args.moment.0) c.requires.events }

pub returns-clause-room : goal.returns-clause-room
returns-clause-room g c = λ bytes room. c.accept.ensures.steps.room bytes (rw (tick-length c.args.moment.0) room)

pub returns-clause-left : goal.returns-clause-left
returns-clause-left g c = c.accept.ensures.steps.left
