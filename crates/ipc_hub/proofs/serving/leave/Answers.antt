use Rattle.std.proofs.Common.{◌≢◌, refl, rules}
use Rattle.ipc_engine.specs.Event.{Exit}
use Rattle.ipc_engine.proofs.CallerLemmas.{exit-stays}
use Rattle.ipc_store.proofs.CallerLemmas.{exit-length}
use Rattle.ipc_hub.specs.Relations.Requests.{Happened}
use Rattle.ipc_hub.specs.Relations.Rows.{hub_view}
use Rattle.ipc_hub.proofs.Keeping.{put-others, quiet-goes-on, quiet-happens}
use Rattle.ipc_hub.proofs.Taking.{same-pends}
use Rattle.ipc_hub.proofs.serving.leave.Given.{Over}
use Rattle.ipc_hub.proofs.serving.leave.Goals.{After-accept}
use Rattle.ipc_hub.proofs.serving.leave.Goals as goal

happened : (g : Over) (c : After-accept g) → Happened (hub_view c.args.store.now.machine c.args.connections.now)
    (hub_view c.accept.new.store.machine c.accept.new.connections) (Exit c.in-Some.pid.0 c.args.moment.0)
happened g c = quiet-happens g.D.SectorDisk.medium c.args.store.now c.accept.new.store _ _ _ c.accept.ensures.steps c.accept.ensures.replies

pub accept-requires-clause-ready : goal.accept-requires-clause-ready
accept-requires-clause-ready g c = record {
  invariant = c.requires.ready.invariant;
  events = rw (exit-length c.in-Some.pid.0 c.args.moment.0) c.requires.ready.events;
}

pub returns-in-Some-clause-accepts : goal.returns-in-Some-clause-accepts
returns-in-Some-clause-accepts g c =
    let machine = c.args.store.now.machine in
    let gone = c.in-Some.pid.0 in
    rw c.in-Some.is (record {
      continues = quiet-goes-on _ (Exit gone c.args.moment.0) c.accept.ensures.steps.sound c.requires.ready.invariant (λ pid. refl) _
          (happened g (goal.at.returns-in-Some-clause-accepts g c).After-accept)
          (λ conn pid mine.
          let apart : pid ≢ gone = λ e. c.requires.nobodys conn pid (search rules) mine in
          exit-stays machine.limits machine.state gone c.args.moment.0 pid apart (c.requires.ready.invariant.own.connected conn pid mine));
      pends = c.accept.ensures.steps.pends;
    })

pub returns-in-Some-clause-leaves : goal.returns-in-Some-clause-leaves
returns-in-Some-clause-leaves g c = rw c.in-Some.is (happened g (goal.at.returns-in-Some-clause-leaves g c).After-accept)

pub returns-in-Some-clause-others : goal.returns-in-Some-clause-others
returns-in-Some-clause-others g c = rw c.accept.ensures.replies (put-others c.accept.new.store.machine.outcomes c.args.connections.now)

pub returns-in_default-clause-accepts : goal.returns-in_default-clause-accepts
returns-in_default-clause-accepts g c =
    rw c.in_default.is (record {
      continues = record { limits = refl; numbers = refl; invariant = c.requires.ready.invariant };
      pends = same-pends g.D.SectorDisk.medium g.met.D.SectorDisk.only_now c.args.store.now c.args.store.now refl;
    })
