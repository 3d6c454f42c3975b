use Rattle.std.proofs.Common.{◌≡◌, [], ◌∷◌, ◌++◌, sym, ap, subst, ◌∙◌, arith}
use Rattle.ipc_limits.specs.Limits.{ArePassed}
use Rattle.ipc_limits.specs.declared.limits.Limits.{Limits}
use Rattle.ipc_store.specs.Relations.Matches.{AreOnDisk}
use Rattle.ipc_engine.specs.Engine.{Machine, IsForProcess}
use Rattle.ipc_engine.specs.View.{plain_event}
use Rattle.ipc_store.specs.Histories.{Takes}
use Rattle.ipc_store.specs.View.{StoreView}
use Rattle.ipc_store.proofs.Accepting.{accepted}
use Rattle.ipc_store.proofs.Lives.{takes-none, takes-one}
use Rattle.ipc_store.proofs.store.Store.step.Goals as goal

pub returns-clause-matches : goal.returns-clause-matches
returns-clause-matches g c =
    let for : IsForProcess c.self.inside.engine.state (plain_event c.args.event) =
    subst (λ v. IsForProcess v.machine.state (plain_event c.args.event)) (sym c.self.view_is) c.requires.process in
    rw (sym c.self.view_is) (λ base pending at.
    accepted _ _ base pending at (plain_event c.args.event) c.push.ensures.record for c.step.new.self c.step.ensures.limits
    c.in_default.ensures.state c.step.ensures.tracked c.push.new.self.records c.push.ensures.records c.push.new.self.count c.push.ensures.count)

pub returns-clause-passed : goal.returns-clause-passed
returns-clause-passed g c = subst (λ v. ArePassed v.machine.limits) c.self.view_is c.step.ensures.passed

pub returns-then-self-clause-takes : goal.returns-then-self-clause-takes
returns-then-self-clause-takes g c = (tt, takes-none g.D.SectorDisk.medium g.met.D.SectorDisk.only_now c.args.self.now)

pub returns-in-Err-clause-takes : goal.returns-in-Err-clause-takes
returns-in-Err-clause-takes g c =
    let view : Machine → StoreView g.row.D.Denot = λ machine. record {
      disk = c.self.inside.disk;
      machine = machine;
      checkpoint = c.self.inside.checkpoint;
      journal = c.self.inside.journal;
      records = c.self.inside.batch.records;
      waiting = c.self.inside.batch.count;
      confirmed = c.self.inside.confirmed;
      stopped = c.self.inside.stopped;
    } in
    let same : c.args.self.now ≡ view c.step.new.self = sym c.self.view_is ∙ ap view (sym c.in-Err.ensures.err) in (
      tt,
      subst (λ v. Takes g.D.SectorDisk.medium c.args.self.now [] v) same
          (takes-none g.D.SectorDisk.medium g.met.D.SectorDisk.only_now c.args.self.now),
    )

pub returns-clause-takes : goal.returns-clause-takes
returns-clause-takes g c = (
  takes-one g.D.SectorDisk.medium g.met.D.SectorDisk.only_now c.args.self.now _ (plain_event c.args.event)
      (sym (ap (λ v. v.stopped) c.self.view_is) ∙ c.if-self.false)
      (ap (λ v. v.disk) c.self.view_is) (c.step.ensures.limits ∙ ap (λ v. v.machine.limits) c.self.view_is) (ap (λ v. v.confirmed) c.self.view_is)
      (returns-clause-matches g c),
  tt,
)

pub invariant_of-self-2 : goal.invariant_of-self-2
invariant_of-self-2 g c =
    let for : IsForProcess c.self.inside.engine.state (plain_event c.args.event) =
    subst (λ v. IsForProcess v.machine.state (plain_event c.args.event)) (sym c.self.view_is) c.requires.process in (
      subst (λ (l : Limits). AreOnDisk (g.D.SectorDisk.size c.self.inside.disk) l c.self.inside.checkpoint c.self.inside.journal)
          (sym c.step.ensures.limits) c.self.invariant.0,
      omega (arith, c.self.invariant.1, c.push.ensures.count),
      λ goes honest. let found = c.self.invariant.2 goes honest in (
        found.0,
        (
          found.1.0 ++ plain_event c.args.event ∷ [],
          accepted _ _ found.0 found.1.0 found.1.1 (plain_event c.args.event) c.push.ensures.record for c.step.new.self c.step.ensures.limits
              c.in_default.ensures.state c.step.ensures.tracked c.push.new.self.records c.push.ensures.records c.push.new.self.count c.push.ensures.count,
        ),
      ),
      c.self.invariant.3,
    )

pub invariant_of-self : goal.invariant_of-self
invariant_of-self g c = rw c.in-Err.ensures.err c.self.invariant
