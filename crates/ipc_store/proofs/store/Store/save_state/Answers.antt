-- Each exit: the images since the start, and the store after it.
use Rattle.std.proofs.Common.{◌≡◌, inl, inr, ℕ, ◌+◌, Bool, true, false, [], refl, sym, ap, subst, ◌∙◌, arith}
use Rattle.ipc_limits.specs.declared.limits.Limits.{Limits}
use Rattle.ipc_base.specs.Objects.{PlainObjects, Fit, OthersAreThere}
use Rattle.ipc_state.specs.State.{State}
use Rattle.ipc_checkpoint.specs.Matches.{changed_sectors, sectors_of, table_sectors}
use Rattle.ipc_disk.specs.Counts.{with_calls}
use Rattle.ipc_checkpoint.specs.View.{free_of, layout_of as saved_layout}
use Rattle.ipc_image.specs.declared.format.Format.{Format}
use Rattle.ipc_image.specs.Changed.{differs_in}
use Rattle.ipc_image.specs.Format.{device_form}
use Rattle.ipc_image.specs.Saved.{StandForStateIn, saved_in}
use Rattle.ipc_image.specs.Sizes.{area_in}
use Rattle.ipc_image.specs.Superblock.{AreOf}
use Rattle.ipc_engine.specs.Step.{run}
use Rattle.ipc_store.proofs.Committing.{any_moment-none, any_moment-save, saved, unchanged}
use Rattle.ipc_store.proofs.Devices.{has-spare, stays-on-disk}
use Rattle.ipc_store.proofs.Meanwhile.{readable-none, readable-save}
use Rattle.ipc_store.proofs.store.Store.save_state.Goals as goal

-- the objects that are saved are those of the state, in the form of the device
stands : {form : Format} {limits : Limits} {s : State} {objects others : PlainObjects} → form ≡ device_form limits → others ≡ objects
    → StandForStateIn form limits s objects → StandForStateIn (device_form limits) limits s others
stands {form} {limits} {s} {objects} {others} is same stand =
    subst (λ (f : Format). StandForStateIn f limits s others) is (subst (λ (o : PlainObjects). StandForStateIn form limits s o) (sym same) stand)

pub returns-in_default-clause-any_moment : goal.returns-in_default-clause-any_moment
returns-in_default-clause-any_moment g c = rw (sym c.self.view_is) (λ base pending at.
    any_moment-none _ (g.D.SectorDisk.medium c.self.inside.disk) _ base pending at (g.met.D.SectorDisk.only_now _))

pub returns-in-Err-clause-any_moment : goal.returns-in-Err-clause-any_moment
returns-in-Err-clause-any_moment g c = rw (sym c.self.view_is) (λ base pending at.
    any_moment-save _ _ _ base pending at _ (omega (arith, c.epoch.ensures, c.in-Some.ensures)) _
    (stands c.form_of.ensures.is c.objects_of-objects.ensures.objects c.objects_of-objects.ensures.stand)
    (c.save.ensures.others at.device.honest) c.save.ensures.any_moment)

pub returns-clause-any_moment : goal.returns-clause-any_moment
returns-clause-any_moment g c = rw (sym c.self.view_is) (λ base pending at.
    any_moment-save _ _ _ base pending at _ (omega (arith, c.epoch.ensures, c.in-Some.ensures)) _
    (stands c.form_of.ensures.is c.objects_of-objects.ensures.objects c.objects_of-objects.ensures.stand)
    (c.save.ensures.others at.device.honest) c.save.ensures.any_moment)

pub returns-in_default-clause-meanwhile : goal.returns-in_default-clause-meanwhile
returns-in_default-clause-meanwhile g c = rw (sym c.self.view_is)
    (readable-none g.D.SectorDisk.medium _ (g.met.D.SectorDisk.only_now _))

pub returns-in-Err-clause-meanwhile : goal.returns-in-Err-clause-meanwhile
returns-in-Err-clause-meanwhile g c = rw (sym c.self.view_is)
    (readable-save g.D.SectorDisk.medium _ _ c.save.ensures.others c.save.ensures.meanwhile)

pub returns-clause-meanwhile : goal.returns-clause-meanwhile
returns-clause-meanwhile g c = rw (sym c.self.view_is)
    (readable-save g.D.SectorDisk.medium _ _ c.save.ensures.others c.save.ensures.meanwhile)

pub save-requires-clause-old_fits : goal.save-requires-clause-old_fits
save-requires-clause-old_fits g c = c.self.invariant.3 (ap (λ v. v.stopped) c.self.view_is ∙ c.requires.running)

pub returns-clause-matches : goal.returns-clause-matches
returns-clause-matches g c = rw (sym c.self.view_is, c.mark_saved.ensures, c.clear.ensures) (λ base pending at.
    saved _ _ _ base pending at _ (omega (arith, c.epoch.ensures, c.in-Some.ensures)) _
    (stands c.form_of.ensures.is c.objects_of-objects.ensures.objects c.objects_of-objects.ensures.stand)
    (c.save.ensures.others at.device.honest) _ _ _ _
    c.save.ensures.layout c.in_default-save.ensures.epoch c.turn.ensures.form c.turn.ensures.range c.turn.ensures.epoch c.turn.ensures.unused
    c.turn.ensures.none
    c.in_default-save.ensures.matches)

pub invariant_of-self-2 : goal.invariant_of-self-2
invariant_of-self-2 g c = rw c.mark_saved.ensures (
  stays-on-disk _ _ _ _ _ _ _ c.save.ensures.same.sectors c.save.ensures.layout c.turn.ensures.form c.turn.ensures.range
      (c.turn.ensures.epoch ∙ sym c.in_default-save.ensures.epoch) c.self.invariant.0,
  omega (arith, c.self.invariant.1, c.count.ensures.count, ap (λ b. b.count) c.clear.ensures),
  λ goes honest. let found = c.self.invariant.2 goes (c.save.ensures.same.honest.1 honest) in
      let at = found.1.1 in
      rw c.clear.ensures (
        (run c.self.inside.engine.limits found.0 found.1.0).state,
        (
          [],
          saved _ _ _ found.0 found.1.0 at _ (omega (arith, c.epoch.ensures, c.in-Some.ensures)) _
              (stands c.form_of.ensures.is c.objects_of-objects.ensures.objects c.objects_of-objects.ensures.stand)
              (c.save.ensures.others at.device.honest) _ _ _ _ c.save.ensures.layout c.in_default-save.ensures.epoch c.turn.ensures.form c.turn.ensures.range
              c.turn.ensures.epoch c.turn.ensures.unused c.turn.ensures.none c.in_default-save.ensures.matches,
        ),
      ),
  λ goes.
      let limits = c.self.inside.engine.limits in
      let form = c.form_of.result in
      let objects : PlainObjects = saved_in form c.self.inside.engine.state in
      let of = subst (λ (f : Format). AreOf f limits) (sym c.form_of.ensures.is) c.self.invariant.0.of in
      has-spare (saved_layout c.self.inside.checkpoint) c.save.new.self objects c.save.ensures.layout
      (subst (λ (n : ℕ). Fit n objects) (sym c.self.invariant.0.room)
      (subst (λ (f : Format). Fit (area_in f limits) objects) c.form_of.ensures.is (c.objects_of-objects.ensures.fit of)))
      (subst (λ (o : PlainObjects). free_of c.save.new.self + sectors_of o ≡ (saved_layout c.self.inside.checkpoint).range.count)
      c.objects_of-objects.ensures.objects c.in_default-save.ensures.free),
)

-- a save that fails leaves the checkpoint at its epoch
pub invariant_of-self-in-Err : goal.invariant_of-self-in-Err
invariant_of-self-in-Err g c = (
  stays-on-disk _ _ _ _ _ _ _ c.save.ensures.same.sectors c.save.ensures.layout refl refl
      (c.self.invariant.0.epoch ∙ sym c.in-Err.ensures.err_epoch) c.self.invariant.0,
  c.self.invariant.1,
  λ goes. let never : true ≡ false = goes in cc,
  λ goes. let never : true ≡ false = goes in cc,
)

pub returns-in-Err-clause-faults : goal.returns-in-Err-clause-faults
returns-in-Err-clause-faults g c = rw (sym c.self.view_is) (record { failure = λ bad. c.in-Err.ensures.counts.err; no_failure = inl refl })

pub returns-clause-faults : goal.returns-clause-faults
returns-clause-faults g c = rw (sym c.self.view_is) (record { failure = λ bad. cc; no_failure = inr c.in_default-save.ensures.counts.ok })

pub save-requires-clause-fits : goal.save-requires-clause-fits
save-requires-clause-fits g c =
    let limits = c.self.inside.engine.limits in
    let given = c.objects_of-objects.ensures in
    let is = c.form_of.ensures.is in
    let fit = given.fit (subst (λ (f : Format). AreOf f limits) (sym is) c.self.invariant.0.of) in
    rw given.objects (omega (arith, fit, c.self.invariant.0.room, ap (λ (f : Format). area_in f limits) is))

-- ---- what is written

pub save-requires-clause-unchanged : goal.save-requires-clause-unchanged
save-requires-clause-unchanged g c = λ objects there.
    let m = g.D.SectorDisk.medium in
    let at = (c.self.invariant.2 (ap (λ v. v.stopped) c.self.view_is ∙ c.requires.running) there.matches.honest).1.1 in
    let given = c.objects_of-objects.ensures in
    subst (λ (p : (ℕ → Bool) × PlainObjects). OthersAreThere p.0 p.1 objects) (sym (λ i. (given.differs i, given.objects i)))
    (unchanged (m c.self.inside.disk) (m c.self.inside.disk) _ _ _ at c.form_of.result c.form_of.ensures.is given.stand objects there)

pub returns-clause-writes : goal.returns-clause-writes
returns-clause-writes g c = rw (sym c.self.view_is) (λ honest.
    let counts = g.D.SectorDisk.counts in
    let at = (c.self.invariant.2 (ap (λ v. v.stopped) c.self.view_is ∙ c.requires.running) honest).1.1 in
    let given = c.objects_of-objects.ensures in
    let writes = subst
    (λ (p : (ℕ → Bool) × PlainObjects).
    counts c.save.new.disk ≡ with_calls (changed_sectors p.0 p.1 + table_sectors p.1 + 1) 2 (counts c.self.inside.disk))
    (λ i. (given.differs i, given.objects i)) (c.in_default-save.ensures.writes at.device.objects at.device.saved) in
    subst
    (λ (f : Format). let objects = saved_in f c.self.inside.engine.state in
    counts c.save.new.disk
    ≡ with_calls (changed_sectors (differs_in c.self.inside.engine.changed objects) objects + table_sectors objects + 1) 2 (counts c.self.inside.disk))
    c.form_of.ensures.is writes)
