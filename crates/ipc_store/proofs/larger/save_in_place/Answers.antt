-- What was read is saved after a restart, or it is refused and nothing is written.
use Rattle.std.proofs.Common.{◌≡◌, inl, inr, ⊎_elim, true, false, Err, [], ◌∷◌, refl, sym, ap, subst, ◌∙◌, arith}
use Rattle.std.specs.Prelude.{None, Result}
use Rattle.ipc_limits.specs.declared.limits.Limits.{Limits}
use Rattle.ipc_checkpoint.specs.View.{epoch_of}
use Rattle.ipc_disk.specs.Medium.{Image, Medium, IsHonest}
use Rattle.ipc_disk.specs.Counts.{counted}
use Rattle.ipc_disk.specs.Since.{EachImageSince}
use Rattle.ipc_disk.proofs.CallerLemmas.{EachImageSince-weaken}
use Rattle.ipc_engine.specs.Event.{Restart}
use Rattle.ipc_state.specs.State.{State, restart}
use Rattle.ipc_store.specs.Larger.{exceeded_field, StandsInPlace}
use Rattle.ipc_store.specs.Relations.Larger.{IsInPlace, IsRestarted, IsStateRefusal}
use Rattle.ipc_store.specs.Relations.Matches.{DeviceMatches}
use Rattle.ipc_store.specs.View.{of_open_error}
use Rattle.ipc_store.specs.declared.fault.CommitError.{CommitError}
use Rattle.ipc_store.specs.declared.fault.CommitError.TheVariants as commits
use Rattle.ipc_store.proofs.Enlarging.{either-in-place, in-place, reads-leave, save-leaves, LeavesInPlace}
use Rattle.ipc_store.proofs.Faults.{open-device}
use Rattle.ipc_store.proofs.LargerRefusals.{damage-state, restarted-state, test-device, test-state}
use Rattle.ipc_store.proofs.larger.save_in_place.Given.{Over}
use Rattle.ipc_store.proofs.larger.save_in_place.Goals as goal
use Rattle.ipc_store.proofs.larger.save_in_place.Goals.{In-Ok, After-save}

-- ---- it could not be read

pub returns-in-Err-clause-any_moment : goal.returns-in-Err-clause-any_moment
returns-in-Err-clause-any_moment g c = λ honest.
    reads-leave c.args.superblock.limits _ _ (g.met.D.SectorDisk.only_now c.args.disk) honest (c.in-Err.ensures.reads.stays honest)

pub returns-in-Err-clause-refused : goal.returns-in-Err-clause-refused
returns-in-Err-clause-refused g c = λ honest.
    let own : Limits = c.args.superblock.limits in
    let image : Image = (g.D.SectorDisk.medium c.args.disk).contents in
    subst (IsStateRefusal own c.args.limits.now image) (sym (c.from.ensures ∙ ap of_open_error (sym (ap (λ f. f.error) c.in-Err.field-0-is))))
    (damage-state own c.args.limits.now image c.in-Err.field-0.error (c.in-Err.ensures.refused honest))

pub returns-in-Err-clause-counts : goal.returns-in-Err-clause-counts
returns-in-Err-clause-counts g c =
    let reads = c.in-Err.ensures.reads in
    record {
      failure = λ device. ap (λ n. n.failures) (reads.failure (open-device c.in-Err.field-0.error (sym c.from.ensures ∙ device)));
      no_failure = ⊎_elim (λ bad. inl (c.from.ensures ∙ ap of_open_error bad)) (λ same. inr (ap (λ n. n.failures) same)) reads.no_failure;
    }

-- ---- it was read

-- the disk has counted nothing
counts-same : (g : Over) (c : In-Ok g) → g.D.SectorDisk.counts c.in-Ok.store.disk ≡ g.D.SectorDisk.counts c.args.disk
counts-same g c = ⊎_elim (λ bad. absurd bad) (λ same. same) c.in-Ok.ensures.reads.no_failure

pub returns-in-Err-test_state-clause-any_moment : goal.returns-in-Err-test_state-clause-any_moment
returns-in-Err-test_state-clause-any_moment g c = λ honest.
    let old : Medium = g.D.SectorDisk.medium c.args.disk in
    subst (λ d. EachImageSince old (g.D.SectorDisk.medium d) (LeavesInPlace c.args.superblock.limits old)) (sym c.close.ensures.disk)
    (reads-leave c.args.superblock.limits old (g.D.SectorDisk.medium c.in-Ok.store.disk) (g.met.D.SectorDisk.only_now c.args.disk) honest
    (c.in-Ok.ensures.reads.stays honest))

pub returns-in-Err-test_state-clause-refused : goal.returns-in-Err-test_state-clause-refused
returns-in-Err-test_state-clause-refused g c = λ honest.
    test-state c.args.superblock.limits c.args.limits.now (g.D.SectorDisk.medium c.args.disk).contents (g.D.SectorDisk.medium c.in-Ok.store.disk)
    c.in-Ok.store c.in-Ok.ensures.limits (c.in-Ok.ensures.ok honest) c.in-Err-test_state.error c.in-Err-test_state.ensures.refused

pub returns-in-Err-test_state-clause-unwritten : goal.returns-in-Err-test_state-clause-unwritten
returns-in-Err-test_state-clause-unwritten g c =
    inr (ap (λ d. (g.D.SectorDisk.counts d).writes) c.close.ensures.disk
    ∙ ap (λ n. n.writes) (counts-same g (goal.at.returns-in-Err-test_state-clause-unwritten g c).In-Ok))

pub returns-in-Err-test_state-clause-counts : goal.returns-in-Err-test_state-clause-counts
returns-in-Err-test_state-clause-counts g c = record {
  failure = λ device. absurd (test-device c.args.limits.now (epoch_of c.in-Ok.store.checkpoint) c.in-Ok.store.machine.state c.in-Err-test_state.error
      c.in-Err-test_state.ensures.refused device);
  no_failure = inr (ap (λ d. (g.D.SectorDisk.counts d).failures) c.close.ensures.disk
      ∙ ap (λ n. n.failures) (counts-same g (goal.at.returns-in-Err-test_state-clause-counts g c).In-Ok));
}

-- ---- it is saved

module _ (g : Over) (c : After-save g) (honest : IsHonest (g.D.SectorDisk.medium c.args.disk)) where
  abbrev own : Limits
  own = c.args.superblock.limits

  abbrev old : Medium
  old = g.D.SectorDisk.medium c.args.disk

  at : IsRestarted own old.contents (g.D.SectorDisk.medium c.in-Ok.store.disk) c.in-Ok.store
  at = c.in-Ok.ensures.ok honest

  saved : EachImageSince old (g.D.SectorDisk.medium c.save.new.self.disk) (LeavesInPlace own old)
  saved =
      let mid : Medium = g.D.SectorDisk.medium c.in-Ok.store.disk in
      let new : Medium = g.D.SectorDisk.medium c.save.new.self.disk in
      save-leaves own old mid (g.met.D.SectorDisk.only_now c.args.disk) honest (c.in-Ok.ensures.reads.stays honest) new at.state at.stood
      (EachImageSince-weaken mid new _ (StandsInPlace own at.state) (c.save.ensures.any_moment at.state (Restart ∷ []) at.matches)
      (λ image either. either-in-place own c.in-Ok.store.machine.limits at.state image c.requires.of c.in-Ok.ensures.limits either))

pub returns-in-Ok-save-clause-any_moment : goal.returns-in-Ok-save-clause-any_moment
returns-in-Ok-save-clause-any_moment g c = λ honest.
    let old : Medium = g.D.SectorDisk.medium c.args.disk in
    subst (λ d. EachImageSince old (g.D.SectorDisk.medium d) (LeavesInPlace c.args.superblock.limits old)) (sym c.close-in-Ok-save.ensures.disk)
    (saved g (goal.at.returns-in-Ok-save-clause-any_moment g c).After-save honest)

pub returns-in-Err-save-clause-any_moment : goal.returns-in-Err-save-clause-any_moment
returns-in-Err-save-clause-any_moment g c = λ honest.
    let old : Medium = g.D.SectorDisk.medium c.args.disk in
    subst (λ d. EachImageSince old (g.D.SectorDisk.medium d) (LeavesInPlace c.args.superblock.limits old)) (sym c.close-in-Err-save.ensures.disk)
    (saved g (goal.at.returns-in-Err-save-clause-any_moment g c).After-save honest)

pub returns-in-Ok-save-clause-ok : goal.returns-in-Ok-save-clause-ok
returns-in-Ok-save-clause-ok g c = λ honest.
    let own : Limits = c.args.superblock.limits in
    let at = c.in-Ok.ensures.ok honest in
    let new = c.save.new.self in
    let medium : Medium = g.D.SectorDisk.medium new.disk in
    let is = restarted-state own c.args.limits.now (g.D.SectorDisk.medium c.args.disk).contents (g.D.SectorDisk.medium c.in-Ok.store.disk) c.in-Ok.store
    c.in-Ok.ensures.limits at in
    let limits = ap (λ m. m.limits) c.in-Ok-save.ensures.commits.machine ∙ c.in-Ok.ensures.limits in
    let matches = c.in-Ok-save.ensures.matches at.state (Restart ∷ []) at.matches in
    let device : DeviceMatches medium own new.checkpoint new.journal (restart own at.state) =
    subst (λ (l : Limits). DeviceMatches medium own new.checkpoint new.journal (restart l at.state)) c.in-Ok.ensures.limits
    (subst (λ (l : Limits). DeviceMatches medium l new.checkpoint new.journal (restart c.in-Ok.store.machine.limits at.state)) limits matches.device) in
    let turned = c.in-Ok-save.ensures.turned in (
      at.state,
      at.stood,
      subst (λ (x : State). exceeded_field c.args.limits.now x ≡ None) is c.in_default.ensures.fits,
      subst (λ d. IsInPlace own at.state (g.D.SectorDisk.medium d)) (sym c.close-in-Ok-save.ensures.disk)
          (in-place medium own new.checkpoint new.journal at.state c.requires.of device turned.1 c.in-Ok-save.ensures.durable
          (omega (arith, turned.0)) (omega (arith, turned.0, c.in_default.ensures.later))),
    )

pub returns-in-Ok-save-clause-counts : goal.returns-in-Ok-save-clause-counts
returns-in-Ok-save-clause-counts g c = record {
  failure = λ never. absurd never;
  no_failure = inr (ap (λ d. (g.D.SectorDisk.counts d).failures) c.close-in-Ok-save.ensures.disk
      ∙ ⊎_elim (λ bad. cc) (λ same. same) c.in-Ok-save.ensures.faults.no_failure
      ∙ ap (λ n. n.failures) (counts-same g (goal.at.returns-in-Ok-save-clause-counts g c).In-Ok));
}

-- an error of a save that cannot be at its end is the disk's
is-device : {T : Type 0} (r : Result T CommitError) (e : CommitError) → r ≡ Err e → (r ≡ Err commits.Stopped → ⊥) → r ≡ Err commits.Device
is-device r commits.Device is not = is
is-device r commits.Stopped is not = absurd (not is)

pub returns-in-Err-save-clause-counts : goal.returns-in-Err-save-clause-counts
returns-in-Err-save-clause-counts g c = record {
  failure = λ is. ap (λ d. (g.D.SectorDisk.counts d).failures) c.close-in-Err-save.ensures.disk
      ∙ c.save.ensures.faults.failure
      (is-device c.save.result c.in-Err-save.field-0 c.in-Err-save.is
      (λ stopped. ⊎_elim (λ was. let bad : true ≡ false = sym was ∙ c.in-Ok.ensures.running in cc)
      (λ last. absurd (omega (arith, last, c.in_default.ensures.later))) (c.save.ensures.stopped.0 stopped)))
      ∙ ap (λ n. counted n.failures 1) (counts-same g (goal.at.returns-in-Err-save-clause-counts g c).In-Ok);
  no_failure = inl refl;
}
