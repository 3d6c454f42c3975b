-- What is read, and what is written then.
use Rattle.std.proofs.Common.{◌≡◌, inl, inr, ⊎_elim, [], Err, refl, sym, ap, subst, ◌∙◌}
use Rattle.std.proofs.lemmas.Result.{err_from_is_err_and}
use Rattle.ipc_limits.specs.declared.limits.Limits.{Limits}
use Rattle.ipc_disk.specs.Counts.{counted}
use Rattle.ipc_disk.specs.Medium.{Image, Medium}
use Rattle.ipc_disk.specs.Since.{EachImageSince}
use Rattle.ipc_disk.proofs.CallerLemmas.{EachImageSince-join, EachImageSince-start, EachImageSince-sync, IsSameDisk-then}
use Rattle.ipc_image.specs.Format.{format}
use Rattle.ipc_state.specs.State.{State}
use Rattle.ipc_store.specs.Larger.{StandsBeside}
use Rattle.ipc_store.specs.Relations.Larger.{IsInPlace}
use Rattle.ipc_store.specs.Relations.Upgrade.{HasOldIn}
use Rattle.ipc_store.specs.View.{of_open_error}
use Rattle.ipc_store.specs.declared.fault.UpgradeError.TheVariants as errors
use Rattle.ipc_store.proofs.Enlarging.{in-old}
use Rattle.ipc_store.proofs.Faults.{upgrade-device}
use Rattle.ipc_store.proofs.Refusals.{passed}
use Rattle.ipc_store.proofs.larger.write_beside.Given.{Over}
use Rattle.ipc_store.proofs.larger.write_beside.Goals as goal
use Rattle.ipc_store.proofs.larger.write_beside.Goals.{After-load_beside, In_ok-checkpoint}

-- reads leave it in place
reads : (g : Over) (c : After-load_beside g) (own : Limits) (s : State) → IsInPlace own s (g.D.SectorDisk.medium c.args.disk.now)
    → EachImageSince (g.D.SectorDisk.medium c.args.disk.now) (g.D.SectorDisk.medium c.load_beside.new.disk) (StandsBeside own c.args.limits.now s)
reads g c own s at =
    let old : Medium = g.D.SectorDisk.medium c.args.disk.now in
    let P : Image → Type 0 = StandsBeside own c.args.limits.now s in
    EachImageSince-sync old old (g.D.SectorDisk.medium c.load_beside.new.disk) P
    (EachImageSince-start old P (g.met.D.SectorDisk.only_now c.args.disk.now)
    (λ image now. in-old own c.args.limits.now s at.epoch at.objects at.stand image
    (subst (HasOldIn format own at.epoch at.objects []) (sym (at.durable image now)) at.old)))
    at.honest (c.load_beside.ensures.reads.stays at.honest)

pub returns-in_err-checkpoint-clause-any_moment : goal.returns-in_err-checkpoint-clause-any_moment
returns-in_err-checkpoint-clause-any_moment g c = reads g (goal.at.returns-in_err-checkpoint-clause-any_moment g c).After-load_beside

pub returns-in_err-checkpoint-clause-refused : goal.returns-in_err-checkpoint-clause-refused
returns-in_err-checkpoint-clause-refused g c =
    let error = c.in_err-checkpoint.field-0.0 in
    passed _ c.from_residual.result (of_open_error error) c.from_residual.ensures.1
    (λ own s at greater within.
    ⊎_elim (λ device. inl (ap of_open_error device)) (λ memory. inr (ap of_open_error memory)) (c.in_err-checkpoint.ensures.refused own s at greater within))

pub returns-in_err-checkpoint-clause-counts : goal.returns-in_err-checkpoint-clause-counts
returns-in_err-checkpoint-clause-counts g c =
    let reads = c.load_beside.ensures.reads in
    let device = upgrade-device c.load_beside.result c.from_residual.result c.in_err-checkpoint.field-0.0 c.in_err-checkpoint.was c.from_residual.ensures.1 in
    record {
      failure = λ bad. ap (λ n. n.failures) (reads.failure (device.1 bad));
      no_failure = ⊎_elim (λ bad. inl (device.0 bad)) (λ same. inr (ap (λ n. n.failures) same)) reads.no_failure;
    }

-- what had failed when all was read
failures : (g : Over) (c : In_ok-checkpoint g)
    → (g.D.SectorDisk.counts c.load_beside.new.disk).failures ≡ (g.D.SectorDisk.counts c.args.disk.now).failures
failures g c = ⊎_elim (λ bad. cc) (λ same. ap (λ n. n.failures) same) c.in_ok-checkpoint.ensures.reads.no_failure

pub returns-in_err-write_three-clause-any_moment : goal.returns-in_err-write_three-clause-any_moment
returns-in_err-write_three-clause-any_moment g c = λ own s at.
    EachImageSince-join _ _ _ _ (reads g (goal.at.returns-in_err-write_three-clause-any_moment g c).After-load_beside own s at)
    (c.write_three.ensures.any_moment own s (c.in_ok-checkpoint.ensures.read own s at))

pub returns-in_err-write_three-clause-refused : goal.returns-in_err-write_three-clause-refused
returns-in_err-write_three-clause-refused g c =
    passed _ c.from_residual-in_err-write_three.result errors.Device c.from_residual-in_err-write_three.ensures.1 (λ own s at greater within. inl refl)

pub returns-in_err-write_three-clause-same : goal.returns-in_err-write_three-clause-same
returns-in_err-write_three-clause-same g c = IsSameDisk-then c.load_beside.ensures.reads.same c.write_three.ensures.same

pub returns-in_err-write_three-clause-counts : goal.returns-in_err-write_three-clause-counts
returns-in_err-write_three-clause-counts g c =
    let q = err_from_is_err_and c.from_residual-in_err-write_three.result c.from_residual-in_err-write_three.ensures.1 in
    record {
      failure = λ is. c.in_err-write_three.ensures.counts.err
          ∙ ap (λ n. counted n 1) (failures g (goal.at.returns-in_err-write_three-clause-counts g c).In_ok-checkpoint);
      no_failure = inl (q.1 ∙ ap Err q.2);
    }

pub returns-clause-ok : goal.returns-clause-ok
returns-clause-ok g c = λ own s at. c.in_ok-write_three.ensures.ok own s (c.in_ok-checkpoint.ensures.read own s at)

pub returns-clause-whole : goal.returns-clause-whole
returns-clause-whole g c = λ honest. c.in_ok-write_three.ensures.whole (c.load_beside.ensures.reads.same.honest.0 honest)

pub returns-clause-any_moment : goal.returns-clause-any_moment
returns-clause-any_moment g c = λ own s at.
    EachImageSince-join _ _ _ _ (reads g (goal.at.returns-clause-any_moment g c).After-load_beside own s at)
    (c.write_three.ensures.any_moment own s (c.in_ok-checkpoint.ensures.read own s at))

pub returns-clause-same : goal.returns-clause-same
returns-clause-same g c = IsSameDisk-then c.load_beside.ensures.reads.same c.write_three.ensures.same

pub returns-clause-counts : goal.returns-clause-counts
returns-clause-counts g c = record {
  failure = λ bad. cc;
  no_failure = inr (c.in_ok-write_three.ensures.counts.ok ∙ failures g (goal.at.returns-clause-counts g c).In_ok-checkpoint);
}
