-- What was read, what is saved in place, and what is written beside it.
use Rattle.std.proofs.Common.{◌≡◌, inl, inr, ⊎_elim, Err, sym, ap, subst, ◌∙◌}
use Rattle.std.proofs.lemmas.Result.{err_from_is_err_and}
use Rattle.std.specs.Result.{IsErrAnd}
use Rattle.ipc_limits.specs.declared.limits.Limits.{Limits}
use Rattle.ipc_disk.specs.Calls.{CountsFaultIf}
use Rattle.ipc_disk.specs.Counts.{counted}
use Rattle.ipc_disk.specs.Medium.{Image, Medium, IsHonest, Stays}
use Rattle.ipc_disk.specs.Since.{EachImageSince}
use Rattle.ipc_disk.proofs.CallerLemmas.{EachImageSince-join, EachImageSince-weaken}
use Rattle.ipc_image.specs.Format.{format}
use Rattle.ipc_store.specs.Image.{StandsForIn}
use Rattle.ipc_store.specs.Larger.{EnlargesTo, StandsBeside}
use Rattle.ipc_store.specs.Refusals.{IsLargerRefusal}
use Rattle.ipc_store.specs.Relations.Larger.{IsStateRefusal}
use Rattle.ipc_store.specs.Relations.Loading.{IsNamedIn}
use Rattle.ipc_store.specs.Results.{upgraded_disk}
use Rattle.ipc_store.specs.declared.fault.UpgradeError.TheVariants as errors
use Rattle.ipc_store.proofs.Enlargements.{only-read}
use Rattle.ipc_store.proofs.Enlarging.{LeavesInPlace}
use Rattle.ipc_store.proofs.LargerRefusals.{state-larger}
use Rattle.ipc_store.proofs.Refusals.{passed}
use Rattle.ipc_store.proofs.larger.enlarge.Given.{Over}
use Rattle.ipc_store.proofs.larger.enlarge.Goals as goal
use Rattle.ipc_store.proofs.larger.enlarge.Goals.{In-Ok}

-- ---- after the limits and the superblock

module _ (g : Over) (c : In-Ok g) (honest : IsHonest (g.D.SectorDisk.medium c.args.disk)) where
  abbrev old : Medium
  old = g.D.SectorDisk.medium c.args.disk

  abbrev mid : Medium
  mid = g.D.SectorDisk.medium c.read_small.new.disk

  abbrev own : Limits
  own = c.in-Ok.found.limits

  stays : Stays old mid
  stays = c.in-Ok.ensures.reads.stays honest

  honest-mid : IsHonest mid
  honest-mid = stays.time.honest.0 honest

  -- what the save leaves is what the whole upgrade may leave
  leaves : (new : Medium) → EachImageSince mid new (LeavesInPlace own mid) → EachImageSince old new (EnlargesTo c.args.limits.now old)
  leaves new saved =
      EachImageSince-join old mid new (EnlargesTo c.args.limits.now old) (only-read c.args.limits.now old mid stays (g.met.D.SectorDisk.only_now c.args.disk))
      (EachImageSince-weaken mid new (LeavesInPlace own mid) (EnlargesTo c.args.limits.now old) saved
      (λ image so. ⊎_elim (λ now. inl (stays.images image now))
      (λ is. inr (own, is.0, subst (StandsForIn format own is.0) (stays.contents honest) is.1, inl is.2)) so))

failures : (g : Over) (c : In-Ok g) → (g.D.SectorDisk.counts c.read_small.new.disk).failures ≡ (g.D.SectorDisk.counts c.args.disk).failures
failures g c = ⊎_elim (λ bad. cc) (λ same. same) c.in-Ok.ensures.reads.no_failure

pub save_in_place-requires-clause-named : goal.save_in_place-requires-clause-named
save_in_place-requires-clause-named g c = λ now.
    let honest = c.in-Ok.ensures.reads.same.honest.1 now in
    subst (IsNamedIn format c.in-Ok.found) (sym ((c.in-Ok.ensures.reads.stays honest).contents honest)) (c.in-Ok.ensures.device honest)

pub save_in_place-requires-clause-durable : goal.save_in_place-requires-clause-durable
save_in_place-requires-clause-durable g c = λ now. c.in-Ok.ensures.durable (c.in-Ok.ensures.reads.same.honest.1 now)

-- ---- it was not saved

pub returns-in_err-disk-clause-any_moment : goal.returns-in_err-disk-clause-any_moment
returns-in_err-disk-clause-any_moment g c = λ honest.
    let here = (goal.at.returns-in_err-disk-clause-any_moment g c).In-Ok in
    let q = err_from_is_err_and c.from_residual.result c.from_residual.ensures.1 in
    let old : Medium = g.D.SectorDisk.medium c.args.disk in
    subst (λ r. EachImageSince old (g.D.SectorDisk.medium (upgraded_disk r)) (EnlargesTo c.args.limits.now old)) (sym (q.1 ∙ ap Err q.2))
    (leaves g here honest (g.D.SectorDisk.medium c.in_err-disk.field-0.0.disk) (c.in_err-disk.ensures.any_moment (honest-mid g here honest)))

pub returns-in_err-disk-clause-refused : goal.returns-in_err-disk-clause-refused
returns-in_err-disk-clause-refused g c =
    passed _ c.from_residual.result c.in_err-disk.field-0.0 c.from_residual.ensures.1
    (λ honest.
    let here = (goal.at.returns-in_err-disk-clause-refused g c).In-Ok in
    let limits : Limits = c.args.limits.now in
    let own : Limits = c.in-Ok.found.limits in
    let image : Image = (g.D.SectorDisk.medium c.args.disk).contents in
    let device = (c.in-Ok.ensures.device honest).0 in
    state-larger limits (g.D.SectorDisk.size c.args.disk) image c.in-Ok.ensures.of own device
    (record { own = own; device = device; greater = c.in-Ok.ensures.greater; room = c.in-Ok.ensures.room }) c.in_err-disk.field-0.0.error
    (subst (λ (i : Image). IsStateRefusal own limits i c.in_err-disk.field-0.0.error) ((stays g here honest).contents honest)
    (c.in_err-disk.ensures.refused (honest-mid g here honest))))

pub returns-in_err-disk-clause-counts : goal.returns-in_err-disk-clause-counts
returns-in_err-disk-clause-counts g c =
    let q = err_from_is_err_and c.from_residual.result c.from_residual.ensures.1 in
    let before = failures g (goal.at.returns-in_err-disk-clause-counts g c).In-Ok in
    let counts = c.in_err-disk.ensures.counts in
    subst (λ r. CountsFaultIf g.D.SectorDisk.counts (IsErrAnd r (λ fault. fault.error ≡ errors.Device)) c.args.disk (upgraded_disk r)) (sym (q.1 ∙ ap Err q.2))
    (record {
      failure = λ bad. counts.failure bad ∙ ap (λ n. counted n 1) before;
      no_failure = ⊎_elim inl (λ same. inr (same ∙ before)) counts.no_failure;
    })

-- ---- it was

pub returns-in-Ok-write_beside-clause-ok : goal.returns-in-Ok-write_beside-clause-ok
returns-in-Ok-write_beside-clause-ok g c = λ honest.
    let here = (goal.at.returns-in-Ok-write_beside-clause-ok g c).In-Ok in
    let own : Limits = c.in-Ok.found.limits in
    let at = c.in_ok-disk.ensures.ok (honest-mid g here honest) in
    record {
      own = own;
      greater = c.in-Ok.ensures.greater;
      state = at.0;
      stood = subst (StandsForIn format own at.0) ((stays g here honest).contents honest) at.1;
      honest = c.write_beside.ensures.same.honest.0 at.3.honest;
      stands = c.in-Ok-write_beside.ensures.ok own at.0 at.3;
      whole = c.in-Ok-write_beside.ensures.whole at.3.honest;
    }

pub returns-in-Ok-write_beside-clause-any_moment : goal.returns-in-Ok-write_beside-clause-any_moment
returns-in-Ok-write_beside-clause-any_moment g c = λ honest.
    let here = (goal.at.returns-in-Ok-write_beside-clause-any_moment g c).In-Ok in
    let own : Limits = c.in-Ok.found.limits in
    let limits : Limits = c.args.limits.now in
    let old : Medium = g.D.SectorDisk.medium c.args.disk in
    let saved : Medium = g.D.SectorDisk.medium c.in_ok-disk.disk in
    let new : Medium = g.D.SectorDisk.medium c.write_beside.new.disk in
    let at = c.in_ok-disk.ensures.ok (honest-mid g here honest) in
    let stood = subst (StandsForIn format own at.0) ((stays g here honest).contents honest) at.1 in
    EachImageSince-join old saved new (EnlargesTo limits old) (leaves g here honest saved (c.in_ok-disk.ensures.any_moment (honest-mid g here honest)))
    (EachImageSince-weaken saved new (StandsBeside own limits at.0) (EnlargesTo limits old) (c.write_beside.ensures.any_moment own at.0 at.3)
    (λ image so. inr (own, at.0, stood, ⊎_elim (λ restarted. inl (inr restarted)) (λ larger. inr larger) so)))

pub returns-in-Err-write_beside-clause-any_moment : goal.returns-in-Err-write_beside-clause-any_moment
returns-in-Err-write_beside-clause-any_moment g c = λ honest.
    let here = (goal.at.returns-in-Err-write_beside-clause-any_moment g c).In-Ok in
    let own : Limits = c.in-Ok.found.limits in
    let limits : Limits = c.args.limits.now in
    let old : Medium = g.D.SectorDisk.medium c.args.disk in
    let saved : Medium = g.D.SectorDisk.medium c.in_ok-disk.disk in
    let new : Medium = g.D.SectorDisk.medium c.write_beside.new.disk in
    let at = c.in_ok-disk.ensures.ok (honest-mid g here honest) in
    let stood = subst (StandsForIn format own at.0) ((stays g here honest).contents honest) at.1 in
    EachImageSince-join old saved new (EnlargesTo limits old) (leaves g here honest saved (c.in_ok-disk.ensures.any_moment (honest-mid g here honest)))
    (EachImageSince-weaken saved new (StandsBeside own limits at.0) (EnlargesTo limits old) (c.write_beside.ensures.any_moment own at.0 at.3)
    (λ image so. inr (own, at.0, stood, ⊎_elim (λ restarted. inl (inr restarted)) (λ larger. inr larger) so)))

pub returns-in-Ok-write_beside-clause-counts : goal.returns-in-Ok-write_beside-clause-counts
returns-in-Ok-write_beside-clause-counts g c = record {
  failure = λ never. absurd never;
  no_failure = inr (⊎_elim (λ bad. cc) (λ same. same) c.in-Ok-write_beside.ensures.counts.no_failure
      ∙ ⊎_elim (λ never. absurd never) (λ same. same) c.in_ok-disk.ensures.counts.no_failure
      ∙ failures g (goal.at.returns-in-Ok-write_beside-clause-counts g c).In-Ok);
}

pub returns-in-Err-write_beside-clause-counts : goal.returns-in-Err-write_beside-clause-counts
returns-in-Err-write_beside-clause-counts g c =
    let before = ⊎_elim (λ never. absurd never) (λ same. same) c.in_ok-disk.ensures.counts.no_failure
    ∙ failures g (goal.at.returns-in-Err-write_beside-clause-counts g c).In-Ok in
    let counts = c.in-Err-write_beside.ensures.counts in
    record {
      failure = λ device. counts.failure (ap Err device) ∙ ap (λ n. counted n 1) before;
      no_failure = ⊎_elim (λ bad. inl cc) (λ same. inr (same ∙ before)) counts.no_failure;
    }

pub returns-in-Err-write_beside-clause-checked : goal.returns-in-Err-write_beside-clause-checked
returns-in-Err-write_beside-clause-checked g c = λ field is.
    let bad = (c.in-Ok.ensures.checked field is).0 in absurd cc

pub returns-in-Err-write_beside-clause-refused : goal.returns-in-Err-write_beside-clause-refused
returns-in-Err-write_beside-clause-refused g c = λ honest.
    let here = (goal.at.returns-in-Err-write_beside-clause-refused g c).In-Ok in
    let at = c.in_ok-disk.ensures.ok (honest-mid g here honest) in
    let Told = IsLargerRefusal c.args.limits.now (g.D.SectorDisk.size c.args.disk) (g.D.SectorDisk.medium c.args.disk).contents in
    ⊎_elim (λ device. subst Told (sym device) tt) (λ memory. subst Told (sym memory) tt)
    (c.in-Err-write_beside.ensures.refused c.in-Ok.found.limits at.0 at.3 c.in-Ok.ensures.greater at.2)

pub returns-in-Err-write_beside-clause-unwritten : goal.returns-in-Err-write_beside-clause-unwritten
returns-in-Err-write_beside-clause-unwritten g c = λ honest.
    let here = (goal.at.returns-in-Err-write_beside-clause-unwritten g c).In-Ok in
    let at = c.in_ok-disk.ensures.ok (honest-mid g here honest) in
    ⊎_elim inl (λ memory. inr (inl memory)) (c.in-Err-write_beside.ensures.refused c.in-Ok.found.limits at.0 at.3 c.in-Ok.ensures.greater at.2)
