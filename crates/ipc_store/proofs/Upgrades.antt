-- What upgrades leave that are stopped, and one that is not.
use Rattle.std.proofs.Common.{◌≡◌, true, false, ◌⊎◌, inl, inr, ⊎_elim, ℕ, ◌<◌, ◌≤◌, ◌^◌, [], length, refl, sym, ap, subst, ◌∙◌, arith}
use Rattle.std.specs.Prelude.{position, not as is_not}
use Rattle.std.proofs.lemmas.Option.{none-some}
use Rattle.ipc_limits.specs.declared.limits.Limits.{Limits}
use Rattle.ipc_disk.specs.Growth.{HasGrown}
use Rattle.ipc_disk.specs.Medium.{Image, Medium, IsHonest, Stays}
use Rattle.ipc_disk.specs.Since.{EachImageSince}
use Rattle.ipc_state.specs.State.{State, restart}
use Rattle.ipc_image.specs.Format.{device_form, format, format_one}
use Rattle.ipc_image.proofs.CallerLemmas.{form-known, form-version}
use Rattle.ipc_image.specs.Greater.{AreAtLeast, at_least}
use Rattle.ipc_image.specs.Sizes.{need_of}
use Rattle.ipc_image.specs.Superblock.{AreOf}
use Rattle.ipc_store.specs.declared.fault.UpgradeError.{UpgradeError}
use Rattle.ipc_store.specs.declared.fault.UpgradeError.TheVariants as errors
use Rattle.ipc_store.specs.Image.{StandsFor, StandsForIn}
use Rattle.ipc_store.specs.Refusals.{IsUpgradeRefusal}
use Rattle.ipc_store.specs.Lives.{StandsAfter}
use Rattle.ipc_store.specs.Upgrade.{HasNoNextEpoch, IsUpgraded, RestsOldOrNew, StandsForOldOrNew, StoppedUpgrades, UpgradesTo}
use Rattle.ipc_store.specs.Upgrade.StoppedUpgrades.{None, More, Larger}
use Rattle.ipc_store.proofs.CallerLemmas.{IsDevice-one, StandsForIn-one}
use Rattle.ipc_store.proofs.Growing.{StandsForIn-with_zeros}
use Rattle.ipc_store.proofs.Opened.{device-begins}

-- no image is of both versions
pub one-version : (own limits : Limits) (s t : State) (image : Image) → StandsForIn format_one own s image → StandsFor limits t image → ⊥
one-version own limits s t image old new =
    let first = (device-begins format_one (inl refl) own image old.kept.device).1 in
    let second = (device-begins (device_form limits) (form-known limits) limits image new.kept.device).1 in
    omega (arith, first, second, form-version limits)

-- an image that was read as one of the old version is the one that is known
known-state : (own other limits : Limits) (s t : State) (image : Image) → length image < 2 ^ 32 → StandsForOldOrNew own limits s image
    → StandsForIn format_one other t image → (other ≡ own) × (t ≡ s)
known-state own other limits s t image fits (inl old) read = StandsForIn-one format_one (inl refl) other own t s image fits read old
known-state own other limits s t image fits (inr new) read = absurd (one-version other limits t (restart limits s) image read new)

module _ {D : Type 0} (medium : D → Medium) (law : (d : D) → IsHonest (medium d) → length (medium d).contents < 2 ^ 32)
    (own limits : Limits) (s : State) where
  -- what an upgrade may leave
  upgraded-to : (before : D) (image : Image) → RestsOldOrNew own limits s (medium before) → UpgradesTo limits (medium before) image
      → StandsForOldOrNew own limits s image
  upgraded-to before image rests (inl now) = rests.left image now
  upgraded-to before image rests (inr (other, t, read, either)) =
      let old : Medium = medium before in
      let same = known-state own other limits s t old.contents (law before rests.honest) (rests.left old.contents rests.honest.reads) read in
      subst (λ (l : Limits). StandsForOldOrNew l limits s image) same.0 (subst (λ (x : State). StandsForOldOrNew other limits x image) same.1 either)

  grown-to : (old : Medium) (most : ℕ) (image : Image) → RestsOldOrNew own limits s old → HasGrown most old image → StandsForOldOrNew own limits s image
  grown-to old most image rests is =
      subst (StandsForOldOrNew own limits s) (sym is.is)
      (⊎_elim (λ stands. inl (StandsForIn-with_zeros is.more format_one (inl refl) own s is.before stands))
      (λ stands. inr (StandsForIn-with_zeros is.more (device_form limits) (form-known limits) limits (restart limits s) is.before stands))
      (rests.left is.before is.now))

  pub upgrades-rest : (left disk : D) → RestsOldOrNew own limits s (medium left) → StoppedUpgrades medium limits left disk
      → RestsOldOrNew own limits s (medium disk)
  upgrades-rest left disk rests None = rests
  upgrades-rest first left rests (More before after _ upgrades each is) =
      let so_far = upgrades-rest first before rests upgrades in
      record { honest = is.honest; left = λ image now. upgraded-to before image so_far (each.each image (is.images image now)) }
  upgrades-rest first left rests (Larger before _ most upgrades honest grown) =
      let so_far = upgrades-rest first before rests upgrades in
      record { honest = honest; left = λ image now. grown-to (medium before) most image so_far (grown image now) }

  -- one that is finished
  pub upgrade-stands : (disk new : D) → RestsOldOrNew own limits s (medium disk) → IsUpgraded limits (medium disk) (medium new)
      → StandsAfter (record { limits = limits; base = restart limits s; events = [] }) (medium new)
  upgrade-stands disk new rests is =
      let old : Medium = medium disk in
      let same = known-state own is.own limits s is.state old.contents (law disk rests.honest) (rests.left old.contents rests.honest.reads) is.stood in
      record {
        honest = is.honest;
        stands = λ image now. subst (λ (x : State). StandsFor limits (restart limits x) image) same.1 (is.stands image now);
      }

-- ---- an upgrade itself

-- calls that only read leave what was there before
pub only-read : (limits : Limits) (old new : Medium) → Stays old new
    → ((image : Image) → old.images_since old.moment image → old.images_now image) → EachImageSince old new (UpgradesTo limits old)
only-read limits old new call law = record {
  later = call.time.later;
  each = λ image left. inl (⊎_elim (law image) (call.images image) (call.time.nothing_else old.moment image (omega arith) left));
  earlier = λ t image le left. ⊎_elim inl (λ now. inr (inl (call.images image now))) (call.time.nothing_else t image le left);
}

-- a disk that stands for a state has no fault of its own, and limits and room that do are not refused
module _ (limits own : Limits) (s : State) (size : ℕ) (image : Image) where
  pub refused-by : (error : UpgradeError) → length image < 2 ^ 32 → StandsForIn format_one own s image → AreOf format limits → AreAtLeast limits own
      → need_of limits ≤ size → IsUpgradeRefusal limits size image error → (error ≡ errors.Device) ⊎ (error ≡ errors.NoMemory) ⊎ HasNoNextEpoch image
  refused-by errors.Device fits stands of greater room is = inl refl
  refused-by errors.NoMemory fits stands of greater room is = inr (inl refl)
  refused-by errors.NotFormatted fits stands of greater room is =
      absurd ((device-begins format_one (inl refl) own image stands.kept.device).0 is.1)
  refused-by (errors.Version found) fits stands of greater room is =
      let bad : true ≡ false = sym (device-begins format_one (inl refl) own image stands.kept.device).2 ∙ is.1.other in cc
  refused-by (errors.BadLimits bad) fits stands of greater room (inl untold) = absurd (none-some bad.field (sym of.within ∙ untold))
  refused-by (errors.BadLimits bad) fits stands of greater room (inr below) =
      let same = IsDevice-one format_one (inl refl) own below.1 image fits stands.kept.device below.2 in
      absurd (none-some bad.field (sym greater ∙ ap (λ (l : Limits). position is_not (at_least limits l)) same ∙ below.3))
  refused-by (errors.TooSmall need) fits stands of greater room is = absurd (omega (arith, is.1, is.2, room))
  refused-by (errors.Damaged sector) fits stands of greater room is =
      ⊎_elim (λ none. absurd (none.none own stands.kept.device))
      (λ damage. ⊎_elim (λ found. absurd (found.0.stands_for_none own s stands)) (λ end. inr (inr end.0)) damage.1) is.1
