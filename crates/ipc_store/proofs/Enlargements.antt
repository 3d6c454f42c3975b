-- What upgrades to version 3 leave that are stopped, and one that is not.
use Rattle.std.proofs.Common.{◌≡◌, ◌⊎◌, inl, inr, ⊎_elim, ℕ, ◌<◌, ◌^◌, [], length, sym, ap, subst, ◌∙◌, arith}
use Rattle.ipc_limits.specs.declared.limits.Limits.{Limits}
use Rattle.ipc_disk.specs.Growth.{HasGrown}
use Rattle.ipc_disk.specs.Medium.{Image, Medium, IsHonest, Stays}
use Rattle.ipc_disk.specs.Since.{EachImageSince}
use Rattle.ipc_state.specs.State.{State, restart}
use Rattle.ipc_image.specs.Format.{device_form, format}
use Rattle.ipc_image.proofs.CallerLemmas.{form-known, last-known}
use Rattle.ipc_store.specs.Image.{StandsFor, StandsForIn}
use Rattle.ipc_store.specs.Enlargements.{RestsOnTheWay, StoppedEnlargements}
use Rattle.ipc_store.specs.Enlargements.StoppedEnlargements.{None, More, Larger}
use Rattle.ipc_store.specs.Larger.{EnlargesTo, IsEnlarged, StandsInPlace, StandsOnTheWay}
use Rattle.ipc_store.specs.Lives.{StandsAfter}
use Rattle.ipc_store.proofs.CallerLemmas.{StandsForIn-one}
use Rattle.ipc_store.proofs.Enlarging.{not-both, restart-after}
use Rattle.ipc_store.proofs.Growing.{StandsForIn-with_zeros}

module _ (own limits : Limits) (s : State) (three : limits.version ≡ 3) (twice : restart own (restart own s) ≡ restart own s) where
  -- what was read of an image on the way is the state, or what a restart makes of it
  known : (other : Limits) (t : State) (image : Image) → length image < 2 ^ 32 → StandsOnTheWay own limits s image → StandsForIn format other t image
      → (other ≡ own) × ((t ≡ s) ⊎ (t ≡ restart own s))
  known other t image fits (inl (inl was)) read =
      let same = StandsForIn-one format last-known other own t s image fits read was in (same.0, inl same.1)
  known other t image fits (inl (inr restarted)) read =
      let same = StandsForIn-one format last-known other own t (restart own s) image fits read restarted in (same.0, inr same.1)
  known other t image fits (inr new) read = absurd (not-both limits other (restart limits s) t image three new read)

  -- a restart of either is the same
  restarted-own : (t : State) → (t ≡ s) ⊎ (t ≡ restart own s) → restart own t ≡ restart own s
  restarted-own t (inl same) = ap (restart own) same
  restarted-own t (inr again) = ap (restart own) again ∙ twice

  restarted-new : (t : State) → (t ≡ s) ⊎ (t ≡ restart own s) → restart limits t ≡ restart limits s
  restarted-new t (inl same) = ap (restart limits) same
  restarted-new t (inr again) = ap (restart limits) again ∙ restart-after limits own s three twice

  in-place : (t : State) → (t ≡ s) ⊎ (t ≡ restart own s) → (image : Image) → StandsForIn format own t image → StandsInPlace own s image
  in-place t (inl same) image stands = inl (subst (λ (x : State). StandsForIn format own x image) same stands)
  in-place t (inr again) image stands = inr (subst (λ (x : State). StandsForIn format own x image) again stands)

  -- so what is left of an upgrade from there is on the way
  on-the-way : (t : State) → (t ≡ s) ⊎ (t ≡ restart own s) → (image : Image) → StandsOnTheWay own limits t image → StandsOnTheWay own limits s image
  on-the-way t is image (inl (inl was)) = inl (in-place t is image was)
  on-the-way t is image (inl (inr restarted)) = inl (inr (subst (λ (x : State). StandsForIn format own x image) (restarted-own t is) restarted))
  on-the-way t is image (inr new) = inr (subst (λ (x : State). StandsFor limits x image) (restarted-new t is) new)

  module _ {D : Type 0} (medium : D → Medium) (law : (d : D) → IsHonest (medium d) → length (medium d).contents < 2 ^ 32) where
    enlarged-to : (before : D) (image : Image) → RestsOnTheWay own limits s (medium before) → EnlargesTo limits (medium before) image
        → StandsOnTheWay own limits s image
    enlarged-to before image rests (inl now) = rests.left image now
    enlarged-to before image rests (inr (other, t, read, way)) =
        let old : Medium = medium before in
        let same = known other t old.contents (law before rests.honest) (rests.left old.contents rests.honest.reads) read in
        on-the-way t same.1 image (subst (λ (l : Limits). StandsOnTheWay l limits t image) same.0 way)

    grown-to : (old : Medium) (most : ℕ) (image : Image) → RestsOnTheWay own limits s old → HasGrown most old image → StandsOnTheWay own limits s image
    grown-to old most image rests is =
        subst (StandsOnTheWay own limits s) (sym is.is)
        (⊎_elim (λ place. inl (⊎_elim (λ stands. inl (StandsForIn-with_zeros is.more format last-known own s is.before stands))
        (λ stands. inr (StandsForIn-with_zeros is.more format last-known own (restart own s) is.before stands)) place))
        (λ stands. inr (StandsForIn-with_zeros is.more (device_form limits) (form-known limits) limits (restart limits s) is.before stands))
        (rests.left is.before is.now))

    pub enlargements-rest : (left disk : D) → RestsOnTheWay own limits s (medium left) → StoppedEnlargements medium limits left disk
        → RestsOnTheWay own limits s (medium disk)
    enlargements-rest left disk rests None = rests
    enlargements-rest first left rests (More before after _ upgrades each is) =
        let so_far = enlargements-rest first before rests upgrades in
        record { honest = is.honest; left = λ image now. enlarged-to before image so_far (each.each image (is.images image now)) }
    enlargements-rest first left rests (Larger before _ most upgrades honest grown) =
        let so_far = enlargements-rest first before rests upgrades in
        record { honest = honest; left = λ image now. grown-to (medium before) most image so_far (grown image now) }

    -- one that is finished
    pub enlarged-stands : (disk new : D) → RestsOnTheWay own limits s (medium disk) → IsEnlarged limits (medium disk) (medium new)
        → StandsAfter (record { limits = limits; base = restart limits s; events = [] }) (medium new)
    enlarged-stands disk new rests is =
        let old : Medium = medium disk in
        let same = known is.own is.state old.contents (law disk rests.honest) (rests.left old.contents rests.honest.reads) is.stood in
        record {
          honest = is.honest;
          stands = λ image now. subst (λ (x : State). StandsFor limits x image) (restarted-new is.state same.1) (is.stands image now);
        }

-- ---- an upgrade itself

-- calls that only read leave what was there before
pub only-read : (limits : Limits) (old new : Medium) → Stays old new
    → ((image : Image) → old.images_since old.moment image → old.images_now image) → EachImageSince old new (EnlargesTo limits old)
only-read limits old new call law = record {
  later = call.time.later;
  each = λ image left. inl (⊎_elim (law image) (call.images image) (call.time.nothing_else old.moment image (omega arith) left));
  earlier = λ t image le left. ⊎_elim inl (λ now. inr (inl (call.images image now))) (call.time.nothing_else t image le left);
}
