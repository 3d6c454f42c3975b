-- What a disk over which a run waits may leave: its images are of its shape, and since this moment
-- there is no other.
use Rattle.std.specs.Prelude.{◌≡◌, ℕ, All, Some, slice_index_or, refl}
use Rattle.std.proofs.Common.{inl, ⊎_elim, subst, sym, ◌∙◌, arith}
use Rattle.std.proofs.lemmas.Option.{same_Some, slice_get-get_or, slice_get_within}
use Rattle.std.proofs.lemmas.Option.{get_or_from_slice_get}
use Rattle.ipc_disk.specs.Medium.{Image, Medium, IsSector, IsShaped}
use Rattle.ipc_disk.specs.Runs.{SetsSome, with_waiting}

-- the image itself
pub SetsSome-none : (first : ℕ) (values image : Image) → SetsSome first values image image
SetsSome-none first values image = record { count = refl; sectors = λ i. inl refl }

-- with sectors written it is of its shape
IsShaped-SetsSome : (size first : ℕ) (values before image : Image) → All IsSector values → IsShaped size before
    → SetsSome first values before image → IsShaped size image
IsShaped-SetsSome size first values before image whole shaped some = record {
  count = some.count ∙ shaped.count;
  sectors = λ k d lt. ⊎_elim
      (λ same.
      let here : Some (slice_index_or image k d) ≡ Some (slice_index_or before k d) =
      sym (slice_get-get_or image k d lt) ∙ same ∙ slice_get-get_or before k d (omega (arith, lt, some.count)) in
      subst IsSector (sym (same_Some _ _ here)) (shaped.sectors k d (omega (arith, lt, some.count))))
      (λ (value, (at, is, given), there).
      let here : slice_index_or image k d ≡ value = get_or_from_slice_get image k value d there in
      let from : slice_index_or values at d ≡ value = get_or_from_slice_get values at value d given in
      subst IsSector (from ∙ sym here) (whole at d (slice_get_within values at value given)))
      (some.sectors k);
}

-- each image has all the sectors
pub IsShaped-joined : (size first : ℕ) (values : Image) (under : Medium) → All IsSector values
    → ((image : Image) → under.images_now image → IsShaped size image)
    → (image : Image) → (with_waiting first values under).images_now image → IsShaped size image
IsShaped-joined size first values under whole shaped image (honest, (before, now, some)) =
    IsShaped-SetsSome size first values before image whole (shaped before now) some

-- since this moment there is no image but those of now
pub only_now-joined : (first : ℕ) (values : Image) (under : Medium)
    → ((image : Image) → under.images_since under.moment image → under.images_now image)
    → (image : Image) → (with_waiting first values under).images_since under.moment image
    → (with_waiting first values under).images_now image
only_now-joined first values under law image (honest, left) = ⊎_elim
    (λ since. (honest, (image, law image since, SetsSome-none first values image)))
    (λ now. (honest, now))
    left
