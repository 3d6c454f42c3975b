-- What a write and a sync do to the images of a disk in memory.
use Rattle.std.proofs.Common.{◌≡◌, inr, ℕ, zero, suc, ◌+◌, ◌<◌, List, []}
use Rattle.std.proofs.Common.{◌∷◌, ◌++◌, length, map, take, drop, replicate, refl, sym}
use Rattle.std.proofs.Common.{◌∙◌, ap, subst, arith}
use Rattle.std.specs.Prelude.{slice_set, slice_index_or, All}
use Rattle.std.proofs.lemmas.List.{map-append, replicate-append-replicate, length-append, length-replicate}
use Rattle.std.proofs.Math.Seq.{map-set_same}
use Rattle.std.proofs.lemmas.List.Edits.{map_over_more}
use Rattle.std.proofs.lemmas.List.Elements.{All-append, All-replicate}
use Rattle.std.proofs.lemmas.Option.{get_or_from_slice_get, slice_get-get_or}
use Rattle.ipc_disk.specs.declared.memory.Slot.{Slot}
use Rattle.ipc_disk.specs.declared.memory.TheConstants.{ZEROS}
use Rattle.ipc_disk.specs.Growth.{HasGrown, with_zeros}
use Rattle.ipc_disk.specs.Medium.{Image, Elapses, IsSector}
use Rattle.ipc_disk.specs.Since.{EachImageSince}
use Rattle.ipc_disk.specs.Slots.{last_values, synced_values, MayLeave, slots_medium}
use Rattle.ipc_disk.specs.Relations.Slots.{IsWhole, MayLeave-last_values, flushed, IsHonest-slots}
use Rattle.ipc_disk.proofs.CallerLemmas.{written, only_contents, durable-flushed}

synced_values-flushed : (slots : List Slot) → synced_values (map flushed slots) ≡ last_values slots
synced_values-flushed [] = refl
synced_values-flushed (s ∷ ss) = ap (λ (l : Image). s.last ∷ l) (synced_values-flushed ss)

-- a write leaves the synced values
pub synced_values-written : (slots : List Slot) (at : ℕ) (slot : Slot) (bytes : List ℕ) → slot ≡ slice_index_or slots at slot
    → synced_values (slice_set slots at (written slot bytes)) ≡ synced_values slots
synced_values-written slots at slot bytes is =
    map-set_same (λ (s : Slot). s.synced) slots at (written slot bytes) slot (ap (λ (s : Slot). s.synced) is)

-- a sync leaves these slots, and one of the images that there were
module _ (old new : List Slot) (is : new ≡ map flushed old) where
  pub synced-flushed : synced_values new ≡ last_values old
  synced-flushed = ap synced_values is ∙ synced_values-flushed old

  pub images-flushed : (image : Image) → MayLeave new image → MayLeave old image
  images-flushed image left = subst (MayLeave old) (sym (only_contents old new is image left)) (MayLeave-last_values old)

-- between two calls no other image comes in, and both disks are honest
pub Elapses-slots : (old new : List Slot) → Elapses (slots_medium old) (slots_medium new)
Elapses-slots old new = record {
  later = omega arith;
  nothing_else = λ t image le left. inr left;
  honest = (λ _. IsHonest-slots new, λ _. IsHonest-slots old);
}

-- one slot more is flushed
pub flushed_more : (xs ys : List Slot) (i : ℕ) (d : Slot) → i < length xs → i < length ys → ys ≡ map flushed (take i xs) ++ drop i xs
    → slice_set ys i (flushed (slice_index_or ys i d)) ≡ map flushed (take (i + 1) xs) ++ drop (i + 1) xs
flushed_more xs ys i d lt within is =
    let slot = slice_index_or ys i d in
    map_over_more flushed xs ys i slot lt is (sym (get_or_from_slice_get ys i slot slot (slice_get-get_or ys i d within)))

pub replicate_more : (n : ℕ) (slot : Slot) → replicate n slot ++ slot ∷ [] ≡ replicate (n + 1) slot
replicate_more n slot = replicate-append-replicate n 1 slot

map-replicate : {Y : Type 0} (f : Slot → Y) (n : ℕ) (slot : Slot) → map f (replicate n slot) ≡ replicate n (f slot)
map-replicate f zero slot = refl
map-replicate {Y} f (suc n) slot = ap (λ (l : List Y). f slot ∷ l) (map-replicate f n slot)

-- a new disk: each sector is zeros, synced
module _ (n : ℕ) (slots : List Slot) (is : slots ≡ replicate n ZEROS) where
  IsSector-zeros : IsSector (replicate 512 0)
  IsSector-zeros = record { size = refl; bytes = All-replicate (λ b. b < 256) 512 0 (omega arith) }

  pub whole-zeros : All IsWhole slots
  whole-zeros = subst (All IsWhole) (sym is) (All-replicate IsWhole n ZEROS (record { saved = IsSector-zeros; newest = IsSector-zeros }))

  pub length-zeros : length slots ≡ n
  length-zeros = ap length is ∙ length-replicate n ZEROS

  pub contents-zeros : last_values slots ≡ replicate n (replicate 512 0)
  contents-zeros = ap last_values is ∙ map-replicate (λ (slot : Slot). slot.last) n ZEROS

  pub synced-zeros : synced_values slots ≡ last_values slots
  synced-zeros = ap synced_values is ∙ map-replicate (λ (slot : Slot). slot.synced) n ZEROS ∙ sym contents-zeros

  pub durable-zeros : (image : Image) → MayLeave slots image → image ≡ last_values slots
  durable-zeros = durable-flushed slots slots (is ∙ sym (map-replicate flushed n ZEROS) ∙ ap (λ (l : List Slot). map flushed l) (sym is))

-- a disk that has grown: zeros, synced, stand after the sectors that there were
module _ (old new : List Slot) (more : ℕ) (is : new ≡ old ++ replicate more ZEROS) where
  pub whole-grown : All IsWhole old → All IsWhole new
  whole-grown whole =
      subst (All IsWhole) (sym is) (All-append IsWhole old (replicate more ZEROS) whole (whole-zeros more (replicate more ZEROS) refl))

  pub length-grown : length new ≡ length old + more
  length-grown = omega (arith, ap length is, length-append old (replicate more ZEROS), length-replicate more ZEROS)

  pub contents-grown : last_values new ≡ with_zeros more (last_values old)
  contents-grown =
      ap last_values is ∙ map-append (λ (slot : Slot). slot.last) old (replicate more ZEROS)
      ∙ ap (λ (l : Image). last_values old ++ l) (contents-zeros more (replicate more ZEROS) refl)

  pub synced-grown : synced_values new ≡ with_zeros more (synced_values old)
  synced-grown =
      let zeros = synced-zeros more (replicate more ZEROS) refl ∙ contents-zeros more (replicate more ZEROS) refl in
      ap synced_values is ∙ map-append (λ (slot : Slot). slot.synced) old (replicate more ZEROS)
      ∙ ap (λ (l : Image). synced_values old ++ l) zeros

  images-grown : (slots : List Slot) (image : Image) → MayLeave (slots ++ replicate more ZEROS) image
      → (before : Image) × MayLeave slots before × (image ≡ with_zeros more before)
  images-grown [] image left =
      ([], tt, durable-zeros more (replicate more ZEROS) refl image left ∙ contents-zeros more (replicate more ZEROS) refl)
  images-grown (slot ∷ slots) [] left = absurd left
  images-grown (slot ∷ slots) (sector ∷ image) left =
      let rest = images-grown slots image left.1 in
      (sector ∷ rest.0, (left.0, rest.1), ap (λ (l : Image). sector ∷ l) rest.2)

  pub moment-grown : EachImageSince (slots_medium old) (slots_medium new) (HasGrown more (slots_medium old))
  moment-grown = record {
    later = omega arith;
    each = λ image left. from image left;
    earlier = λ t image le left. inr (from image left);
  }
    where
      from : (image : Image) → MayLeave new image → HasGrown more (slots_medium old) image
      from image left =
          let split = images-grown old image (subst (λ (l : List Slot). MayLeave l image) is left) in
          record { before = split.0; now = split.1; more = more; within = omega arith; is = split.2 }
