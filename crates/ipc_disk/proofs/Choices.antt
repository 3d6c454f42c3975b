-- How a crash goes through the sectors, one after another.
use Rattle.std.proofs.Common.{◌≡◌, ◌⊎◌, inl, inr, ℕ, zero, suc, ◌+◌, ◌<◌, add-one, Bool, true}
use Rattle.std.proofs.Common.{false, List, [], ◌∷◌, length, map, refl, sym}
use Rattle.std.proofs.Common.{◌∙◌, ap, subst, arith}
use Rattle.std.specs.Prelude.{slice_set, slice_index_or, if◌then◌else◌, ◌&&◌, not, All}
use Rattle.std.proofs.lemmas.List.Elements.{All-map}
use Rattle.ipc_disk.specs.declared.memory.Slot.{Slot}
use Rattle.ipc_disk.specs.Crash.{is_unsynced, survives, survivor, passed, survivors}
use Rattle.ipc_disk.specs.Medium.{Image}
use Rattle.ipc_disk.specs.Slots.{MayLeave, last_values, synced_values}
use Rattle.ipc_disk.specs.Relations.Slots.{IsWhole, synced_slot, flushed, IsShaped-MayLeave}
use Rattle.ipc_disk.proofs.CallerLemmas.{durable-flushed}

-- the slots when this many have been chosen
abbrev pub chosen : ℕ → ℕ → ℕ → List Slot → List Slot
chosen keep i zero slots = slots
chosen keep i (suc n) [] = []
chosen keep i (suc n) (slot ∷ slots) = synced_slot (survivor keep i slot) ∷ chosen keep (passed i slot) n slots

-- how many unsynced ones there were among so many
abbrev pub place : ℕ → ℕ → List Slot → ℕ
place i zero slots = i
place i (suc n) [] = i
place i (suc n) (slot ∷ slots) = place (passed i slot) n slots

-- the next one stands as it did
pub chosen-next : (keep i n : ℕ) (slots : List Slot) (d : Slot) → slice_index_or (chosen keep i n slots) n d ≡ slice_index_or slots n d
chosen-next keep i zero slots d = refl
chosen-next keep i (suc n) [] d = refl
chosen-next keep i (suc n) (slot ∷ slots) d = chosen-next keep (passed i slot) n slots d

pub length-chosen : (keep i n : ℕ) (slots : List Slot) → length (chosen keep i n slots) ≡ length slots
length-chosen keep i zero slots = refl
length-chosen keep i (suc n) [] = refl
length-chosen keep i (suc n) (slot ∷ slots) = omega (arith, length-chosen keep (passed i slot) n slots)

-- one more is chosen
pub chosen-suc : (keep i n : ℕ) (slots : List Slot) (d : Slot) → n < length slots
    → slice_set (chosen keep i n slots) n (synced_slot (survivor keep (place i n slots) (slice_index_or slots n d))) ≡ chosen keep i (suc n) slots
chosen-suc keep i n [] d lt = absurd (omega arith)
chosen-suc keep i zero (slot ∷ slots) d lt = refl
chosen-suc keep i (suc n) (slot ∷ slots) d lt =
    ap (λ (l : List Slot). synced_slot (survivor keep i slot) ∷ l) (chosen-suc keep (passed i slot) n slots d (omega arith))

pub place-suc : (i n : ℕ) (slots : List Slot) (d : Slot) → n < length slots → place i (suc n) slots ≡ passed (place i n slots) (slice_index_or slots n d)
place-suc i n [] d lt = absurd (omega arith)
place-suc i zero (slot ∷ slots) d lt = refl
place-suc i (suc n) (slot ∷ slots) d lt = place-suc (passed i slot) n slots d (omega arith)

-- all are chosen
pub chosen-all : (keep i : ℕ) (slots : List Slot) → chosen keep i (length slots) slots ≡ map synced_slot (survivors keep i slots)
chosen-all keep i [] = refl
chosen-all keep i (slot ∷ slots) = ap (λ (l : List Slot). synced_slot (survivor keep i slot) ∷ l) (chosen-all keep (passed i slot) slots)

survivor_either : (keep i : ℕ) (slot : Slot) → (survivor keep i slot ≡ slot.synced) ⊎ (survivor keep i slot ≡ slot.last)
survivor_either keep i slot = elim (is_unsynced slot && not (survives keep i))
    as (λ (b : Bool). ((if b then slot.synced else slot.last) ≡ slot.synced) ⊎ ((if b then slot.synced else slot.last) ≡ slot.last)) [
      | true ↦ inl refl
      | false ↦ inr refl
    ]

-- what is left is one of the images
pub MayLeave-survivors : (keep i : ℕ) (slots : List Slot) → MayLeave slots (survivors keep i slots)
MayLeave-survivors keep i [] = tt
MayLeave-survivors keep i (slot ∷ slots) = (survivor_either keep i slot, MayLeave-survivors keep (passed i slot) slots)

-- synced sectors read as they are, and a sync leaves them
pub last_values-synced : (image : Image) → last_values (map synced_slot image) ≡ image
last_values-synced [] = refl
last_values-synced (x ∷ xs) = ap (λ (l : Image). x ∷ l) (last_values-synced xs)

synced_values-synced : (image : Image) → synced_values (map synced_slot image) ≡ image
synced_values-synced [] = refl
synced_values-synced (x ∷ xs) = ap (λ (l : Image). x ∷ l) (synced_values-synced xs)

pub flushed-synced : (image : Image) → map flushed (map synced_slot image) ≡ map synced_slot image
flushed-synced [] = refl
flushed-synced (x ∷ xs) = ap (λ (l : List Slot). synced_slot x ∷ l) (flushed-synced xs)

-- the loop's step
pub chosen-step : (keep n before : ℕ) (old xs : List Slot) (d left : Slot) → n < length old → xs ≡ chosen keep 0 n old → before ≡ place 0 n old
    → left ≡ synced_slot (survivor keep before (slice_index_or xs n d)) → slice_set xs n left ≡ chosen keep 0 (n + 1) old
chosen-step keep n before old xs d left lt is at made =
    let slot : slice_index_or xs n d ≡ slice_index_or old n d = ap (λ (l : List Slot). slice_index_or l n d) is ∙ chosen-next keep 0 n old d in
    let same : left ≡ synced_slot (survivor keep (place 0 n old) (slice_index_or old n d)) =
    made ∙ ap (λ (i : ℕ). synced_slot (survivor keep i (slice_index_or xs n d))) at ∙ ap (λ (s : Slot). synced_slot (survivor keep (place 0 n old) s)) slot in
    ap (λ (l : List Slot). slice_set l n left) is ∙ ap (λ (s : Slot). slice_set (chosen keep 0 n old) n s) same
    ∙ chosen-suc keep 0 n old d lt ∙ ap (λ (k : ℕ). chosen keep 0 k old) (sym (add-one n))

pub place-step : (keep n before next : ℕ) (unsynced : Bool) (old xs : List Slot) (d : Slot) → n < length old → xs ≡ chosen keep 0 n old → before ≡ place 0 n old
    → unsynced ≡ is_unsynced (slice_index_or xs n d) → next ≡ (if unsynced then before + 1 else before) → next ≡ place 0 (n + 1) old
place-step keep n before next unsynced old xs d lt is at test made =
    let slot : slice_index_or xs n d ≡ slice_index_or old n d = ap (λ (l : List Slot). slice_index_or l n d) is ∙ chosen-next keep 0 n old d in
    made ∙ ap (λ (b : Bool). if b then before + 1 else before) test
    ∙ ap (λ (i : ℕ). passed i (slice_index_or xs n d)) at ∙ ap (λ (s : Slot). passed (place 0 n old) s) slot
    ∙ sym (place-suc 0 n old d lt) ∙ ap (λ (k : ℕ). place 0 k old) (sym (add-one n))

-- a crash leaves these slots
module _ (keep : ℕ) (old new : List Slot) (is : new ≡ map synced_slot (survivors keep 0 old)) where
  pub contents-chosen : last_values new ≡ survivors keep 0 old
  contents-chosen = ap last_values is ∙ last_values-synced (survivors keep 0 old)

  pub synced-chosen : synced_values new ≡ last_values new
  synced-chosen = ap synced_values is ∙ synced_values-synced (survivors keep 0 old) ∙ sym contents-chosen

  pub durable-chosen : (image : Image) → MayLeave new image → image ≡ last_values new
  durable-chosen = durable-flushed new new (is ∙ sym (flushed-synced (survivors keep 0 old)) ∙ ap (λ (l : List Slot). map flushed l) (sym is))

  pub whole-chosen : All IsWhole old → All IsWhole new
  whole-chosen whole =
      let sectors = (IsShaped-MayLeave old (survivors keep 0 old) whole (MayLeave-survivors keep 0 old)).sectors in
      subst (All IsWhole) (sym is) (All-map IsWhole synced_slot (survivors keep 0 old) (λ k d lt. record { saved = sectors k d lt; newest = sectors k d lt }))
