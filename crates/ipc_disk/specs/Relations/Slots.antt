-- The sectors of a disk in memory: what is invariant, what a sync does to one, and that its images are of its shape.
use Rattle.std.specs.Prelude.{◌≡◌, ℕ, List, [], ◌∷◌, length, All, Contains, slice_get, refl}
use Rattle.std.proofs.Common.{inr, ⊎_elim, subst, sym, arith}
use Rattle.std.specs.List.{AllByRecursion}
use Rattle.std.proofs.lemmas.List.Elements.{All-from_recursion, recursion_from_All}
use Rattle.ipc_disk.specs.declared.memory.Slot.{Slot}
use Rattle.ipc_disk.specs.Medium.{Image, IsSector, IsShaped, IsHonest}
use Rattle.ipc_disk.specs.Slots.{last_values, synced_values, MayLeave, slots_medium}

-- both of its values are sectors
pub record IsWhole (slot : Slot) : Type 0 where
  pub saved : IsSector slot.synced
  pub newest : IsSector slot.last

-- a sector that is synced
abbrev pub synced_slot : List ℕ → Slot
synced_slot sector = record { synced = sector; last = sector }

-- after a sync
abbrev pub flushed : Slot → Slot
flushed slot = synced_slot slot.last

-- a sector that is not listed reads as it did at the last sync
abbrev pub ListsUnsynced : List ℕ → List Slot → Type 0
ListsUnsynced listed slots = (i : ℕ) → ¬ (Contains listed i)
    → slice_get (synced_values slots) i ≡ slice_get (last_values slots) i

-- the last values are one of the images
pub MayLeave-last_values : (slots : List Slot) → MayLeave slots (last_values slots)
MayLeave-last_values [] = tt
MayLeave-last_values (slot ∷ slots) = (inr refl, MayLeave-last_values slots)

-- such a disk is honest
pub IsHonest-slots : (slots : List Slot) → IsHonest (slots_medium slots)
IsHonest-slots slots = record { reads = MayLeave-last_values slots; since = λ t image le now. now }

length-MayLeave : (slots : List Slot) (image : Image) → MayLeave slots image → length image ≡ length slots
length-MayLeave [] [] left = refl
length-MayLeave [] (x ∷ xs) left = absurd left
length-MayLeave (s ∷ ss) [] left = absurd left
length-MayLeave (s ∷ ss) (x ∷ xs) left = omega (arith, length-MayLeave ss xs left.1)

sectors-MayLeave : (slots : List Slot) (image : Image) → AllByRecursion IsWhole slots → MayLeave slots image
    → AllByRecursion IsSector image
sectors-MayLeave [] [] whole left = tt
sectors-MayLeave [] (x ∷ xs) whole left = absurd left
sectors-MayLeave (s ∷ ss) [] whole left = absurd left
sectors-MayLeave (s ∷ ss) (x ∷ xs) whole left = (
  ⊎_elim (λ is. subst IsSector (sym is) whole.0.saved) (λ is. subst IsSector (sym is) whole.0.newest) left.0,
  sectors-MayLeave ss xs whole.1 left.1,
)

-- each image has all the sectors
pub IsShaped-MayLeave : (slots : List Slot) (image : Image) → All IsWhole slots → MayLeave slots image
    → IsShaped (length slots) image
IsShaped-MayLeave slots image whole left = record {
  count = length-MayLeave slots image left;
  sectors = All-from_recursion IsSector image (sectors-MayLeave slots image
      (recursion_from_All IsWhole slots whole) left);
}
