-- A disk that keeps what it had before each write and sync since its making: of each sector the value at the last sync
-- and the last that was written. A crash leaves of each sector, by itself, one of the two.
use Rattle.std.specs.Prelude.{◌≡◌, ◌⊎◌, ℕ, zero, suc, ◌≤◌, List, [], ◌∷◌, ◌++◌, length, map}
use Rattle.std.specs.Prelude.{All, Some, slice_get, refl}
use Rattle.std.proofs.Common.{inl, inr, ⊎_elim, sym, subst, arith, length-append}
use Rattle.std.proofs.lemmas.Option.{same_Some, slice_get_within}
use Rattle.std.proofs.lemmas.List.{length-map}
use Rattle.ipc_disk.specs.declared.memory.Slot.{Slot as MemorySlot}
use Rattle.ipc_disk.specs.Medium.{Image, Medium, IsShaped, IsHonest, Elapses}
use Rattle.ipc_disk.specs.Slots.{MayLeave, last_values}
use Rattle.ipc_disk.specs.Relations.Slots.{IsWhole, MayLeave-last_values, IsShaped-MayLeave, synced_slot}
use Rattle.premises.specs.declared.remembering.Slot.{Slot}

-- a sector, sectors and what sectors were, in the words of a disk in memory
abbrev pub slot_of : Slot → MemorySlot
slot_of slot = record { synced = slot.synced; last = slot.last }

abbrev pub slots_of : List Slot → List MemorySlot
slots_of slots = map slot_of slots

abbrev pub past_of : List (List Slot) → List (List MemorySlot)
past_of past = map slots_of past

-- so many sectors, each of which has both values
pub record IsFull (size : ℕ) (slots : List MemorySlot) : Type 0 where
  pub count : length slots ≡ size
  pub whole : All IsWhole slots

-- one image that sectors may leave, synced
pub record IsLeftOf (slots left : List MemorySlot) : Type 0 where
  pub image : Image
  pub may : MayLeave slots image
  pub is : left ≡ map synced_slot image

-- The moment is how many writes and syncs came before. The images since a moment are those that a crash could leave
-- then, or after any of the later writes and syncs, and no other.
abbrev pub remembered_medium : List (List MemorySlot) → List MemorySlot → Medium
remembered_medium past now = record {
  contents = last_values now;
  images_now = MayLeave now;
  moment = length past;
  images_since = λ t image. (k : ℕ) × (t ≤ k)
      × ((slots : List MemorySlot) × (slice_get (past ++ now ∷ []) k ≡ Some slots) × MayLeave slots image);
}

last_is : (past : List (List MemorySlot)) (now : List MemorySlot)
    → slice_get (past ++ now ∷ []) (length past) ≡ Some now
last_is [] now = refl
last_is (x ∷ xs) now = last_is xs now

-- the sectors are those of before some call, or the last
last_or_before : (past : List (List MemorySlot)) (now slots : List MemorySlot) (k : ℕ)
    → slice_get (past ++ now ∷ []) k ≡ Some slots → (slice_get past k ≡ Some slots) ⊎ (slots ≡ now)
last_or_before [] now slots zero is = inr (sym (same_Some _ _ is))
last_or_before [] now slots (suc k) is = cc
last_or_before (x ∷ xs) now slots zero is = inl is
last_or_before (x ∷ xs) now slots (suc k) is = last_or_before xs now slots k is

-- such a disk is honest
pub IsHonest-remembered : (past : List (List MemorySlot)) (now : List MemorySlot)
    → IsHonest (remembered_medium past now)
IsHonest-remembered past now = record {
  reads = MayLeave-last_values now;
  since = λ t image le here. (length past, le, (now, last_is past now, here));
}

-- each image has all the sectors
pub IsShaped-remembering : (slots : List Slot) (image : Image) → All IsWhole (slots_of slots)
    → MayLeave (slots_of slots) image → IsShaped (length slots) image
IsShaped-remembering slots image whole left =
    subst (λ (n : ℕ). IsShaped n image) (length-map slots slot_of) (IsShaped-MayLeave (slots_of slots) image whole left)

-- since this moment there are the images of now
pub only_now-remembered : (past : List (List MemorySlot)) (now : List MemorySlot) (image : Image)
    → (remembered_medium past now).images_since (length past) image → MayLeave now image
only_now-remembered past now image (k, le, (slots, is, left)) = ⊎_elim
    (λ before. absurd (omega (arith, le, slice_get_within past k slots before)))
    (λ here. subst (λ (l : List MemorySlot). MayLeave l image) here left)
    (last_or_before past now slots k is)

-- a call that changes nothing
pub Elapses-same : (past : List (List MemorySlot)) (now : List MemorySlot)
    → Elapses (remembered_medium past now) (remembered_medium past now)
Elapses-same past now = record {
  later = omega arith;
  nothing_else = λ t image le left. inl left;
  honest = (λ h. h, λ h. h);
}

-- a call before which the disk kept what it had
pub Elapses-next : (past : List (List MemorySlot)) (now next : List MemorySlot)
    → Elapses (remembered_medium past now) (remembered_medium (past ++ now ∷ []) next)
Elapses-next past now next = record {
  later = omega (arith, length-append past (now ∷ []));
  nothing_else = λ t image le (k, later, (slots, is, left)). ⊎_elim
      (λ before. inl (k, later, (slots, before, left)))
      (λ here. inr (subst (λ (l : List MemorySlot). MayLeave l image) here left))
      (last_or_before (past ++ now ∷ []) next slots k is);
  honest = (λ _. IsHonest-remembered (past ++ now ∷ []) next, λ _. IsHonest-remembered past now);
}
