-- What a write, a sync and a crash do to a disk that remembers.
use Rattle.std.proofs.Common.{◌≡◌, ◌⊎◌, inl, inr, ⊎_elim, ℕ, zero, suc, ◌+◌, ◌<◌, ◌≤◌, List, [], ◌∷◌, ◌++◌, length, map, take, drop, replicate}
use Rattle.std.proofs.Common.{refl, sym, ◌∙◌, ap, subst, arith, append-nil}
use Rattle.std.specs.Prelude.{All, Some, Option, option_map, slice_get, slice_set, slice_index_or}
use Rattle.std.proofs.lemmas.List.{length-map, map-append, map-set, get_or-map, take_more, take_all, drop_all, length-replicate}
use Rattle.std.proofs.lemmas.List.Edits.{map_over_more}
use Rattle.std.proofs.lemmas.List.Elements.{All-map, All-push, All-replicate, All-set, All-from_get_or}
use Rattle.std.proofs.lemmas.Option.{slice_get-map, slice_get_within, get_or_from_slice_get}
use Rattle.ipc_disk.specs.declared.memory.Slot.{Slot as MemorySlot}
use Rattle.ipc_disk.specs.Medium.{Image, IsSector, Stays, Writes}
use Rattle.ipc_disk.specs.Slots.{MayLeave, last_values}
use Rattle.ipc_disk.proofs.CallerLemmas.{written, MayLeave-written, only_contents, contents-flushed}
use Rattle.ipc_disk.specs.Relations.Slots.{IsWhole, MayLeave-last_values, IsShaped-MayLeave, flushed, synced_slot}
use Rattle.premises.specs.declared.remembering.Slot.{Slot}
use Rattle.premises.specs.declared.remembering.TheConstants.{ZEROS}
use Rattle.premises.specs.Remembered.{slot_of, slots_of, past_of, IsFull, IsLeftOf, remembered_medium, Elapses-next}

-- a new disk: each sector is zeros, synced
slots_of-replicate : (n : ℕ) (slot : Slot) → slots_of (replicate n slot) ≡ replicate n (slot_of slot)
slots_of-replicate zero slot = refl
slots_of-replicate (suc n) slot = ap (λ (l : List MemorySlot). slot_of slot ∷ l) (slots_of-replicate n slot)

last_values-replicate : (n : ℕ) (slot : MemorySlot) → last_values (replicate n slot) ≡ replicate n slot.last
last_values-replicate zero slot = refl
last_values-replicate (suc n) slot = ap (λ (l : Image). slot.last ∷ l) (last_values-replicate n slot)

module _ (n : ℕ) (slots : List Slot) (is : slots ≡ replicate n ZEROS) where
  zeros : slots_of slots ≡ replicate n (slot_of ZEROS)
  zeros = ap slots_of is ∙ slots_of-replicate n ZEROS

  IsSector-zeros : IsSector (replicate 512 0)
  IsSector-zeros = record { size = refl; bytes = All-replicate (λ b. b < 256) 512 0 (omega arith) }

  pub whole-zeros : All IsWhole (slots_of slots)
  whole-zeros = subst (All IsWhole) (sym zeros) (All-replicate IsWhole n (slot_of ZEROS) (record { saved = IsSector-zeros; newest = IsSector-zeros }))

  pub contents-zeros : last_values (slots_of slots) ≡ replicate n (replicate 512 0)
  contents-zeros = ap last_values zeros ∙ last_values-replicate n (slot_of ZEROS)

  pub length-zeros : length slots ≡ n
  length-zeros = ap length is ∙ length-replicate n ZEROS

-- what is read
pub reads : (slots : List Slot) (at : ℕ) (slot : Slot) → slice_get slots at ≡ Some slot → slice_get (last_values (slots_of slots)) at ≡ Some slot.last
reads slots at slot is =
    slice_get-map (λ (s : MemorySlot). s.last) (slots_of slots) at
    ∙ ap (λ (o : Option MemorySlot). option_map (λ s. s.last) o) (slice_get-map slot_of slots at ∙ ap (λ (o : Option Slot). option_map slot_of o) is)

-- the sectors of a disk
pub full-slots : (slots : List Slot) → All IsWhole (slots_of slots) → IsFull (length slots) (slots_of slots)
full-slots slots whole = record { count = length-map slots slot_of; whole = whole }

-- one entry more is kept
module _ (past next : List (List Slot)) (entry now : List Slot) (is : next ≡ past ++ entry ∷ []) (same : entry ≡ now) where
  pub past_of-kept : past_of next ≡ past_of past ++ slots_of now ∷ []
  past_of-kept = ap past_of is ∙ map-append slots_of past (entry ∷ []) ∙ ap (λ (l : List Slot). past_of past ++ slots_of l ∷ []) same

  pub were-kept : (size : ℕ) → size ≡ length now → All (IsFull (length now)) (past_of past) → All IsWhole (slots_of now) → All (IsFull size) (past_of next)
  were-kept size count were whole = subst (λ (n : ℕ). All (IsFull n) (past_of next)) (sym count)
      (subst (All (IsFull (length now))) (sym past_of-kept) (All-push (IsFull (length now)) (past_of past) (slots_of now) were (full-slots now whole)))

-- what was kept
slice_get-before : (past : List (List MemorySlot)) (now slots : List MemorySlot) (k : ℕ) → slice_get past k ≡ Some slots
    → slice_get (past ++ now ∷ []) k ≡ Some slots
slice_get-before [] now slots k is = cc
slice_get-before (x ∷ xs) now slots zero is = is
slice_get-before (x ∷ xs) now slots (suc k) is = slice_get-before xs now slots k is

pub had-before : {X : Type 0} (f : X → List Slot) (xs : List X) (now : List MemorySlot) (k : ℕ) (x : X) → slice_get xs k ≡ Some x
    → slice_get (past_of (map f xs) ++ now ∷ []) k ≡ Some (slots_of (f x))
had-before {X} f xs now k x is = slice_get-before (past_of (map f xs)) now (slots_of (f x)) k
    (slice_get-map slots_of (map f xs) k
    ∙ ap (λ (o : Option (List Slot)). option_map slots_of o) (slice_get-map f xs k ∙ ap (λ (o : Option X). option_map f o) is))

pub full-had : (past : List (List MemorySlot)) (now slots : List MemorySlot) (size k : ℕ) → All (IsFull size) past → IsFull size now
    → slice_get (past ++ now ∷ []) k ≡ Some slots → IsFull size slots
full-had past now slots size k were full is = subst (IsFull size) (get_or_from_slice_get (past ++ now ∷ []) k slots slots is)
    (All-push (IsFull size) past now were full k slots (slice_get_within (past ++ now ∷ []) k slots is))

-- a write of one sector
module _ (slots : List Slot) (at : ℕ) (slot : Slot) (bytes : List ℕ) where
  abbrev pub set : List Slot
  set = slice_set slots at (record { synced = slot.synced; last = bytes })

  slots_of-set : slots_of set ≡ slice_set (slots_of slots) at (written (slot_of slot) bytes)
  slots_of-set = map-set slot_of slots at (record { synced = slot.synced; last = bytes })

  pub whole-set : length bytes ≡ 512 → ((i : ℕ) → slice_index_or bytes i 0 < 256) → at < length slots → slot ≡ slice_index_or slots at slot
      → All IsWhole (slots_of slots) → All IsWhole (slots_of set)
  whole-set size small lt is whole =
      let old : IsWhole (slot_of slot) = subst IsWhole (get_or-map slot_of slots at slot (slot_of slot) lt ∙ ap slot_of (sym is))
      (whole at (slot_of slot) (omega (arith, lt, length-map slots slot_of))) in
      let sector : IsSector bytes = record { size = size; bytes = All-from_get_or (λ b. b < 256) bytes 0 (λ i within. small i) } in
      subst (All IsWhole) (sym slots_of-set)
      (All-set IsWhole (slots_of slots) at (written (slot_of slot) bytes) (record { saved = old.saved; newest = sector }) whole)

  pub contents-set : last_values (slots_of set) ≡ slice_set (last_values (slots_of slots)) at bytes
  contents-set = ap last_values slots_of-set ∙ map-set (λ (s : MemorySlot). s.last) (slots_of slots) at (written (slot_of slot) bytes)

  pub Writes-set : (past next : List (List MemorySlot)) → at < length slots → slot ≡ slice_index_or slots at slot → next ≡ past ++ slots_of slots ∷ []
      → Writes at bytes (remembered_medium past (slots_of slots)) (remembered_medium next (slots_of set))
  Writes-set past next lt is kept =
      let here : slot_of slot ≡ slice_index_or (slots_of slots) at (slot_of slot) =
      ap slot_of is ∙ sym (get_or-map slot_of slots at slot (slot_of slot) lt) in
      subst (λ (p : List (List MemorySlot)). Writes at bytes (remembered_medium past (slots_of slots)) (remembered_medium p (slots_of set))) (sym kept)
      (record {
        contents = λ honest. inr contents-set;
        images = λ image left.
            MayLeave-written (slots_of slots) at (slot_of slot) bytes image (omega (arith, lt, length-map slots slot_of)) here
            (subst (λ (l : List MemorySlot). MayLeave l image) slots_of-set left);
        time = Elapses-next past (slots_of slots) (slots_of set);
      })

-- a sync leaves these slots
module _ (old new : List MemorySlot) (is : new ≡ map flushed old) where
  pub length-flushed : length new ≡ length old
  length-flushed = ap length is ∙ length-map old flushed

  pub Stays-flushed : (past next : List (List MemorySlot)) → next ≡ past ++ old ∷ [] → Stays (remembered_medium past old) (remembered_medium next new)
  Stays-flushed past next kept =
      subst (λ (p : List (List MemorySlot)). Stays (remembered_medium past old) (remembered_medium p new)) (sym kept)
      (record {
        contents = λ honest. contents-flushed old new is;
        images = λ image left. subst (MayLeave old) (sym (only_contents old new is image left)) (MayLeave-last_values old);
        time = Elapses-next past old new;
      })

-- one slot more is flushed; at the end all are
pub flushed-more : (xs ys : List Slot) (i : ℕ) (d new : Slot) → i < length xs → i < length ys
    → slots_of ys ≡ map flushed (take i (slots_of xs)) ++ drop i (slots_of xs) → slot_of new ≡ flushed (slot_of (slice_index_or ys i d))
    → slots_of (slice_set ys i new) ≡ map flushed (take (i + 1) (slots_of xs)) ++ drop (i + 1) (slots_of xs)
flushed-more xs ys i d new lt within is made =
    let slot = slot_of (slice_index_or ys i d) in
    map-set slot_of ys i new ∙ ap (λ (s : MemorySlot). slice_set (slots_of ys) i s) made
    ∙ map_over_more flushed (slots_of xs) (slots_of ys) i slot (omega (arith, lt, length-map xs slot_of)) is (sym (get_or-map slot_of ys i d slot within))

pub flushed-all : (xs ys : List MemorySlot) (i : ℕ) → length xs ≤ i → ys ≡ map flushed (take i xs) ++ drop i xs → ys ≡ map flushed xs
flushed-all xs ys i le is =
    is ∙ ap (λ (l : List MemorySlot). map flushed l ++ drop i xs) (take_all i xs le) ∙ ap (λ (l : List MemorySlot). map flushed xs ++ l) (drop_all i xs le)
    ∙ append-nil (map flushed xs)

-- one slot more is chosen; at the end all are
MayLeave-push : (slots : List MemorySlot) (image : Image) (slot : MemorySlot) (value : List ℕ) → MayLeave slots image
    → (value ≡ slot.synced) ⊎ (value ≡ slot.last)
    → MayLeave (slots ++ slot ∷ []) (image ++ value ∷ [])
MayLeave-push [] [] slot value may one = (one, tt)
MayLeave-push [] (x ∷ xs) slot value may one = absurd may
MayLeave-push (s ∷ ss) [] slot value may one = absurd may
MayLeave-push (s ∷ ss) (x ∷ xs) slot value may one = (may.0, MayLeave-push ss xs slot value may.1 one)

IsLeftOf-push : (slots left : List MemorySlot) (slot : MemorySlot) (value : List ℕ) → IsLeftOf slots left → (value ≡ slot.synced) ⊎ (value ≡ slot.last)
    → IsLeftOf (slots ++ slot ∷ []) (left ++ synced_slot value ∷ [])
IsLeftOf-push slots left slot value so_far one = record {
  image = so_far.image ++ value ∷ [];
  may = MayLeave-push slots so_far.image slot value so_far.may one;
  is = ap (λ (l : List MemorySlot). l ++ synced_slot value ∷ []) so_far.is ∙ sym (map-append synced_slot so_far.image (value ∷ []));
}

pub chosen-more : (slots left next : List Slot) (i : ℕ) (d one : Slot) → i < length slots → IsLeftOf (take i (slots_of slots)) (slots_of left)
    → next ≡ left ++ one ∷ []
    → (slot_of one ≡ synced_slot (slice_index_or slots i d).synced) ⊎ (slot_of one ≡ synced_slot (slice_index_or slots i d).last)
    → IsLeftOf (take (i + 1) (slots_of slots)) (slots_of next)
chosen-more slots left next i d one lt so_far is made =
    let slot = slot_of (slice_index_or slots i d) in
    let more : take (i + 1) (slots_of slots) ≡ take i (slots_of slots) ++ slot ∷ [] =
    take_more (slots_of slots) i slot (omega (arith, lt, length-map slots slot_of))
    ∙ ap (λ (s : MemorySlot). take i (slots_of slots) ++ s ∷ []) (get_or-map slot_of slots i d slot lt) in
    let then : slots_of next ≡ slots_of left ++ slot_of one ∷ [] = ap slots_of is ∙ map-append slot_of left (one ∷ []) in
    let value : (value : List ℕ) × (slot_of one ≡ synced_slot value) × ((value ≡ slot.synced) ⊎ (value ≡ slot.last)) =
    ⊎_elim (λ old. (slot.synced, old, inl refl)) (λ new. (slot.last, new, inr refl)) made in
    subst (λ (l : List MemorySlot). IsLeftOf l (slots_of next)) (sym more)
    (subst (λ (l : List MemorySlot). IsLeftOf (take i (slots_of slots) ++ slot ∷ []) l)
    (sym (then ∙ ap (λ (s : MemorySlot). slots_of left ++ s ∷ []) value.1))
    (IsLeftOf-push (take i (slots_of slots)) (slots_of left) slot value.0 so_far value.2))

-- a crash leaves these slots of those
module _ (slots left : List MemorySlot) (chosen : IsLeftOf slots left) where
  last_values-synced : (image : Image) → last_values (map synced_slot image) ≡ image
  last_values-synced [] = refl
  last_values-synced (x ∷ xs) = ap (λ (l : Image). x ∷ l) (last_values-synced xs)

  only-synced : (image other : Image) → MayLeave (map synced_slot image) other → other ≡ image
  only-synced [] [] may = refl
  only-synced [] (y ∷ ys) may = absurd may
  only-synced (x ∷ xs) [] may = absurd may
  only-synced (x ∷ xs) (y ∷ ys) may =
      let first : y ≡ x = ⊎_elim (λ is. is) (λ is. is) may.0 in
      ap (λ (a : List ℕ). a ∷ ys) first ∙ ap (λ (l : Image). x ∷ l) (only-synced xs ys may.1)

  only-left : (image : Image) → MayLeave left image → image ≡ chosen.image
  only-left image may = only-synced chosen.image image (subst (λ (l : List MemorySlot). MayLeave l image) chosen.is may)

  pub may-left : (image : Image) → MayLeave left image → MayLeave slots image
  may-left image may = subst (MayLeave slots) (sym (only-left image may)) chosen.may

  pub durable-left : (image : Image) → MayLeave left image → image ≡ last_values left
  durable-left image may = only-left image may ∙ sym (ap last_values chosen.is ∙ last_values-synced chosen.image)

  pub full-left : (size : ℕ) → IsFull size slots → IsFull size left
  full-left size full =
      let shaped = IsShaped-MayLeave slots chosen.image full.whole chosen.may in
      record {
        count = ap length chosen.is ∙ length-map chosen.image synced_slot ∙ shaped.count ∙ full.count;
        whole = subst (All IsWhole) (sym chosen.is) (All-map IsWhole synced_slot chosen.image
            (λ k d lt. record { saved = shaped.sectors k d lt; newest = shaped.sectors k d lt }));
      }
