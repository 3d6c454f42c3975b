-- The list of recent writes: a sector that is not on it reads as it did at the last sync.
use Rattle.std.proofs.Common.{◌≡◌, ◌≢◌, ◌⊎◌, inl, inr, ⊎_elim, ℕ, zero, suc, ◌+◌, ◌<◌}
use Rattle.std.proofs.Common.{◌≤◌, add-one, List, [], ◌∷◌, ◌++◌, length, map, drop, refl, sym}
use Rattle.std.proofs.Common.{◌∙◌, ap, subst, arith}
use Rattle.std.specs.Prelude.{All, Contains, Some, slice_get, slice_set, slice_index_or}
use Rattle.std.proofs.Math.ListN.{length-set}
use Rattle.std.proofs.Math.Seq.{drop-cons, map-set_same}
use Rattle.std.proofs.lemmas.Bool.{cases_lt}
use Rattle.std.proofs.lemmas.Bool.Decides.{eqb_tells}
use Rattle.std.proofs.lemmas.List.{map-set}
use Rattle.std.proofs.lemmas.List.Elements.{All-append, All-cons, All-nil, Contains-push, Contains-push_cases, Contains-append_left, Contains-append_cases}
use Rattle.std.proofs.lemmas.Option.{same_Some}
use Rattle.ipc_disk.specs.declared.memory.Slot.{Slot}
use Rattle.ipc_disk.proofs.CallerLemmas.{slice_get-set_other}
use Rattle.ipc_disk.specs.Medium.{Image}
use Rattle.ipc_disk.specs.Slots.{last_values, synced_values}
use Rattle.ipc_disk.specs.Relations.Slots.{ListsUnsynced, flushed}

Contains-cons_cases : (x : ℕ) (xs : List ℕ) (i : ℕ) → Contains (x ∷ xs) i → (x ≡ i) ⊎ Contains xs i
Contains-cons_cases x xs i has = ⊎_elim
    (λ one. ⊎_elim (λ none. absurd (omega (arith, none.1))) (λ is. inl is) (Contains-push_cases [] x i one))
    (λ there. inr there)
    (Contains-append_cases (x ∷ []) xs i has)

-- a sector that is not replaced
other_there : (f : Slot → List ℕ) (slots : List Slot) (at i : ℕ) (slot : Slot) → i ≢ at
    → slice_get (map f (slice_set slots at slot)) i ≡ slice_get (map f slots) i
other_there f slots at i slot other =
    ap (λ (l : Image). slice_get l i) (map-set f slots at slot) ∙ slice_get-set_other (map f slots) at i (f slot) other

-- one that is flushed
flushed_there : (slots : List Slot) (at : ℕ) (slot : Slot) → slot.synced ≡ slot.last
    → slice_get (synced_values (slice_set slots at slot)) at ≡ slice_get (last_values (slice_set slots at slot)) at
flushed_there [] at slot same = refl
flushed_there (s ∷ ss) zero slot same = ap (λ (a : List ℕ). Some a) same
flushed_there (s ∷ ss) (suc at) slot same = flushed_there ss at slot same

-- a sector that is written is listed from then on
ListsUnsynced-written : (listed : List ℕ) (at : ℕ) (slots : List Slot) (slot : Slot) → ListsUnsynced listed slots
    → ListsUnsynced (listed ++ at ∷ []) (slice_set slots at slot)
ListsUnsynced-written listed at slots slot lists i unlisted = ⊎_elim
    (λ same. absurd (unlisted (subst (Contains (listed ++ at ∷ [])) (sym same.1) (Contains-push listed at))))
    (λ other. other_there (λ s. s.synced) slots at i slot other.1
    ∙ lists i (λ has. unlisted (Contains-append_left listed (at ∷ []) i has))
    ∙ sym (other_there (λ s. s.last) slots at i slot other.1))
    (eqb_tells i at)

-- once a listed sector is flushed, the rest of the list is enough
pub ListsUnsynced-flushed : (listed : List ℕ) (n d : ℕ) (slots : List Slot) (slot : Slot) → n < length listed → slot.synced ≡ slot.last
    → ListsUnsynced (drop n listed) slots → ListsUnsynced (drop (n + 1) listed) (slice_set slots (slice_index_or listed n d) slot)
ListsUnsynced-flushed listed n d slots slot lt last lists i unlisted =
    let at = slice_index_or listed n d in
    let new = slice_set slots at slot in
    ⊎_elim
    (λ same. let P : ℕ → Type 0 = λ k. slice_get (synced_values new) k ≡ slice_get (last_values new) k in
    subst P (sym same.1) (flushed_there slots at slot last))
    (λ other. other_there (λ s. s.synced) slots at i slot other.1
    ∙ lists i (λ has. ⊎_elim
    (λ first. other.1 (sym first))
    (λ rest. unlisted (subst (λ (k : ℕ). Contains (drop k listed) i) (sym (add-one n)) rest))
    (Contains-cons_cases at (drop (suc n) listed) i (subst (λ (l : List ℕ). Contains l i) (drop-cons listed n d lt) has)))
    ∙ sym (other_there (λ s. s.last) slots at i slot other.1))
    (eqb_tells i at)

-- a write, which is listed where there is room
module _ (recent new : List ℕ) (at : ℕ) (slots : List Slot)
    (listed : length recent < length slots → new ≡ recent ++ at ∷ []) (full : length slots ≤ length recent → new ≡ recent) where
  pub listed-write : (slot : Slot) → length new < length (slice_set slots at slot) → (length recent < length slots → ListsUnsynced recent slots)
      → ListsUnsynced new (slice_set slots at slot)
  listed-write slot lt lists = ⊎_elim
      (λ room. subst (λ (l : List ℕ). ListsUnsynced l (slice_set slots at slot)) (sym (listed room)) (ListsUnsynced-written recent at slots slot (lists room)))
      (λ none. absurd (omega (arith, none, lt, ap length (full none), length-set slots at slot)))
      (cases_lt (length recent) (length slots))

  pub places-write : (size : ℕ) → at < size → All (λ i. i < size) recent → All (λ i. i < size) new
  places-write size here places = ⊎_elim
      (λ room. subst (All (λ i. i < size)) (sym (listed room))
      (All-append (λ i. i < size) recent (at ∷ []) places (All-cons (λ i. i < size) at [] here (All-nil (λ i. i < size)))))
      (λ none. subst (All (λ i. i < size)) (sym (full none)) places)
      (cases_lt (length recent) (length slots))

-- where no list is needed, all are flushed
flushed-all : (slots : List Slot) → ((i : ℕ) → slice_get (synced_values slots) i ≡ slice_get (last_values slots) i) → slots ≡ map flushed slots
flushed-all [] same = refl
flushed-all (s ∷ ss) same =
    let first : s.synced ≡ s.last = same_Some _ _ (same 0) in
    ap (λ (a : List ℕ). record { synced = a; last = s.last } ∷ ss) first
    ∙ ap (λ (l : List Slot). flushed s ∷ l) (flushed-all ss (λ i. same (suc i)))

pub flushed-listed : (old new : List Slot) (listed : List ℕ) → listed ≡ [] → map flushed new ≡ map flushed old → ListsUnsynced listed new
    → new ≡ map flushed old
flushed-listed old new listed none same lists =
    flushed-all new (λ i. lists i (λ has. absurd (omega (arith, has.1, ap length none)))) ∙ same

-- of a sector the last value is left
pub flushed-one : (slots : List Slot) (at : ℕ) (slot d : Slot) → slot ≡ flushed (slice_index_or slots at d)
    → map flushed (slice_set slots at slot) ≡ map flushed slots
flushed-one slots at slot d is = map-set_same flushed slots at slot d (ap flushed is)

-- no sector is unsynced
pub ListsUnsynced-none : (listed : List ℕ) (slots : List Slot) → synced_values slots ≡ last_values slots → ListsUnsynced listed slots
ListsUnsynced-none listed slots same i unlisted = ap (λ (l : Image). slice_get l i) same
