-- The directory of keys names the objects as they change.
use Rattle.std.proofs.Common.{◌≡◌, ℕ, zero, suc, ◌+◌, ◌<◌, ◌≤◌, Bool, true, false, cond, List, [], ◌∷◌, ◌++◌, Option, Some, None}
use Rattle.std.proofs.Common.{map, refl, sym, ap, subst, ◌∙◌, arith}
use Rattle.std.specs.Prelude.{nat_eq, if◌then◌else◌, All}
use Rattle.std.proofs.lemmas.List.Elements.{All-nil, All-cons, All-head, All-tail}
use Rattle.ipc_base.specs.Table.{keys_of, value_at, without, IsRising}
use Rattle.ipc_state.specs.Directory.{ArePositive, Agrees, adds, or_else}
use Rattle.ipc_state.specs.Numbered.{Numbered, entry_of, with_entry}
use Rattle.ipc_state.proofs.EntryKeys.{Keys, IsNamed, row, names, names-with, key-last, key-without}

-- ---- numbers above 0

rising-positive : (low : ℕ) (ns : List ℕ) (high : ℕ) → 1 ≤ low → IsRising low ns high → All (λ n. 0 < n) ns
rising-positive low [] high least h = All-nil _
rising-positive low (n ∷ ns) high least h =
    All-cons (λ (m : ℕ). 0 < m) n ns (omega (arith, least, h.0)) (rising-positive (n + 1) ns high (omega arith) h.1)

pub named-positive : {X : Type 0} (es : List (ℕ × X)) (next : ℕ) → IsRising 1 (keys_of es) next → ArePositive es
named-positive es next h = rising-positive 1 (keys_of es) next (omega arith) h

-- no key names 0
abbrev pub NoneIsZero : {K : Type 0} → (K → Option ℕ) → Type 0
NoneIsZero {K} named = (key : K) (n : ℕ) → named key ≡ Some n → 0 < n

pub positive-names : {K E : Type 0} (keys : Keys K E) (es : List (ℕ × E)) → ArePositive es → NoneIsZero (names keys es)
positive-names keys es h key n is = by_none (keys.same key keys.none) is
  where
    found : (fs : List (ℕ × _)) → ArePositive fs → value_at keys.same (map (row keys) fs) key ≡ Some n → 0 < n
    found [] h is = cc
    found (f ∷ fs) h is = by_test (keys.same (keys.key_of f.1) key) is (found fs (All-tail (λ (k : ℕ). 0 < k) f.0 (keys_of fs) h))
      where
        by_test : (b : Bool) → cond b (Some f.0) (value_at keys.same (map (row keys) fs) key) ≡ Some n
            → (value_at keys.same (map (row keys) fs) key ≡ Some n → 0 < n) → 0 < n
        by_test true is later = let number : f.0 ≡ n = cc in subst (λ (k : ℕ). 0 < k) number (All-head (λ (k : ℕ). 0 < k) f.0 (keys_of fs) h)
        by_test false is later = later is

    by_none : (b : Bool) → cond b None (value_at keys.same (map (row keys) es) key) ≡ Some n → 0 < n
    by_none true is = cc
    by_none false is = found es h is

-- ---- the directory agrees

module _ {K : Type 0} (found new named named' : K → Option ℕ) where
  pub agrees-same : ((k : K) → new k ≡ found k) → ((k : K) → named' k ≡ named k) → Agrees found named → Agrees new named'
  agrees-same finds same agrees positive k = finds k ∙ (agrees (λ j n is. positive j n (same j ∙ is)) k ∙ sym (same k))

  pub agrees-without : (test : K → Bool) → NoneIsZero named → ((k : K) → new k ≡ (if test k then None else found k))
      → ((k : K) → named' k ≡ (if test k then None else named k)) → Agrees found named → Agrees new named'
  agrees-without test positive finds same agrees _ k =
      finds k ∙ (ap (λ (r : Option ℕ). if test k then None else r) (agrees positive k) ∙ sym (same k))

  -- a number is added for some keys
  pub agrees-last : (add : K → Option ℕ) (id : ℕ) → ((k : K) (n : ℕ) → add k ≡ Some n → n ≡ id)
      → (0 < id → (k : K) → new k ≡ or_else (found k) (add k)) → (id ≡ 0 → (k : K) → new k ≡ found k)
      → ((k : K) → named' k ≡ or_else (named k) (add k)) → Agrees found named → Agrees new named'
  agrees-last add id its finds nothing same agrees positive k = by_number id refl
    where
      before : (k : K) → found k ≡ named k
      before = agrees (λ j n is. positive j n (same j ∙ first (named j) (add j) n is))
        where
          first : (r s : Option ℕ) (n : ℕ) → r ≡ Some n → or_else r s ≡ Some n
          first None s n is = cc
          first (Some m) s n is = is

      by_number : (n : ℕ) → id ≡ n → new k ≡ named' k
      by_number zero is = nothing is k ∙ (before k ∙ by_add (named k) (add k) refl (sym (same k)))
        where
          by_add : (r s : Option ℕ) → add k ≡ s → or_else r s ≡ named' k → r ≡ named' k
          by_add (Some m) s adds both = both
          by_add None None adds both = both
          by_add None (Some m) adds both = let zero_is = its k m adds in let above = positive k m (sym both) in absurd (omega (arith, zero_is, above, is))
      by_number (suc n) is = finds (omega (arith, is)) k ∙ (ap (λ (r : Option ℕ). or_else r (add k)) (before k) ∙ sym (same k))

-- ---- of entries

module _ {K E : Type 0} (keys : Keys K E) (found new : K → Option ℕ) (o o' : Numbered E) where
  abbrev pub Keeps : Type 0
  Keeps = Agrees found (names keys o.entries) → Agrees new (names keys o'.entries)

  -- each key names what it named
  pub agree-same : ((k : K) → new k ≡ found k) → ((k : K) → names keys o'.entries k ≡ names keys o.entries k) → Keeps
  agree-same = agrees-same found new (names keys o.entries) (names keys o'.entries)

  -- an entry comes at the end
  pub agree-last : (next id : ℕ) (e : E) → (0 < id → (k : K) → new k ≡ or_else (found k) (adds keys.same keys.none (keys.key_of e) id k))
      → (id ≡ 0 → (k : K) → new k ≡ found k) → o' ≡ record { next = next; entries = o.entries ++ (id, e) ∷ [] } → Keeps
  agree-last next id e finds nothing put =
      agrees-last found new (names keys o.entries) (names keys o'.entries) (adds keys.same keys.none (keys.key_of e) id) id its finds nothing
      (λ k. ap (λ (t : Numbered E). names keys t.entries k) put ∙ key-last keys o.entries id e k)
    where
      its : (k : K) (n : ℕ) → adds keys.same keys.none (keys.key_of e) id k ≡ Some n → n ≡ id
      its k n = by_tests (keys.same k keys.none) (keys.same (keys.key_of e) k)
        where
          by_tests : (b c : Bool) → (if b then None else if c then Some id else None) ≡ Some n → n ≡ id
          by_tests true c is = cc
          by_tests false true is = cc
          by_tests false false is = cc

  -- an entry changes and keeps its key
  pub agree-put : (id : ℕ) (e f : E) → entry_of o id ≡ Some e → keys.key_of f ≡ keys.key_of e → o' ≡ with_entry o id f → ((k : K) → new k ≡ found k) → Keeps
  agree-put id e f is same put finds =
      agree-same finds (λ k. ap (λ (t : Numbered E). names keys t.entries k) put ∙ names-with keys o.entries id e f k is same)

  -- an entry goes, or loses its key
  pub agree-without : (id : ℕ) (e : E) → IsRising 1 (keys_of o.entries) o.next → All (IsNamed keys (map (row keys) o.entries)) (map (row keys) o.entries)
      → entry_of o id ≡ Some e → ((k : K) → new k ≡ (if keys.same (keys.key_of e) k then None else found k))
      → ((k : K) → names keys o'.entries k ≡ names keys (without nat_eq o.entries id) k) → Keeps
  agree-without id e rising named is finds same =
      agrees-without found new (names keys o.entries) (names keys o'.entries) (keys.same (keys.key_of e))
      (positive-names keys o.entries (named-positive o.entries o.next rising)) finds
      (λ k. same k ∙ key-without keys o.entries o.next id e k rising named is)
