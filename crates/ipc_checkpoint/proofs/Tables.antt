-- Tables of numbers that rise: what is found in them, and when two of them are the same.
use Rattle.std.proofs.Common.{◌≡◌, ◌≢◌, inl, inr, ℕ, zero, suc, ◌+◌, ◌<◌, ◌≤◌, Bool, true, false, List, [], ◌∷◌, length, get_or, take, Some, None}
use Rattle.std.proofs.Common.{refl, sym, ap, subst, ◌∙◌, arith, eq-eqb}
use Rattle.std.specs.Prelude.{All, Option, if◌then◌else◌, nat_eq, not, is_some}
use Rattle.std.specs.List.{filter}
use Rattle.std.proofs.lemmas.Bool.Decides.{nat_tests}
use Rattle.std.proofs.lemmas.List.Elements.{All-cons, All-head, All-nil, All-tail}
use Rattle.ipc_base.specs.Table.{IsRising, keys_of, value_at, without}
use Rattle.ipc_base.proofs.CallerLemmas.{entry-at, entry-other, nobody, other_key, rising-found, rising-gone}
use Rattle.ipc_base.proofs.CallerLemmas.{same_key, test_cases, value_at-without}
use Rattle.ipc_heap.specs.Heap.{Placed}
use Rattle.ipc_heap.specs.View.{with_object}

-- a test that holds shows the numbers the same
same-number : (n k : ℕ) → nat_eq n k ≡ true → n ≡ k
same-number n k is = grind (arith, nat_tests, is)

module _ {X : Type 0} where
  -- each value stands at its number
  pub rising-at : (low : ℕ) (es : List (ℕ × X)) (high i : ℕ) (d : ℕ × X) → IsRising low (keys_of es) high → i < length es
      → value_at nat_eq es (get_or es i d).0 ≡ Some (get_or es i d).1
  rising-at low [] high i d rising less = absurd (omega (arith, less))
  rising-at low (e ∷ es) high zero d rising less = rw (same_key e.0) refl
  rising-at low (e ∷ es) high (suc i) d rising less =
      let k : ℕ = (get_or es i d).0 in
      let rest : value_at nat_eq es k ≡ Some (get_or es i d).1 = rising-at (e.0 + 1) es high i d rising.1 (omega (arith, less)) in
      let above = rising-found (e.0 + 1) es high k rising.1 (ap (λ (o : Option X). is_some o) rest) in
      rw (other_key e.0 k (λ same. omega (arith, same, above))) rest

  -- and a value that is found stands somewhere
  pub value-place : (es : List (ℕ × X)) (k : ℕ) (x : X) → value_at nat_eq es k ≡ Some x
      → (i : ℕ) × (i < length es) × ((d : ℕ × X) → get_or es i d ≡ (k, x))
  value-place [] k x is = cc
  value-place (e ∷ es) k x is = elim (test_cases (nat_eq e.0 k)) [
    | inl on ↦
        let found : Some e.1 ≡ Some x = rw on at is in
        let value : e.1 ≡ x = cc in
        (0, omega arith, λ d. ap (λ (n : ℕ). (n, e.1)) (same-number e.0 k on) ∙ ap (λ (v : X). (k, v)) value)
    | inr off ↦ let rest = value-place es k x (rw off at is) in (suc rest.0, omega (arith, rest.1), rest.2)
  ]

  -- a table with an object in the place of the one of its number
  pub with-at : (low : ℕ) (es : List (ℕ × X)) (high k : ℕ) (x : X) → IsRising low (keys_of es) high → value_at nat_eq (with_object es k x) k ≡ Some x
  with-at low es high k x rising = entry-at (without nat_eq es k) k x (nobody (value_at nat_eq (without nat_eq es k) k) (rising-gone low es high k rising))

  pub with-other : (es : List (ℕ × X)) (k j : ℕ) (x : X) → j ≢ k → value_at nat_eq (with_object es k x) j ≡ value_at nat_eq es j
  with-other es k j x apart = entry-other (without nat_eq es k) k j x apart ∙ value_at-without es k j apart

  -- what is left of a table
  pub filter-at : (kept : ℕ → Bool) (es : List (ℕ × X)) (k : ℕ) → kept k ≡ true
      → value_at nat_eq (filter (λ e. kept e.0) es) k ≡ value_at nat_eq es k
  filter-at kept [] k is = refl
  filter-at kept (e ∷ es) k is = elim (test_cases (kept e.0)) [
    | inl on ↦ rw on (ap (λ (o : Option X). if nat_eq e.0 k then Some e.1 else o) (filter-at kept es k is))
    | inr off ↦
        let other : nat_eq e.0 k ≡ false = other_key e.0 k (λ same. let never : false ≡ true = sym off ∙ ap kept same ∙ is in cc) in
        rw off (rw other (filter-at kept es k is))
  ]

  pub filter-only : (kept : ℕ → Bool) (es : List (ℕ × X)) (n : ℕ) → is_some (value_at nat_eq (filter (λ e. kept e.0) es) n) ≡ true → kept n ≡ true
  filter-only kept [] n is = cc
  filter-only kept (e ∷ es) n is = elim (test_cases (kept e.0)) [
    | inl on ↦
        let here : is_some (value_at nat_eq (e ∷ filter (λ d. kept d.0) es) n) ≡ true = rw on at is in
        elim (test_cases (nat_eq e.0 n)) [
          | inl first ↦ ap kept (sym (same-number e.0 n first)) ∙ on
          | inr later ↦ filter-only kept es n (rw later at here)
        ]
    | inr off ↦ filter-only kept es n (rw off at is)
  ]

  -- Two tables are the same if what the second has is in the first, and the first has no other numbers.
  pub rising-same : (low : ℕ) (es fs : List (ℕ × X)) (high : ℕ) → IsRising low (keys_of es) high → IsRising low (keys_of fs) high
      → ((k : ℕ) (x : X) → value_at nat_eq fs k ≡ Some x → value_at nat_eq es k ≡ Some x)
      → ((n : ℕ) → is_some (value_at nat_eq es n) ≡ true → is_some (value_at nat_eq fs n) ≡ true) → es ≡ fs
  rising-same low [] [] high a b there only = refl
  rising-same low [] (f ∷ fs) high a b there only =
      let never : None ≡ Some f.1 = there f.0 f.1 (rw (same_key f.0) refl) in cc
  rising-same low (e ∷ es) [] high a b there only =
      let never : is_some {T = X} None ≡ true = only e.0 (rw (same_key e.0) refl) in absurd cc
  rising-same low (e ∷ es) (f ∷ fs) high a b there only =
      let in-e : value_at nat_eq (e ∷ es) f.0 ≡ Some f.1 = there f.0 f.1 (rw (same_key f.0) refl) in
      let in-f : is_some (value_at nat_eq (f ∷ fs) e.0) ≡ true = only e.0 (rw (same_key e.0) refl) in
      let least = rising-found e.0 (e ∷ es) high f.0 (omega arith, a.1) (ap (λ (o : Option X). is_some o) in-e) in
      let most = rising-found f.0 (f ∷ fs) high e.0 (omega arith, b.1) in-f in
      let key : e.0 ≡ f.0 = omega (arith, least, most) in
      let one : nat_eq e.0 f.0 ≡ true = eq-eqb e.0 f.0 key in
      let first : Some e.1 ≡ Some f.1 = rw one at in-e in
      let value : e.1 ≡ f.1 = cc in
      let rest : es ≡ fs =
      rising-same (e.0 + 1) es fs high a.1 (subst (λ (n : ℕ). IsRising (n + 1) (keys_of fs) high) (sym key) b.1)
      (λ k x is.
      let above = rising-found (f.0 + 1) fs high k b.1 (ap (λ (o : Option X). is_some o) is) in
      let later : nat_eq f.0 k ≡ false = other_key f.0 k (λ same. omega (arith, same, above)) in
      let beyond : nat_eq e.0 k ≡ false = other_key e.0 k (λ same. omega (arith, same, key, above)) in
      let all : value_at nat_eq (f ∷ fs) k ≡ Some x = rw later is in
      rw beyond at (there k x all))
      (λ n is.
      let above = rising-found (e.0 + 1) es high n a.1 is in
      let later : nat_eq f.0 n ≡ false = other_key f.0 n (λ same. omega (arith, same, key, above)) in
      let beyond : nat_eq e.0 n ≡ false = other_key e.0 n (λ same. omega (arith, same, above)) in
      let all : is_some (value_at nat_eq (e ∷ es) n) ≡ true = rw beyond is in
      rw later at (only n all)) in
      ap (λ (n : ℕ). (n, e.1) ∷ es) key ∙ ap (λ (x : X). (f.0, x) ∷ es) value ∙ ap (λ (l : List (ℕ × X)). f ∷ l) rest

-- ---- objects are taken out of a heap, one after another

module _ (kept : ℕ → Bool) where
  abbrev pub IsKeptOne : Placed → Type 0
  IsKeptOne p = kept p.number ≡ true

  pub all-kept : (ps : List Placed) → All IsKeptOne ps → filter (λ p. kept p.number) ps ≡ ps
  all-kept [] all = refl
  all-kept (p ∷ ps) all = rw (All-head IsKeptOne p ps all) (ap (λ (l : List Placed). p ∷ l) (all-kept ps (All-tail IsKeptOne p ps all)))

  module _ (n : ℕ) (away : kept n ≡ false) where
    gone : (p : Placed) → kept p.number ≡ true → not (nat_eq p.number n) ≡ true
    gone p on = ap not (other_key p.number n (λ same. let never : true ≡ false = sym on ∙ ap kept same ∙ away in cc))

    pub left-same : (ps : List Placed) → filter (λ p. kept p.number) (filter (λ p. not (nat_eq p.number n)) ps) ≡ filter (λ p. kept p.number) ps
    left-same [] = refl
    left-same (p ∷ ps) = elim (test_cases (kept p.number)) [
      | inl on ↦ rw (gone p on) (rw on (ap (λ (l : List Placed). p ∷ l) (left-same ps)))
      | inr off ↦ elim (test_cases (not (nat_eq p.number n))) [
        | inl stays ↦ rw stays (rw off (left-same ps))
        | inr goes ↦ rw goes (rw off (left-same ps))
      ]
    ]

    pub left-first : (i : ℕ) (ps : List Placed) → All IsKeptOne (take i ps) → All IsKeptOne (take i (filter (λ p. not (nat_eq p.number n)) ps))
    left-first zero ps all = All-nil IsKeptOne
    left-first (suc i) [] all = All-nil IsKeptOne
    left-first (suc i) (p ∷ ps) all =
        let first : kept p.number ≡ true = All-head IsKeptOne p (take i ps) all in
        rw (gone p first) (All-cons IsKeptOne p (take i (filter (λ q. not (nat_eq q.number n)) ps)) first
        (left-first i ps (All-tail IsKeptOne p (take i ps) all)))

  pub left-most : (n : ℕ) (ps : List Placed) → length (filter (λ p. not (nat_eq p.number n)) ps) ≤ length ps
  left-most n [] = omega arith
  left-most n (p ∷ ps) =
      let rest = left-most n ps in
      elim (test_cases (not (nat_eq p.number n))) [ inl stays ↦ rw stays (omega (arith, rest)) | inr goes ↦ rw goes (omega (arith, rest)) ]

  pub left-fewer : (n i : ℕ) (ps : List Placed) (d : Placed) → i < length ps → (get_or ps i d).number ≡ n
      → length (filter (λ p. not (nat_eq p.number n)) ps) < length ps
  left-fewer n i [] d less is = absurd (omega (arith, less))
  left-fewer n zero (p ∷ ps) d less is =
      let goes : not (nat_eq p.number n) ≡ false = ap not (eq-eqb p.number n is) in
      rw goes (omega (arith, left-most n ps))
  left-fewer n (suc i) (p ∷ ps) d less is =
      let rest = left-fewer n i ps d (omega (arith, less)) is in
      elim (test_cases (not (nat_eq p.number n))) [ inl stays ↦ rw stays (omega (arith, rest)) | inr goes ↦ rw goes (omega (arith, rest)) ]
