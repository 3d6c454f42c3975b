-- Numbers that rise: one of them is found by halving, and the last decides what may come after it.
use Rattle.std.proofs.Common.{◌≡◌, ℕ, zero, suc, ◌+◌, ◌-◌, ◌<◌, ◌≤◌, Bool, true, false, List, [], ◌∷◌, length, map, get_or, refl, ap, ◌∙◌, inl, inr, arith}
use Rattle.std.specs.Prelude.{nat_eq, nat_lt, if◌then◌else◌, Some, None, position, slice_get}
use Rattle.std.specs.List.{position_or_len}
use Rattle.std.specs.List.Sorted.{IsNonDecreasingBy}
use Rattle.std.proofs.lemmas.Bool.{cases_Bool, eq-eqb, ne_eqb}
use Rattle.std.proofs.lemmas.Bool.Decides.{nat_tests}
use Rattle.std.proofs.lemmas.List.{get_or_default}
use Rattle.std.proofs.lemmas.List.Sums.{position_or_len_is}
use Rattle.ipc_base.specs.Table.{keys_of, IsRising}

-- where no element passes a test, there is no first one
none_passes : {A : Type 0} (p : A → Bool) (xs : List A) → ((k : ℕ) (d : A) → k < length xs → p (get_or xs k d) ≡ false) → position p xs ≡ None
none_passes p [] none = refl
none_passes p (x ∷ xs) none =
    let last : position_or_len p (x ∷ xs) ≡ length (x ∷ xs) =
    position_or_len_is p (x ∷ xs) (length (x ∷ xs)) x (omega arith) (λ k lt. none k x lt) (λ lt. absurd (omega (arith, lt))) in
    let past : nat_lt (length (x ∷ xs)) (length (x ∷ xs)) ≡ false = grind (arith, nat_tests) in
    ap (λ (k : ℕ). if nat_lt k (length (x ∷ xs)) then Some k else None) last ∙ ap (λ (b : Bool). if b then Some (length (x ∷ xs)) else None) past

-- each element has a number
module _ {A X : Type 0} (row : A → ℕ × X) where
  abbrev number : A → ℕ
  number a = (row a).0

  number-above : (low : ℕ) (xs : List A) (high k : ℕ) (d : A) → IsRising low (keys_of (map row xs)) high → k < length xs → low ≤ number (get_or xs k d)
  number-above low [] high k d rising within = absurd (omega (arith, within))
  number-above low (x ∷ xs) high zero d rising within = rising.0
  number-above low (x ∷ xs) high (suc k) d rising within =
      omega (arith, rising.0, number-above (number x + 1) xs high k d rising.1 (omega (arith, within)))

  -- they do not fall
  pub rising-up : (low : ℕ) (xs : List A) (high : ℕ) → IsRising low (keys_of (map row xs)) high → IsNonDecreasingBy (λ (a : A). (row a).0) xs
  rising-up low [] high rising i j d le lt = absurd (omega (arith, lt))
  rising-up low (x ∷ xs) high rising zero zero d le lt = omega arith
  rising-up low (x ∷ xs) high rising zero (suc j) d le lt =
      omega (arith, number-above (number x + 1) xs high j d rising.1 (omega (arith, lt)))
  rising-up low (x ∷ xs) high rising (suc i) zero d le lt = absurd (omega (arith, le))
  rising-up low (x ∷ xs) high rising (suc i) (suc j) d le lt =
      rising-up (number x + 1) xs high rising.1 i j d (omega (arith, le)) (omega (arith, lt))

  first-place : (low : ℕ) (xs : List A) (high k n : ℕ) (d : A) → IsRising low (keys_of (map row xs)) high → k < length xs
      → n ≡ number (get_or xs k d) → position_or_len (λ (a : A). nat_eq (row a).0 n) xs ≡ k
  first-place low [] high k n d rising within is = absurd (omega (arith, within))
  first-place low (x ∷ xs) high zero n d rising within is = rw is (rw (eq-eqb (number x) (number x) refl) refl)
  first-place low (x ∷ xs) high (suc k) n d rising within is =
      let above = number-above (number x + 1) xs high k d rising.1 (omega (arith, within)) in
      let other : nat_eq (number x) n ≡ false = ne_eqb (number x) n (λ same. omega (arith, same, is, above)) in
      rw other (ap (λ (m : ℕ). 1 + m) (first-place (number x + 1) xs high k n d rising.1 (omega (arith, within)) is) ∙ omega arith)

  -- the element at a place is the first that has its number
  pub first-at : (xs : List A) (place high : ℕ) (was : A) → IsRising 0 (keys_of (map row xs)) high → place < length xs
      → was ≡ get_or xs place was → position (λ (a : A). nat_eq (row a).0 (row was).0) xs ≡ Some place
  first-at xs place high was rising within is =
      let first = first-place 0 xs high place (number was) was rising within (ap number is) in
      let inside : nat_lt place (length xs) ≡ true = grind (arith, nat_tests) in
      ap (λ (k : ℕ). if nat_lt k (length xs) then Some k else None) first ∙ ap (λ (b : Bool). if b then Some place else None) inside

  -- a number that none has: those before a place have smaller ones, and those from there on greater ones
  pub nowhere-at : (xs : List A) (place n : ℕ) → ((k : ℕ) (d : A) → k < place → (row (get_or xs k d)).0 < n)
      → ((k : ℕ) (d : A) → place ≤ k → k < length xs → n < (row (get_or xs k d)).0) → position (λ (a : A). nat_eq (row a).0 n) xs ≡ None
  nowhere-at xs place n below above =
      let other = λ (k : ℕ) (d : A) (within : k < length xs). ne_eqb (number (get_or xs k d)) n (λ same.
      elim (cases_Bool (nat_lt k place)) [
        | inl before ↦ let lt = below k d (grind (arith, nat_tests, before)) in omega (arith, lt, same)
        | inr beyond ↦ let lt = above k d (grind (arith, nat_tests, beyond)) within in omega (arith, lt, same)
      ]) in
      none_passes (λ (a : A). nat_eq (row a).0 n) xs other

  -- at the first place whose number is not smaller stands one that is greater: none has the number
  pub passed-over : (xs : List A) (place n high : ℕ) (was : A) → IsRising 0 (keys_of (map row xs)) high → was ≡ get_or xs place was
      → ((k : ℕ) (d : A) → k < place → (row (get_or xs k d)).0 < n) → n < (row was).0 → position (λ (a : A). nat_eq (row a).0 n) xs ≡ None
  passed-over xs place n high was rising is below here =
      nowhere-at xs place n below
      (λ k d past within. omega
      (arith, here, rising-up 0 xs high rising place k was past within, ap number is, ap number (get_or_default xs k was d within)))

  -- ---- the last of them

  last_place : (xs : List A) (a : A) → Some a ≡ slice_get xs (length xs - 1) → length xs - 1 + 1 ≡ length xs
  last_place [] a found = absurd cc
  last_place (x ∷ xs) a found = omega arith

  below_at : (low i : ℕ) (xs : List A) (a : A) (n high : ℕ) → Some a ≡ slice_get xs i → i + 1 ≡ length xs
      → IsRising low (keys_of (map row xs)) high → (row a).0 < n → IsRising low (keys_of (map row xs)) n
  below_at low i [] a n high found last rising lt = absurd cc
  below_at low zero (x ∷ []) a n high found last rising lt = let same : a ≡ x = cc in (rising.0, omega (arith, ap number same, lt))
  below_at low (suc i) (x ∷ []) a n high found last rising lt = absurd cc
  below_at low zero (x ∷ y ∷ xs) a n high found last rising lt = absurd (omega (arith, last))
  below_at low (suc i) (x ∷ y ∷ xs) a n high found last rising lt =
      (rising.0, below_at (number x + 1) i (y ∷ xs) a n high found (omega (arith, last)) rising.1 lt)

  at_below : (low i : ℕ) (xs : List A) (a : A) (n : ℕ) → Some a ≡ slice_get xs i → i + 1 ≡ length xs
      → IsRising low (keys_of (map row xs)) n → (row a).0 < n
  at_below low i [] a n found last rising = absurd cc
  at_below low zero (x ∷ []) a n found last rising = let same : a ≡ x = cc in omega (arith, ap number same, rising.1)
  at_below low (suc i) (x ∷ []) a n found last rising = absurd cc
  at_below low zero (x ∷ y ∷ xs) a n found last rising = absurd (omega (arith, last))
  at_below low (suc i) (x ∷ y ∷ xs) a n found last rising = at_below (number x + 1) i (y ∷ xs) a n found (omega (arith, last)) rising.1

  -- its number decides what can come after
  pub last_below : (xs : List A) (a : A) (n high : ℕ) → Some a ≡ slice_get xs (length xs - 1)
      → IsRising 0 (keys_of (map row xs)) high → (row a).0 < n → IsRising 0 (keys_of (map row xs)) n
  last_below xs a n high found = below_at 0 (length xs - 1) xs a n high found (last_place xs a found)

  pub below_last : (xs : List A) (a : A) (n : ℕ) → Some a ≡ slice_get xs (length xs - 1)
      → IsRising 0 (keys_of (map row xs)) n → (row a).0 < n
  below_last xs a n found = at_below 0 (length xs - 1) xs a n found (last_place xs a found)
