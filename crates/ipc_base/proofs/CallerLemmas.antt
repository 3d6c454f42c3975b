-- What the crates above cite of fields side by side, of tables, and of numbers that rise.
use Rattle.std.proofs.Common.{◌≡◌, ◌≢◌, ℕ, zero, suc, ◌+◌, ◌<◌, ◌≤◌, Bool, true, false, cond, ◌⊎◌, inl, inr, List, [], ◌∷◌, ◌++◌, length}
use Rattle.std.proofs.Common.{map, find, get_or, set, is_some, Option, Some, None, refl, sym, ap, subst, ◌∙◌, arith}
use Rattle.std.specs.Prelude.{nat_eq, nat_lt, if◌then◌else◌, All, ◌||◌, option_map}
use Rattle.std.specs.List.{list_any, remove, position, position_or_len, IsDistinct, AllByRecursion}
use Rattle.std.specs.Cmp.{IsEquivalence}
use Rattle.std.proofs.lemmas.Bool.{ltb-false, eqb-true, eq-eqb}
use Rattle.std.proofs.lemmas.Bool.Decides.{nat_tests}
use Rattle.std.proofs.lemmas.List.Elements.{All-cons, All-head, All-tail}
use Rattle.std.proofs.lemmas.List.Quantifiers.{position-Some}
use Rattle.std.proofs.lemmas.List.Sums.{fails_before_first}
use Rattle.std.proofs.lemmas.Map.Keys.{IsDistinct-head, IsDistinct-tail, IsDistinct-cons}
use Rattle.ipc_base.specs.Table.{value_at, with_value, without, with_entry, keys_of, seen_as, EachValue, ArePaired, IsRising}
use Rattle.std.specs.List.{flat_map}
use Rattle.std.proofs.lemmas.Grind.{flat_map-append}
use Rattle.std.proofs.lemmas.List.{append_assoc, append-nil}
pub use Rattle.ipc_base.proofs.Puts.{puts_both, puts_room, puts_more, puts_next}
pub use Rattle.ipc_base.proofs.Numbers.{AreBytes, bytes-all, bytes-take, bytes-drop}
pub use Rattle.ipc_base.proofs.Numbers.{Found, Got, number_got, number_known, number_one, length-number, read_below}
pub use Rattle.ipc_base.proofs.Numbers.{number32_got, number32_known, number64_got, number64_known}
pub use Rattle.ipc_base.proofs.Numbers.{length-values, values_again, values_back, values_range}
pub use Rattle.ipc_base.proofs.Rising.{rising-up, first-at, nowhere-at, passed-over, last_below, below_last}
pub use Rattle.ipc_base.proofs.FieldLists.{fields_one, listed, listed-drop, length-fit, numbers_are}

-- ---- a table kept as a list of entries, each seen as a row of a key and a value

-- an item stands at its own place whatever stands in for a missing one
get_or_self : {A : Type 0} (xs : List A) (i : ℕ) (d : A) → i < length xs → get_or xs i d ≡ get_or xs i (get_or xs i d)
get_or_self [] i d within = absurd (omega arith)
get_or_self (x ∷ xs) zero d within = refl
get_or_self (x ∷ xs) (suc i) d within = get_or_self xs i d (omega arith)

-- an option that a test left empty
not_some : (b : Bool) (n : ℕ) → cond b (Some n) None ≡ None → b ≡ false
not_some true n e = cc
not_some false n e = refl

module _ {A K X : Type 0} (row : A → K × X) (same : K → K → Bool) (k : K) where
  abbrev pub is_at : A → Bool
  is_at a = same (row a).0 k

  first_value : (xs : List A) (i : ℕ) (d : A) → i < length xs → is_at (get_or xs i d) ≡ true
      → ((j : ℕ) → j < i → is_at (get_or xs j d) ≡ false) → value_at same (map row xs) k ≡ Some (row (get_or xs i d)).1
  first_value [] i d within here before = absurd (omega arith)
  first_value (x ∷ xs) zero d within here before = rw here refl
  first_value (x ∷ xs) (suc i) d within here before =
      let other : is_at x ≡ false = before 0 (omega arith) in
      rw other (first_value xs i d (omega arith) here (λ j h. before (suc j) (omega arith)))

  valueless : (xs : List A) → ((j : ℕ) (d : A) → j < length xs → is_at (get_or xs j d) ≡ false) → value_at same (map row xs) k ≡ None
  valueless [] before = refl
  valueless (x ∷ xs) before =
      let other : is_at x ≡ false = before 0 x (omega arith) in
      rw other (valueless xs (λ j d h. before (suc j) d (omega arith)))

  first_set : (xs : List A) (i : ℕ) (d b : A) → i < length xs → is_at (get_or xs i d) ≡ true
      → ((j : ℕ) → j < i → is_at (get_or xs j d) ≡ false) → (row b).0 ≡ (row (get_or xs i d)).0
      → map row (set xs i b) ≡ with_value same (map row xs) k (row b).1
  first_set [] i d b within here before key = absurd (omega arith)
  first_set (x ∷ xs) zero d b within here before key = rw here (ap (λ (j : K). (j, (row b).1) ∷ map row xs) key)
  first_set (x ∷ xs) (suc i) d b within here before key =
      let other : is_at x ≡ false = before 0 (omega arith) in
      rw other (ap (λ (ys : List (K × X)). row x ∷ ys) (first_set xs i d b (omega arith) here (λ j h. before (suc j) (omega arith)) key))

  first_find : (xs : List A) (i : ℕ) (d : A) → i < length xs → is_at (get_or xs i d) ≡ true
      → ((j : ℕ) → j < i → is_at (get_or xs j d) ≡ false) → find is_at xs ≡ Some (get_or xs i d)
  first_find [] i d within here before = absurd (omega arith)
  first_find (x ∷ xs) zero d within here before = rw here refl
  first_find (x ∷ xs) (suc i) d within here before =
      let other : is_at x ≡ false = before 0 (omega arith) in
      rw other (first_find xs i d (omega arith) here (λ j h. before (suc j) (omega arith)))

  no_find : (xs : List A) → ((j : ℕ) (d : A) → j < length xs → is_at (get_or xs j d) ≡ false) → find is_at xs ≡ None
  no_find [] before = refl
  no_find (x ∷ xs) before =
      let other : is_at x ≡ false = before 0 x (omega arith) in
      rw other (no_find xs (λ j d h. before (suc j) d (omega arith)))

  first_find_set : (xs : List A) (i : ℕ) (d b : A) → i < length xs → is_at b ≡ true
      → ((j : ℕ) → j < i → is_at (get_or xs j d) ≡ false) → find is_at (set xs i b) ≡ Some b
  first_find_set [] i d b within here before = absurd (omega arith)
  first_find_set (x ∷ xs) zero d b within here before = rw here refl
  first_find_set (x ∷ xs) (suc i) d b within here before =
      let other : is_at x ≡ false = before 0 (omega arith) in
      rw other (first_find_set xs i d b (omega arith) here (λ j h. before (suc j) (omega arith)))

  -- the value at the place that a search found
  pub value_at_place : (xs : List A) (i : ℕ) (a : A) → position is_at xs ≡ Some i → a ≡ get_or xs i a
      → value_at same (map row xs) k ≡ Some (row a).1
  value_at_place xs i a found is =
      let first = position-Some is_at xs i a found in
      first_value xs i a first.0 first.1 first.2 ∙ ap (λ (b : A). Some (row b).1) (sym is)

  -- before value where a search found before place
  pub value_nowhere : (xs : List A) → position is_at xs ≡ None → value_at same (map row xs) k ≡ None
  value_nowhere xs none =
      let late : length xs ≤ position_or_len is_at xs = ltb-false _ _ (not_some _ _ none) in
      valueless xs (λ j d h. fails_before_first is_at xs j d (omega arith))

  -- another value at the place that a search found
  pub set_at_place : (xs : List A) (i : ℕ) (a b : A) → position is_at xs ≡ Some i → a ≡ get_or xs i a → (row b).0 ≡ (row a).0
      → map row (set xs i b) ≡ with_value same (map row xs) k (row b).1
  set_at_place xs i a b found is key =
      let first = position-Some is_at xs i a found in
      first_set xs i a b first.0 first.1 first.2 (key ∙ ap (λ (c : A). (row c).0) is)

  first_without : (xs : List A) (i : ℕ) (d : A) → i < length xs → is_at (get_or xs i d) ≡ true
      → ((j : ℕ) → j < i → is_at (get_or xs j d) ≡ false) → map row (remove xs i) ≡ without same (map row xs) k
  first_without [] i d within here before = absurd (omega arith)
  first_without (x ∷ xs) zero d within here before = rw here refl
  first_without (x ∷ xs) (suc i) d within here before =
      let other : is_at x ≡ false = before 0 (omega arith) in
      rw other (ap (λ (ys : List (K × X)). row x ∷ ys) (first_without xs i d (omega arith) here (λ j h. before (suc j) (omega arith))))

  no_without : (xs : List A) → ((j : ℕ) (d : A) → j < length xs → is_at (get_or xs j d) ≡ false) → without same (map row xs) k ≡ map row xs
  no_without [] before = refl
  no_without (x ∷ xs) before =
      let other : is_at x ≡ false = before 0 x (omega arith) in
      rw other (ap (λ (ys : List (K × X)). row x ∷ ys) (no_without xs (λ j d h. before (suc j) d (omega arith))))

  -- the key taken out at the place that a search found
  pub remove_at_place : (xs : List A) (i : ℕ) (d : A) → position is_at xs ≡ Some i → map row (remove xs i) ≡ without same (map row xs) k
  remove_at_place xs i d found =
      let first = position-Some is_at xs i d found in
      first_without xs i d first.0 first.1 first.2

  -- no key to take out where a search found no place
  pub without_nowhere : (xs : List A) → position is_at xs ≡ None → without same (map row xs) k ≡ map row xs
  without_nowhere xs none =
      let late : length xs ≤ position_or_len is_at xs = ltb-false _ _ (not_some _ _ none) in
      no_without xs (λ j d h. fails_before_first is_at xs j d (omega arith))

-- ---- entries that come, change or go

-- what holds in both cases of a test holds of the choice
pub choice : {A : Type 0} (P : A → Type 0) (b : Bool) (x y : A) → (b ≡ true → P x) → (b ≡ false → P y) → P (if b then x else y)
choice P true x y first second = first refl
choice P false x y first second = second refl

not_true : (b : Bool) → (b ≡ true → ⊥) → b ≡ false
not_true true never = absurd (never refl)
not_true false never = refl

pub rising-weaker : (low : ℕ) (ns : List ℕ) (high further : ℕ) → high ≤ further → IsRising low ns high → IsRising low ns further
rising-weaker low [] high further le h = omega arith
rising-weaker low (n ∷ ns) high further le h = (h.0, rising-weaker (n + 1) ns high further le h.1)

pub rising-lower : (least low : ℕ) (ns : List ℕ) (high : ℕ) → least ≤ low → IsRising low ns high → IsRising least ns high
rising-lower least low [] high le h = omega arith
rising-lower least low (n ∷ ns) high le h = (omega arith, h.1)

pub rising-push : (low : ℕ) (ns : List ℕ) (high : ℕ) → IsRising low ns high → IsRising low (ns ++ high ∷ []) (high + 1)
rising-push low [] high h = (h, omega arith)
rising-push low (n ∷ ns) high h = (h.0, rising-push (n + 1) ns high h.1)

pub rising-bounds : (low : ℕ) (ns : List ℕ) (high : ℕ) → IsRising low ns high → low ≤ high
rising-bounds low [] high h = h
rising-bounds low (n ∷ ns) high h = let rest = rising-bounds (n + 1) ns high h.1 in omega arith

module _ {X : Type 0} where
  pub rising-without : (low : ℕ) (es : List (ℕ × X)) (high k : ℕ) → IsRising low (keys_of es) high → IsRising low (keys_of (without nat_eq es k)) high
  rising-without low [] high k h = h
  rising-without low (e ∷ es) high k h =
      choice (λ (t : List (ℕ × X)). IsRising low (keys_of t) high) (nat_eq e.0 k) es (e ∷ without nat_eq es k)
      (λ _. rising-lower low (e.0 + 1) (keys_of es) high (omega arith) h.1)
      (λ _. (h.0, rising-without (e.0 + 1) es high k h.1))

  within_found : (b : Bool) (low high k : ℕ) (e : ℕ × X) (r : Option X) → nat_eq e.0 k ≡ b → low ≤ e.0 → e.0 + 1 ≤ high
      → (is_some r ≡ true → (e.0 + 1 ≤ k) × (k < high)) → is_some (if b then Some e.1 else r) ≡ true → (low ≤ k) × (k < high)
  within_found true low high k e r is least most rest h = grind (arith, nat_tests)
  within_found false low high k e r is least most rest h = let there = rest h in (omega arith, there.1)

  -- a key that has a value lies in the range
  pub rising-found : (low : ℕ) (es : List (ℕ × X)) (high k : ℕ) → IsRising low (keys_of es) high
      → is_some (value_at nat_eq es k) ≡ true → (low ≤ k) × (k < high)
  rising-found low [] high k h there = cc
  rising-found low (e ∷ es) high k h there =
      within_found (nat_eq e.0 k) low high k e (value_at nat_eq es k) refl h.0 (rising-bounds (e.0 + 1) (keys_of es) high h.1)
      (rising-found (e.0 + 1) es high k h.1) there

  -- a key below the range has no value
  pub rising-missing : (low : ℕ) (es : List (ℕ × X)) (high k : ℕ) → IsRising low (keys_of es) high → k < low
      → is_some (value_at nat_eq es k) ≡ false
  rising-missing low es high k h below =
      not_true _ (λ there. let range = rising-found low es high k h there in omega arith)

  -- a key that was taken out has no value
  pub rising-gone : (low : ℕ) (es : List (ℕ × X)) (high k : ℕ) → IsRising low (keys_of es) high
      → is_some (value_at nat_eq (without nat_eq es k) k) ≡ false
  rising-gone low [] high k h = refl
  rising-gone low (e ∷ es) high k h =
      choice (λ (t : List (ℕ × X)). is_some (value_at nat_eq t k) ≡ false) (nat_eq e.0 k) es (e ∷ without nat_eq es k)
      (λ is. rising-missing (e.0 + 1) es high k h.1 (grind (arith, nat_tests)))
      (λ is. rw is (rising-gone (e.0 + 1) es high k h.1))

  -- the other keys keep their values
  pub value_at-without : (es : List (ℕ × X)) (k j : ℕ) → j ≢ k → value_at nat_eq (without nat_eq es k) j ≡ value_at nat_eq es j
  value_at-without [] k j other = refl
  value_at-without (e ∷ es) k j other =
      choice (λ (t : List (ℕ × X)). value_at nat_eq t j ≡ value_at nat_eq (e ∷ es) j) (nat_eq e.0 k) es (e ∷ without nat_eq es k)
      (λ is. let apart : nat_eq e.0 j ≡ false = grind (arith, nat_tests) in rw apart refl)
      (λ is. ap (λ (r : Option X). if nat_eq e.0 j then Some e.1 else r) (value_at-without es k j other))

module _ {K X : Type 0} (same : K → K → Bool) where
  pub length-without : (es : List (K × X)) (k : K) → length (without same es k) ≤ length es
  length-without [] k = omega arith
  length-without (e ∷ es) k =
      let rest = length-without es k in
      choice (λ (t : List (K × X)). length t ≤ length (e ∷ es)) (same e.0 k) es (e ∷ without same es k) (λ _. omega arith) (λ _. omega arith)

  pub length-with_value : (es : List (K × X)) (k : K) (x : X) → length (with_value same es k x) ≡ length es
  length-with_value [] k x = refl
  length-with_value (e ∷ es) k x =
      choice (λ (t : List (K × X)). length t ≡ length (e ∷ es)) (same e.0 k) ((e.0, x) ∷ es) (e ∷ with_value same es k x)
      (λ _. refl) (λ _. ap suc (length-with_value es k x))

  pub keys_of-with_value : (es : List (K × X)) (k : K) (x : X) → keys_of (with_value same es k x) ≡ keys_of es
  keys_of-with_value [] k x = refl
  keys_of-with_value (e ∷ es) k x =
      choice (λ (t : List (K × X)). keys_of t ≡ keys_of (e ∷ es)) (same e.0 k) ((e.0, x) ∷ es) (e ∷ with_value same es k x)
      (λ _. refl) (λ _. ap (λ ks. e.0 ∷ ks) (keys_of-with_value es k x))

  pub All-with_value : (Q : X → Type 0) (es : List (K × X)) (k : K) (x : X) → All (λ (e : K × X). Q e.1) es → Q x
      → All (λ (e : K × X). Q e.1) (with_value same es k x)
  All-with_value Q [] k x h q = h
  All-with_value Q (e ∷ es) k x h q =
      let P : K × X → Type 0 = λ (e : K × X). Q e.1 in
      choice (All P) (same e.0 k) ((e.0, x) ∷ es) (e ∷ with_value same es k x)
      (λ _. All-cons P (e.0, x) es q (All-tail P e es h))
      (λ _. All-cons P e (with_value same es k x) (All-head P e es h) (All-with_value Q es k x (All-tail P e es h) q))

  found_is : (Q : X → Type 0) (b : Bool) (v x : X) (r : Option X) → (if b then Some v else r) ≡ Some x → Q v → (r ≡ Some x → Q x) → Q x
  found_is Q true v x r is here rest = let e : v ≡ x = cc in subst Q e here
  found_is Q false v x r is here rest = rest is

  pub All-value_at : (Q : X → Type 0) (es : List (K × X)) (k : K) (x : X) → All (λ (e : K × X). Q e.1) es → value_at same es k ≡ Some x → Q x
  All-value_at Q [] k x h is = cc
  All-value_at Q (e ∷ es) k x h is =
      let P : K × X → Type 0 = λ (e : K × X). Q e.1 in
      found_is Q (same e.0 k) e.1 x (value_at same es k) is (All-head P e es h) (All-value_at Q es k x (All-tail P e es h))

  either : (b : Bool) (v w : X) (r : Option X) → is_some (if b then Some v else r) ≡ is_some (if b then Some w else r)
  either true v w r = refl
  either false v w r = refl

  -- the same keys have values
  pub is_some-with_value : (es : List (K × X)) (k j : K) (x : X) → is_some (value_at same (with_value same es k x) j) ≡ is_some (value_at same es j)
  is_some-with_value [] k j x = refl
  is_some-with_value (e ∷ es) k j x =
      choice (λ (t : List (K × X)). is_some (value_at same t j) ≡ is_some (value_at same (e ∷ es) j)) (same e.0 k) ((e.0, x) ∷ es) (e ∷ with_value same es k x)
      (λ _. either (same e.0 j) x e.1 (value_at same es j))
      (λ _. elim (same e.0 j) as (λ b. is_some (if b then Some e.1 else value_at same (with_value same es k x) j) ≡ is_some
      (if b then Some e.1 else value_at same es j))
      [ true ↦ refl | false ↦ is_some-with_value es k j x ])

  some_kept : (b : Bool) (v : X) (r more : Option X) → is_some (if b then Some v else r) ≡ true → (is_some r ≡ true → is_some more ≡ true)
      → is_some (if b then Some v else more) ≡ true
  some_kept true v r more h rest = refl
  some_kept false v r more h rest = rest h

  -- a key that has a value has one when entries come
  pub is_some-append : (es more : List (K × X)) (j : K) → is_some (value_at same es j) ≡ true → is_some (value_at same (es ++ more) j) ≡ true
  is_some-append [] more j h = cc
  is_some-append (e ∷ es) more j h =
      some_kept (same e.0 j) e.1 (value_at same es j) (value_at same (es ++ more) j) h (is_some-append es more j)

  module _ (laws : IsEquivalence same) where
    -- the key that came has a value
    pub is_some-push : (es : List (K × X)) (k : K) (x : X) → is_some (value_at same (es ++ (k, x) ∷ []) k) ≡ true
    is_some-push [] k x = rw (laws.refl k) refl
    is_some-push (e ∷ es) k x =
        choice (λ (o : Option X). is_some o ≡ true) (same e.0 k) (Some e.1) (value_at same (es ++ (k, x) ∷ []) k) (λ _. refl) (λ _. is_some-push es k x)

    none_among : (b a : Bool) (v : X) (r : Option X) → (if b then Some v else r) ≡ None → (r ≡ None → a ≡ false) → (b || a) ≡ false
    none_among true a v r is rest = cc
    none_among false a v r is rest = rest is

    -- a key with no value is none of the keys
    pub no_key : (es : List (K × X)) (k : K) → value_at same es k ≡ None → list_any (same k) (keys_of es) ≡ false
    no_key [] k is = refl
    no_key (e ∷ es) k is =
        rw (laws.symm k e.0) (none_among (same e.0 k) (list_any (same k) (keys_of es)) e.1 (value_at same es k) is (no_key es k))

-- ---- tables by number

pub same_key : (n : ℕ) → nat_eq n n ≡ true
same_key n = grind (arith, nat_tests)

pub other_key : (n k : ℕ) → n ≢ k → nat_eq n k ≡ false
other_key n k apart = grind (arith, nat_tests)

module _ {X : Type 0} where
  at-with_by : (e : ℕ × X) (es : List (ℕ × X)) (k : ℕ) (x v : X) (b : Bool) → nat_eq e.0 k ≡ b → value_at nat_eq (e ∷ es) k ≡ Some v
      → (value_at nat_eq es k ≡ Some v → value_at nat_eq (with_value nat_eq es k x) k ≡ Some x) → value_at nat_eq (with_value nat_eq (e ∷ es) k x) k ≡ Some x
  at-with_by e es k x v true t is rest = rw t (rw t refl)
  at-with_by e es k x v false t is rest = rw t (rw t (rest (rw t at is)))

  -- a value that was put is there
  pub at-with : (es : List (ℕ × X)) (k : ℕ) (x v : X) → value_at nat_eq es k ≡ Some v → value_at nat_eq (with_value nat_eq es k x) k ≡ Some x
  at-with [] k x v is = cc
  at-with (e ∷ es) k x v is = at-with_by e es k x v (nat_eq e.0 k) refl is (at-with es k x v)

  other-with_by : (e : ℕ × X) (es : List (ℕ × X)) (k j : ℕ) (x : X) (b : Bool) → j ≢ k → nat_eq e.0 k ≡ b
      → value_at nat_eq (with_value nat_eq es k x) j ≡ value_at nat_eq es j → value_at nat_eq (with_value nat_eq (e ∷ es) k x) j ≡ value_at nat_eq (e ∷ es) j
  other-with_by e es k j x true apart t rest =
      let missed : nat_eq e.0 j ≡ false = grind (arith, nat_tests) in
      rw t (rw missed refl)
  other-with_by e es k j x false apart t rest = rw t (ap (λ (r : Option X). if nat_eq e.0 j then Some e.1 else r) rest)

  -- the other keys keep their values
  pub other-with : (es : List (ℕ × X)) (k j : ℕ) (x : X) → j ≢ k → value_at nat_eq (with_value nat_eq es k x) j ≡ value_at nat_eq es j
  other-with [] k j x apart = refl
  other-with (e ∷ es) k j x apart = other-with_by e es k j x (nat_eq e.0 k) apart refl (other-with es k j x apart)

  twice_by : (e : ℕ × X) (es : List (ℕ × X)) (k : ℕ) (x y : X) (b : Bool) → nat_eq e.0 k ≡ b
      → with_value nat_eq (with_value nat_eq es k x) k y ≡ with_value nat_eq es k y
      → with_value nat_eq (with_value nat_eq (e ∷ es) k x) k y ≡ with_value nat_eq (e ∷ es) k y
  twice_by e es k x y true t rest = rw t (rw t refl)
  twice_by e es k x y false t rest = rw t (rw t (ap (λ (ts : List (ℕ × X)). e ∷ ts) rest))

  -- of two values that are put at a key the second stays
  pub twice : (es : List (ℕ × X)) (k : ℕ) (x y : X) → with_value nat_eq (with_value nat_eq es k x) k y ≡ with_value nat_eq es k y
  twice [] k x y = refl
  twice (e ∷ es) k x y = twice_by e es k x y (nat_eq e.0 k) refl (twice es k x y)

  own_by : (e : ℕ × X) (es : List (ℕ × X)) (k : ℕ) (x : X) (b : Bool) → nat_eq e.0 k ≡ b → value_at nat_eq (e ∷ es) k ≡ Some x
      → (value_at nat_eq es k ≡ Some x → with_value nat_eq es k x ≡ es) → with_value nat_eq (e ∷ es) k x ≡ e ∷ es
  own_by e es k x true t is rest =
      let found : Some e.1 ≡ Some x = rw t at is in
      let same : e.1 ≡ x = cc in
      rw t (ap (λ (y : X). (e.0, y) ∷ es) (sym same))
  own_by e es k x false t is rest = rw t (ap (λ (ts : List (ℕ × X)). e ∷ ts) (rest (rw t at is)))

  -- the value that is there changes nothing
  pub own : (es : List (ℕ × X)) (k : ℕ) (x : X) → value_at nat_eq es k ≡ Some x → with_value nat_eq es k x ≡ es
  own [] k x is = cc
  own (e ∷ es) k x is = own_by e es k x (nat_eq e.0 k) refl is (own es k x)

  gone_by : (ks : List ℕ) (es : List (ℕ × X)) (k : ℕ) → ks ≡ keys_of es → AllByRecursion (λ y. nat_eq k y ≡ false) ks → value_at nat_eq es k ≡ None
  gone_by ks [] k same apart = refl
  gone_by [] (e ∷ es) k same apart = cc
  gone_by (n ∷ ks) (e ∷ es) k same apart =
      let head : n ≡ e.0 = cc in
      let rest : ks ≡ keys_of es = cc in
      let missed : nat_eq e.0 k ≡ false = grind (arith, nat_tests, apart.0) in
      rw missed (gone_by ks es k rest apart.1)

  -- a key that was taken out of distinct ones has no value
  pub gone : (es : List (ℕ × X)) (k : ℕ) → IsDistinct nat_eq (keys_of es) → value_at nat_eq (without nat_eq es k) k ≡ None
  gone [] k distinct = refl
  gone (e ∷ es) k distinct = gone_if (nat_eq e.0 k) refl (gone es k (IsDistinct-tail nat_eq e.0 (keys_of es) distinct))
    where
      gone_if : (b : Bool) → nat_eq e.0 k ≡ b → value_at nat_eq (without nat_eq es k) k ≡ None → value_at nat_eq (without nat_eq (e ∷ es) k) k ≡ None
      gone_if true t rest =
          let here : e.0 ≡ k = grind (arith, nat_tests) in
          rw t (gone_by (keys_of es) es k refl (rw here at (IsDistinct-head nat_eq e.0 (keys_of es) distinct)))
      gone_if false t rest = rw t (rw t rest)

  apart-without : (n : ℕ) (es : List (ℕ × X)) (k : ℕ) → AllByRecursion (λ y. nat_eq n y ≡ false) (keys_of es)
      → AllByRecursion (λ y. nat_eq n y ≡ false) (keys_of (without nat_eq es k))
  apart-without n [] k apart = apart
  apart-without n (e ∷ es) k apart = by_test (nat_eq e.0 k) refl (apart-without n es k apart.1)
    where
      by_test : (b : Bool) → nat_eq e.0 k ≡ b → AllByRecursion (λ y. nat_eq n y ≡ false) (keys_of (without nat_eq es k))
          → AllByRecursion (λ y. nat_eq n y ≡ false) (keys_of (without nat_eq (e ∷ es) k))
      by_test true t rest = rw t apart.1
      by_test false t rest = rw t (apart.0, rest)

  -- the keys that are left stay distinct
  pub distinct-without : (es : List (ℕ × X)) (k : ℕ) → IsDistinct nat_eq (keys_of es) → IsDistinct nat_eq (keys_of (without nat_eq es k))
  distinct-without [] k distinct = distinct
  distinct-without (e ∷ es) k distinct = by_test (nat_eq e.0 k) refl (distinct-without es k (IsDistinct-tail nat_eq e.0 (keys_of es) distinct))
    where
      by_test : (b : Bool) → nat_eq e.0 k ≡ b → IsDistinct nat_eq (keys_of (without nat_eq es k)) → IsDistinct nat_eq (keys_of (without nat_eq (e ∷ es) k))
      by_test true t rest = rw t (IsDistinct-tail nat_eq e.0 (keys_of es) distinct)
      by_test false t rest =
          rw t (IsDistinct-cons nat_eq e.0 (keys_of (without nat_eq es k)) (apart-without e.0 es k (IsDistinct-head nat_eq e.0 (keys_of es) distinct)) rest)

  -- an entry that came is found where its key was not there, and changes no other
  pub at-push : (es : List (ℕ × X)) (k : ℕ) (x : X) → value_at nat_eq es k ≡ None → value_at nat_eq (es ++ (k, x) ∷ []) k ≡ Some x
  at-push [] k x none = rw (same_key k) refl
  at-push (e ∷ es) k x none = by_test (nat_eq e.0 k) refl (at-push es k x)
    where
      by_test : (b : Bool) → nat_eq e.0 k ≡ b → (value_at nat_eq es k ≡ None → value_at nat_eq (es ++ (k, x) ∷ []) k ≡ Some x)
          → value_at nat_eq ((e ∷ es) ++ (k, x) ∷ []) k ≡ Some x
      by_test true t rest = let found : Some e.1 ≡ None = rw t at none in cc
      by_test false t rest = rw t (rest (rw t at none))

  pub other-push : (es : List (ℕ × X)) (k j : ℕ) (x : X) → j ≢ k → value_at nat_eq (es ++ (k, x) ∷ []) j ≡ value_at nat_eq es j
  other-push [] k j x apart = rw (other_key k j (λ e. apart (sym e))) refl
  other-push (e ∷ es) k j x apart = ap (λ (r : Option X). if nat_eq e.0 j then Some e.1 else r) (other-push es k j x apart)

module _ {X Y : Type 0} (f : X → Y) where
  at-map_by : (b : Bool) (v : X) (r : Option X) (s : Option Y) → s ≡ option_map f r → (if b then Some (f v) else s) ≡ option_map f (if b then Some v else r)
  at-map_by true v r s same = refl
  at-map_by false v r s same = same

  -- each value changed
  pub at-map : (es : List (ℕ × X)) (k : ℕ) → value_at nat_eq (map (λ e. (e.0, f e.1)) es) k ≡ option_map f (value_at nat_eq es k)
  at-map [] k = refl
  at-map (e ∷ es) k = at-map_by (nat_eq e.0 k) e.1 (value_at nat_eq es k) _ (at-map es k)

  pub keys-map : (es : List (ℕ × X)) → keys_of (map (λ e. (e.0, f e.1)) es) ≡ keys_of es
  keys-map [] = refl
  keys-map (e ∷ es) = ap (λ (ks : List ℕ). e.0 ∷ ks) (keys-map es)

module _ {X Y : Type 0} where
  -- tables with the same keys have values at the same keys
  pub same_keys : (es : List (ℕ × X)) (ts : List (ℕ × Y)) (k : ℕ) → keys_of es ≡ keys_of ts → is_some (value_at nat_eq es k) ≡ is_some (value_at nat_eq ts k)
  same_keys [] [] k same = refl
  same_keys [] (t ∷ ts) k same = cc
  same_keys (e ∷ es) [] k same = cc
  same_keys (e ∷ es) (t ∷ ts) k same =
      let head : e.0 ≡ t.0 = cc in
      let rest : keys_of es ≡ keys_of ts = cc in
      by_test (nat_eq t.0 k) (ap (λ (n : ℕ). nat_eq n k) head) (same_keys es ts k rest)
    where
      by_test : (b : Bool) → nat_eq e.0 k ≡ b → is_some (value_at nat_eq es k) ≡ is_some (value_at nat_eq ts k)
          → is_some (value_at nat_eq (e ∷ es) k) ≡ is_some (if b then Some t.1 else value_at nat_eq ts k)
      by_test true t rest = rw t refl
      by_test false t rest = rw t rest

-- ---- tables told apart by their keys

pub test_cases : (b : Bool) → (b ≡ true) ⊎ (b ≡ false)
test_cases true = inl refl
test_cases false = inr refl

-- a test of equal numbers is the same from both sides
pub flipped : (n m : ℕ) → nat_eq n m ≡ nat_eq m n
flipped n m =
    elim (test_cases (nat_eq n m)) [
      | inl t ↦ t ∙ sym (eq-eqb m n (sym (eqb-true n m t)))
      | inr f ↦ elim (test_cases (nat_eq m n)) [ inl t ↦ eq-eqb n m (sym (eqb-true m n t)) ∙ sym t | inr g ↦ f ∙ sym g ]
    ]

pub distinct_tail : (k : ℕ) (ks : List ℕ) → AllByRecursion (λ n. nat_eq k n ≡ false) ks → (n : ℕ) → nat_eq k n ≡ true → list_any (nat_eq n) ks ≡ false
distinct_tail k [] h n t = refl
distinct_tail k (j ∷ ks) h n t =
    let same = eqb-true k n t in
    let far : nat_eq n j ≡ false = ap (λ (i : ℕ). nat_eq i j) (sym same) ∙ h.0 in
    rw far (distinct_tail k ks h.1 n t)

-- nobody has a number at which there is no value
pub nobody : {X : Type 0} (r : Option X) → is_some r ≡ false → r ≡ None
nobody None is = refl
nobody (Some x) is = cc

module _ {X : Type 0} where
  -- another number keeps its value, by the test
  pub value_elsewhere : (es : List (ℕ × X)) (n m : ℕ) (x : X) → nat_eq n m ≡ false → value_at nat_eq (with_value nat_eq es n x) m ≡ value_at nat_eq es m
  value_elsewhere es n m x apart = other-with es n m x (λ same. let bad : nat_eq n m ≡ true = ap (λ k. nat_eq n k) same ∙ same_key n in cc)

  -- a number that is none of the keys has no value
  pub no_value : (es : List (ℕ × X)) (n : ℕ) → list_any (nat_eq n) (keys_of es) ≡ false → value_at nat_eq es n ≡ None
  no_value [] n h = refl
  no_value (e ∷ es) n h =
      elim (test_cases (nat_eq e.0 n)) [
        | inl t ↦ let u : nat_eq n e.0 ≡ true = flipped n e.0 ∙ t in let bad : true ≡ false = rw u at h in cc
        | inr f ↦ let u : nat_eq n e.0 ≡ false = flipped n e.0 ∙ f in rw f (no_value es n (rw u at h))
      ]

  -- two tables of the same keys, of which none stands twice, with the same values
  pub same_table : (es fs : List (ℕ × X)) → keys_of es ≡ keys_of fs → IsDistinct nat_eq (keys_of es)
      → ((n : ℕ) → value_at nat_eq es n ≡ value_at nat_eq fs n) → es ≡ fs
  same_table [] [] k d v = refl
  same_table [] (f ∷ fs) k d v = cc
  same_table (e ∷ es) [] k d v = cc
  same_table (e ∷ es) (f ∷ fs) k d v =
      let head : e.0 ≡ f.0 = cc in
      let keys : keys_of es ≡ keys_of fs = cc in
      let here : cond (nat_eq e.0 e.0) (Some e.1) (value_at nat_eq es e.0) ≡ cond (nat_eq f.0 e.0) (Some f.1) (value_at nat_eq fs e.0) = v e.0 in
      let one : nat_eq e.0 e.0 ≡ true = same_key e.0 in
      let other : nat_eq f.0 e.0 ≡ true = eq-eqb f.0 e.0 (sym head) in
      let first : Some e.1 ≡ Some f.1 = rw (one, other) at here in
      let value : e.1 ≡ f.1 = cc in
      let rest : (n : ℕ) → value_at nat_eq es n ≡ value_at nat_eq fs n = λ n.
      (elim (test_cases (nat_eq e.0 n)) [
        | inl t ↦
            let gone = distinct_tail e.0 (keys_of es) (IsDistinct-head nat_eq e.0 (keys_of es) d) n t in
            no_value es n gone ∙ sym (no_value fs n (subst (λ (ks : List ℕ). list_any (nat_eq n) ks ≡ false) keys gone))
        | inr f' ↦
            let f2 : nat_eq f.0 n ≡ false = ap (λ (i : ℕ). nat_eq i n) (sym head) ∙ f' in
            let at : cond (nat_eq e.0 n) (Some e.1) (value_at nat_eq es n) ≡ cond (nat_eq f.0 n) (Some f.1) (value_at nat_eq fs n) = v n in
            rw (f', f2) at at
      ]) in
      let entry : e ≡ f = ap (λ (i : ℕ). (i, e.1)) head ∙ ap (λ (x : X). (f.0, x)) value in
      ap (λ (y : ℕ × X). y ∷ es) entry ∙ ap (λ (t : List (ℕ × X)). f ∷ t) (same_table es fs keys (IsDistinct-tail nat_eq e.0 (keys_of es) d) rest)

-- ---- what each value of a table is

module _ {X : Type 0} (P : X → Type 0) where
  pub each-at : (es : List (ℕ × X)) (k : ℕ) (x : X) → EachValue P es → value_at nat_eq es k ≡ Some x → P x
  each-at [] k x each is = cc
  each-at (e ∷ es) k x each is = by_test (nat_eq e.0 k) (λ t. rw t at is) (λ f. each-at es k x each.1 (rw f at is))
    where
      by_test : (b : Bool) → (b ≡ true → Some e.1 ≡ Some x) → (b ≡ false → P x) → P x
      by_test true found other = let same : e.1 ≡ x = some_same (found refl) in subst P same each.0
        where
          some_same : Some e.1 ≡ Some x → e.1 ≡ x
          some_same is = cc
      by_test false found other = other refl

  pub each-with : (es : List (ℕ × X)) (k : ℕ) (x : X) → EachValue P es → P x → EachValue P (with_value nat_eq es k x)
  each-with [] k x each new = tt
  each-with (e ∷ es) k x each new =
      choice (EachValue P) (nat_eq e.0 k) ((e.0, x) ∷ es) (e ∷ with_value nat_eq es k x)
      (λ _. (new, each.1)) (λ _. (each.0, each-with es k x each.1 new))

  pub each-without : (es : List (ℕ × X)) (k : ℕ) → EachValue P es → EachValue P (without nat_eq es k)
  each-without [] k each = tt
  each-without (e ∷ es) k each =
      choice (EachValue P) (nat_eq e.0 k) es (e ∷ without nat_eq es k) (λ _. each.1) (λ _. (each.0, each-without es k each.1))

  pub each-entry : (es : List (ℕ × X)) (k : ℕ) (x : X) → EachValue P es → P x → EachValue P (with_entry es k x)
  each-entry [] k x each new = (new, tt)
  each-entry (e ∷ es) k x each new =
      choice (EachValue P) (nat_lt k e.0) ((k, x) ∷ e ∷ es) (e ∷ with_entry es k x)
      (λ _. (new, each)) (λ _. (each.0, each-entry es k x each.1 new))

-- ---- a table of numbers that rise, with an entry more

module _ {X : Type 0} where
  pub entry-other : (es : List (ℕ × X)) (k j : ℕ) (x : X) → j ≢ k → value_at nat_eq (with_entry es k x) j ≡ value_at nat_eq es j
  entry-other [] k j x apart = rw (other_key k j (λ e. apart (sym e))) refl
  entry-other (e ∷ es) k j x apart =
      choice (λ (t : List (ℕ × X)). value_at nat_eq t j ≡ value_at nat_eq (e ∷ es) j) (nat_lt k e.0) ((k, x) ∷ e ∷ es) (e ∷ with_entry es k x)
      (λ _. rw (other_key k j (λ f. apart (sym f))) refl)
      (λ _. ap (λ (r : Option X). if nat_eq e.0 j then Some e.1 else r) (entry-other es k j x apart))

  pub entry-at : (es : List (ℕ × X)) (k : ℕ) (x : X) → value_at nat_eq es k ≡ None → value_at nat_eq (with_entry es k x) k ≡ Some x
  entry-at [] k x none = rw (same_key k) refl
  entry-at (e ∷ es) k x none =
      by_test (nat_eq e.0 k) refl (λ f. entry-at es k x (rw f at none))
    where
      by_test : (b : Bool) → nat_eq e.0 k ≡ b → (nat_eq e.0 k ≡ false → value_at nat_eq (with_entry es k x) k ≡ Some x)
          → value_at nat_eq (with_entry (e ∷ es) k x) k ≡ Some x
      by_test true t rest = let found : Some e.1 ≡ None = rw t at none in cc
      by_test false f rest =
          choice (λ (t : List (ℕ × X)). value_at nat_eq t k ≡ Some x) (nat_lt k e.0) ((k, x) ∷ e ∷ es) (e ∷ with_entry es k x)
          (λ _. rw (same_key k) refl) (λ _. rw f (rest f))

  pub rising-entry : (low : ℕ) (es : List (ℕ × X)) (high k : ℕ) (x : X) → IsRising low (keys_of es) high → low ≤ k → k < high
      → value_at nat_eq es k ≡ None → IsRising low (keys_of (with_entry es k x)) high
  rising-entry low [] high k x rising le lt none = (le, omega (arith, lt))
  rising-entry low (e ∷ es) high k x rising le lt none =
      let apart : nat_eq e.0 k ≡ false = missed (nat_eq e.0 k) none in
      choice (λ (t : List (ℕ × X)). IsRising low (keys_of t) high) (nat_lt k e.0) ((k, x) ∷ e ∷ es) (e ∷ with_entry es k x)
      (λ before. (le, (grind (arith, nat_tests, before), rising.1)))
      (λ beyond. (
        rising.0,
        rising-entry (e.0 + 1) es high k x rising.1 (grind (arith, nat_tests, beyond, apart)) lt (rw apart at none),
      ))
    where
      missed : (b : Bool) → (if b then Some e.1 else value_at nat_eq es k) ≡ None → b ≡ false
      missed true is = cc
      missed false is = refl

module _ {X Y : Type 0} (P Q : X → Type 0) (P' : Y → Type 0) where
  -- each value seen in another way
  pub each-seen : (es : List (ℕ × X)) (f : X → Y) → EachValue P es → EachValue Q es → ((x : X) → P x → Q x → P' (f x))
      → EachValue P' (seen_as f es)
  each-seen [] f each other does = tt
  each-seen (e ∷ es) f each other does = (does e.1 each.0 other.0, each-seen es f each.1 other.1 does)

module _ {X : Type 0} (P : X → Type 0) where
  rising-missed : (n : ℕ) (es : List (ℕ × X)) (high k : ℕ) (x : X) → IsRising (n + 1) (keys_of es) high → value_at nat_eq es k ≡ Some x → n ≢ k
  rising-missed n [] high k x rising is same = cc
  rising-missed n (e ∷ es) high k x rising is same =
      let missed : nat_eq e.0 k ≡ false = grind (arith, nat_tests, rising.0, same) in
      rising-missed n es high k x (rising-lower (n + 1) (e.0 + 1) (keys_of es) high (omega (arith, rising.0)) rising.1) (rw missed at is) same

  -- what the value at each key of numbers that rise is
  pub each-by_key : (low : ℕ) (es : List (ℕ × X)) (high : ℕ) → IsRising low (keys_of es) high → ((k : ℕ) (x : X) → value_at nat_eq es k ≡ Some x → P x)
      → EachValue P es
  each-by_key low [] high rising at = tt
  each-by_key low (e ∷ es) high rising at = (
    at e.0 e.1 (rw (same_key e.0) refl),
    each-by_key (e.0 + 1) es high rising.1 (λ k x is. at k x (rw (other_key e.0 k (rising-missed e.0 es high k x rising.1 is)) is)),
  )

-- ---- tables whose values are related

module _ {X Y : Type 0} (R : X → Y → Type 0) where
  pub paired-keys : (xs : List (ℕ × X)) (ys : List (ℕ × Y)) → ArePaired R xs ys → keys_of xs ≡ keys_of ys
  paired-keys [] [] paired = refl
  paired-keys [] (y ∷ ys) paired = absurd paired
  paired-keys (x ∷ xs) [] paired = absurd paired
  paired-keys (x ∷ xs) (y ∷ ys) paired =
      ap (λ (k : ℕ). k ∷ keys_of xs) paired.0 ∙ ap (λ (ks : List ℕ). y.0 ∷ ks) (paired-keys xs ys paired.1.1)

  -- a value has its partner
  pub paired-at : (xs : List (ℕ × X)) (ys : List (ℕ × Y)) (k : ℕ) (x : X) → ArePaired R xs ys → value_at nat_eq xs k ≡ Some x
      → (y : Y) × ((value_at nat_eq ys k ≡ Some y) × R x y)
  paired-at [] ys k x paired is = cc
  paired-at (e ∷ xs) [] k x paired is = absurd paired
  paired-at (e ∷ xs) (f ∷ ys) k x paired is =
      by_test (nat_eq e.0 k) (ap (λ (n : ℕ). nat_eq n k) (sym paired.0)) (λ t. rw t at is) (λ t. paired-at xs ys k x paired.1.1 (rw t at is))
    where
      by_test : (b : Bool) → nat_eq f.0 k ≡ b → (b ≡ true → Some e.1 ≡ Some x)
          → (b ≡ false → (y : Y) × ((value_at nat_eq ys k ≡ Some y) × R x y))
          → (y : Y) × ((value_at nat_eq (f ∷ ys) k ≡ Some y) × R x y)
      by_test true t found other = let same : e.1 ≡ x = some_same (found refl) in (f.1, (rw t refl, subst (λ (z : X). R z f.1) same paired.1.0))
        where
          some_same : Some e.1 ≡ Some x → e.1 ≡ x
          some_same is = cc
      by_test false t found other = let rest = other refl in (rest.0, (rw t rest.1.0, rest.1.1))

  pub paired-none : (xs : List (ℕ × X)) (ys : List (ℕ × Y)) (k : ℕ) → ArePaired R xs ys → value_at nat_eq xs k ≡ None
      → value_at nat_eq ys k ≡ None
  paired-none xs ys k paired none =
      nobody (value_at nat_eq ys k) (sym (same_keys xs ys k (paired-keys xs ys paired)) ∙ ap is_some none)

  pub paired-with : (xs : List (ℕ × X)) (ys : List (ℕ × Y)) (k : ℕ) (x : X) (y : Y) → ArePaired R xs ys → R x y
      → ArePaired R (with_value nat_eq xs k x) (with_value nat_eq ys k y)
  paired-with [] [] k x y paired new = tt
  paired-with [] (f ∷ ys) k x y paired new = absurd paired
  paired-with (e ∷ xs) [] k x y paired new = absurd paired
  paired-with (e ∷ xs) (f ∷ ys) k x y paired new =
      by_test (nat_eq f.0 k) refl (ap (λ (n : ℕ). nat_eq n k) paired.0) (paired-with xs ys k x y paired.1.1 new)
    where
      by_test : (b : Bool) → nat_eq f.0 k ≡ b → nat_eq e.0 k ≡ nat_eq f.0 k
          → ArePaired R (with_value nat_eq xs k x) (with_value nat_eq ys k y)
          → ArePaired R (with_value nat_eq (e ∷ xs) k x) (with_value nat_eq (f ∷ ys) k y)
      by_test true t both rest = rw (both ∙ t) (rw t (paired.0, (new, paired.1.1)))
      by_test false t both rest = rw (both ∙ t) (rw t (paired.0, (paired.1.0, rest)))

  pub paired-without : (xs : List (ℕ × X)) (ys : List (ℕ × Y)) (k : ℕ) → ArePaired R xs ys
      → ArePaired R (without nat_eq xs k) (without nat_eq ys k)
  paired-without [] [] k paired = tt
  paired-without [] (f ∷ ys) k paired = absurd paired
  paired-without (e ∷ xs) [] k paired = absurd paired
  paired-without (e ∷ xs) (f ∷ ys) k paired =
      by_test (nat_eq f.0 k) refl (ap (λ (n : ℕ). nat_eq n k) paired.0) (paired-without xs ys k paired.1.1)
    where
      by_test : (b : Bool) → nat_eq f.0 k ≡ b → nat_eq e.0 k ≡ nat_eq f.0 k
          → ArePaired R (without nat_eq xs k) (without nat_eq ys k)
          → ArePaired R (without nat_eq (e ∷ xs) k) (without nat_eq (f ∷ ys) k)
      by_test true t both rest = rw (both ∙ t) (rw t paired.1.1)
      by_test false t both rest = rw (both ∙ t) (rw t (paired.0, (paired.1.0, rest)))

  pub paired-entry : (xs : List (ℕ × X)) (ys : List (ℕ × Y)) (k : ℕ) (x : X) (y : Y) → ArePaired R xs ys → R x y
      → ArePaired R (with_entry xs k x) (with_entry ys k y)
  paired-entry [] [] k x y paired new = (refl, (new, tt))
  paired-entry [] (f ∷ ys) k x y paired new = absurd paired
  paired-entry (e ∷ xs) [] k x y paired new = absurd paired
  paired-entry (e ∷ xs) (f ∷ ys) k x y paired new =
      by_test (nat_lt k f.0) refl (ap (λ (n : ℕ). nat_lt k n) paired.0) (paired-entry xs ys k x y paired.1.1 new)
    where
      by_test : (b : Bool) → nat_lt k f.0 ≡ b → nat_lt k e.0 ≡ nat_lt k f.0
          → ArePaired R (with_entry xs k x) (with_entry ys k y)
          → ArePaired R (with_entry (e ∷ xs) k x) (with_entry (f ∷ ys) k y)
      by_test true t both rest = rw (both ∙ t) (rw t (refl, (new, paired)))
      by_test false t both rest = rw (both ∙ t) (rw t (paired.0, (paired.1.0, rest)))

module _ {X Y : Type 0} (R Q : X → Y → Type 0) where
  pub paired-weaker : (xs : List (ℕ × X)) (ys : List (ℕ × Y)) → ArePaired R xs ys → ((x : X) (y : Y) → R x y → Q x y) → ArePaired Q xs ys
  paired-weaker [] [] paired each = tt
  paired-weaker [] (y ∷ ys) paired each = absurd paired
  paired-weaker (x ∷ xs) [] paired each = absurd paired
  paired-weaker (x ∷ xs) (y ∷ ys) paired each = (paired.0, (each x.1 y.1 paired.1.0, paired-weaker xs ys paired.1.1 each))

module _ {X Y V W : Type 0} (R : X → Y → Type 0) (Q : V → W → Type 0) where
  -- both tables seen in another way
  pub paired-seen : (xs : List (ℕ × X)) (ys : List (ℕ × Y)) (f : X → V) (g : Y → W) → ArePaired R xs ys
      → ((x : X) (y : Y) → R x y → Q (f x) (g y)) → ArePaired Q (seen_as f xs) (seen_as g ys)
  paired-seen [] [] f g paired each = tt
  paired-seen [] (y ∷ ys) f g paired each = absurd paired
  paired-seen (x ∷ xs) [] f g paired each = absurd paired
  paired-seen (x ∷ xs) (y ∷ ys) f g paired each =
      (paired.0, (each x.1 y.1 paired.1.0, paired-seen xs ys f g paired.1.1 each))

-- ---- things spelled one after another

-- Where each thing that holds P is told by the front of its bytes, so is each of a list of them.
module _ {X : Type 0} (bytes_of : X → List ℕ) (P : X → Type 0)
    (one : (x y : X) (more others : List ℕ) → P x → P y → bytes_of x ++ more ≡ bytes_of y ++ others → (x ≡ y) × (more ≡ others)) where
  -- the first ones are told apart, and the next one stands next
  pub spelled-next : (xs ys : List X) (rest after : List ℕ) → All P xs → All P ys → length xs < length ys
      → flat_map bytes_of xs ++ rest ≡ flat_map bytes_of ys ++ after
      → (y : X) × (more : List X) × (ys ≡ xs ++ y ∷ more) × (rest ≡ bytes_of y ++ (flat_map bytes_of more ++ after))
  spelled-next xs [] rest after has also less same = absurd (omega (arith, less))
  spelled-next [] (y ∷ ys) rest after has also less same = (y, ys, refl, same ∙ append_assoc (bytes_of y) (flat_map bytes_of ys) after)
  spelled-next (x ∷ xs) (y ∷ ys) rest after has also less same =
      let first = one x y (flat_map bytes_of xs ++ rest) (flat_map bytes_of ys ++ after) (All-head P x xs has) (All-head P y ys also)
      (sym (append_assoc (bytes_of x) (flat_map bytes_of xs) rest) ∙ same ∙ append_assoc (bytes_of y) (flat_map bytes_of ys) after) in
      let next = spelled-next xs ys rest after (All-tail P x xs has) (All-tail P y ys also) (omega (arith, less)) first.1 in
      (next.0, next.1, ap (λ (z : X). z ∷ ys) (sym first.0) ∙ ap (λ (l : List X). x ∷ l) next.2, next.3)

  -- as many of them are the same, and so is what follows them
  pub spelled-same : (xs ys : List X) (rest after : List ℕ) → All P xs → All P ys → length xs ≡ length ys
      → flat_map bytes_of xs ++ rest ≡ flat_map bytes_of ys ++ after → (xs ≡ ys) × (rest ≡ after)
  spelled-same [] [] rest after has also long same = (refl, same)
  spelled-same [] (y ∷ ys) rest after has also long same = absurd (omega (arith, long))
  spelled-same (x ∷ xs) [] rest after has also long same = absurd (omega (arith, long))
  spelled-same (x ∷ xs) (y ∷ ys) rest after has also long same =
      let first = one x y (flat_map bytes_of xs ++ rest) (flat_map bytes_of ys ++ after) (All-head P x xs has) (All-head P y ys also)
      (sym (append_assoc (bytes_of x) (flat_map bytes_of xs) rest) ∙ same ∙ append_assoc (bytes_of y) (flat_map bytes_of ys) after) in
      let next = spelled-same xs ys rest after (All-tail P x xs has) (All-tail P y ys also) (omega (arith, long)) first.1 in
      (ap (λ (z : X). z ∷ xs) first.0 ∙ ap (λ (l : List X). y ∷ l) next.0, next.1)

  -- one more of them
  pub spelled-more : (xs : List X) (x : X) (bytes rest left : List ℕ) → bytes ≡ flat_map bytes_of xs ++ rest
      → rest ≡ bytes_of x ++ left → bytes ≡ flat_map bytes_of (xs ++ x ∷ []) ++ left
  spelled-more xs x bytes rest left is next =
      is ∙ ap (λ (l : List ℕ). flat_map bytes_of xs ++ l) next
      ∙ sym (append_assoc (flat_map bytes_of xs) (bytes_of x) left)
      ∙ ap (λ (l : List ℕ). l ++ left) (ap (λ (l : List ℕ). flat_map bytes_of xs ++ l) (sym (append-nil (bytes_of x)))
      ∙ sym (flat_map-append bytes_of xs (x ∷ [])))
