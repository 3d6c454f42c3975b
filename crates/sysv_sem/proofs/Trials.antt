-- A trial, operation by operation.
use Rattle.std.proofs.Common.{◌≡◌, ℕ, zero, suc, ◌+◌, ◌<◌, ◌≤◌, ◌⊎◌, inl, inr, ℤ, ◌-ℤ◌, Bool, true, false, cond, not, ◌&&◌, List, []}
use Rattle.std.proofs.Common.{◌∷◌, ◌++◌, length, take, drop, get_or, set, nat_eq, refl, sym, ap, subst, ◌∙◌, arith, add-one, FitsSigned}
use Rattle.std.proofs.Common.{All, map, Some}
use Rattle.std.specs.Prelude.{slice_get, nat_lt}
use Rattle.std.specs.Int.{w16}
use Rattle.std.specs.List.{fold}
use Rattle.std.proofs.lemmas.Bool.{ltb-false, eqb-true, eqb-false}
use Rattle.std.proofs.lemmas.Int.{ints}
use Rattle.std.proofs.lemmas.List.{get_or-set_other, get_or-set_same, get_or-map, get_or_default, get_or_past, length-map, map-set}
use Rattle.std.proofs.lemmas.List.Sums.{fold_more}
use Rattle.std.proofs.lemmas.Option.{get_or_from_slice_get}
use Rattle.std.proofs.Math.ListN.{length-set, drop_of_length-le}
use Rattle.std.proofs.Math.Seq.{drop-cons, take-append_seam, take-length}
use Rattle.ipc_base.specs.declared.identity.Pid.{Pid}
use Rattle.sysv_sem.specs.Set.{marked, semaphores_in}
use Rattle.sysv_sem.specs.declared.set.Semaphore.{Semaphore}
use Rattle.sysv_sem.specs.declared.operation.Operation.{Operation}
use Rattle.sysv_sem.specs.declared.operation.Verdict.{Verdict}
use Rattle.sysv_sem.specs.declared.operation.Verdict.TheVariants.{Passes, Waits, OutOfRange}
use Rattle.sysv_sem.specs.Operation.{most_value, is_adjustment, has_undo, must_wait, value_after, judged, performed, adjusted, Done, unless_stopped}
use Rattle.sysv_sem.specs.Operation.{outcome_from, outcome}
use Rattle.sysv_sem.specs.Trial.{value_of, adjustment_of, CanBeDone, changed_by}

fits : (z : ℤ) → is_adjustment z ≡ true → FitsSigned w16 z
fits z h = grind (arith, ints)

-- ---- what a verdict says

passes_value : (wait over out : Bool) → cond wait Waits (cond over OutOfRange (cond out OutOfRange Passes)) ≡ Passes → over ≡ false
passes_value true over out h = cc
passes_value false true out h = cc
passes_value false false out h = refl

passes_adjustment : (wait over undo good : Bool) → cond wait Waits (cond over OutOfRange (cond (undo && not good) OutOfRange Passes)) ≡ Passes
    → undo ≡ true → good ≡ true
passes_adjustment wait over undo true h u = refl
passes_adjustment true over undo false h u = cc
passes_adjustment false true undo false h u = cc
passes_adjustment false false true false h u = cc
passes_adjustment false false false false h u = u

pub value-passes : (v : ℕ) (a : ℤ) (o : Operation) → judged v a o ≡ Passes → value_after v o.sem_op ≤ most_value
value-passes v a o h = ltb-false most_value (value_after v o.sem_op) (passes_value _ _ _ h)

pub adjustment-judged : (v : ℕ) (a : ℤ) (o : Operation) → judged v a o ≡ Passes → has_undo o ≡ true → is_adjustment (a -ℤ o.sem_op) ≡ true
adjustment-judged v a o h u = passes_adjustment _ _ _ _ h u

pub adjustment-passes : (v : ℕ) (a : ℤ) (o : Operation) → judged v a o ≡ Passes → has_undo o ≡ true → FitsSigned w16 (a -ℤ o.sem_op)
adjustment-passes v a o h u = fits (a -ℤ o.sem_op) (adjustment-judged v a o h u)

-- one that is not undone meets the same at any adjustment
pub judged-alike : (v : ℕ) (a b : ℤ) (o : Operation) → (has_undo o ≡ true → a ≡ b) → judged v a o ≡ judged v b o
judged-alike v a b o same =
    ap (λ (out : Bool). cond (must_wait v o.sem_op) Waits (cond (nat_lt most_value (value_after v o.sem_op)) OutOfRange (cond out OutOfRange Passes)))
    (by_undo (has_undo o) same)
  where
    by_undo : (u : Bool) → (u ≡ true → a ≡ b) → (u && not (is_adjustment (a -ℤ o.sem_op))) ≡ (u && not (is_adjustment (b -ℤ o.sem_op)))
    by_undo true same = ap (λ (z : ℤ). not (is_adjustment (z -ℤ o.sem_op))) (same refl)
    by_undo false same = refl

-- ---- one operation more

pub fold-next : {X Y : Type 0} (f : Y → X → Y) (a : Y) (xs : List X) (i : ℕ) (x : X) → i < length xs → slice_get xs i ≡ Some x
    → fold f a (take (i + 1) xs) ≡ f (fold f a (take i xs)) x
fold-next f a xs i x within is = fold_more f a xs i x within ∙ ap (f (fold f a (take i xs))) (get_or_from_slice_get xs i x x is)

-- ---- one semaphore

module _ (num : ℕ) where
  value-performed : (values : List ℕ) (o : Operation) → num < length values
      → get_or (performed values o) num 0 ≡ value_of num (get_or values num 0) o
  value-performed values o within =
      elim (nat_eq num o.num) as (λ b. nat_eq num o.num ≡ b
      → get_or (performed values o) num 0 ≡ cond b (value_after (get_or values num 0) o.sem_op) (get_or values num 0)) [
        | true ↦ λ e.
            let same : num ≡ o.num = eqb-true num o.num e in
            let there : o.num < length values = omega arith in
            subst (λ n. get_or (performed values o) n 0 ≡ value_after (get_or values n 0) o.sem_op) (sym same)
            (get_or-set_same values o.num (value_after (get_or values o.num 0) o.sem_op) 0 there)
        | false ↦ λ e. get_or-set_other values o.num num (value_after (get_or values o.num 0) o.sem_op) 0 (eqb-false num o.num e)
      ] refl

  -- its value after some operations is what they make of its value
  pub value-fold : (values : List ℕ) (operations : List Operation) → num < length values
      → get_or (fold performed values operations) num 0 ≡ fold (value_of num) (get_or values num 0) operations
  value-fold values [] within = refl
  value-fold values (o ∷ rest) within =
      let still : num < length (performed values o) = omega (arith, length-set {A = ℕ}) in
      value-fold (performed values o) rest still ∙ ap (λ v. fold (value_of num) v rest) (value-performed values o within)

  pub adjustment-fold : (held : ℕ → ℤ) (operations : List Operation)
      → fold adjusted held operations num ≡ fold (adjustment_of num) (held num) operations
  adjustment-fold held [] = refl
  adjustment-fold held (o ∷ rest) = adjustment-fold (adjusted held o) rest

-- a write leaves each value in range
bounded-set : (values : List ℕ) (i x n m : ℕ) → get_or values n 0 ≤ m → x ≤ m → get_or (set values i x) n 0 ≤ m
bounded-set [] i x n m h k = h
bounded-set (v ∷ values) zero x zero m h k = k
bounded-set (v ∷ values) zero x (suc n) m h k = h
bounded-set (v ∷ values) (suc i) x zero m h k = h
bounded-set (v ∷ values) (suc i) x (suc n) m h k = bounded-set values i x n m h k

-- if an operation passes, it leaves each adjustment in range
adjusted-fits : (held : ℕ → ℤ) (o : Operation) (n : ℕ) → FitsSigned w16 (held n)
    → (has_undo o ≡ true → FitsSigned w16 (held o.num -ℤ o.sem_op)) → FitsSigned w16 (adjusted held o n)
adjusted-fits held o n old new =
    elim (has_undo o) as (λ u. has_undo o ≡ u
    → FitsSigned w16 (cond (u && nat_eq n o.num) (held n -ℤ o.sem_op) (held n))) [
      | true ↦ λ u. elim (nat_eq n o.num) as (λ b. nat_eq n o.num ≡ b → FitsSigned w16 (cond b (held n -ℤ o.sem_op) (held n))) [
        | true ↦ λ e. subst (λ k. FitsSigned w16 (held k -ℤ o.sem_op)) (sym (eqb-true n o.num e)) (new u)
        | false ↦ λ e. old
      ] refl
      | false ↦ λ u. old
    ] refl

last_or_before : (k at : ℕ) → k ≤ at + 1 → (k ≡ at + 1) ⊎ (k ≤ at)
last_or_before k at le = grind arith

-- ---- a list

-- the operations before a position pass, and what they leave is in range
pub record Passed (values : List ℕ) (held : ℕ → ℤ) (operations : List Operation) (at : ℕ) : Type 0 where
  pub rest : outcome values held operations
      ≡ outcome_from at (fold performed values (take at operations)) (fold adjusted held (take at operations)) (drop at operations)
  pub values_in_range : (k n : ℕ) → k ≤ at → get_or (fold performed values (take k operations)) n 0 ≤ most_value
  pub adjustments_in_range : (k n : ℕ) → k ≤ at → FitsSigned w16 (held n) → FitsSigned w16 (fold adjusted held (take k operations) n)

pub Passed-none : (values : List ℕ) (held : ℕ → ℤ) (operations : List Operation) → ((n : ℕ) → get_or values n 0 ≤ most_value) → Passed values held operations 0
Passed-none values held operations range =
    record {
      rest = refl;
      values_in_range = λ k n h. let zero : k ≡ 0 = omega arith in
          subst (λ j. get_or (fold performed values (take j operations)) n 0 ≤ most_value) (sym zero) (range n);
      adjustments_in_range = λ k n h fit. let zero : k ≡ 0 = omega arith in
          subst (λ j. FitsSigned w16 (fold adjusted held (take j operations) n)) (sym zero) fit;
    }

module _ (values : List ℕ) (held : ℕ → ℤ) (operations : List Operation) (at : ℕ) (o : Operation) (p : Passed values held operations at)
    (within : at < length operations) (is : o ≡ get_or operations at o) where
  -- what the operation at the position meets is what the list meets
  pub stopped : (v : Verdict)
      → judged (get_or (fold performed values (take at operations)) o.num 0) (fold adjusted held (take at operations) o.num) o ≡ v
      → outcome values held operations
      ≡ unless_stopped v at
      (outcome_from (at + 1) (fold performed values (take (at + 1) operations)) (fold adjusted held (take (at + 1) operations)) (drop (at + 1) operations))
  stopped v h =
      let V = fold performed values (take at operations) in
      let H = fold adjusted held (take at operations) in
      let first : drop at operations ≡ o ∷ drop (at + 1) operations =
      drop-cons operations at o within ∙ (λ i. sym is i ∷ drop (sym (add-one at) i) operations) in
      let Vs : performed V o ≡ fold performed values (take (at + 1) operations) =
      ap (performed V) is ∙ sym (fold_more performed values operations at o within) in
      let Hs : adjusted H o ≡ fold adjusted held (take (at + 1) operations) = ap (adjusted H) is ∙ sym (fold_more adjusted held operations at o within) in
      p.rest ∙ ap (outcome_from at V H) first
      ∙ (λ i. unless_stopped (h i) at (outcome_from (at + 1) (Vs i) (Hs i) (drop (at + 1) operations)))

  pub Passed-more : judged (get_or (fold performed values (take at operations)) o.num 0) (fold adjusted held (take at operations) o.num) o ≡ Passes
      → Passed values held operations (at + 1)
  Passed-more h =
      let V = fold performed values (take at operations) in
      let H = fold adjusted held (take at operations) in
      let Vs : performed V o ≡ fold performed values (take (at + 1) operations) =
      ap (performed V) is ∙ sym (fold_more performed values operations at o within) in
      let Hs : adjusted H o ≡ fold adjusted held (take (at + 1) operations) = ap (adjusted H) is ∙ sym (fold_more adjusted held operations at o within) in
      let value : (n : ℕ) → get_or (fold performed values (take (at + 1) operations)) n 0 ≤ most_value = λ n.
      subst (λ l. get_or l n 0 ≤ most_value) Vs
      (bounded-set V o.num _ n most_value (p.values_in_range at n (omega arith)) (value-passes _ _ o h)) in
      let fit : (n : ℕ) → FitsSigned w16 (held n) → FitsSigned w16 (fold adjusted held (take (at + 1) operations) n) = λ n start.
      subst (λ f. FitsSigned w16 (f n)) Hs (adjusted-fits H o n (p.adjustments_in_range at n (omega arith) start) (λ u. adjustment-passes _ _ o h u)) in
      record {
        rest = stopped Passes h;
        values_in_range = λ k n le. elim (last_or_before k at le) [
          | inl e ↦ subst (λ j. get_or (fold performed values (take j operations)) n 0 ≤ most_value) (sym e) (value n)
          | inr e ↦ p.values_in_range k n e
        ];
        adjustments_in_range = λ k n le start. elim (last_or_before k at le) [
          | inl e ↦ subst (λ j. FitsSigned w16 (fold adjusted held (take j operations) n)) (sym e) (fit n start)
          | inr e ↦ p.adjustments_in_range k n e start
        ];
      }

-- a list that has been gone through is performed
pub Passed-done : (values : List ℕ) (held : ℕ → ℤ) (operations : List Operation) (at : ℕ) → length operations ≤ at
    → Passed values held operations at
    → outcome values held operations ≡ Done (fold performed values (take at operations)) (fold adjusted held (take at operations))
Passed-done values held operations at end p =
    p.rest ∙ ap (outcome_from at (fold performed values (take at operations)) (fold adjusted held (take at operations))) (drop_of_length-le operations end)

pub length-performed : (values : List ℕ) (operations : List Operation) → length (fold performed values operations) ≡ length values
length-performed values [] = refl
length-performed values (o ∷ rest) = length-performed (performed values o) rest ∙ length-set values o.num _

-- if a list passes, its values are those that it performs, and each on the way is in range
pub record Performs (values : List ℕ) (operations : List Operation) (v : List ℕ) : Type 0 where
  pub is : v ≡ fold performed values operations
  pub range : (k n : ℕ) → k ≤ length operations → get_or (fold performed values (take k operations)) n 0 ≤ most_value

Performs-more : (values : List ℕ) (o : Operation) (rest : List Operation) (v : List ℕ) → ((n : ℕ) → get_or values n 0 ≤ most_value)
    → Performs (performed values o) rest v → Performs values (o ∷ rest) v
Performs-more values o rest v range p = record { is = p.is; range = by }
  where
    by : (k n : ℕ) → k ≤ length (o ∷ rest) → get_or (fold performed values (take k (o ∷ rest))) n 0 ≤ most_value
    by zero n h = range n
    by (suc k) n h = p.range k n (omega arith)

pub Performs-done : (values : List ℕ) (held : ℕ → ℤ) (operations : List Operation) (at : ℕ) (v : List ℕ) (a : ℕ → ℤ)
    → ((n : ℕ) → get_or values n 0 ≤ most_value) → outcome_from at values held operations ≡ Done v a → Performs values operations v
Performs-done values held [] at v a range h =
    record {
      is = cc;
      range = λ k n le. let zero : k ≡ 0 = omega arith in
          subst (λ j. get_or (fold performed values (take j [])) n 0 ≤ most_value) (sym zero) (range n);
    }
Performs-done values held (o ∷ rest) at v a range h =
    elim (judged (get_or values o.num 0) (held o.num) o) as (λ w. judged (get_or values o.num 0) (held o.num) o ≡ w
    → unless_stopped w at (outcome_from (at + 1) (performed values o) (adjusted held o) rest) ≡ Done v a → Performs values (o ∷ rest) v) [
      | Passes ↦ λ e g. Performs-more values o rest v range (Performs-done (performed values o) (adjusted held o) rest (at + 1) v a
          (λ n. bounded-set values o.num _ n most_value (range n) (value-passes _ _ o e)) g)
      | Waits ↦ λ e g. cc
      | OutOfRange ↦ λ e g. cc
    ] refl h

lt_or_le : (a b : ℕ) → (a < b) ⊎ (b ≤ a)
lt_or_le a b = grind arith

pub all-bounded : (values : List ℕ) → All (λ v. v ≤ most_value) values → (n : ℕ) → get_or values n 0 ≤ most_value
all-bounded values all n =
    elim (lt_or_le n (length values)) [ inl h ↦ all n 0 h | inr h ↦ subst (λ v. v ≤ most_value) (sym (get_or_past values n 0 h)) (omega arith) ]

-- ---- the semaphores: of each its value, and its pid

abbrev pub values : List Semaphore → List ℕ
values xs = map (λ (x : Semaphore). x.value) xs

abbrev pub pids : List Semaphore → List Pid
pids xs = map (λ (x : Semaphore). x.pid) xs

pub value-at : (xs : List Semaphore) (n : ℕ) → (get_or xs n (record { value = 0; pid = record { 0 = 0 } })).value ≡ get_or (values xs) n 0
value-at [] n = refl
value-at (x ∷ xs) zero = refl
value-at (x ∷ xs) (suc n) = value-at xs n

pub within : (xs : List Semaphore) (n : ℕ) → n < length xs → n < length (values xs)
within xs n lt = omega (arith, lt, length-map xs (λ (x : Semaphore). x.value))

pub each-value : (xs : List Semaphore) → All (λ v. v ≤ most_value) (values xs) → All (λ x. x.value ≤ most_value) xs
each-value xs all k d lt =
    subst (λ v. v ≤ most_value) (get_or-map (λ (x : Semaphore). x.value) xs k d 0 lt) (all k 0 (within xs k lt))

module _ (pid : Pid) where
  pub values-changed : (xs : List Semaphore) (operations : List Operation)
      → values (fold (changed_by pid) xs operations) ≡ fold performed (values xs) operations
  values-changed xs [] = refl
  values-changed xs (o ∷ rest) =
      values-changed (changed_by pid xs o) rest
      ∙ ap (λ l. fold performed l rest) (map-set (λ (x : Semaphore). x.value) xs o.num _)

  pids-changed : (xs : List Semaphore) (operations : List Operation) → pids (fold (changed_by pid) xs operations) ≡ fold (marked pid) (pids xs) operations
  pids-changed xs [] = refl
  pids-changed xs (o ∷ rest) =
      pids-changed (changed_by pid xs o) rest ∙ ap (λ l. fold (marked pid) l rest) (map-set (λ (x : Semaphore). x.pid) xs o.num _)

  -- the value of one, on the way
  pub value-on_way : (xs now : List Semaphore) (operations : List Operation) (n : ℕ) → now ≡ fold (changed_by pid) xs operations
      → get_or (fold performed (values xs) operations) n 0 ≤ most_value → (get_or now n (record { value = 0; pid = record { 0 = 0 } })).value ≤ most_value
  value-on_way xs now operations n is le =
      subst (λ v. v ≤ most_value) (sym (value-at now n ∙ ap (λ l. get_or l n 0) (ap values is ∙ values-changed xs operations))) le

  pub length-changed : (xs : List Semaphore) (operations : List Operation) → length (fold (changed_by pid) xs operations) ≡ length xs
  length-changed xs [] = refl
  length-changed xs (o ∷ rest) = length-changed (changed_by pid xs o) rest ∙ length-set xs o.num _

  pub changed : (xs : List Semaphore) (operations : List Operation)
      → fold (changed_by pid) xs operations ≡ semaphores_in (fold performed (values xs) operations) (fold (marked pid) (pids xs) operations)
  changed xs operations =
      split (fold (changed_by pid) xs operations)
      ∙ (λ i. semaphores_in (values-changed xs operations i) (pids-changed xs operations i))
    where
      split : (xs : List Semaphore) → xs ≡ semaphores_in (values xs) (pids xs)
      split [] = refl
      split (x ∷ xs) = ap (λ (ys : List Semaphore). x ∷ ys) (split xs)

-- a buffer that is written whole
pub whole : {A : Type 0} (xs items : List A) (len : ℕ) → length xs ≡ len → take len (xs ++ drop (length xs) items) ≡ xs
whole xs items len e = ap (λ n. take n (xs ++ drop (length xs) items)) (sym e) ∙ take-append_seam xs (drop (length xs) items)

pub can-perform : (values known : List ℕ) (operations : List Operation) → values ≡ known → All (λ v. v ≤ most_value) values
    → (h : CanBeDone known operations) → Performs values operations h.1
can-perform values known operations same all h =
    Performs-done values h.0 operations 0 h.1 h.2 (all-bounded values all) (ap (λ l. outcome l h.0 operations) same ∙ h.3)

-- the values after a list that passes are in range
pub all-performed : (values after : List ℕ) (operations : List Operation) (v : List ℕ) → Performs values operations v
    → after ≡ fold performed values operations → All (λ v. v ≤ most_value) after
all-performed values after operations v p e k d h =
    subst (λ x. x ≤ most_value) (get_or_default after k 0 d h)
    (subst (λ l. get_or l k 0 ≤ most_value) (ap (fold performed values) (take-length operations) ∙ sym e) (p.range (length operations) k (omega arith)))

-- ---- laws

pub record Folds (values : List ℕ) (held : ℕ → ℤ) (operations : List Operation) (v : List ℕ) (a : ℕ → ℤ) : Type 0 where
  pub values_are : v ≡ fold performed values operations
  pub adjustments_are : a ≡ fold adjusted held operations
  pub in_range : (n : ℕ) → is_adjustment (held n) ≡ true → is_adjustment (a n) ≡ true

adjusted-stays : (held : ℕ → ℤ) (o : Operation) (n : ℕ) → is_adjustment (held n) ≡ true
    → (has_undo o ≡ true → is_adjustment (held o.num -ℤ o.sem_op) ≡ true) → is_adjustment (adjusted held o n) ≡ true
adjusted-stays held o n old new =
    elim (has_undo o) as (λ u. has_undo o ≡ u
    → is_adjustment (cond (u && nat_eq n o.num) (held n -ℤ o.sem_op) (held n)) ≡ true) [
      | true ↦ λ u. elim (nat_eq n o.num) as (λ b. nat_eq n o.num ≡ b → is_adjustment (cond b (held n -ℤ o.sem_op) (held n)) ≡ true) [
        | true ↦ λ e. subst (λ k. is_adjustment (held k -ℤ o.sem_op) ≡ true) (sym (eqb-true n o.num e)) (new u)
        | false ↦ λ e. old
      ] refl
      | false ↦ λ u. old
    ] refl

pub Folds-done : (values : List ℕ) (held : ℕ → ℤ) (operations : List Operation) (at : ℕ) (v : List ℕ) (a : ℕ → ℤ)
    → outcome_from at values held operations ≡ Done v a → Folds values held operations v a
Folds-done values held [] at v a h =
    let same : held ≡ a = cc in
    record { values_are = cc; adjustments_are = sym same; in_range = λ n r. subst (λ f. is_adjustment (f n) ≡ true) same r }
Folds-done values held (o ∷ rest) at v a h =
    elim (judged (get_or values o.num 0) (held o.num) o) as (λ w. judged (get_or values o.num 0) (held o.num) o ≡ w
    → unless_stopped w at (outcome_from (at + 1) (performed values o) (adjusted held o) rest) ≡ Done v a → Folds values held (o ∷ rest) v a) [
      | Passes ↦ λ e g.
          let f = Folds-done (performed values o) (adjusted held o) rest (at + 1) v a g in
          record {
            values_are = f.values_are;
            adjustments_are = f.adjustments_are;
            in_range = λ n r. f.in_range n (adjusted-stays held o n r (λ u. passes_adjustment _ _ _ _ e u));
          }
      | Waits ↦ λ e g. cc
      | OutOfRange ↦ λ e g. cc
    ] refl h

pub all-done : (values v : List ℕ) (held a : ℕ → ℤ) (operations : List Operation) → outcome values held operations ≡ Done v a
    → All (λ x. x ≤ most_value) values → All (λ x. x ≤ most_value) v
all-done values v held a operations h all =
    let p = Performs-done values held operations 0 v a (all-bounded values all) h in
    all-performed values v operations v p p.is
