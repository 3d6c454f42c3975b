-- A list whose operations give nothing, and of which one takes more than there is, has to wait.
use Rattle.std.proofs.Common.{◌≡◌, ℕ, zero, suc, ◌+◌, ◌≤◌, ℤ, pos, negsuc, Bool, true, false, cond, not, ◌&&◌}
use Rattle.std.proofs.Common.{List, [], ◌∷◌, All, Some, get_or, set, refl, subst, sym, arith}
use Rattle.std.specs.Prelude.{slice_get}
use Rattle.std.proofs.lemmas.Bool.{ltb-true, lt-ltb, le-ltb}
use Rattle.std.proofs.lemmas.List.Elements.{All-head, All-tail}
use Rattle.sysv_sem.specs.declared.operation.Operation.{Operation}
use Rattle.sysv_sem.specs.declared.operation.Verdict.{Verdict}
use Rattle.sysv_sem.specs.declared.operation.Verdict.TheVariants.{Passes, Waits, OutOfRange}
use Rattle.sysv_sem.specs.Operation.{most_value, gives_nothing, gives_some, must_wait, takes_more, value_after, judged, performed, adjusted}
use Rattle.sysv_sem.specs.Operation.{Blocks, outcome, outcome_from, unless_stopped}
use Rattle.sysv_sem.proofs.Trials.{all-bounded}

gives : (b c : Bool) → (not b && not c) ≡ true → (b ≡ false) × (c ≡ false)
gives false false is = (refl, refl)
gives false true is = cc
gives true c is = cc

-- ---- one operation

-- what gives nothing leaves no more than there was
lower : (v : ℕ) (z : ℤ) → gives_some z ≡ false → value_after v z ≤ v
lower v (pos zero) none = omega arith
lower v (pos (suc n)) none = absurd (clash none)
  where
    clash : true ≡ false → ⊥
    clash is = cc
lower v (negsuc n) none = omega arith

-- what takes more than there is has to wait, and also where there is less
waits : (v : ℕ) (z : ℤ) → takes_more v z ≡ true → must_wait v z ≡ true
waits v (pos n) more = cc
waits v (negsuc n) more = more

more-of : (v w : ℕ) (z : ℤ) → w ≤ v → takes_more v z ≡ true → takes_more w z ≡ true
more-of v w (pos n) less more = cc
more-of v w (negsuc n) less more = lt-ltb w (suc n) (omega (arith, ltb-true v (suc n) more))

in-range : (wait over undo good : Bool) → over ≡ false → undo ≡ false
    → cond wait Waits (cond over OutOfRange (cond (undo && not good) OutOfRange Passes)) ≡ OutOfRange → ⊥
in-range true over undo good low none is = cc
in-range false true undo good low none is = cc
in-range false false true good low none is = cc
in-range false false false good low none is = cc

stays : (v : ℕ) (a : ℤ) (o : Operation) → v ≤ most_value → gives_nothing o ≡ true → judged v a o ≡ OutOfRange → ⊥
stays v a o range nothing is =
    let none = gives _ _ nothing in
    in-range (must_wait v o.sem_op) _ _ _ (le-ltb most_value (value_after v o.sem_op) (omega (arith, range, lower v o.sem_op none.0))) none.1 is

not-passed : (wait : Bool) (v : Verdict) → wait ≡ true → cond wait Waits v ≡ Passes → ⊥
not-passed true v must is = cc
not-passed false v must is = cc

-- ---- the values after it

set-lower : (values : List ℕ) (i x n : ℕ) → x ≤ get_or values i 0 → get_or (set values i x) n 0 ≤ get_or values n 0
set-lower [] i x n less = omega arith
set-lower (v ∷ values) zero x zero less = less
set-lower (v ∷ values) zero x (suc n) less = omega arith
set-lower (v ∷ values) (suc i) x zero less = omega arith
set-lower (v ∷ values) (suc i) x (suc n) less = set-lower values i x n less

less-after : (values : List ℕ) (o : Operation) (n : ℕ) → gives_nothing o ≡ true → get_or (performed values o) n 0 ≤ get_or values n 0
less-after values o n nothing = set-lower values o.num _ n (lower (get_or values o.num 0) o.sem_op (gives _ _ nothing).0)

-- ---- a list

waits-from : (from : ℕ) (values : List ℕ) (held : ℕ → ℤ) (ops : List Operation) (k : ℕ) (o : Operation)
    → ((n : ℕ) → get_or values n 0 ≤ most_value) → All (λ p. gives_nothing p ≡ true) ops → slice_get ops k ≡ Some o
    → takes_more (get_or values o.num 0) o.sem_op ≡ true → (at : ℕ) × (outcome_from from values held ops ≡ Blocks at)
waits-from from values held [] k o range all is more = cc
waits-from from values held (p ∷ rest) k o range all is more =
    elim (judged (get_or values p.num 0) (held p.num) p) as (λ w. judged (get_or values p.num 0) (held p.num) p ≡ w → (at : ℕ)
    × (unless_stopped w from (outcome_from (from + 1) (performed values p) (adjusted held p) rest) ≡ Blocks at)) [
      | Passes ↦ λ e. by_place k is e (waits-from (from + 1) (performed values p) (adjusted held p) rest)
      | Waits ↦ λ e. (from, refl)
      | OutOfRange ↦ λ e. absurd (stays (get_or values p.num 0) (held p.num) p (range p.num) (All-head (λ q. gives_nothing q ≡ true) p rest all) e)
    ] refl
  where
    nothing : gives_nothing p ≡ true
    nothing = All-head (λ q. gives_nothing q ≡ true) p rest all

    Stops : Type 0
    Stops = (at : ℕ) × (outcome_from (from + 1) (performed values p) (adjusted held p) rest ≡ Blocks at)

    by_place : (j : ℕ) → slice_get (p ∷ rest) j ≡ Some o → judged (get_or values p.num 0) (held p.num) p ≡ Passes
        → ((i : ℕ) (q : Operation) → ((n : ℕ) → get_or (performed values p) n 0 ≤ most_value) → All (λ r. gives_nothing r ≡ true) rest
        → slice_get rest i ≡ Some q → takes_more (get_or (performed values p) q.num 0) q.sem_op ≡ true → Stops) → Stops
    by_place zero here e others =
        let same : p ≡ o = cc in
        absurd (not-passed (must_wait (get_or values p.num 0) p.sem_op) _ (waits (get_or values p.num 0) p.sem_op
        (subst (λ (q : Operation). takes_more (get_or values q.num 0) q.sem_op ≡ true) (sym same) more)) e)
    by_place (suc j) later e others =
        others j o (λ n. omega (arith, range n, less-after values p n nothing))
        (All-tail (λ q. gives_nothing q ≡ true) p rest all) later
        (more-of (get_or values o.num 0) (get_or (performed values p) o.num 0) o.sem_op (less-after values p o.num nothing) more)

-- if its operations give nothing, and the one at a place takes more than there is, then one of them stops it
pub lacking-waits : (values : List ℕ) (held : ℕ → ℤ) (ops : List Operation) (k : ℕ) (o : Operation) → All (λ v. v ≤ most_value) values
    → All (λ p. gives_nothing p ≡ true) ops → slice_get ops k ≡ Some o → takes_more (get_or values o.num 0) o.sem_op ≡ true
    → (at : ℕ) × (outcome values held ops ≡ Blocks at)
lacking-waits values held ops k o range all is more = waits-from 0 values held ops k o (all-bounded values range) all is more
