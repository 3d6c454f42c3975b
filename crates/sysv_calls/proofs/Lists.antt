-- What a list of operations meets depends on the semaphores that it names and on the adjustments there alone; and if it passes,
-- it changes no other.
use Rattle.std.proofs.Common.{◌≡◌, ◌≢◌, ◌∙◌, ℕ, zero, suc, ℤ, ◌+◌, ◌-ℤ◌, Bool, true, false, ◌&&◌, nat_eq, List, [], ◌∷◌}
use Rattle.std.proofs.Common.{length, map, get_or, set, refl, sym, ap, arith}
use Rattle.std.specs.Prelude.{All, if◌then◌else◌, not, ◌==◌, nat_lt, Option, Some, Ok}
use Rattle.std.specs.List.{list_all}
use Rattle.std.proofs.lemmas.List.{get_or-set_other, length-map, length-set}
use Rattle.std.proofs.lemmas.List.Elements.{All-head, All-tail, All-weaker}
use Rattle.ipc_base.specs.declared.errno.Errno.TheVariants.{E2BIG, EACCES, EFBIG, EINVAL}
use Rattle.ipc_base.specs.declared.identity.Cred.{Cred}
use Rattle.ipc_base.specs.declared.identity.Pid.{Pid}
use Rattle.ipc_limits.specs.declared.limits.Limits.{Limits}
use Rattle.ipc_perm.specs.Perm.{may}
use Rattle.sysv_sem.specs.declared.operation.Operation.{Operation}
use Rattle.sysv_sem.specs.declared.operation.Verdict.{Verdict}
use Rattle.sysv_sem.specs.declared.operation.Verdict.TheVariants.{Passes, Waits, OutOfRange}
use Rattle.sysv_sem.specs.declared.set.Semaphore.{Semaphore}
use Rattle.sysv_sem.specs.Operation.{Outcome, Done as IsDone, adjusted, has_undo, judged, outcome}
use Rattle.sysv_sem.specs.Operation.{outcome_from, performed, trial_of, unless_stopped, value_after}
use Rattle.sysv_sem.specs.Set.{Set, carried, semaphores_in, values_of}
use Rattle.sysv_sem.proofs.CallerLemmas.{length-carried}
use Rattle.ipc_state.specs.Finish.{Attempt, refuse, ◌orelse◌, ◌>>◌, ◌>>=◌}
use Rattle.ipc_state.specs.Keyed.{KeyedEntry}
use Rattle.sysv_calls.specs.Access.{gone}
use Rattle.sysv_calls.specs.Semop.{are_within, asked}
use Rattle.sysv_calls.proofs.Stopping.{met}
use Rattle.sysv_sem.specs.declared.operation.Trial.{Trial}

-- ---- the semaphores that a list names

-- a write of the same value leaves a semaphore the same that was
set-alike : (v w : List ℕ) (m n x : ℕ) → length w ≡ length v → get_or w n 0 ≡ get_or v n 0 → get_or (set w m x) n 0 ≡ get_or (set v m x) n 0
set-alike [] [] m n x long same = same
set-alike [] (b ∷ w) m n x long same = absurd (omega (arith, long))
set-alike (a ∷ v) [] m n x long same = absurd (omega (arith, long))
set-alike (a ∷ v) (b ∷ w) zero zero x long same = refl
set-alike (a ∷ v) (b ∷ w) zero (suc n) x long same = same
set-alike (a ∷ v) (b ∷ w) (suc m) zero x long same = same
set-alike (a ∷ v) (b ∷ w) (suc m) (suc n) x long same = set-alike v w m n x (omega (arith, long)) same

-- the semaphore that an operation names has the same value, and its process the same adjustment there
pub record IsSameAt (v w : List ℕ) (held has : ℕ → ℤ) (o : Operation) : Type 0 where
  pub value : get_or w o.num 0 ≡ get_or v o.num 0
  pub adjustment : has o.num ≡ held o.num

-- an operation keeps that
after-same : (v w : List ℕ) (held has : ℕ → ℤ) (o p : Operation) → length w ≡ length v → IsSameAt v w held has o → IsSameAt v w held has p
    → IsSameAt (performed v o) (performed w o) (adjusted held o) (adjusted has o) p
after-same v w held has o p long here there =
    record {
      value = ap (λ (x : ℕ). get_or (set w o.num (value_after x o.sem_op)) p.num 0) here.value
          ∙ set-alike v w o.num p.num (value_after (get_or v o.num 0) o.sem_op) long there.value;
      adjustment = ap (λ (z : ℤ). if has_undo o && nat_eq p.num o.num then z -ℤ o.sem_op else z) there.adjustment;
    }

unless-same : (x : Verdict) (at : ℕ) (a b : Outcome) → trial_of b ≡ trial_of a → trial_of (unless_stopped x at b) ≡ trial_of (unless_stopped x at a)
unless-same Passes at a b same = same
unless-same Waits at a b same = refl
unless-same OutOfRange at a b same = refl

trial-from : (at : ℕ) (v w : List ℕ) (held has : ℕ → ℤ) (os : List Operation) → length w ≡ length v → All (IsSameAt v w held has) os
    → trial_of (outcome_from at w has os) ≡ trial_of (outcome_from at v held os)
trial-from at v w held has [] long all = refl
trial-from at v w held has (o ∷ os) long all =
    let here = All-head (IsSameAt v w held has) o os all in
    let later = trial-from (at + 1) (performed v o) (performed w o) (adjusted held o) (adjusted has o) os
    (omega (arith, long, length-set v o.num (value_after (get_or v o.num 0) o.sem_op), length-set w o.num (value_after (get_or w o.num 0) o.sem_op)))
    (All-weaker (IsSameAt v w held has) (IsSameAt (performed v o) (performed w o) (adjusted held o) (adjusted has o))
    (λ p there. after-same v w held has o p long here there) os (All-tail (IsSameAt v w held has) o os all)) in
    (λ i. trial_of (unless_stopped (judged (here.value i) (here.adjustment i) o) at (outcome_from (at + 1) (performed w o) (adjusted has o) os)))
    ∙ unless-same (judged (get_or v o.num 0) (held o.num) o) at _ _ later

-- so it meets the same
pub same-trial : (v w : List ℕ) (held has : ℕ → ℤ) (os : List Operation) → length w ≡ length v → All (IsSameAt v w held has) os
    → trial_of (outcome w has os) ≡ trial_of (outcome v held os)
same-trial v w held has os = trial-from 0 v w held has os

-- ---- the tests of a list

module _ (limits : Limits) (cred : Cred) (ops : List Operation) where
  -- what they come to for a set that is found, or not
  abbrev pub met_at : (ℕ → ℤ) → Option (KeyedEntry Set) → Attempt Trial
  met_at held r =
      met (refuse EINVAL (length ops == 0) >> (r orelse gone true >>= (λ e. refuse E2BIG (nat_lt limits.semopm (length ops))
      >> (refuse EFBIG (not (are_within (length e.object.semaphores) ops))
      >> (refuse EACCES (not (list_all (λ o. may cred e.perm (asked o)) ops)) >> Ok e)))) >>= (λ e. Ok (e, outcome (values_of e.object) held ops)))

  passed : (b1 b2 b3 b4 : Bool) (e f : KeyedEntry Set) (was is : KeyedEntry Set → Outcome) → trial_of (is f) ≡ trial_of (was e)
      → met (refuse EINVAL b1 >> (refuse E2BIG b2 >> (refuse EFBIG b3 >> (refuse EACCES b4 >> Ok f))) >>= (λ x. Ok (x, is x)))
      ≡ met (refuse EINVAL b1 >> (refuse E2BIG b2 >> (refuse EFBIG b3 >> (refuse EACCES b4 >> Ok e))) >>= (λ x. Ok (x, was x)))
  passed true b2 b3 b4 e f was is same = refl
  passed false true b3 b4 e f was is same = refl
  passed false false true b4 e f was is same = refl
  passed false false false true e f was is same = refl
  passed false false false false e f was is same = ap (λ (t : Trial). let a : Attempt Trial = Ok t in a) same

  -- the same, at a set with the same permissions and as many semaphores in which it meets the same
  pub same-met : (e f : KeyedEntry Set) (held has : ℕ → ℤ) → f.perm ≡ e.perm → length f.object.semaphores ≡ length e.object.semaphores
      → All (IsSameAt (values_of e.object) (values_of f.object) held has) ops → met_at has (Some f) ≡ met_at held (Some e)
  same-met e f held has perm long all =
      let many : length (values_of f.object) ≡ length (values_of e.object) =
      length-map f.object.semaphores (λ (x : Semaphore). x.value) ∙ long ∙ sym (length-map e.object.semaphores (λ (x : Semaphore). x.value)) in
      (λ i. met (refuse EINVAL (length ops == 0) >> (refuse E2BIG (nat_lt limits.semopm (length ops))
      >> (refuse EFBIG (not (are_within (long i) ops)) >> (refuse EACCES (not (list_all (λ o. may cred (perm i) (asked o)) ops)) >> Ok f)))
      >>= (λ x. Ok (x, outcome (values_of x.object) has ops))))
      ∙ passed (length ops == 0) (nat_lt limits.semopm (length ops)) (not (are_within (length e.object.semaphores) ops))
      (not (list_all (λ o. may cred e.perm (asked o)) ops)) e f (λ x. outcome (values_of x.object) held ops) (λ x. outcome (values_of x.object) has ops)
      (same-trial (values_of e.object) (values_of f.object) held has ops many all)

-- ---- what a list that passes leaves of the others

-- a verdict that lets a list pass
through : (x : Verdict) (at : ℕ) (r : Outcome) (values : List ℕ) (a : ℕ → ℤ) → unless_stopped x at r ≡ IsDone values a → r ≡ IsDone values a
through Passes at r values a is = is
through Waits at r values a is = cc
through OutOfRange at r values a is = cc

module _ (num : ℕ) where
  -- a semaphore that it does not name has the value that it had
  pub record IsLeft (before after : List ℕ) : Type 0 where
    pub long : length after ≡ length before
    pub value : get_or after num 0 ≡ get_or before num 0

  left-from : (at : ℕ) (v : List ℕ) (held : ℕ → ℤ) (os : List Operation) (values : List ℕ) (a : ℕ → ℤ) → outcome_from at v held os ≡ IsDone values a
      → All (λ o. o.num ≢ num) os → IsLeft v values
  left-from at v held [] values a is all =
      let same : v ≡ values = cc in record { long = ap length (sym same); value = ap (λ (l : List ℕ). get_or l num 0) (sym same) }
  left-from at v held (o ∷ os) values a is all =
      let later = left-from (at + 1) (performed v o) (adjusted held o) os values a
      (through (judged (get_or v o.num 0) (held o.num) o) at _ values a is) (All-tail (λ p. p.num ≢ num) o os all) in
      let other = All-head (λ p. p.num ≢ num) o os all in
      let x = value_after (get_or v o.num 0) o.sem_op in
      record {
        long = later.long ∙ length-set v o.num x;
        value = later.value ∙ get_or-set_other v o.num num x 0 (λ same. other (sym same));
      }

-- the values of semaphores that were put together
values-in : (values : List ℕ) (pids : List Pid) → length (semaphores_in values pids) ≡ length values
    → map (λ (x : Semaphore). x.value) (semaphores_in values pids) ≡ values
values-in [] pids long = refl
values-in (v ∷ values) [] long = absurd (omega (arith, long))
values-in (v ∷ values) (p ∷ pids) long = ap (λ (l : List ℕ). v ∷ l) (values-in values pids (omega (arith, long)))

pub value-carried : (num : ℕ) (s : Set) (held a : ℕ → ℤ) (os : List Operation) (values : List ℕ) (pid : Pid) (moment : ℕ)
    → outcome (values_of s) held os ≡ IsDone values a → All (λ o. o.num ≢ num) os
    → get_or (values_of (carried s values os pid moment)) num 0 ≡ get_or (values_of s) num 0
value-carried num s held a os values pid moment is all =
    let left = left-from num 0 (values_of s) held os values a is all in
    let long = length-carried s held a os values pid moment is in
    ap (λ (l : List ℕ). get_or l num 0) (values-in values _ (long ∙ sym (left.long ∙ length-map s.semaphores (λ (x : Semaphore). x.value)))) ∙ left.value
