-- What the crates above cite: of a list of operations, where it stops, and what it leaves if it passes.
use Rattle.std.proofs.Common.{◌≡◌, ℕ, ℤ, ◌+◌, ◌<◌, ◌≤◌, List, [], ◌∷◌, length, ◌∙◌, ap, refl, arith}
use Rattle.std.specs.Prelude.{All, slice_index}
use Rattle.std.specs.List.{fold}
use Rattle.std.proofs.lemmas.List.{length-map, length-set}
use Rattle.std.proofs.lemmas.List.Elements.{All-nil, All-cons, All-head, All-tail, All-map}
use Rattle.ipc_base.specs.declared.identity.Pid.{Pid}
use Rattle.sysv_sem.specs.declared.operation.Operation.{Operation}
use Rattle.sysv_sem.specs.declared.set.Semaphore.{Semaphore}
use Rattle.sysv_sem.specs.declared.operation.Verdict.TheVariants.{Passes, Waits, OutOfRange}
use Rattle.sysv_sem.specs.Operation.{most_value, Done, Blocks, judged, performed, adjusted, outcome, outcome_from, unless_stopped}
use Rattle.sysv_sem.specs.Set.{Set, carried, marked, pids_of, semaphores_in, values_of}
use Rattle.sysv_sem.proofs.Trials.{Folds-done, all-done, length-performed}
pub use Rattle.sysv_sem.proofs.Trials.{adjustment-judged}

-- as many semaphores as there are values and pids
length-in : (values : List ℕ) (pids : List Pid) → length values ≡ length pids → length (semaphores_in values pids) ≡ length values
length-in [] pids same = refl
length-in (v ∷ values) [] same = cc
length-in (v ∷ values) (p ∷ pids) same =
    let rest : length values ≡ length pids = omega (arith, same) in
    omega (arith, length-in values pids rest)

-- what holds of each value holds of the value of each semaphore
all-in : (P : ℕ → Type 0) (values : List ℕ) (pids : List Pid) → All P values → All (λ (x : Semaphore). P x.value) (semaphores_in values pids)
all-in P [] pids all = All-nil (λ (x : Semaphore). P x.value)
all-in P (v ∷ values) [] all = All-nil (λ (x : Semaphore). P x.value)
all-in P (v ∷ values) (p ∷ pids) all =
    All-cons (λ (x : Semaphore). P x.value) (record { value = v; pid = p }) (semaphores_in values pids) (All-head P v values all)
    (all-in P values pids (All-tail P v values all))

length-marked : (pid : Pid) (pids : List Pid) (operations : List Operation) → length (fold (marked pid) pids operations) ≡ length pids
length-marked pid pids [] = refl
length-marked pid pids (o ∷ rest) = length-marked pid (marked pid pids o) rest ∙ length-set pids o.num pid

-- of a list that passes: the set has as many semaphores afterwards, each with a value in its range
module _ (s : Set) (held a : ℕ → ℤ) (operations : List Operation) (v : List ℕ) (pid : Pid) (moment : ℕ)
    (done : outcome (values_of s) held operations ≡ Done v a) where
  pub length-carried : length (carried s v operations pid moment).semaphores ≡ length s.semaphores
  length-carried =
      let values = length-map s.semaphores (λ (x : Semaphore). x.value) in
      let pids = length-map s.semaphores (λ (x : Semaphore). x.pid) in
      let before : length v ≡ length (values_of s) =
      ap (λ (l : List ℕ). length l) (Folds-done (values_of s) held operations 0 v a done).values_are ∙ length-performed (values_of s) operations in
      let after = length-marked pid (pids_of s) operations in
      let same : length v ≡ length (fold (marked pid) (pids_of s) operations) = omega (arith, values, pids, before, after) in
      omega (arith, length-in v (fold (marked pid) (pids_of s) operations) same, values, before)

  pub range-carried : All (λ x. x.value ≤ most_value) s.semaphores → All (λ x. x.value ≤ most_value) (carried s v operations pid moment).semaphores
  range-carried all =
      all-in (λ n. n ≤ most_value) v (fold (marked pid) (pids_of s) operations)
      (all-done (values_of s) v held a operations done (All-map (λ n. n ≤ most_value) (λ (x : Semaphore). x.value) s.semaphores all))

stops-from : (from : ℕ) (values : List ℕ) (held : ℕ → ℤ) (ops : List Operation) (at : ℕ) → outcome_from from values held ops ≡ Blocks at
    → at < from + length ops
stops-from from values held [] at is = cc
stops-from from values held (o ∷ rest) at is =
    elim (judged (slice_index values o.num) (held o.num) o) as (λ w. unless_stopped w from (outcome_from (from + 1) (performed values o) (adjusted held o) rest)
    ≡ Blocks at → at < from + length (o ∷ rest)) [
      | Passes ↦ λ e. omega (arith, stops-from (from + 1) (performed values o) (adjusted held o) rest at e)
      | Waits ↦ λ e. let same : from ≡ at = cc in omega (arith, same)
      | OutOfRange ↦ λ e. cc
    ] is

-- an operation that stops a list is one of the list
pub stops-inside : (values : List ℕ) (held : ℕ → ℤ) (ops : List Operation) (at : ℕ) → outcome values held ops ≡ Blocks at → at < length ops
stops-inside values held ops at is = omega (arith, stops-from 0 values held ops at is)
