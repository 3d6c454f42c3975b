-- Semaphore sets stay sound as they come and change, each by itself and together.
use Rattle.std.proofs.Common.{◌≡◌, ℕ, ℤ, ◌<◌, ◌≤◌, List, length, arith}
use Rattle.std.specs.Prelude.{All, min, slice_index}
use Rattle.std.proofs.Math.Nat.{min-le_right}
use Rattle.std.proofs.lemmas.List.{length-map, length-replicate, length-set}
use Rattle.std.proofs.lemmas.List.Elements.{All-map, All-replicate, All-set}
use Rattle.ipc_base.specs.declared.identity.Pid.{Pid}
use Rattle.ipc_limits.specs.declared.limits.Limits.{Limits}
use Rattle.sysv_sem.specs.declared.set.Semaphore.{Semaphore}
use Rattle.sysv_sem.specs.declared.operation.Operation.{Operation}
use Rattle.sysv_sem.specs.Operation.{Done, most_value, outcome, value_after}
use Rattle.sysv_sem.specs.Set.{Set, new_set, with_value, with_values, carried, changed, after_exit, values_of}
use Rattle.sysv_sem.proofs.CallerLemmas.{length-carried, range-carried}
use Rattle.ipc_state.specs.Sound.{IsSoundSemset}

-- a value in its range
abbrev IsValue : Semaphore → Type 0
IsValue x = x.value ≤ most_value

module _ (limits : Limits) where
  pub new_set-sound : (nsems moment : ℕ) → 0 < nsems → nsems ≤ limits.semmsl → IsSoundSemset limits (new_set nsems moment)
  new_set-sound nsems moment some few =
      let len = length-replicate nsems (let x : Semaphore = record { value = 0; pid = record { 0 = 0 } } in x) in
      record { some = omega (arith, len, some); few = omega (arith, len, few); values = All-replicate IsValue nsems _ (omega arith) }

  pub with_value-sound : (s : Set) (num value : ℕ) (pid : Pid) (moment : ℕ) → value ≤ most_value → IsSoundSemset limits s
      → IsSoundSemset limits (with_value s num value pid moment)
  with_value-sound s num value pid moment fits h =
      let x : Semaphore = record { value = value; pid = pid } in
      let len = length-set s.semaphores num x in
      record { some = omega (arith, len, h.some); few = omega (arith, len, h.few); values = All-set IsValue s.semaphores num x fits h.values }

  pub with_values-sound : (s : Set) (values : List ℕ) (pid : Pid) (moment : ℕ) → length values ≡ length s.semaphores
      → All (λ v. v ≤ most_value) values → IsSoundSemset limits s → IsSoundSemset limits (with_values s values pid moment)
  with_values-sound s values pid moment count fit h =
      let of : ℕ → Semaphore = λ v. record { value = v; pid = pid } in
      let len = length-map values of in
      record { some = omega (arith, len, count, h.some); few = omega (arith, len, count, h.few); values = All-map IsValue of values fit }

  pub after_exit-sound : (s : Set) (num : ℕ) (a : ℤ) (pid : Pid) → IsSoundSemset limits s → IsSoundSemset limits (after_exit s num a pid)
  after_exit-sound s num a pid h =
      let x : Semaphore = record { value = min (value_after (slice_index (values_of s) num) a) most_value; pid = pid } in
      let len = length-set s.semaphores num x in
      let fits : x.value ≤ most_value = omega (arith, min-le_right (value_after (slice_index (values_of s) num) a) most_value) in
      record { some = omega (arith, len, h.some); few = omega (arith, len, h.few); values = All-set IsValue s.semaphores num x fits h.values }

  pub carried-sound : (s : Set) (held after : ℕ → ℤ) (operations : List Operation) (values : List ℕ) (pid : Pid) (moment : ℕ)
      → outcome (values_of s) held operations ≡ Done values after → IsSoundSemset limits s → IsSoundSemset limits (carried s values operations pid moment)
  carried-sound s held after operations values pid moment is h =
      let len = length-carried s held after operations values pid moment is in
      record {
        some = omega (arith, len, h.some);
        few = omega (arith, len, h.few);
        values = range-carried s held after operations values pid moment is h.values;
      }

  pub changed_set-sound : (s : Set) (moment : ℕ) → IsSoundSemset limits s → IsSoundSemset limits (changed s moment)
  changed_set-sound s moment h = record { some = h.some; few = h.few; values = h.values }
