-- Operations on a semaphore set (semop(2)). A list of operations is performed whole or not at all. Its first operation
-- is judged at the set as it is, and each other as if those before it were performed: it may have to wait, and then so
-- does the list; it may take a value or an adjustment out of range, and then the list is refused; or it passes.
use Rattle.std.specs.Prelude.{ℕ, zero, suc, ◌+◌, ◌-◌, ◌==◌, nat_lt, ℤ, pos, negsuc, ◌-ℤ◌}
use Rattle.std.specs.Prelude.{Bool, true, false, not, ◌&&◌, if◌then◌else◌, List, [], ◌∷◌, bit_and}
use Rattle.std.specs.Prelude.{slice_index, slice_set}
pub use Rattle.ipc_base.specs.Adjustment.{is_adjustment}
use Rattle.ipc_base.specs.declared.errno.Errno.{Errno}
use Rattle.ipc_base.specs.declared.errno.Errno.TheVariants.{ERANGE}
use Rattle.sysv_sem.specs.declared.operation.Operation.{Operation}
use Rattle.sysv_sem.specs.declared.operation.Trial.{Trial}
use Rattle.sysv_sem.specs.declared.operation.Trial.TheVariants as trial
use Rattle.sysv_sem.specs.declared.operation.Verdict.{Verdict}
use Rattle.sysv_sem.specs.declared.operation.Verdict.TheVariants.{Passes, Waits, OutOfRange}

-- ---- one operation

-- the most that a value may be
abbrev pub most_value : ℕ
most_value = 32767

-- whether the operation is undone when its process exits: it has SEM_UNDO
abbrev pub has_undo : Operation → Bool
has_undo o = bit_and o.flags.0 4096 == 4096

-- 0 waits for the value 0, and a number below 0 for a value of as much
abbrev pub must_wait : ℕ → ℤ → Bool
must_wait value (pos zero) = not (value == 0)
must_wait value (pos (suc n)) = false
must_wait value (negsuc n) = nat_lt value (suc n)

-- the value with a number added to it, and 0 if that is below 0
abbrev pub value_after : ℕ → ℤ → ℕ
value_after value (pos n) = value + n
value_after value (negsuc n) = value - suc n

-- what an operation meets at the value of its semaphore, and at the adjustment that its process has there
abbrev pub judged : ℕ → ℤ → Operation → Verdict
judged value adjustment o =
    if must_wait value o.sem_op then Waits
    else if nat_lt most_value (value_after value o.sem_op) then OutOfRange
    else if has_undo o && not (is_adjustment (adjustment -ℤ o.sem_op)) then OutOfRange
    else Passes

-- whether it takes more than this value
abbrev pub takes_more : ℕ → ℤ → Bool
takes_more value (pos n) = false
takes_more value (negsuc n) = nat_lt value (suc n)

-- whether it gives some
abbrev pub gives_some : ℤ → Bool
gives_some (pos zero) = false
gives_some (pos (suc n)) = true
gives_some (negsuc n) = false

-- whether it gives nothing and is not undone: at any value it passes or has to wait
abbrev pub gives_nothing : Operation → Bool
gives_nothing o = not (gives_some o.sem_op) && not (has_undo o)

-- whether it is patient: it also waits then, since it has no IPC_NOWAIT
abbrev pub is_patient : Operation → Bool
is_patient o = gives_nothing o && not (bit_and o.flags.0 2048 == 2048)

-- the values after an operation that passes
abbrev pub performed : List ℕ → Operation → List ℕ
performed values o = slice_set values o.num (value_after (slice_index values o.num) o.sem_op)

-- the adjustments, by the number of the semaphore, after an operation that passes
abbrev pub adjusted : (ℕ → ℤ) → Operation → ℕ → ℤ
adjusted adjustments o num =
    if has_undo o && (num == o.num) then adjustments num -ℤ o.sem_op else adjustments num

-- ---- a list of operations

-- each is performed, and these are the values and the adjustments after them; or the one at a position waits; or the
-- list is refused
pub data Outcome : Type 0 where
  Done : List ℕ → (ℕ → ℤ) → Outcome
  Blocks : ℕ → Outcome
  Fails : Errno → Outcome

-- the outcome if the operation at a position meets this, and what it is if that operation passes
abbrev pub unless_stopped : Verdict → ℕ → Outcome → Outcome
unless_stopped Passes at passed = passed
unless_stopped Waits at passed = Blocks at
unless_stopped OutOfRange at passed = Fails ERANGE

-- what the operations meet from a position of the list on
abbrev pub outcome_from : ℕ → List ℕ → (ℕ → ℤ) → List Operation → Outcome
outcome_from at values adjustments [] = Done values adjustments
outcome_from at values adjustments (o ∷ rest) =
    unless_stopped (judged (slice_index values o.num) (adjustments o.num) o) at
    (outcome_from (at + 1) (performed values o) (adjusted adjustments o) rest)

abbrev pub outcome : List ℕ → (ℕ → ℤ) → List Operation → Outcome
outcome values adjustments operations = outcome_from 0 values adjustments operations

-- an outcome without what is performed
abbrev pub trial_of : Outcome → Trial
trial_of (Done values adjustments) = trial.Done
trial_of (Blocks at) = trial.Blocks at
trial_of (Fails errno) = trial.Fails errno
