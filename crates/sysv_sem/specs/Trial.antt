-- What a list of operations does to one semaphore.
use Rattle.std.specs.Prelude.{◌≡◌, ℕ, ◌==◌, ℤ, ◌-ℤ◌, ◌&&◌, if◌then◌else◌, List, map, slice_index, slice_set}
use Rattle.ipc_base.specs.declared.identity.Pid.{Pid}
use Rattle.sysv_sem.specs.declared.set.Semaphore.{Semaphore}
use Rattle.sysv_sem.specs.declared.operation.Operation.{Operation}
use Rattle.sysv_sem.specs.Operation.{value_after, has_undo, Done, outcome}

-- the value of the semaphore of this number after an operation, and its adjustment
abbrev pub value_of : ℕ → ℕ → Operation → ℕ
value_of num value o = if num == o.num then value_after value o.sem_op else value

abbrev pub adjustment_of : ℕ → ℤ → Operation → ℤ
adjustment_of num adjustment o =
    if has_undo o && (num == o.num) then adjustment -ℤ o.sem_op else adjustment

-- the semaphores after an operation of this process that passes
abbrev pub changed_by : Pid → List Semaphore → Operation → List Semaphore
changed_by pid xs o =
    slice_set xs o.num (record { value = value_after (slice_index (map (λ x. x.value) xs) o.num) o.sem_op; pid = pid })

-- with some adjustments, the operations pass
abbrev pub CanBeDone : List ℕ → List Operation → Type 0
CanBeDone values operations =
    (held : ℕ → ℤ) × (v : List ℕ) × (a : ℕ → ℤ) × (outcome values held operations ≡ Done v a)
