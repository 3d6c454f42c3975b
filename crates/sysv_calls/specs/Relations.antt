-- What the functions of semop(2) ask for, so that they cannot fail.
use Rattle.std.specs.Ordering.{int_eq}
use Rattle.std.specs.Prelude.{◌≡◌, ◌<◌, ◌≤◌, ℕ, ℤ, pos, ◌-ℤ◌, if◌then◌else◌, true, nat_eq, Some, None}
use Rattle.std.specs.Prelude.{List, length, take, slice_index_or, All}
use Rattle.std.specs.FinMap as fin
use Rattle.std.specs.List.{fold}
use Rattle.ipc_limits.specs.declared.limits.Limits.{Limits}
use Rattle.ipc_limits.specs.Limits.{ArePassed}
use Rattle.ipc_base.specs.Table.{value_at}
use Rattle.sem_undo.specs.Undo.{Undo, adjustment, is_adjustment, most_rows}
use Rattle.sysv_sem.specs.declared.operation.Operation.{Operation}
use Rattle.sysv_sem.specs.Operation.{Done, has_undo, outcome}
use Rattle.sysv_sem.specs.Set.{Set, values_of}
use Rattle.ipc_state.specs.Keyed.{KeyedEntry}
use Rattle.ipc_state.specs.State.{State, is_process, semset_of, undo_of}
use Rattle.sysv_calls.specs.Semop.{held_by, noted}

-- there are no more than a buffer has room for, their set is there, and they can be performed
pub record Passes (limits : Limits) (s : State) (pid id : ℕ) (ops : List Operation) (found : KeyedEntry Set × List ℕ)
    : Type 0 where
  pub few : length ops ≤ 32
  pub there : semset_of s id ≡ Some found.0
  pub within : All (λ o. o.num < length found.0.object.semaphores) ops
  pub done : (after : ℕ → ℤ) × (outcome (values_of found.0.object) (held_by s pid id) ops ≡ Done found.1 after)

-- each operation of a list passes, at some values and the adjustments of a process
pub record CanPass (s : State) (pid id : ℕ) (ops : List Operation) : Type 0 where
  pub values : List ℕ
  pub after : List ℕ
  pub held : ℕ → ℤ
  pub done : outcome values (held_by s pid id) ops ≡ Done after held

-- the adjustments of a process after so many operations of a list
abbrev pub noted_by : State → ℕ → ℕ → List Operation → ℕ → Undo
noted_by s pid id ops count = fold (noted id) (undo_of s pid) (take count ops)

-- 0 stands for no adjustment, and any other number for one
abbrev pub one_if_kept : ℤ → ℕ
one_if_kept a = if int_eq a (pos 0) then 0 else 1

-- they can be performed for a process that is there, under limits that passed their check
pub record IsReady (limits : Limits) (s : State) (pid id : ℕ) (ops : List Operation) : Type 0 where
  pub passed : ArePassed limits
  pub process : is_process s pid ≡ true
  pub found : (found : KeyedEntry Set × List ℕ) × Passes limits s pid id ops found

-- an operation can be noted: its adjustment is one, and there is room for it
pub record CanNote (id : ℕ) (undo : Undo) (o : Operation) : Type 0 where
  pub range : is_adjustment (adjustment undo (id, o.num) -ℤ o.sem_op) ≡ true
  pub few : fin.get undo (id, o.num) ≡ None → fin.len undo < most_rows

-- each can be noted after those before it, for a process that has adjustments
pub record CanBeNoted (s : State) (pid id : ℕ) (ops : List Operation) : Type 0 where
  pub there : value_at nat_eq s.undo pid ≡ Some (undo_of s pid)
  pub each : (k : ℕ) (d : Operation) → k < length ops → has_undo (slice_index_or ops k d) ≡ true
      → CanNote id (fold (noted id) (undo_of s pid) (take k ops)) (slice_index_or ops k d)
