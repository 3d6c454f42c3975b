-- semop(2), in this server's profile: a list of operations is performed whole or not at all. Refusals stand in the
-- order in which they are tested. A list of which an operation cannot proceed waits, and is tried again by all rules of
-- a new one. And how many lists wait for a semaphore, which GETNCNT and GETZCNT of semctl(2) tell.
use Rattle.std.specs.Prelude.{ℕ, ℤ, pos, Bool, true, false, not, ◌&&◌, List, map, length}
use Rattle.std.specs.Prelude.{nat_eq, nat_lt, ◌==◌, int_lt, slice_get, if◌then◌else◌, Ok, Err, Option, Some, None}
use Rattle.std.specs.FinMap as fin
use Rattle.std.specs.List.{fold, filter, list_all}
use Rattle.std.specs.Ordering.{int_eq}
use Rattle.ipc_base.specs.declared.errno.Errno.TheVariants.{E2BIG, EACCES, EAGAIN, EFBIG, EINVAL, ENOSPC}
use Rattle.ipc_base.specs.declared.identity.Cred.{Cred}
use Rattle.ipc_limits.specs.declared.limits.Limits.{Limits}
use Rattle.ipc_limits.specs.Limits.{adjustment_limit, exceeds}
use Rattle.ipc_perm.specs.Perm.{may}
use Rattle.ipc_wire.specs.declared.reply.Body.TheVariants.{Empty, Number}
use Rattle.ipc_wire.specs.Request.{PlainKind, Sysv}
use Rattle.ipc_wire.specs.Request as requests
use Rattle.ipc_wire.specs.SemBufs.{operations_in}
use Rattle.sem_undo.specs.Undo.{Undo, adjustment, subtracted}
use Rattle.sysv_sem.specs.declared.operation.Operation.{Operation}
use Rattle.sysv_sem.specs.Operation.{Outcome, Done as IsDone, Blocks as Stops, Fails as IsRefused, has_undo, outcome}
use Rattle.sysv_sem.specs.Set.{Set, values_of, carried}
use Rattle.ipc_state.specs.Bound.{holding}
pub use Rattle.ipc_state.specs.Demands.{operation_of}
use Rattle.ipc_state.specs.Keyed.{KeyedEntry}
use Rattle.ipc_state.specs.State.{State, cred_of, semset_of, undo_of, with_semset, with_undo}
use Rattle.ipc_state.specs.Waiting.{PlainWaiting}
use Rattle.ipc_state.specs.Finish.{Halt, Fails, Blocks, Attempt, Done, answer, refuse, ◌orelse◌, ◌>>◌, ◌>>=◌}
use Rattle.sysv_calls.specs.Access.{gone, read, write}
use Rattle.sysv_calls.specs.Msg.{waits_or}
use Rattle.sysv_calls.specs.Sem.{semaphore}

-- ---- operations

-- those that the bytes of a request spell
abbrev pub operations_of : List ℕ → List Operation
operations_of bytes = map operation_of (operations_in bytes)

-- a zero operation reads its semaphore, and any other writes it
abbrev pub asked : Operation → ℕ
asked o = if int_eq o.sem_op (pos 0) then read else write

-- the semaphore of each is there
abbrev pub are_within : ℕ → List Operation → Bool
are_within nsems ops = list_all (λ o. nat_lt o.num nsems) ops

-- the adjustments of a process at the semaphores of a set
abbrev pub held_by : State → ℕ → ℕ → ℕ → ℤ
held_by s pid id num = adjustment (undo_of s pid) (id, num)

-- the adjustments of the process after an operation
abbrev pub noted : ℕ → Undo → Operation → Undo
noted id undo o = if has_undo o then subtracted undo (id, o.num) o.sem_op else undo

-- ---- semop

-- the set of which the operations may be tried
abbrev pub operable : Limits → State → Cred → Bool → ℕ → List Operation → Attempt (KeyedEntry Set)
operable limits s cred again id ops = do
  refuse EINVAL (length ops == 0)
  e ← semset_of s id orelse gone again
  refuse E2BIG (nat_lt limits.semopm (length ops))
  refuse EFBIG (not (are_within (length e.object.semaphores) ops))
  refuse EACCES (not (list_all (λ o. may cred e.perm (asked o)) ops))
  Ok e

-- that set, and what the operations meet there
abbrev pub tried_list : Limits → State → Cred → ℕ → Bool → ℕ → List Operation → Attempt (KeyedEntry Set × Outcome)
tried_list limits s cred pid again id ops = do
  e ← operable limits s cred again id ops
  Ok (e, outcome (values_of e.object) (held_by s pid id) ops)

-- what becomes of a list that this operation stops
abbrev pub stopped_by : Option Operation → Halt
stopped_by None = Blocks
stopped_by (Some o) = waits_or o.flags.0 EAGAIN

-- the values after all of them, if all can be performed
abbrev pub decided : List Operation → Outcome → Attempt (List ℕ)
decided ops (IsDone values after) = Ok values
decided ops (Stops at) = Err (stopped_by (slice_get ops at))
decided ops (IsRefused e) = Err (Fails e)

-- the set, and its values after them, if each can proceed
abbrev pub proceeding : Limits → State → Cred → ℕ → Bool → ℕ → List Operation → Attempt (KeyedEntry Set × List ℕ)
proceeding limits s cred pid again id ops = do
  found ← tried_list limits s cred pid again id ops
  values ← decided ops found.1
  Ok (found.0, values)

-- they would leave their process with more adjustments that are not 0 than their limit
abbrev pub notes_too_many : Limits → State → ℕ → ℕ → List Operation → Bool
notes_too_many limits s pid id ops =
    exceeds (fin.len (fold (noted id) (undo_of s pid) ops)) (adjustment_limit limits)

-- the set, and its values after them, if they may be performed
abbrev pub performable : Limits → State → Cred → ℕ → Bool → ℕ → List Operation → Attempt (KeyedEntry Set × List ℕ)
performable limits s cred pid again id ops = do
  found ← proceeding limits s cred pid again id ops
  refuse ENOSPC (notes_too_many limits s pid id ops)
  Ok found

-- the state after them
abbrev pub operated : State → ℕ → ℕ → List Operation → KeyedEntry Set × List ℕ → State
operated s pid id ops found =
    with_undo (with_semset s id (holding found.0 (carried found.0.object found.1 ops (record { 0 = pid }) s.clock))) pid
    (fold (noted id) (undo_of s pid) ops)

-- semop(2)
abbrev pub semop : Limits → State → Cred → ℕ → Bool → ℕ → List ℕ → Attempt Done
semop limits s cred pid again id bytes = do
  found ← performable limits s cred pid again id (operations_of bytes)
  answer (operated s pid id (operations_of bytes) found) Empty

-- ---- how many wait

-- the operation that stops a list now, if one does
abbrev pub stopping : List Operation → Attempt (KeyedEntry Set × Outcome) → Option Operation
stopping ops (Ok (e, Stops at)) = slice_get ops at
stopping ops _ = None

-- a zero operation, or one that takes away, on the semaphore of this number
abbrev pub is_of : Bool → ℕ → Option Operation → Bool
is_of zero num None = false
is_of zero num (Some o) = nat_eq o.num num && (if zero then int_eq o.sem_op (pos 0) else int_lt o.sem_op (pos 0))

-- whether a call that waits is a list on this set that such an operation stops
abbrev pub is_stopped : Limits → State → Bool → ℕ → ℕ → ℕ → PlainKind → Bool
is_stopped limits s zero id num pid (Sysv (requests.Semop other timeout bytes)) =
    nat_eq other id && is_of zero num (stopping (operations_of bytes)
    (tried_list limits s (cred_of s pid) pid true id (operations_of bytes)))
is_stopped limits s zero id num pid kind = false

-- how many there are
abbrev pub count_stopped : Limits → State → Bool → ℕ → ℕ → ℕ
count_stopped limits s zero id num =
    length (filter (λ (w : PlainWaiting). is_stopped limits s zero id num w.pid.0 w.call.kind) s.wait)

-- GETNCNT and GETZCNT of semctl(2)
abbrev pub semctl_getcnt : Limits → State → Cred → Bool → ℕ → ℕ → Attempt Done
semctl_getcnt limits s cred zero id num = do
  found ← semaphore s cred id num read
  answer s (Number (count_stopped limits s zero id num))
