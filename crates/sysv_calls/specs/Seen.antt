-- What the program's functions answer, as values of the definitions.
use Rattle.std.specs.Prelude.{ℕ, Bool, Option, option_map, Result, Ok, Err}
use Rattle.std.specs.Borrow.{Bor}
use Rattle.ipc_base.specs.declared.errno.Errno.{Errno}
use Rattle.ipc_base.specs.declared.identity.Cred.{Cred}
use Rattle.ipc_base.specs.declared.identity.Id.{Id}
use Rattle.ipc_limits.specs.declared.limits.Limits.{Limits}
use Rattle.ipc_state.specs.Finish.{Attempt, Fails}
use Rattle.ipc_state.specs.declared.answers.Halt.{Halt as Stops}
use Rattle.ipc_state.specs.Steps.{plain_halt, seen}
use Rattle.ipc_state.specs.State.{State}
use Rattle.ipc_state.specs.declared.parked.ParkedSysv.{ParkedSysv}
use Rattle.ipc_state.specs.declared.parked.ParkedSysv.TheVariants as parked
use Rattle.sysv_calls.specs.Msg.{sendable, receivable}
use Rattle.sysv_calls.specs.Semop.{operations_of, performable}
use Rattle.sysv_calls.specs.Shm.{FoundShm as PlainSegment}
use Rattle.sysv_calls.specs.declared.shm.FoundShm.{FoundShm}

-- what a reference shows
abbrev pub attempt_of : {X : Type 0} → Result (Bor X) Errno → Attempt X
attempt_of (Ok x) = Ok x.now
attempt_of (Err e) = Err (Fails e)

abbrev pub shown : {X : Type 0} → Result (Bor X) Stops → Attempt X
shown (Ok x) = Ok x.now
shown (Err h) = Err (plain_halt h)

-- what a get found
abbrev pub sought_of : Result (Option Id) Errno → Attempt (Option ℕ)
sought_of (Ok found) = Ok (option_map (λ id. id.0) found)
sought_of (Err e) = Err (Fails e)

-- a segment that is attached
abbrev pub plain_segment : FoundShm → PlainSegment
plain_segment f = record { id = f.id.0; entry = f.entry.now; flags = f.flags.0 }

abbrev pub segment_of : Result FoundShm Errno → Attempt PlainSegment
segment_of (Ok f) = Ok (plain_segment f)
segment_of (Err e) = Err (Fails e)

-- the tests of a call that may wait: if it may go on now, the place of the message that a receive takes, and 0 for any
-- other
abbrev pub place_in : Limits → State → Cred → ℕ → Bool → ParkedSysv → Attempt ℕ
place_in limits s cred pid again (parked.Msgsnd id flags message) =
    seen (λ e. 0) (sendable limits s cred again id.0 flags.0 message.mtype message.text.items)
place_in limits s cred pid again (parked.Msgrcv id flags size mtype) =
    seen (λ found. found.1) (receivable s cred again id.0 flags.0 size mtype)
place_in limits s cred pid again (parked.Semop id timeout operations) =
    seen (λ found. 0) (performable limits s cred pid again id.0 (operations_of operations.bytes.items))
