-- Calls that wait (msgop(2), semop(2), mq_send(3), mq_receive(3), sem_wait(3)): on what each of them waits, and what
-- holds of one that does.
use Rattle.std.specs.Prelude.{◌≡◌, ◌≤◌, ◌<◌, ◌+◌, ◌-◌, ◌^◌, ℕ, Bool, true, false, is_some, nat_lt, if◌then◌else◌}
use Rattle.std.specs.Prelude.{List, length, Option, Some, None, IfSome, All}
use Rattle.ipc_base.specs.declared.errno.Errno.{Errno}
use Rattle.ipc_base.specs.declared.errno.Errno.TheVariants.{EAGAIN, ETIMEDOUT}
use Rattle.ipc_base.specs.declared.identity.Moment.{Moment}
use Rattle.ipc_limits.specs.declared.limits.Limits.{Limits}
use Rattle.ipc_wait.specs.Waits.{HaveDistinctPids}
use Rattle.ipc_wait.specs.declared.list.Waiting.{Waiting}
use Rattle.ipc_wire.specs.Posix.{PlainPosix}
use Rattle.ipc_wire.specs.Posix as posix
use Rattle.ipc_wire.specs.Request.{PlainSysv, PlainKind, PlainRequest, Sysv, Posix}
use Rattle.ipc_wire.specs.Request as requests
use Rattle.ipc_wire.specs.Spelling.{HasFrame}
use Rattle.ipc_state.specs.declared.parked.Awaited.{Awaited}
use Rattle.ipc_state.specs.declared.parked.Awaited.TheVariants as awaited
use Rattle.ipc_state.specs.declared.parked.ParkedSysv.{ParkedSysv}
use Rattle.ipc_state.specs.declared.parked.ParkedSysv.TheVariants as parked
use Rattle.ipc_state.specs.declared.parked.ParkedPosix.{ParkedPosix}
use Rattle.ipc_state.specs.declared.parked.ParkedPosix.TheVariants as parked_as
use Rattle.ipc_state.specs.declared.parked.ParkedKind.{ParkedKind}
use Rattle.ipc_state.specs.declared.parked.ParkedKind.TheVariants as kinds

-- a call that waits: of which process, on what, until when, and the request
abbrev pub PlainWaiting : Type 0
PlainWaiting = Waiting Awaited PlainRequest

-- what a request waits on, if it is of a call that may wait
abbrev pub awaited_by : PlainKind → Option Awaited
awaited_by (Sysv (requests.Msgsnd id flags mtype text)) = Some (awaited.MsgQueue (record { 0 = id }))
awaited_by (Sysv (requests.Msgrcv id flags size mtype)) = Some (awaited.MsgQueue (record { 0 = id }))
awaited_by (Sysv (requests.Semop id timeout operations)) = Some (awaited.Semset (record { 0 = id }))
awaited_by (Posix (posix.MqSend fd deadline priority text)) = Some (awaited.Descriptor fd)
awaited_by (Posix (posix.MqReceive fd deadline size)) = Some (awaited.Descriptor fd)
awaited_by (Posix (posix.SemWait fd deadline)) = Some (awaited.Descriptor fd)
awaited_by _ = None

-- whether the request is of a call that may wait
abbrev pub may_wait : PlainKind → Bool
may_wait kind = is_some (awaited_by kind)

-- whether a text of it, or a list of operations, is kept while its call waits, in memory of its own
abbrev pub has_text : PlainKind → Bool
has_text (Sysv (requests.Msgsnd id flags mtype text)) = true
has_text (Sysv (requests.Semop id timeout operations)) = true
has_text (Posix (posix.MqSend fd deadline priority text)) = true
has_text _ = false

-- so much later; none if that is the greatest number of eight bytes, or above
abbrev pub deadline_after : ℕ → ℕ → Option Moment
deadline_after now timeout =
    if nat_lt (now + timeout) (2 ^ 64 - 1) then Some (record { 0 = now + timeout }) else None

-- until when a call waits that comes at this moment: semop until its timeout has passed, the System V calls of message
-- queues without end, and the POSIX calls until the moment that they name
unfoldable pub deadline_of : ℕ → PlainKind → Option Moment
deadline_of now (Sysv (requests.Semop id timeout operations)) = deadline_after now timeout
deadline_of now (Posix (posix.MqSend fd deadline priority text)) = deadline_after 0 deadline
deadline_of now (Posix (posix.MqReceive fd deadline size)) = deadline_after 0 deadline
deadline_of now (Posix (posix.SemWait fd deadline)) = deadline_after 0 deadline
deadline_of now kind = None

-- whether a call of it may have a deadline
abbrev pub has_deadline : PlainKind → Bool
has_deadline (Sysv (requests.Semop id timeout operations)) = true
has_deadline (Posix (posix.MqSend fd deadline priority text)) = true
has_deadline (Posix (posix.MqReceive fd deadline size)) = true
has_deadline (Posix (posix.SemWait fd deadline)) = true
has_deadline kind = false

-- what a call is told whose deadline has come
unfoldable pub expiry : PlainKind → Errno
expiry (Posix call) = ETIMEDOUT
expiry kind = EAGAIN

-- the System V call that is kept
abbrev pub parked_sysv : ParkedSysv → PlainSysv
parked_sysv (parked.Msgsnd id flags message) = requests.Msgsnd id.0 flags.0 message.mtype message.text.items
parked_sysv (parked.Msgrcv id flags size mtype) = requests.Msgrcv id.0 flags.0 size mtype
parked_sysv (parked.Semop id timeout operations) = requests.Semop id.0 timeout operations.bytes.items

-- the POSIX call that is kept
abbrev pub parked_posix : ParkedPosix → PlainPosix
parked_posix (parked_as.MqSend fd deadline message) = posix.MqSend fd deadline message.priority message.text.items
parked_posix (parked_as.MqReceive fd deadline size) = posix.MqReceive fd deadline size
parked_posix (parked_as.SemWait fd deadline) = posix.SemWait fd deadline

-- what the request of a call that is kept asks
abbrev pub parked_kind : ParkedKind → PlainKind
parked_kind (kinds.Sysv call) = Sysv (parked_sysv call)
parked_kind (kinds.Posix call) = Posix (parked_posix call)

-- its request has a frame and waits on that; a deadline is of a call that may have one, and not the number of
-- none
pub record IsSoundWaiting (w : PlainWaiting) : Type 0 where
  pub frame : HasFrame w.call
  pub on : awaited_by w.call.kind ≡ Some w.on
  pub deadline : IfSome w.deadline (λ d. (has_deadline w.call.kind ≡ true) × (d.0 < 2 ^ 64 - 1))

-- no process has two, there are no more than processes, and each is sound
pub record AreSoundWaits (limits : Limits) (calls : List PlainWaiting) : Type 0 where
  pub pids : HaveDistinctPids calls
  pub few : length calls ≤ limits.processes
  pub each : All IsSoundWaiting calls
