-- How many replies an event sends a process, and how many bytes of frames these are: none but the replies to what the
-- process has asked for, to each request one at most, and the notifications for which it has registered.
use Rattle.std.specs.Prelude.{◌≡◌, ◌⊎◌, ℕ, ◌+◌, ◌*◌, Bool, true, false, not, ◌&&◌, ◌==◌, if◌then◌else◌}
use Rattle.std.specs.Prelude.{List, [], ◌∷◌, ◌++◌, length, Option}
use Rattle.ipc_limits.specs.declared.limits.Limits.{Limits}
use Rattle.ipc_limits.specs.Limits.{longest_reply}
use Rattle.ipc_wire.specs.Reply.{reply_bytes}
use Rattle.posix_mq.specs.declared.queue.Registration.{Registration}
use Rattle.ipc_state.specs.State.{State, is_process, is_waiting}
use Rattle.ipc_state.specs.Waiting.{PlainWaiting}
use Rattle.posix_calls.specs.Registrations.{registrations}
use Rattle.ipc_engine.specs.Event.{PlainEvent, Connect, Call, Interrupt, Tick, Exit, Restart, PlainOutcome}
use Rattle.ipc_engine.specs.Step.{Step, notices}
use Rattle.ipc_engine.specs.View.{reply_of}

-- the bytes of those frames that are for a process
abbrev pub bytes_to : ℕ → List PlainOutcome → ℕ
bytes_to pid [] = 0
bytes_to pid (o ∷ os) = (if pid == o.pid then length (reply_bytes (reply_of o)) else 0) + bytes_to pid os

-- how many replies are for a process; a notification, which has no serial, is none
abbrev pub replies_to : ℕ → List PlainOutcome → ℕ
replies_to pid [] = 0
replies_to pid (o ∷ os) = (if pid == o.pid && not (o.serial == 0) then 1 else 0) + replies_to pid os

-- whether a process asks something by an event: it makes a request, an INTERRUPT too, or is the one that a HELLO makes
abbrev pub asks : State → PlainEvent → ℕ → Bool
asks s (Connect cred serial moment) pid = pid == s.processes.next
asks s (Call asker request moment) pid = pid == asker
asks s (Interrupt asker serial moment) pid = pid == asker
asks s (Tick moment) pid = false
asks s (Exit gone moment) pid = false
asks s Restart pid = false

-- how many requests of a process are not answered yet: one if a call of it waits
abbrev pub unanswered : State → ℕ → ℕ
unanswered s pid = if is_waiting s pid then 1 else 0

-- the bytes of the frame of a notification
abbrev pub notice_bytes : ℕ
notice_bytes = 18

-- how many bytes a process is still owed for what it asked by earlier events: one reply if a call of it waits, and a
-- notification for each queue with which it is registered
unfoldable pub owed : Limits → State → ℕ → ℕ
owed limits s pid = (if is_waiting s pid then longest_reply limits else 0) + notice_bytes * registrations s pid

-- no process is owed more
abbrev pub most_owed : Limits → ℕ
most_owed limits = longest_reply limits + notice_bytes * limits.queues

-- how many requests an event brings of a process
abbrev pub asked_count : State → PlainEvent → ℕ → ℕ
asked_count s e pid = if asks s e pid then 1 else 0

-- how many bytes an event adds to what a process is owed: the longest reply if it asks, and else none
abbrev pub allowed : Limits → State → PlainEvent → ℕ → ℕ
allowed limits s e pid = if asks s e pid then longest_reply limits else 0

-- the replies of a HELLO end with its own: it names the new process, which is connected then, or none
pub record IsGreeted (s : State) (now : Step) : Type 0 where
  pub front : List PlainOutcome
  pub reply : PlainOutcome
  pub last : now.outcomes ≡ front ++ reply ∷ []
  pub process : (reply.pid ≡ 0) ⊎ ((reply.pid ≡ s.processes.next) × (is_process now.state reply.pid ≡ true))

-- a call that waited has been answered: its process is sent one reply, to that call, and whoever is to be told of a
-- message that it sent is told
pub record IsAnswered (w : PlainWaiting) (now : Step) : Type 0 where
  pub reply : PlainOutcome
  pub fired : Option Registration
  pub all : now.outcomes ≡ reply ∷ notices fired
  pub process : reply.pid ≡ w.pid.0
  pub serial : reply.serial ≡ w.call.serial
