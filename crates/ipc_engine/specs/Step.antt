-- One step of the server on one event: the state after it, and the replies in their order. First its moment comes, at
-- which deadlines may end calls that wait; a restart has no moment and leaves the clock. Then it does what it says, and
-- at its end those calls go on that waited for it.
use Rattle.std.specs.Prelude.{ℕ, zero, suc, ◌+◌, ◌*◌, List, [], ◌∷◌, ◌++◌, length, if◌then◌else◌, Bool, true, false}
use Rattle.std.specs.Prelude.{not, Option, Some, None, find, map}
use Rattle.ipc_base.specs.declared.errno.Errno.TheVariants.{EALREADY, EINTR, ENFILE, EPROTO}
use Rattle.ipc_base.specs.declared.identity.Cred.{Cred}
use Rattle.ipc_base.specs.Numbers.{record_bytes}
use Rattle.ipc_base.specs.declared.field.Field.TheVariants.{U32}
use Rattle.ipc_limits.specs.declared.limits.Limits.{Limits}
use Rattle.ipc_limits.specs.Limits.{has_rules_of_three}
use Rattle.ipc_wait.specs.Waits.{waiting_call_of, is_due}
use Rattle.ipc_wire.specs.Request.{PlainKind, PlainRequest, Hello, Interrupt as Interrupts, Sysv, Posix}
use Rattle.ipc_wire.specs.declared.reply.Body.TheVariants.{Empty, Notification, Number, Record}
use Rattle.ipc_wire.specs.Reply.{PlainBody}
use Rattle.ipc_state.specs.declared.parked.Awaited.{Awaited}
use Rattle.ipc_state.specs.Finish.{Finish, Tried, Finishes, Waits, has_to_wait, done, refused}
use Rattle.ipc_state.specs.State.{State, at_moment, has_all_processes, with_process, exit, restart}
use Rattle.ipc_state.specs.State.{due_calls, is_waiting, with_waiting, without_due, without_waiting}
use Rattle.ipc_state.specs.Waiting.{PlainWaiting, awaited_by, deadline_of, expiry}
use Rattle.posix_mq.specs.declared.queue.Registration.{Registration}
use Rattle.sysv_calls.specs.Calls as sysv
use Rattle.posix_calls.specs.Calls as posix
use Rattle.ipc_engine.specs.Event.{PlainEvent, Connect, Call, Interrupt, Tick, Exit, Restart, PlainOutcome}

pub record Step : Type 0 where
  pub state : State
  pub outcomes : List PlainOutcome

-- nobody is answered
abbrev pub silent : State → Step
silent s = record { state = s; outcomes = [] }

-- one step, and what comes after it
abbrev pub after : Step → (State → Step) → Step
after now next = record { state = (next now.state).state; outcomes = now.outcomes ++ (next now.state).outcomes }

-- the notification that a call has fired, if it has: no request has its serial
abbrev pub notices : Option Registration → List PlainOutcome
notices None = []
notices (Some r) =
    record { pid = r.pid.0; serial = 0; errno = None; body = Notification r.descriptor r.cookie } ∷ []

-- the reply to a call that has ended so, and then the notification
abbrev pub replied : ℕ → ℕ → Finish → Step
replied pid serial f =
    record {
      state = f.state;
      outcomes = record { pid = pid; serial = serial; errno = f.errno; body = f.body } ∷ notices f.fired;
    }

-- ---- calls that wait

-- what comes of a call, as the state is now; again where it is one that waited; what is no call never waits
abbrev pub tried : Limits → State → ℕ → Bool → PlainKind → Tried
tried limits s pid again (Sysv call) = sysv.attempt limits s pid again call
tried limits s pid again (Posix call) = posix.attempt limits s pid call
tried limits s pid again kind = Finishes (refused s EPROTO)

-- it can go on now: it is done, or refused
abbrev pub can_resume : Limits → State → PlainWaiting → Bool
can_resume limits s w = not (has_to_wait (tried limits s w.pid.0 true w.call.kind))

-- a call that goes on is answered
abbrev pub answered : PlainWaiting → State → Tried → Step
answered w s (Finishes f) = replied w.pid.0 w.call.serial f
answered w s Waits = silent s

-- it leaves the list, and is done or refused
abbrev pub resumed : Limits → State → PlainWaiting → Step
resumed limits s w =
    answered w (without_waiting s w.pid.0) (tried limits (without_waiting s w.pid.0) w.pid.0 true w.call.kind)

-- it does so, and the others after it; nothing, if there is none
abbrev pub resumed_first : Limits → State → Option PlainWaiting → (State → Step) → Step
resumed_first limits s None next = silent s
resumed_first limits s (Some w) next = after (resumed limits s w) next

-- so many times at most: the first that can go on does so, and then all are looked at again
unfoldable pub settle_within : Limits → ℕ → State → Step
settle_within limits zero s = silent s
settle_within limits (suc n) s =
    resumed_first limits s (find (can_resume limits s) s.wait) (settle_within limits n)

-- until none can go on
unfoldable pub settle : Limits → State → Step
settle limits s = settle_within limits (length s.wait) s

-- ---- deadlines

-- the reply to a call whose deadline has come
abbrev pub expired : PlainWaiting → PlainOutcome
expired w = record { pid = w.pid.0; serial = w.call.serial; errno = Some (expiry w.call.kind); body = Empty }

-- a moment comes: the clock is the greatest so far, and the calls whose deadline has come leave, in order
abbrev pub due : ℕ → State → Step
due moment s =
    record { state = without_due (at_moment s moment); outcomes = map expired (due_calls (at_moment s moment)) }

-- the call that a process waits with on an object from now on
abbrev pub waiting_on : State → ℕ → PlainRequest → Awaited → PlainWaiting
waiting_on s pid request on =
    record { pid = record { 0 = pid }; on = on; deadline = deadline_of s.clock request.kind; call = request }

-- A call that cannot go on joins the end of the list, with the object on which it waits, unless its deadline is at or
-- before the clock. What is no call never waits.
abbrev pub joins : State → ℕ → PlainRequest → Option Awaited → Step
joins s pid request None = silent s
joins s pid request (Some on) =
    if is_due (record { 0 = s.clock }) (waiting_on s pid request on)
    then replied pid request.serial (refused s (expiry request.kind))
    else silent (with_waiting s (waiting_on s pid request on))

-- ---- events

-- what a new process is told: its pid, and on version 3 the version after it
abbrev pub greeting : Limits → ℕ → PlainBody
greeting limits pid =
    if has_rules_of_three limits then Record (record_bytes (U32 pid ∷ U32 limits.version ∷ [])) else Number pid

-- HELLO: a new process and its greeting, or ENFILE where no process can be added
abbrev pub connect : Limits → Cred → ℕ → State → Step
connect limits cred serial s =
    if has_all_processes limits s
    then record { state = s; outcomes = record { pid = 0; serial = serial; errno = Some ENFILE; body = Empty } ∷ [] }
    else record {
      state = with_process s cred;
      outcomes =
          record {
            pid = s.processes.next;
            serial = serial;
            errno = None;
            body = greeting limits s.processes.next;
          } ∷ [];
    }

-- what a process is told whose call was tried: how it ends, and then others go on; or nothing yet
abbrev pub replied_or_joined : Limits → ℕ → PlainRequest → State → Tried → Step
replied_or_joined limits pid request s (Finishes f) = after (replied pid request.serial f) (settle limits)
replied_or_joined limits pid request s Waits = joins s pid request (awaited_by request.kind)

-- a call of a process, which has one at a time
abbrev pub called : Limits → ℕ → PlainRequest → State → Step
called limits pid request s =
    if is_waiting s pid
    then replied pid request.serial (refused s EALREADY)
    else replied_or_joined limits pid request s (tried limits s pid false request.kind)

-- the call of a process that waits, if there is one, ends with EINTR
abbrev pub interrupted : State → ℕ → Option PlainWaiting → Step
interrupted s pid None = silent s
interrupted s pid (Some w) = replied pid w.call.serial (refused (without_waiting s pid) EINTR)

-- INTERRUPT: that, and then its own reply
abbrev pub interrupt : ℕ → ℕ → State → Step
interrupt pid serial s =
    after (interrupted s pid (waiting_call_of (record { 0 = pid }) s.wait)) (λ t. replied pid serial (done t Empty))

-- it is a call: HELLO and INTERRUPT are none
abbrev pub is_call : PlainKind → Bool
is_call (Sysv call) = true
is_call (Posix call) = true
is_call kind = false

-- A request of a process. HELLO has no place there: the process has said it. INTERRUPT is done at once.
abbrev pub asked : Limits → ℕ → PlainRequest → PlainKind → State → Step
asked limits pid request (Hello cred) s = replied pid request.serial (refused s EPROTO)
asked limits pid request Interrupts s = interrupt pid request.serial s
asked limits pid request kind s = called limits pid request s

abbrev pub step : Limits → State → PlainEvent → Step
step limits s (Connect cred serial moment) = after (due moment s) (connect limits cred serial)
step limits s (Call pid request moment) = after (due moment s) (asked limits pid request request.kind)
step limits s (Interrupt pid serial moment) = after (due moment s) (interrupt pid serial)
step limits s (Tick moment) = due moment s
step limits s (Exit pid moment) = after (due moment s) (λ t. settle limits (exit t pid))
step limits s Restart = silent (restart limits s)

-- the most frames that one event causes: its own reply, and one to each process of which a call waited; and with each a
-- notification
abbrev pub most_replies : Limits → ℕ
most_replies limits = 2 * (limits.processes + 1)

-- a run: the state after a list of events, and all replies in order
abbrev pub run : Limits → State → List PlainEvent → Step
run limits s [] = silent s
run limits s (e ∷ es) =
    let now = step limits s e in
    let rest = run limits now.state es in
    record { state = rest.state; outcomes = now.outcomes ++ rest.outcomes }
