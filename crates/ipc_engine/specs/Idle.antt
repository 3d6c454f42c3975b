-- Which events change nothing but the clock, by what they ask and what they come to. On version 3 of the device such an
-- event is answered as any other, at the greater of the clock and its moment; it is not accepted: it is not recorded,
-- and changes nothing, the clock included.
use Rattle.std.specs.Prelude.{◌≡◌, ◌≢◌, ◌≤◌, ℕ, Bool, true, false, not, ◌&&◌, ◌||◌, if◌then◌else◌, List, [], ◌∷◌, ◌++◌}
use Rattle.std.specs.Prelude.{Option, Some, None, is_some}
use Rattle.ipc_limits.specs.declared.limits.Limits.{Limits}
use Rattle.ipc_limits.specs.Limits.{has_rules_of_three}
use Rattle.ipc_wait.specs.Waits.{is_due}
use Rattle.ipc_wire.specs.Request.{PlainKind, PlainRequest, Hello, Interrupt as Interrupts, Sysv, Posix}
use Rattle.ipc_wire.specs.Request as sysv
use Rattle.ipc_wire.specs.Posix as posix
use Rattle.ipc_state.specs.declared.parked.Awaited.{Awaited}
use Rattle.ipc_state.specs.Finish.{Tried, Finishes, Waits}
use Rattle.ipc_state.specs.Keyed.{keyed}
use Rattle.ipc_state.specs.State.{State, at_moment, due_calls, has_all_processes, is_waiting}
use Rattle.ipc_state.specs.Waiting.{PlainWaiting, awaited_by}
use Rattle.ipc_engine.specs.Engine.{IsForProcess, HasRequest}
use Rattle.ipc_engine.specs.Event.{PlainEvent, Connect, Call, Interrupt, Tick, Exit, Restart, PlainOutcome, moment_of}
use Rattle.ipc_engine.specs.Step.{Step, due, silent, step, tried, waiting_on}

-- A call that, where it is done, leaves everything as it was: it reads, or gets the identifier of a key that is in use.
abbrev pub only_asks : State → PlainKind → Bool
only_asks s (Sysv (sysv.Msgget key flags)) = is_some (keyed s.msg key)
only_asks s (Sysv (sysv.Semget key nsems flags)) = is_some (keyed s.semset key)
only_asks s (Sysv (sysv.Shmget key size flags)) = is_some (keyed s.shm key)
only_asks s (Sysv (sysv.MsgctlStat id)) = true
only_asks s (Sysv (sysv.SemctlGetVal id num)) = true
only_asks s (Sysv (sysv.SemctlGetPid id num)) = true
only_asks s (Sysv (sysv.SemctlGetNcnt id num)) = true
only_asks s (Sysv (sysv.SemctlGetZcnt id num)) = true
only_asks s (Sysv (sysv.SemctlGetAll id)) = true
only_asks s (Sysv (sysv.SemctlStat id)) = true
only_asks s (Sysv (sysv.ShmctlStat id)) = true
only_asks s (Sysv (sysv.AttachedRead attachment offset length)) = true
only_asks s (Posix (posix.MqGetattr fd)) = true
only_asks s (Posix (posix.SemGetvalue fd)) = true
only_asks s (Posix (posix.ShmRead fd offset length)) = true
only_asks s (Posix (posix.ShmStat fd)) = true
only_asks s kind = false

-- a call that cannot go on, and waits on this, is refused at once: its deadline is at or before the clock
abbrev pub is_late : State → ℕ → PlainRequest → Option Awaited → Bool
is_late s pid request None = false
is_late s pid request (Some on) = is_due (record { 0 = s.clock }) (waiting_on s pid request on)

-- a call that comes to this is answered at once, with an error, or since it only asks
abbrev pub ends_idle : State → ℕ → PlainRequest → Tried → Bool
ends_idle s pid request (Finishes f) = is_some f.errno || only_asks s request.kind
ends_idle s pid request Waits = is_late s pid request (awaited_by request.kind)

-- a request of a process: HELLO is refused, INTERRUPT ends no call, or a call is refused or only asks
abbrev pub asks_idle : Limits → State → ℕ → PlainRequest → PlainKind → Bool
asks_idle limits s pid request (Hello cred) = true
asks_idle limits s pid request Interrupts = not (is_waiting s pid)
asks_idle limits s pid request kind =
    is_waiting s pid || ends_idle s pid request (tried limits s pid false request.kind)

-- what an event does, where no deadline comes with it
abbrev pub does_nothing : Limits → State → PlainEvent → Bool
does_nothing limits s (Connect cred serial moment) = has_all_processes limits s
does_nothing limits s (Call pid request moment) = asks_idle limits s pid request request.kind
does_nothing limits s (Interrupt pid serial moment) = not (is_waiting s pid)
does_nothing limits s (Tick moment) = true
does_nothing limits s (Exit pid moment) = false
does_nothing limits s Restart = false

abbrev pub has_none : List PlainWaiting → Bool
has_none [] = true
has_none (w ∷ ws) = false

-- no call waits whose deadline is at or before its moment, and it does nothing else either
unfoldable pub is_idle : Limits → State → PlainEvent → Bool
is_idle limits s e =
    has_none (due_calls (at_moment s (moment_of e))) && does_nothing limits (due (moment_of e) s).state e

-- ---- what the server does with an event

-- it is accepted, unless it is idle and the device of version 3, which knows idle events
abbrev pub is_accepted : Limits → State → PlainEvent → Bool
is_accepted limits s e = not (has_rules_of_three limits && is_idle limits s e)

-- the events that are recorded: this one, or none
abbrev pub recorded : Limits → State → PlainEvent → List PlainEvent
recorded limits s e = if is_accepted limits s e then e ∷ [] else []

-- the state after it, and the replies
abbrev pub answer : Limits → State → PlainEvent → Step
answer limits s e =
    record {
      state = if is_accepted limits s e then (step limits s e).state else s;
      outcomes = (step limits s e).outcomes;
    }

-- events one after the other: the state after them, and all replies in order
abbrev pub answers : Limits → State → List PlainEvent → Step
answers limits s [] = silent s
answers limits s (e ∷ es) =
    let now = answer limits s e in
    let rest = answers limits now.state es in
    record { state = rest.state; outcomes = now.outcomes ++ rest.outcomes }

-- no restart is among events, and no moment of them is below one before it, or below the clock
abbrev pub Rise : ℕ → List PlainEvent → Type 0
Rise clock [] = Unit {0}
Rise clock (e ∷ es) = (e ≢ Restart) × (clock ≤ moment_of e) × Rise (moment_of e) es

-- an idle event is answered to who asks alone: a tick is not answered
abbrev pub IsAnsweredAlone : PlainEvent → List PlainOutcome → Type 0
IsAnsweredAlone (Connect cred serial moment) os = (o : PlainOutcome) × (os ≡ o ∷ []) × (o.pid ≡ 0)
IsAnsweredAlone (Call pid request moment) os = (o : PlainOutcome) × (os ≡ o ∷ []) × (o.pid ≡ pid)
IsAnsweredAlone (Interrupt pid serial moment) os = (o : PlainOutcome) × (os ≡ o ∷ []) × (o.pid ≡ pid)
IsAnsweredAlone (Tick moment) os = os ≡ []
IsAnsweredAlone (Exit pid moment) os = Unit {0}
IsAnsweredAlone Restart os = Unit {0}

-- events each of which is for a connected process, and has a frame, when it comes
abbrev pub AreForProcesses : Limits → State → List PlainEvent → Type 0
AreForProcesses limits s [] = Unit {0}
AreForProcesses limits s (e ∷ es) = IsForProcess s e × HasRequest e × AreForProcesses limits (step limits s e).state es
