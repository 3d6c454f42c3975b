-- What a caller sees of the machine, and what it may ask.
use Rattle.std.specs.Prelude.{◌≡◌, Bool, true, false, not, ◌&&◌, if◌then◌else◌, List}
use Rattle.ipc_limits.specs.declared.limits.Limits.{Limits}
use Rattle.ipc_wire.specs.Spelling.{HasFrame}
use Rattle.ipc_state.specs.declared.parked.Object.{Object}
use Rattle.ipc_state.specs.State.{State, is_process, is_waiting, has_all_processes}
use Rattle.ipc_state.specs.Held.{Ready}
use Rattle.ipc_engine.specs.Event.{PlainEvent, Connect, Call, Interrupt, Tick, Exit, Restart, PlainOutcome}
use Rattle.ipc_engine.specs.Reserved.{takes_memory}
use Rattle.ipc_engine.specs.Step.{due}

-- the limits that it keeps, the state, the replies of the last event, and the objects that may be otherwise than when
-- the state was saved
pub record Machine : Type 0 where
  pub limits : Limits
  pub state : State
  pub outcomes : List PlainOutcome
  pub changed : List Object

-- the process that an event names is connected
abbrev pub IsForProcess : State → PlainEvent → Type 0
IsForProcess s (Connect cred serial moment) = Unit {0}
IsForProcess s (Call pid request moment) = is_process s pid ≡ true
IsForProcess s (Interrupt pid serial moment) = is_process s pid ≡ true
IsForProcess s (Tick moment) = Unit {0}
IsForProcess s (Exit pid moment) = is_process s pid ≡ true
IsForProcess s Restart = Unit {0}

-- the request of a call has a frame, as every request of a program does
abbrev pub HasRequest : PlainEvent → Type 0
HasRequest (Call pid request moment) = HasFrame request
HasRequest e = Unit {0}

-- whether an event may need memory, and so may be refused; a call of a process that waits needs none
abbrev pub event_takes_memory : Limits → State → PlainEvent → Bool
event_takes_memory limits s (Connect cred serial moment) = not (has_all_processes limits s)
event_takes_memory limits s (Call pid request moment) =
    takes_memory request.kind && not (is_waiting (due moment s).state pid)
event_takes_memory limits s (Interrupt pid serial moment) = false
event_takes_memory limits s (Tick moment) = false
event_takes_memory limits s (Exit pid moment) = false
event_takes_memory limits s Restart = false

-- what a HELLO needs: nothing if no process can be added
abbrev pub hello_needs : Limits → State → Ready
hello_needs limits s = if has_all_processes limits s then Ready.Nothing else Ready.Process
