-- Events and replies of a program as plain values.
use Rattle.std.specs.Prelude.{ℕ, [], ◌∷◌}
use Rattle.ipc_wire.specs.View.{plain_request}
use Rattle.ipc_wire.specs.declared.reply.Body.{Body}
use Rattle.ipc_wire.specs.Reply.{PlainBody, PlainReply, body_of}
use Rattle.std.specs.Global.{Vec}
use Rattle.ipc_engine.specs.declared.event.Event.{Event}
use Rattle.ipc_engine.specs.declared.event.Event.TheVariants.{Connect, Call, Interrupt, Tick, Exit, Restart}
use Rattle.ipc_engine.specs.declared.event.Outcome.{Outcome}
use Rattle.ipc_state.specs.State.{State}
use Rattle.ipc_engine.specs.Event.{PlainEvent, Connect as Connects, Call as Calls, Interrupt as Interrupts}
use Rattle.ipc_engine.specs.Event.{Tick as Ticks, Exit as Exits, Restart as Restarts}
use Rattle.ipc_engine.specs.Event.{PlainOutcome}
use Rattle.ipc_engine.specs.Step.{Step}

abbrev pub plain_event : Event → PlainEvent
plain_event (Connect cred serial moment) = Connects cred serial moment.0
plain_event (Call pid request moment) = Calls pid.0 (plain_request request) moment.0
plain_event (Interrupt pid serial moment) = Interrupts pid.0 serial moment.0
plain_event (Tick moment) = Ticks moment.0
plain_event (Exit pid moment) = Exits pid.0 moment.0
plain_event Restart = Restarts

abbrev pub plain_body : Body (Vec ℕ) → PlainBody
plain_body body = body_of (λ text. text.items) body

abbrev pub plain_outcome : Outcome → PlainOutcome
plain_outcome o = record { pid = o.pid.0; serial = o.serial; errno = o.errno; body = plain_body o.body }

-- the reply that a frame of the wire carries
abbrev pub reply_of : PlainOutcome → PlainReply
reply_of o = record { serial = o.serial; errno = o.errno; body = o.body }

-- one step with one reply
abbrev pub step_of : State → Outcome → Step
step_of s o = record { state = s; outcomes = plain_outcome o ∷ [] }
