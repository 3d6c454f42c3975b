-- What the frames of a client say.
use Rattle.std.specs.Prelude.{◌≡◌, ◌⊎◌, ℕ, List, [], ◌∷◌, ◌++◌, length, All, Option, Some}
use Rattle.ipc_base.specs.declared.errno.Errno.{Errno}
use Rattle.ipc_base.specs.declared.errno.Errno.TheVariants.{EIO, ENOMEM, EPROTO}
use Rattle.ipc_limits.specs.declared.limits.Limits.{Limits}
use Rattle.ipc_base.specs.Table.{EachValue}
use Rattle.ipc_wire.specs.Reply.{reply_bytes}
use Rattle.ipc_state.specs.State.{State}
use Rattle.ipc_engine.specs.Event.{PlainEvent, PlainOutcome}
use Rattle.ipc_engine.specs.Step.{step, run}
use Rattle.ipc_engine.specs.View.{reply_of}
use Rattle.ipc_hub.specs.Clients.{Frame, Clients, refusal}

-- a request was refused for memory, the connection has broken, or the disk has failed
abbrev pub IsRefusal : Errno → Type 0
IsRefusal e = (e ≡ ENOMEM) ⊎ (e ≡ EPROTO) ⊎ (e ≡ EIO)

-- An outcome with this pid is for a connection that has joined as this process, or as none: it is for that process, or
-- it is for none, as the reply to a HELLO that was refused.
abbrev pub IsFor : Option ℕ → ℕ → Type 0
IsFor joined_as pid = (joined_as ≡ Some pid) ⊎ (pid ≡ 0)

-- A frame of a connection that has joined as this process, or as none, among events that begin at a base. It is a reply
-- that one of them gave, which is for this connection, and its mark counts the events up to this one; or it says that a
-- request was no event, or that the connection has ended.
pub data IsAnswer (limits : Limits) (base : State) (events : List PlainEvent) (joined_as : Option ℕ) (f : Frame)
    : Type 0 where
  Reply : (before after : List PlainEvent) (e : PlainEvent) (front back : List PlainOutcome) (o : PlainOutcome)
      → before ++ e ∷ after ≡ events
      → front ++ o ∷ back ≡ (step limits (run limits base before).state e).outcomes
      → IsFor joined_as o.pid
      → f.mark ≡ length (before ++ e ∷ []) → f.bytes ≡ reply_bytes (reply_of o)
      → IsAnswer limits base events joined_as f
  Refusal : (serial : ℕ) (e : Errno) → IsRefusal e → f.bytes ≡ reply_bytes (reply_of (refusal serial e))
      → IsAnswer limits base events joined_as f

-- A hub whose events begin at a base: its state is that after them, and each frame of a client is an answer to it.
pub record IsAnswered (limits : Limits) (base : State) (h : Clients) : Type 0 where
  pub state : h.state ≡ (run limits base h.events).state
  pub each : EachValue (λ c. All (IsAnswer limits base h.events c.joined_as) c.frames) h.clients
