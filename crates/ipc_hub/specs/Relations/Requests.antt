-- What a request comes to: a step of the machine, or none.
use Rattle.std.specs.Prelude.{◌≡◌, ◌⊎◌, ℕ, ◌+◌, ◌<◌, ◌≤◌, true, false, List, [], ◌∷◌, ◌++◌}
use Rattle.std.specs.Prelude.{length, nat_eq, Option, Some, None}
use Rattle.ipc_limits.specs.declared.limits.Limits.{Limits}
use Rattle.ipc_limits.specs.Limits.{ArePassed, longest_reply}
use Rattle.ipc_base.specs.Table.{value_at, with_value, keys_of}
use Rattle.ipc_disk.specs.Medium.{Medium}
use Rattle.ipc_wire.specs.Request.{PlainRequest}
use Rattle.ipc_wire.specs.Stream.{PlainFrame, first}
use Rattle.ipc_wire.specs.Stream.PlainFrame.{More, Whole, Fault}
use Rattle.ipc_state.specs.State.{State}
use Rattle.ipc_engine.specs.Sound.{IsSound}
use Rattle.ipc_engine.specs.Bytes.{asks}
use Rattle.ipc_engine.specs.Engine.{IsForProcess, event_takes_memory}
use Rattle.ipc_engine.specs.Event.{PlainEvent, Exit}
use Rattle.ipc_engine.specs.Step.{step}
use Rattle.ipc_image.specs.Format.{longest_record}
use Rattle.ipc_image.specs.Records.{record_bytes, HasRecord}
use Rattle.ipc_store.specs.View.{StoreView, HasRoomFor, IsReadyFor, events_left}
use Rattle.ipc_hub.specs.declared.serving.FrameOutcome.{FrameOutcome}
use Rattle.ipc_hub.specs.declared.serving.FrameOutcome.TheVariants as asked
use Rattle.ipc_hub.specs.Hub.{accept, event_of}
use Rattle.ipc_hub.specs.View.{ConnectionView, HubView, StoredHub, HasNoFrame}
use Rattle.ipc_hub.specs.Relations.Rows.{Becomes, Table, hub_of, hub_view, stored_view}
use Rattle.ipc_hub.specs.Relations.Delivery.{last_frames, unanswered_at, owed_to, view_endpoint, HasSpaceFor}
use Rattle.ipc_hub.specs.Relations.Invariant.{HubInvariant, Continues}
use Rattle.ipc_hub.specs.Relations.Matches.{Adds, Awaits, Pends, TakesIn}

-- what holds of a hub holds, and records of so many bytes and so many events have room in its store
pub record IsReady {D : Type 0} (v : StoredHub D) (bytes count : ℕ) : Type 0 where
  pub invariant : HubInvariant v.hub
  pub events : IsReadyFor v.store bytes count

-- What holds of a hub holds, and its store has room for the next request of a connection. If that leaves no frame, so
-- that the one after it is taken, its event can still be counted: two events can, or one if a call waits already.
pub record CanTake {D : Type 0} (v : StoredHub D) (conn moment : ℕ) : Type 0 where
  pub invariant : HubInvariant v.hub
  pub room : HasRoomFor v.store longest_record
  pub left : (2 ≤ events_left v.store) ⊎ (Awaits v.hub conn moment × (1 ≤ events_left v.store))

-- A connection keeps no frame after it has taken bytes, and the store has no room for the next of its requests: one
-- that came with these bytes waits, and none waited before.
pub record RunsOut {D : Type 0} (old new : StoredHub D) (conn moment taken : ℕ) : Type 0 where
  pub some : 0 < taken
  pub none : unanswered_at old.hub conn ≡ 0
  pub awaits : Awaits new.hub conn moment
  pub left : 1 ≤ events_left new.store

-- A request of the connection with a number has room: its event in the store, and its reply after what its process is
-- owed.
pub record HasRoom {D : Type 0} (v : StoredHub D) (conn : ℕ) : Type 0 where
  pub passed : ArePassed v.hub.limits
  pub sound : IsSound v.hub.limits v.hub.state
  pub ready : IsReady v longest_record 1
  pub space : HasSpaceFor v.hub (longest_reply v.hub.limits) conn

-- A hub has accepted events: the same connections go on, and the events are pending in its store.
pub record HasAccepted {D : Type 0} (medium : D → Medium) (old new : StoredHub D) (events : List PlainEvent)
    : Type 0 where
  pub continues : Continues old.hub new.hub
  pub pends : Pends medium old.store events new.store

-- the exit of a process, if there is one
abbrev pub exit_of : Option ℕ → ℕ → List PlainEvent
exit_of None moment = []
exit_of (Some pid) moment = Exit pid moment ∷ []

-- An event has come over a hub: its machine, which was sound, took the step, and the replies went where they go.
pub record Happened (old new : HubView) (e : PlainEvent) : Type 0 where
  pub passed : ArePassed old.limits
  pub sound : IsSound old.limits old.state
  pub becomes : Becomes old new (accept view_endpoint old.limits (hub_of old) e)

-- the process of a connection that is over has left, if it had one
abbrev pub Left : HubView → HubView → Option ℕ → ℕ → Type 0
Left old new None moment = new ≡ old
Left old new (Some pid) moment = Happened old new (Exit pid moment)

-- the machine of a store took a step, and the event is pending
pub record Steps {D : Type 0} (medium : D → Medium) (old new : StoreView D) (e : PlainEvent) : Type 0 where
  pub limits : new.machine.limits ≡ old.machine.limits
  pub state : new.machine.state ≡ (step old.machine.limits old.machine.state e).state
  pub outcomes : new.machine.outcomes ≡ (step old.machine.limits old.machine.state e).outcomes
  pub passed : ArePassed old.machine.limits
  pub sound : IsSound old.machine.limits old.machine.state
  pub pends : Pends medium old (e ∷ []) new
  -- it has room for so many bytes less, and takes one event less
  pub room : (bytes : ℕ) → HasRoomFor old (length (record_bytes e) + bytes) → HasRoomFor new bytes
  pub left : (n : ℕ) → n + 1 ≤ events_left old → n ≤ events_left new

-- no process asks by an event, which needs no memory and may come at any time
pub record IsQuiet (limits : Limits) (s : State) (e : PlainEvent) : Type 0 where
  pub nobody : (pid : ℕ) → asks s e pid ≡ false
  pub memory : event_takes_memory limits s e ≡ false
  pub process : IsForProcess s e
  pub has : HasRecord e

-- what stands at the front is a request, and makes this event or none
pub record IsRequest (frame : PlainFrame) (process : Option ℕ) (moment : ℕ) (made : Option PlainEvent)
    : Type 0 where
  pub used : ℕ
  pub request : PlainRequest
  pub whole : frame ≡ Whole used request
  pub event : event_of process request moment ≡ made

-- a request makes an event for which memory was refused
pub record IsRefused {D : Type 0} (old new : StoreView D) (frame : PlainFrame) (process : Option ℕ)
    (moment number : ℕ) : Type 0 where
  pub event : PlainEvent
  pub made : IsRequest frame process moment (Some event)
  pub serial : made.request.serial ≡ number
  pub takes : event_takes_memory old.machine.limits old.machine.state event ≡ true
  pub same : new ≡ old

-- a fault of the frames, or a request that has no place
abbrev pub IsBroken : PlainFrame → Option ℕ → ℕ → ℕ → Type 0
IsBroken frame process moment serial =
    (frame ≡ Fault serial) ⊎ ((r : IsRequest frame process moment None) × (r.request.serial ≡ serial))

-- What came of what stands at the front of the bytes of a process, or of none: no whole frame yet, a step, a want of
-- memory, or a fault.
abbrev pub ComesTo : {D : Type 0} → (D → Medium) → StoreView D → StoreView D → Option ℕ → PlainFrame
    → ℕ → FrameOutcome → Type 0
ComesTo medium old new process frame moment asked.More = (frame ≡ More) × (new ≡ old)
ComesTo medium old new process frame moment asked.Served =
    (e : PlainEvent) × (IsRequest frame process moment (Some e) × Steps medium old new e)
ComesTo medium old new process frame moment (asked.NoMemory serial) = IsRefused old new frame process moment serial
ComesTo medium old new process frame moment (asked.Broken serial) =
    (new ≡ old) × IsBroken frame process moment serial

-- the connection of which a whole frame was taken off
abbrev pub taken_off : FrameOutcome → ConnectionView → ConnectionView
taken_off asked.More c = c
taken_off asked.Served c = record c { input = [] }
taken_off (asked.NoMemory serial) c = record c { input = [] }
taken_off (asked.Broken serial) c = record c { input = [] }

-- ---- a connection takes bytes

-- The connection with a number, which goes on and has room for what its process is owed and for a reply, has received
-- bytes up to the end of a frame at most; this came of them, and a whole frame was taken off it. What holds of the hub
-- still holds.
pub record Received {D : Type 0} (medium : D → Medium) (old new : StoreView D) (before after : Table) (conn : ℕ)
    (bytes : List ℕ) (moment : ℕ) (asked : FrameOutcome) : Type 0 where
  pub passed : ArePassed old.machine.limits
  pub sound : IsSound old.machine.limits old.machine.state
  pub was : ConnectionView
  pub found : value_at nat_eq before conn ≡ Some was
  pub live : was.ended ≡ false
  pub space : owed_to old.machine.limits old.machine.state was.process + longest_reply old.machine.limits + last_frames
      ≤ was.outbox.free
  pub partial : first was.input ≡ More
  pub last : (used : ℕ) (request : PlainRequest) → first (was.input ++ bytes) ≡ Whole used request
      → used ≡ length (was.input ++ bytes)
  pub comes : ComesTo medium old new was.process (first (was.input ++ bytes)) moment asked
  pub table : after ≡ with_value nat_eq before conn (taken_off asked (record was { input = was.input ++ bytes }))
  pub numbers : keys_of after ≡ keys_of before
  pub still : HubInvariant (hub_view old.machine after)

-- The connection with a number keeps no frame after it has taken bytes. It kept none before, and no event came of them,
-- or one event to which the reply is still to come, and no request of its process was unanswered before.
pub record Waits {D : Type 0} (old new : StoreView D) (before after : Table) (conn moment : ℕ) : Type 0 where
  pub empty : HasNoFrame (hub_view old.machine before) conn
  pub event : ((new ≡ old)
      × (unanswered_at (hub_view old.machine before) conn ≡ unanswered_at (hub_view new.machine after) conn))
      ⊎ ((unanswered_at (hub_view old.machine before) conn ≡ 0) × Awaits (hub_view new.machine after) conn moment
      × (2 ≤ events_left old → 1 ≤ events_left new))

-- The connection with a number has taken bytes, and what they complete was served.
pub record Took {D : Type 0} (medium : D → Medium) (old new : StoreView D) (before after : Table) (conn : ℕ)
    (piece : List ℕ) (moment : ℕ) : Type 0 where
  pub continues : Continues (hub_view old.machine before) (hub_view new.machine after)
  pub bytes : TakesIn medium (stored_view old before) (stored_view new after) conn piece moment
  pub adds : Adds 1 old new
  pub answers : HasNoFrame (hub_view new.machine after) conn → Waits old new before after conn moment
