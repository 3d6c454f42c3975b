-- What a caller sees of the hub: its limits, the state of its machine, and its connections by number, which rise.
use Rattle.std.specs.Prelude.{◌≡◌, ◌<◌, ◌≤◌, ℕ, Bool, false, nat_eq, List, [], ◌++◌, Option, is_some, option_map}
use Rattle.std.specs.Prelude.{length, unwrap_or, IfSome}
use Rattle.ipc_limits.specs.declared.limits.Limits.{Limits}
use Rattle.ipc_base.specs.Table.{keys_of, value_at}
use Rattle.ipc_state.specs.State.{State}
use Rattle.ipc_store.specs.declared.fault.CommitError.{CommitError}
use Rattle.ipc_store.specs.declared.fault.CommitError.TheVariants as commit
use Rattle.ipc_store.specs.View.{StoreView, events_left}
use Rattle.ipc_hub.specs.declared.fault.ServeError.{ServeError}
use Rattle.ipc_hub.specs.declared.fault.ServeError.TheVariants.{Device, Stopped}

-- the bytes of frames that a connection keeps
pub record Outgoing : Type 0 where
  -- those that the client may see
  pub visible : List ℕ
  -- those after them, which wait to be released
  pub waiting : List ℕ
  -- how many more have room
  pub free : ℕ

pub record ConnectionView : Type 0 where
  -- its process, once it has said HELLO and until it ends
  pub process : Option ℕ
  -- its bytes that are no whole frame yet
  pub input : List ℕ
  pub outbox : Outgoing
  -- the server has ended it: what comes is dropped
  pub ended : Bool

pub record HubView : Type 0 where
  pub limits : Limits
  pub state : State
  pub connections : List (ℕ × ConnectionView)

-- a hub over its store
pub record StoredHub (D : Type 0) : Type 0 where
  pub hub : HubView
  pub store : StoreView D

-- how many events a call may come to while a connection keeps no frame, and one more: a tick, a request whose reply
-- comes later, and the next one, which has its reply at once; so many have to be left to count
abbrev pub most_events : ℕ
most_events = 3

-- it goes on no more: its store has stopped, or has not so many events left
abbrev pub HasStopped : {D : Type 0} → StoredHub D → Type 0
HasStopped h = events_left h.store < most_events

-- the fault of a call that commits and meets this fault
abbrev pub of_commit_error : CommitError → ServeError
of_commit_error commit.Device = Device
of_commit_error commit.Stopped = Stopped

-- the connection that has the number
abbrev pub connection_of : HubView → ℕ → Option ConnectionView
connection_of h conn = value_at nat_eq h.connections conn

abbrev pub is_connected : HubView → ℕ → Bool
is_connected h conn = is_some (connection_of h conn)

-- the numbers of the connections
abbrev pub numbers_of : HubView → List ℕ
numbers_of h = keys_of h.connections

-- the bytes that the client of a connection may see: none if no connection has the number
abbrev pub output_of : HubView → ℕ → List ℕ
output_of h conn = unwrap_or (option_map (λ c. c.outbox.visible) (connection_of h conn)) []

-- whether the server has ended a connection; not so where none has the number
abbrev pub ended_of : HubView → ℕ → Bool
ended_of h conn = unwrap_or (option_map (λ c. c.ended) (connection_of h conn)) false

-- the bytes that an outbox keeps
abbrev pub kept : Outgoing → List ℕ
kept o = o.visible ++ o.waiting

-- no frame of the connection, if there is one, is kept
abbrev pub IsBare : Option ConnectionView → Type 0
IsBare r = IfSome r (λ c. kept c.outbox ≡ [])

abbrev pub HasNoFrame : HubView → ℕ → Type 0
HasNoFrame h conn = IsBare (connection_of h conn)

-- how many bytes of frames a connection may keep while the next of its requests is taken all the same
abbrev pub ahead : ℕ
ahead = 4096

-- the connection, if there is one, keeps no more
abbrev pub KeepsFew : Option ConnectionView → Type 0
KeepsFew r = IfSome r (λ c. length (kept c.outbox) ≤ ahead)

abbrev pub HasFewFrames : HubView → ℕ → Type 0
HasFewFrames h conn = KeepsFew (connection_of h conn)
