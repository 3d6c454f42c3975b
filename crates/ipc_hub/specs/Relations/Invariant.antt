-- What holds of a hub after every call, and while it serves its connections.
use Rattle.std.specs.Prelude.{◌≡◌, ◌≢◌, ◌⊎◌, ℕ, ◌+◌, ◌≤◌, ◌^◌, true, false, []}
use Rattle.std.specs.Prelude.{length, nat_eq, Option, Some, None}
use Rattle.ipc_limits.specs.Limits.{longest_reply}
use Rattle.ipc_base.specs.Table.{value_at, keys_of, seen_as, EachValue, IsRising}
use Rattle.ipc_limits.specs.declared.limits.Limits.{Limits}
use Rattle.ipc_wire.specs.Stream.{first}
use Rattle.ipc_wire.specs.Stream.PlainFrame.{More}
use Rattle.ipc_state.specs.State.{State, is_process}
use Rattle.ipc_engine.specs.Bytes.{most_owed}
use Rattle.ipc_hub.specs.View.{ConnectionView, HubView, StoredHub, HasFewFrames, ahead, kept}
use Rattle.ipc_hub.specs.Relations.Delivery.{last_frames, owed_to, released, HasSpaceFor, HasSpare}
use Rattle.ipc_hub.specs.Relations.Rows.{Table, is_open_in, process_in}

-- no two connections have one process
abbrev pub AreApart : Table → Type 0
AreApart table =
    (conn other pid : ℕ) → process_in table conn ≡ Some pid → process_in table other ≡ Some pid → conn ≡ other

-- each process of a connection is connected, and no other connection has it
pub record AreOwn (s : State) (table : Table) : Type 0 where
  pub connected : (conn pid : ℕ) → process_in table conn ≡ Some pid → is_process s pid ≡ true
  pub one : AreApart table

-- The bytes kept of a request are no whole frame. There is room for what the process is owed, and after it for the
-- frames that may still be the last: both, or one where the server has ended the connection, which has no process then.
-- The most that a process is owed, the longest reply and both have room in an outbox that keeps a little, so that this
-- always takes a request.
pub record IsSoundConnection (limits : Limits) (owed : Option ℕ → ℕ) (c : ConnectionView) : Type 0 where
  pub input : first c.input ≡ More
  pub last : c.ended ≡ false → owed c.process + last_frames ≤ c.outbox.free
  pub over : c.ended ≡ true → c.process ≡ None
  pub spare : HasSpare c
  pub size : ahead + most_owed limits + longest_reply limits + last_frames ≤ length (kept c.outbox) + c.outbox.free

-- a connection of a hub is sound for what the hub owes
abbrev pub IsSoundIn : HubView → ConnectionView → Type 0
IsSoundIn h = IsSoundConnection h.limits (owed_to h.limits h.state)

-- a connection that was just made, with so much room for replies
pub record IsNew (replies : ℕ) (c : ConnectionView) : Type 0 where
  pub process : c.process ≡ None
  pub input : c.input ≡ []
  pub ended : c.ended ≡ false
  pub visible : c.outbox.visible ≡ []
  pub waiting : c.outbox.waiting ≡ []
  pub space : ahead + replies + last_frames ≤ c.outbox.free

pub record HubInvariant (h : HubView) : Type 0 where
  pub own : AreOwn h.state h.connections
  pub each : EachValue (IsSoundIn h) h.connections
  -- the numbers of the connections rise
  pub rising : IsRising 0 (keys_of h.connections) (2 ^ 32)

-- it holds while the store goes on
abbrev pub StoredInvariant : {D : Type 0} → StoredHub D → Type 0
StoredInvariant v = v.store.stopped ≡ false → HubInvariant v.hub

-- a hub has the connections that it had
pub record Continues (old new : HubView) : Type 0 where
  pub limits : new.limits ≡ old.limits
  pub numbers : keys_of new.connections ≡ keys_of old.connections
  pub invariant : HubInvariant new

-- the connections are as they were, or all that they keep is seen
abbrev pub SameButSeen : HubView → HubView → Type 0
SameButSeen old new =
    (new.connections ≡ old.connections) ⊎ (new.connections ≡ seen_as released old.connections)

-- Time has passed: no connection goes on that did not before, and in one that kept a little a request has room.
pub record HasPassed (old new : HubView) : Type 0 where
  pub ended : (conn : ℕ) → is_open_in old.connections conn ≡ false → is_open_in new.connections conn ≡ false
  pub space : (conn : ℕ) → HasFewFrames old conn → HasSpaceFor new (longest_reply new.limits) conn

-- the process, if there is one, is connected
abbrev pub IsConnected : State → Option ℕ → Type 0
IsConnected s None = Unit {0}
IsConnected s (Some pid) = is_process s pid ≡ true

-- no connection has the process
abbrev pub IsNobodys : Table → Option ℕ → Type 0
IsNobodys table process = (conn pid : ℕ) → process ≡ Some pid → process_in table conn ≢ Some pid

-- the connections without a process are as they were
abbrev pub LeavesOthers : Table → Table → Type 0
LeavesOthers old new =
    (conn : ℕ) (c : ConnectionView) → value_at nat_eq old conn ≡ Some c → c.process ≡ None
    → value_at nat_eq new conn ≡ Some c
