-- The hub as its callers see it, from what its code keeps.
use Rattle.std.specs.Prelude.{◌≡◌, ℕ, Bool, false, not, List, [], map, Option, Some, None, option_map, option_and_then}
use Rattle.std.specs.Prelude.{unwrap_or, nat_eq}
use Rattle.ipc_base.specs.declared.identity.Pid.{Pid}
use Rattle.ipc_base.specs.Table.{value_at, with_value}
use Rattle.ipc_engine.specs.Engine.{Machine}
use Rattle.ipc_hub.specs.declared.connection.Connection.{Connection}
use Rattle.ipc_store.specs.View.{StoreView}
use Rattle.ipc_hub.specs.Hub.{Hub}
use Rattle.ipc_hub.specs.View.{ConnectionView, HubView, StoredHub}

-- the connections, by number
abbrev pub Table : Type 0
Table = List (ℕ × ConnectionView)

abbrev pub pid_of : Option Pid → Option ℕ
pid_of process = option_map (λ p. p.0) process

abbrev pub row : Connection → ℕ × ConnectionView
row c = (c.number, c.session)

abbrev pub rows : List Connection → Table
rows connections = map row connections

abbrev pub hub_view : Machine → Table → HubView
hub_view engine table = record { limits = engine.limits; state = engine.state; connections = table }

-- a hub over its store
abbrev pub stored_view : {D : Type 0} → StoreView D → Table → StoredHub D
stored_view store table = record { hub = hub_view store.machine table; store = store }

-- the hub over these connections, which keeps no events
abbrev pub hub_of : HubView → Hub ConnectionView
hub_of v = record { state = v.state; events = []; clients = v.connections }

-- a hub has become what the definitions make of it
pub record Becomes (old new : HubView) (made : Hub ConnectionView) : Type 0 where
  pub limits : new.limits ≡ old.limits
  pub state : new.state ≡ made.state
  pub rows : new.connections ≡ made.clients

-- the table in which the connection with a number, if there is one, is seen in another way
abbrev pub changed : (ConnectionView → ConnectionView) → ℕ → Table → Table
changed see conn table = by_value (value_at nat_eq table conn)
  where
    by_value : Option ConnectionView → Table
    by_value None = table
    by_value (Some c) = with_value nat_eq table conn (see c)

-- the process of the connection that a number has
abbrev pub process_in : Table → ℕ → Option ℕ
process_in table conn = option_and_then (λ c. c.process) (value_at nat_eq table conn)

-- whether there is a connection, and the server has not ended it; whether it is so of the one that has a number
abbrev pub goes_on : Option ConnectionView → Bool
goes_on r = unwrap_or (option_map (λ c. not c.ended) r) false

abbrev pub is_open_in : Table → ℕ → Bool
is_open_in table conn = goes_on (value_at nat_eq table conn)

-- the bytes that the client of a connection may see, and whether the server has ended it
abbrev pub output_in : Table → ℕ → List ℕ
output_in table conn = unwrap_or (option_map (λ c. c.outbox.visible) (value_at nat_eq table conn)) []

abbrev pub ended_in : Table → ℕ → Bool
ended_in table conn = unwrap_or (option_map (λ c. c.ended) (value_at nat_eq table conn)) false
