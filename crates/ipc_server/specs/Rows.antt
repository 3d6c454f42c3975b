-- The clients as a caller sees them, from what the code keeps of them.
use Rattle.std.specs.Prelude.{◌≡◌, ℕ, ◌<◌, true, false, List, map, Option, Some, option_map}
use Rattle.slab.specs.Slab.{Slab}
use Rattle.ipc_hub.specs.View.{HubView}
use Rattle.ipc_server.specs.declared.client.Client.{Client}
use Rattle.ipc_server.specs.View.{ClientView, HaveConnections, Writing, client_of, has_failed}

abbrev pub view_of : {S : Type 0} → Client S → ClientView
view_of client = record {
  conn = client.conn;
  piece = client.piece.items;
  readable = client.readable;
  reads = client.reads;
  over = client.over;
  writing = record { full = client.full; failed = client.failed; writes = client.writes };
}

abbrev pub clients_of : {S : Type 0} → Slab (Client S) → List (Option ClientView)
clients_of slab = map (option_map view_of) slab.slots

-- the numbers of their connections, each at its place
abbrev pub conns_of : List (Option ClientView) → List (Option ℕ)
conns_of clients = map (option_map (λ c. c.conn)) clients

-- What holds of a server after every call: each client has its connection, and the walk over all keys meets each.
pub record IsServing {S : Type 0} (hub : HubView) (slab : Slab (Client S)) : Type 0 where
  pub connected : HaveConnections hub (clients_of slab)
  pub within : (number : ℕ) (client : ClientView) → client_of (clients_of slab) number ≡ Some client
      → number < slab.capacity

-- a client whose socket has failed is there still
abbrev pub KeepsFailed : List (Option ClientView) → List (Option ClientView) → Type 0
KeepsFailed old new = (number : ℕ) → has_failed old number ≡ true → has_failed new number ≡ true

-- The same clients have the same connections, and a socket that has failed stays so.
pub record KeepsClients {S : Type 0} (old new : Slab (Client S)) : Type 0 where
  pub conns : conns_of (clients_of new) ≡ conns_of (clients_of old)
  pub failed : KeepsFailed (clients_of old) (clients_of new)
  pub capacity : new.capacity ≡ old.capacity

-- the client was there, and is as it was, but for what became of it when it was written to
abbrev pub WasThere : List (Option ClientView) → ℕ → ClientView → Type 0
WasThere old number client =
    (writing : Writing) × (client_of old number ≡ Some (record client { writing = writing }))

-- Each client was there, and each that is not over.
abbrev pub Stays : List (Option ClientView) → List (Option ClientView) → Type 0
Stays old new =
    (number : ℕ) (client : ClientView) → client_of new number ≡ Some client → WasThere old number client

abbrev pub StandsIn : List (Option ClientView) → List (Option ClientView) → Type 0
StandsIn old new =
    (number : ℕ) (client : ClientView) → client_of new number ≡ Some client → client.over ≡ false
    → WasThere old number client

-- each client with a smaller number is such a one
abbrev pub EachBelow : ℕ → (ClientView → Type 0) → List (Option ClientView) → Type 0
EachBelow n P clients =
    (number : ℕ) (client : ClientView) → number < n → client_of clients number ≡ Some client → P client
