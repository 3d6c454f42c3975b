-- What a server does with its hub: calls of it, one after another, as the hub's definitions have them.
use Rattle.std.specs.Prelude.{◌≡◌, ◌≢◌, ℕ, nat_eq, ⊤, Bool, true, if◌then◌else◌, List, [], ◌∷◌, ◌++◌, length, map}
use Rattle.std.specs.List.{flat_map}
use Rattle.ipc_limits.specs.declared.limits.Limits.{Limits}
use Rattle.ipc_hub.specs.Clients.{Clients, connect, consume, feed, hangup, tick}
use Rattle.ipc_hub.specs.Lives.{Seen, Shows}
use Rattle.ipc_hub.specs.View.{HubView, is_connected, output_of}

pub data Act : Type 0 where
  Connects : (conn : ℕ) → Act
  Ticks : (moment : ℕ) → Act
  -- bytes of a client; refused says of the requests in them whether memory was refused
  Feeds : (conn : ℕ) → (bytes : List ℕ) → (moment : ℕ) → (refused : List Bool) → Act
  HangsUp : (conn moment : ℕ) → Act
  -- what was accepted was made to last
  Releases : Act
  -- a client was sent these bytes, the first of those that it may see
  Consumes : (conn : ℕ) → (bytes : List ℕ) → Act

-- the connections after one call, and after several
abbrev pub after_one : Limits → Clients → Act → Clients
after_one limits h (Connects conn) = connect h conn
after_one limits h (Ticks moment) = tick limits h moment
after_one limits h (Feeds conn bytes moment refused) = feed limits h conn bytes moment refused
after_one limits h (HangsUp conn moment) = hangup limits h conn moment
after_one limits h Releases = h
after_one limits h (Consumes conn bytes) = consume h conn (length bytes)

abbrev pub after : Limits → Clients → List Act → Clients
after limits h [] = h
after limits h (act ∷ acts) = after limits (after_one limits h act) acts

-- the call was made at this moment, if its moment matters
abbrev pub IsAt : ℕ → Act → Type 0
IsAt moment (Connects conn) = ⊤
IsAt moment (Ticks at_moment) = at_moment ≡ moment
IsAt moment (Feeds conn bytes at_moment refused) = at_moment ≡ moment
IsAt moment (HangsUp conn at_moment) = at_moment ≡ moment
IsAt moment Releases = ⊤
IsAt moment (Consumes conn bytes) = ⊤

-- the connection is there, and its output begins with these bytes
pub record BeginsOutput (hub : HubView) (conn : ℕ) (bytes : List ℕ) : Type 0 where
  pub connected : is_connected hub conn ≡ true
  pub rest : List ℕ
  pub first : output_of hub conn ≡ bytes ++ rest

-- a client was sent nothing but what the hub shows for it, from the first byte on
abbrev pub IsShown : HubView → Act → Type 0
IsShown hub (Connects conn) = ⊤
IsShown hub (Ticks moment) = ⊤
IsShown hub (Feeds conn bytes moment refused) = ⊤
IsShown hub (HangsUp conn moment) = ⊤
IsShown hub Releases = ⊤
IsShown hub (Consumes conn bytes) = BeginsOutput hub conn bytes

-- the frames that were in the output of a client when it was sent something; none at another call
abbrev pub Sees : HubView → Clients → Act → List Seen → Type 0
Sees hub h (Connects conn) frames = frames ≡ []
Sees hub h (Ticks moment) frames = frames ≡ []
Sees hub h (Feeds conn bytes moment refused) frames = frames ≡ []
Sees hub h (HangsUp conn moment) frames = frames ≡ []
Sees hub h Releases frames = frames ≡ []
Sees hub h (Consumes conn bytes) frames = Shows hub h conn frames

-- ---- what becomes of one connection

-- the bytes that were fed for a connection, in order
abbrev pub fed_by : ℕ → Act → List ℕ
fed_by conn (Connects other) = []
fed_by conn (Ticks moment) = []
fed_by conn (Feeds other bytes moment refused) = if nat_eq other conn then bytes else []
fed_by conn (HangsUp other moment) = []
fed_by conn Releases = []
fed_by conn (Consumes other bytes) = []

abbrev pub fed : ℕ → List Act → List ℕ
fed conn acts = flat_map (fed_by conn) acts

-- the bytes that its client was sent, in order
abbrev pub sent_by : ℕ → Act → List ℕ
sent_by conn (Connects other) = []
sent_by conn (Ticks moment) = []
sent_by conn (Feeds other bytes moment refused) = []
sent_by conn (HangsUp other moment) = []
sent_by conn Releases = []
sent_by conn (Consumes other bytes) = if nat_eq other conn then bytes else []

abbrev pub sent : ℕ → List Act → List ℕ
sent conn acts = flat_map (sent_by conn) acts

-- the call neither makes the connection nor hangs it up
abbrev pub Spares : ℕ → Act → Type 0
Spares conn (Connects other) = other ≢ conn
Spares conn (Ticks moment) = ⊤
Spares conn (Feeds other bytes moment refused) = ⊤
Spares conn (HangsUp other moment) = other ≢ conn
Spares conn Releases = ⊤
Spares conn (Consumes other bytes) = ⊤

-- ---- acts of one client

-- bytes of one client at one moment, and the requests in them that were refused for memory
pub record Piece : Type 0 where
  pub bytes : List ℕ
  pub refused : List Bool

-- pieces of one client, fed one after another, and all their bytes
abbrev pub feeds : ℕ → ℕ → List Piece → List Act
feeds conn moment pieces = map (λ p. Feeds conn p.bytes moment p.refused) pieces

abbrev pub all_of : List Piece → List ℕ
all_of pieces = flat_map (λ p. p.bytes) pieces

-- pieces that one client was sent, one after another
abbrev pub sends : ℕ → List (List ℕ) → List Act
sends conn pieces = map (λ bytes. Consumes conn bytes) pieces

abbrev pub joined : List (List ℕ) → List ℕ
joined pieces = flat_map (λ bytes. bytes) pieces
