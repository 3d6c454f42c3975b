-- What clients may count on, over any number of turns, and within one.
use Rattle.std.specs.Prelude.{◌≡◌, ◌≤◌, ℕ, ⊤, List, [], ◌∷◌, ◌++◌, drop, map, All, Contains}
use Rattle.ipc_limits.specs.declared.limits.Limits.{Limits}
use Rattle.ipc_disk.specs.Medium.{Medium}
use Rattle.ipc_engine.specs.Event.{Restart}
use Rattle.ipc_store.specs.Histories.{Takes}
use Rattle.ipc_store.specs.View.{StoreView}
use Rattle.ipc_hub.specs.Clients.{Clients, all_bytes, fail, no_clients}
use Rattle.ipc_hub.specs.Lives.{Seen, Shows}
use Rattle.ipc_hub.specs.Relations.Matches.{HubMatches, StoredMatches}
use Rattle.ipc_hub.specs.View.{StoredHub}
use Rattle.ipc_server.specs.Acts.{Act, after}
use Rattle.ipc_server.specs.Acts.Act.{Connects, Ticks, Feeds, HangsUp, Releases, Consumes}
use Rattle.ipc_server.specs.Runs.{Steps}

-- The hub of a server over a store that was just opened, and what its turns have made of the clients. A turn is calls
-- of the hub, as its clause names them; the server may be within one, which has made the first of them. The moments do
-- not fall. The frames are all those that were in an output at some time, from which the clients were sent.
pub data Turns {D : Type 0} (medium : D → Medium) (limits : Limits) (opened : StoreView D)
    : ℕ → StoredHub D → Clients → List Seen → Type 0 where
  New : (hub : StoredHub D) → hub.store ≡ opened
      → StoredMatches limits hub (no_clients opened.machine.state (Restart ∷ []))
      → Turns medium limits opened 0 hub (no_clients opened.machine.state (Restart ∷ [])) []
  -- the calls of a turn, or some of them, one after another
  Go : (before moment : ℕ) (last next : StoredHub D) (now : Clients) (seen sent : List Seen) (acts : List Act)
      → Turns medium limits opened before last now seen → before ≤ moment
      → Steps medium moment limits last now next acts sent
      → Turns medium limits opened moment next (after limits now acts) (sent ++ seen)
  -- the call that has broken off a turn: what waited could not be made to last
  Break : (moment : ℕ) (last next : StoredHub D) (now : Clients) (seen : List Seen)
      → Turns medium limits opened moment last now seen → Takes medium last.store [] next.store
      → HubMatches limits last.store.confirmed next.hub (fail last.store.confirmed now)
      → Turns medium limits opened moment next (fail last.store.confirmed now) seen
  -- what a client could see then
  Look : (moment : ℕ) (last : StoredHub D) (now : Clients) (seen frames : List Seen) (conn : ℕ)
      → Turns medium limits opened moment last now seen → Shows last.hub now conn frames
      → Turns medium limits opened moment last now (frames ++ seen)

-- The turns have gone on to this moment and this hub. Clients were sent bytes of these frames since then.
pub record GoesOn {D : Type 0} (medium : D → Medium) (limits : Limits) (opened : StoreView D) (moment : ℕ)
    (next : StoredHub D) (seen : List Seen) : Type 0 where
  pub clients : Clients
  pub sent : List Seen
  pub turns : Turns medium limits opened moment next clients (sent ++ seen)

-- what a client is sent by a call, if it is sent something, begins what is left of these frames, which were seen in the
-- output of its own connection
abbrev pub SendsFrom : List Seen → Act → Type 0
SendsFrom frames (Connects conn) = ⊤
SendsFrom frames (Ticks moment) = ⊤
SendsFrom frames (Feeds conn bytes moment refused) = ⊤
SendsFrom frames (HangsUp conn moment) = ⊤
SendsFrom frames Releases = ⊤
SendsFrom frames (Consumes conn bytes) =
    All (λ s. s.conn ≡ conn) frames
    × (taken : ℕ) × (rest : List ℕ) × (drop taken (all_bytes (map (λ s. s.frame) frames)) ≡ bytes ++ rest)

-- it is of frames that are among these
abbrev pub SendsOf : List Seen → Act → Type 0
SendsOf frames act = (those : List Seen) × All (Contains frames) those × SendsFrom those act
