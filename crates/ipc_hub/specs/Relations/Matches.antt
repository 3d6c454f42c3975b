-- The code's hub matches a hub of the definitions when so many events are confirmed: the state is the same, and each
-- number has a connection and a client that match.
use Rattle.std.specs.Prelude.{◌≡◌, ◌⊎◌, ℕ, ◌+◌, ◌<◌, ◌≤◌, ◌^◌, Bool, List, ◌++◌, length, drop}
use Rattle.std.specs.Prelude.{All}
use Rattle.ipc_limits.specs.declared.limits.Limits.{Limits}
use Rattle.ipc_base.specs.Table.{ArePaired}
use Rattle.ipc_wire.specs.Reply.{PlainReply, reply_bytes, body_bytes}
use Rattle.ipc_disk.specs.Medium.{Medium}
use Rattle.ipc_engine.specs.Event.{PlainEvent}
use Rattle.ipc_store.specs.Histories.{Takes}
use Rattle.ipc_store.specs.View.{StoreView}
use Rattle.ipc_hub.specs.Clients.{Frame, Client, Clients, accepted, all_bytes, confirmed_bytes, own_process, shown}
use Rattle.ipc_hub.specs.Clients.{take_in, feed}
use Rattle.ipc_hub.specs.View.{ConnectionView, HubView, StoredHub, kept}
use Rattle.ipc_hub.specs.Relations.Delivery.{unanswered_at}

-- the bytes of a reply that is not too long for its length field
abbrev pub IsFrame : List ℕ → Type 0
IsFrame bytes = (r : PlainReply) × ((bytes ≡ reply_bytes r) × (6 + length (body_bytes r.body) < 2 ^ 32))

-- each frame is a reply, and belongs to one of so many events
abbrev pub AreFrames : ℕ → List Frame → Type 0
AreFrames accepted frames = All (λ f. (f.mark ≤ accepted) × IsFrame f.bytes) frames

-- a connection has the process, the bytes and the frames of a client, and shows those that are confirmed
pub record ClientMatches (confirmed accepted : ℕ) (v : ConnectionView) (c : Client) : Type 0 where
  pub process : v.process ≡ own_process c
  pub input : v.input ≡ c.input
  pub ended : v.ended ≡ c.ended
  pub kept : kept v.outbox ≡ drop c.consumed (all_bytes c.frames)
  pub visible : v.outbox.visible ≡ shown confirmed c
  pub seen : c.consumed ≤ length (confirmed_bytes confirmed c.frames)
  pub frames : AreFrames accepted c.frames

pub record HubMatches (limits : Limits) (confirmed : ℕ) (v : HubView) (h : Clients) : Type 0 where
  pub same : v.limits ≡ limits
  pub state : v.state ≡ h.state
  pub clients : ArePaired (ClientMatches confirmed (accepted h)) v.connections h.clients
  pub known : confirmed ≤ accepted h

-- a step of the code takes whatever hub its own matches, with what is confirmed, to this one
abbrev pub Simulates : HubView → HubView → (Limits → Clients → Clients) → Type 0
Simulates old new call =
    (limits : Limits) (confirmed : ℕ) (h : Clients) → HubMatches limits confirmed old h
    → HubMatches limits confirmed new (call limits h)

-- ---- over a store

-- the hub matches, with what its store has confirmed, and the store counts the events
pub record StoredMatches {D : Type 0} (limits : Limits) (v : StoredHub D) (h : Clients) : Type 0 where
  pub hub : HubMatches limits v.store.confirmed v.hub h
  pub counts : v.store.confirmed + v.store.waiting ≡ accepted h

-- A hub comes to what a hub of the definitions comes to, which accepts events; its store takes them. What a crash
-- leaves at any moment of it is what `Takes` says.
pub record Comes {D : Type 0} (medium : D → Medium) (limits : Limits) (old new : StoredHub D) (h next : Clients)
    : Type 0 where
  pub matches : StoredMatches limits new next
  pub events : List PlainEvent
  pub adds : next.events ≡ h.events ++ events
  pub takes : Takes medium old.store events new.store

-- a call takes whatever hub the code's matches to this one
abbrev pub Serves : {D : Type 0} → (D → Medium) → StoredHub D → StoredHub D → (Limits → Clients → Clients)
    → Type 0
Serves medium old new call =
    (limits : Limits) (h : Clients) → StoredMatches limits old h → Comes medium limits old new h (call limits h)

-- a feed took these bytes, as the definitions have it: some of the requests in them may have been refused for memory
abbrev pub ServesFeed : {D : Type 0} → (D → Medium) → StoredHub D → StoredHub D → ℕ → List ℕ → ℕ
    → Type 0
ServesFeed medium old new conn bytes moment =
    (limits : Limits) (h : Clients) → StoredMatches limits old h
    → (refused : List Bool) × Comes medium limits old new h (feed limits h conn bytes moment refused)

-- bytes were taken in once time had passed, as the definitions have it
abbrev pub ServesBytes : {D : Type 0} → (D → Medium) → StoredHub D → StoredHub D → ℕ → List ℕ → ℕ
    → Type 0
ServesBytes medium old new conn bytes moment =
    (limits : Limits) (h : Clients) → StoredMatches limits old h
    → (refused : List Bool) × Comes medium limits old new h (take_in limits h conn bytes moment refused)

-- ---- within a call

-- Events are pending in a store that goes on; nothing was committed, and its disk is as it was. What a crash leaves at
-- any moment of it is what `Takes` says.
pub record Pends {D : Type 0} (medium : D → Medium) (old : StoreView D) (events : List PlainEvent) (new : StoreView D)
    : Type 0 where
  pub disk : new.disk ≡ old.disk
  pub stopped : new.stopped ≡ old.stopped
  pub checkpoint : new.checkpoint ≡ old.checkpoint
  pub confirmed : new.confirmed ≡ old.confirmed
  pub waiting : new.waiting ≡ old.waiting + length events
  pub takes : Takes medium old events new

-- At most so many events more wait in a store, and nothing else of its numbers or of its disk has changed.
pub record Adds {D : Type 0} (n : ℕ) (old new : StoreView D) : Type 0 where
  pub disk : new.disk ≡ old.disk
  pub stopped : new.stopped ≡ old.stopped
  pub checkpoint : new.checkpoint ≡ old.checkpoint
  pub confirmed : new.confirmed ≡ old.confirmed
  pub waiting : new.waiting ≤ old.waiting + n

-- the hub of the definitions accepts events, and they wait in the store
pub record Accepts {D : Type 0} (medium : D → Medium) (old new : StoreView D) (h next : Clients) : Type 0 where
  pub events : List PlainEvent
  pub adds : next.events ≡ h.events ++ events
  pub pends : Pends medium old events new

-- a call of the process of a connection waits, and the moment has come: the next of its requests takes no memory
pub record Awaits (v : HubView) (conn moment : ℕ) : Type 0 where
  pub waits : 0 < unanswered_at v conn
  pub come : moment ≤ v.state.clock

-- The hub matches, and no frame that the connection's next request brings is seen at once: the last event is not
-- confirmed yet, or that request comes to one more.
pub record IsAhead (limits : Limits) (confirmed : ℕ) (v : HubView) (conn moment : ℕ) (h : Clients) : Type 0 where
  pub matches : HubMatches limits confirmed v h
  pub later : (confirmed < accepted h) ⊎ Awaits v conn moment

-- the hub of the definitions comes to another, which the code's then matches, and its events wait in the store
pub record Follows {D : Type 0} (medium : D → Medium) (limits : Limits) (confirmed : ℕ) (old new : StoredHub D)
    (conn moment : ℕ) (h next : Clients) : Type 0 where
  pub ahead : IsAhead limits confirmed new.hub conn moment next
  pub accepts : Accepts medium old.store new.store h next

-- bytes of a connection are taken in, some requests in which may have been refused for memory
abbrev pub TakesIn : {D : Type 0} → (D → Medium) → StoredHub D → StoredHub D → ℕ → List ℕ → ℕ
    → Type 0
TakesIn medium old new conn bytes moment =
    (limits : Limits) (confirmed : ℕ) (h : Clients) → IsAhead limits confirmed old.hub conn moment h
    → (refused : List Bool)
    × Follows medium limits confirmed old new conn moment h (take_in limits h conn bytes moment refused)
