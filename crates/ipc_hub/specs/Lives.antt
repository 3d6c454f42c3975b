-- What clients may count on, over any number of lives of the server. A life is an open of the device, and calls on a
-- hub over it. The last of these may be stopped at any moment of it, and so may opens before the one that succeeds.
use Rattle.std.specs.Prelude.{◌≡◌, ◌≤◌, ℕ, Bool, List, [], ◌∷◌, ◌++◌, length, drop, map, Option, Some, All}
use Rattle.ipc_limits.specs.declared.limits.Limits.{Limits}
use Rattle.ipc_disk.specs.Medium.{Medium}
use Rattle.ipc_state.specs.State.{State, restart}
use Rattle.ipc_engine.specs.Event.{PlainEvent, Restart}
use Rattle.ipc_store.specs.Histories.{Past, Keeps, OpensOn, Takes, grown, reopened, state_after}
use Rattle.ipc_store.specs.Image.{StandsFor}
use Rattle.ipc_store.specs.Lives.{IsLeft, Rests, StoppedOpens}
use Rattle.ipc_store.specs.View.{StoreView}
use Rattle.ipc_hub.specs.Clients.{Frame, Client, Clients, all_bytes, client_at, no_clients}
use Rattle.ipc_hub.specs.Clients.{connect, consume, fail, feed, hangup, tick}
use Rattle.ipc_hub.specs.Replies.{IsAnswer}
use Rattle.ipc_hub.specs.View.{HubView, StoredHub, output_of}
use Rattle.ipc_hub.specs.Relations.Matches.{HubMatches, StoredMatches, Comes}

-- ---- what happens

-- what a call makes of the clients, by the definitions
pub data ClientCall (limits : Limits) (h : Clients) : Clients → Type 0 where
  Connects : (conn : ℕ) → ClientCall limits h (connect h conn)
  Consumes : (conn count : ℕ) → ClientCall limits h (consume h conn count)
  Ticks : (moment : ℕ) → ClientCall limits h (tick limits h moment)
  Feeds : (conn : ℕ) (bytes : List ℕ) (moment : ℕ) (refused : List Bool)
      → ClientCall limits h (feed limits h conn bytes moment refused)
  HangsUp : (conn moment : ℕ) → ClientCall limits h (hangup limits h conn moment)
  -- a release, a save, or none
  Stays : ClientCall limits h h

-- A call on a hub, and what it makes of the clients. It serves them; or it is about connections alone, and leaves the
-- store as it is; or what waited could not be made to last, before the call did anything else. Each clause of a call on
-- a hub gives one of these. Only a feed that fails when it has taken some bytes gives two, one after the other: a feed
-- of these bytes, and then the failure.
pub data HubCall {D : Type 0} (medium : D → Medium) (limits : Limits) (old : StoredHub D) (h : Clients)
    (new : StoredHub D) : Clients → Type 0 where
  Serves : (next : Clients) → ClientCall limits h next → Comes medium limits old new h next
      → HubCall medium limits old h new next
  Still : (next : Clients) → ClientCall limits h next → next.events ≡ h.events → new.store ≡ old.store
      → ((confirmed : ℕ) → HubMatches limits confirmed old.hub h → HubMatches limits confirmed new.hub next)
      → HubCall medium limits old h new next
  Fails : Takes medium old.store [] new.store
      → HubMatches limits old.store.confirmed new.hub (fail old.store.confirmed h)
      → HubCall medium limits old h new (fail old.store.confirmed h)

-- a frame that was in the output of a connection, and the process that this had joined as, if it had
pub record Seen : Type 0 where
  pub conn : ℕ
  pub joined_as : Option ℕ
  pub frame : Frame

-- a frame of the client of a connection, as it is seen in the output
abbrev pub as_seen : ℕ → Client → Frame → Seen
as_seen conn c f = record { conn = conn; joined_as = c.joined_as; frame = f }

-- The output of a connection is the bytes of frames, the first ones of its client, but for those that it has taken.
-- These frames are seen then.
pub record Shows (hub : HubView) (h : Clients) (conn : ℕ) (seen : List Seen) : Type 0 where
  pub client : Client
  pub found : client_at h conn ≡ Some client
  pub frames : List Frame
  pub others : List Frame
  pub first : frames ++ others ≡ client.frames
  pub these : seen ≡ map (as_seen conn client) frames
  pub output : output_of hub conn ≡ drop client.consumed (all_bytes frames)

-- Calls on a hub over a store that was just opened, one after another, and all frames that were in an output in
-- between.
pub data Serving {D : Type 0} (medium : D → Medium) (limits : Limits) (opened : StoreView D)
    : StoredHub D → Clients → List Seen → Type 0 where
  New : (hub : StoredHub D) → hub.store ≡ opened
      → StoredMatches limits hub (no_clients opened.machine.state (Restart ∷ []))
      → Serving medium limits opened hub (no_clients opened.machine.state (Restart ∷ [])) []
  Call : (last next : StoredHub D) (now then : Clients) (seen : List Seen)
      → Serving medium limits opened last now seen → HubCall medium limits last now next then
      → Serving medium limits opened next then seen
  Look : (last : StoredHub D) (now : Clients) (seen more : List Seen) (conn : ℕ)
      → Serving medium limits opened last now seen → Shows last.hub now conn more
      → Serving medium limits opened last now (more ++ seen)

-- A life: the state that its open gave; the events that it accepted, the restart first, and those of the call in which
-- it was stopped among them; how many of them were confirmed when that call began; and the frames that were in an
-- output, each with its connection.
pub record Life : Type 0 where
  pub opened : State
  pub accepted : List PlainEvent
  pub confirmed : ℕ
  pub seen : List Seen

-- the life of an opened store, whose hub was this one when the last call began, which makes this of the clients
abbrev pub life_of : {D : Type 0} → StoreView D → StoredHub D → Clients → List Seen → Life
life_of opened last then seen = record {
  opened = opened.machine.state;
  accepted = then.events;
  confirmed = last.store.confirmed;
  seen = seen;
}

-- A disk on which no server runs, and the lives that were on it, the last one first: nothing was, or any number of
-- opens were stopped, or a life is over, which an open began and the last of its calls ended, at some moment of it.
pub data Rested {D : Type 0} (medium : D → Medium) (limits : Limits) (disk : D) : List Life → D → Type 0 where
  Begun : Rested medium limits disk [] disk
  Stops : (lives : List Life) (before left : D) → Rested medium limits disk lives before
      → StoppedOpens medium before left → Rested medium limits disk lives left
  Lived : (lives : List Life) (before : D) (opened : StoreView D) (last next : StoredHub D) (now then : Clients)
      (seen : List Seen) (left : D) → Rested medium limits disk lives before
      → OpensOn (medium before).contents (medium opened.disk) opened → Serving medium limits opened last now seen
      → HubCall medium limits last now next then
      → IsLeft (medium last.store.disk) (medium next.store.disk) (medium left)
      → Rested medium limits disk (life_of opened last then seen ∷ lives) left

-- Lives, and the store that is opened after them.
pub record Lives {D : Type 0} (medium : D → Medium) (limits : Limits) (disk : D) (lives : List Life)
    (store : StoreView D) : Type 0 where
  pub left : D
  pub rested : Rested medium limits disk lives left
  pub opens : OpensOn (medium left).contents (medium store.disk) store

-- ---- what is promised of it

-- The machine's history over lives, after what was there before them: of each life some of the events that it accepted,
-- from the first on. All that were confirmed are among them, and so is the event of each frame that was in an output:
-- the frame is a reply of it to the process that its connection had joined as, or says that a HELLO was refused, that a
-- request was no event or that the connection has ended. The open of each life gave the state after the history so far,
-- and a restart.
pub data IsHistory (past : Past) : List Life → List PlainEvent → Type 0 where
  None : IsHistory past [] []
  More : (lives : List Life) (life : Life) (history kept lost : List PlainEvent)
      → IsHistory past lives history → life.opened ≡ restart past.limits (state_after (grown past history))
      → kept ++ lost ≡ life.accepted → life.confirmed ≤ length kept
      → All (λ s. (s.frame.mark ≤ length kept)
      × IsAnswer past.limits (state_after (grown past history)) life.accepted s.joined_as s.frame) life.seen
      → IsHistory past (life ∷ lives) (history ++ kept)

-- The disk at rest after these lives: what is sure of their history, and the others of the events that the last life
-- has accepted, of which each image keeps some, from the first on. Whichever are kept, they are a history of these
-- lives. What the disk reads stands for a state; so an open of it is refused by the disk, for want of memory, or at the
-- end of the epochs, and not otherwise.
pub record RestsAfter (past : Past) (lives : List Life) (medium : Medium) : Type 0 where
  pub sure : List PlainEvent
  pub others : List PlainEvent
  pub rests : Rests (grown past sure) others medium
  pub histories : (kept lost : List PlainEvent) → kept ++ lost ≡ others → IsHistory past lives (sure ++ kept)
  pub reads : (s : State) × StandsFor past.limits s medium.contents

-- The store that is opened after these lives has such a history: its machine is in the state after it, and a restart.
pub record HasHistory {D : Type 0} (medium : Medium) (past : Past) (lives : List Life) (store : StoreView D)
    : Type 0 where
  pub history : List PlainEvent
  pub is : IsHistory past lives history
  pub under : store.machine.limits ≡ past.limits
  pub state : store.machine.state ≡ restart past.limits (state_after (grown past history))
  pub keeps : Keeps medium store (reopened (grown past history))
