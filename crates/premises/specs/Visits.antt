-- A life in which a client sees what it is answered, and the last call of which is stopped.
use Rattle.std.specs.Prelude.{◌≡◌, ℕ, List, ◌∷◌, drop, map}
use Rattle.ipc_limits.specs.declared.limits.Limits.{Limits}
use Rattle.ipc_disk.specs.Medium.{Medium}
use Rattle.ipc_engine.specs.Event.{PlainEvent, Restart}
use Rattle.ipc_store.specs.View.{StoreView}
use Rattle.ipc_hub.specs.Clients.{Clients, all_bytes}
use Rattle.ipc_hub.specs.Lives.{HubCall, Life, Seen, Serving}
use Rattle.ipc_hub.specs.Relations.Matches.{StoredMatches}
use Rattle.ipc_hub.specs.View.{StoredHub}

-- the bytes of these frames, but for some of the first that were taken
abbrev pub AreSeen : List ℕ → List Seen → Type 0
AreSeen bytes seen = (consumed : ℕ) × (bytes ≡ drop consumed (all_bytes (map (λ s. s.frame) seen)))

-- the life began with a restart, and the frames in it that were in an output have these bytes
pub record Saw (bytes : List ℕ) (life : Life) : Type 0 where
  pub more : List PlainEvent
  pub first : life.accepted ≡ Restart ∷ more
  pub seen : AreSeen bytes life.seen

-- a hub that has served since this store was opened, and a hub of the definitions that it matches
pub record Goes {D : Type 0} (medium : D → Medium) (limits : Limits) (opened : StoreView D) (hub : StoredHub D)
    (h : Clients) (seen : List Seen) : Type 0 where
  pub serving : Serving medium limits opened hub h seen
  pub matches : StoredMatches limits hub h

-- a hub after one call more, which may have been its last
pub record Ends {D : Type 0} (medium : D → Medium) (limits : Limits) (opened : StoreView D) (hub : StoredHub D)
    (seen : List Seen) : Type 0 where
  pub last : StoredHub D
  pub now : Clients
  pub then : Clients
  pub serving : Serving medium limits opened last now seen
  pub call : HubCall medium limits last now hub then
