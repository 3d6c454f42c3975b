-- How a turn parts with the clients that are gone.
use Rattle.std.specs.Prelude.{◌≡◌, ◌⊎◌, ℕ, false, List, [], ◌∷◌, ◌++◌, Option}
use Rattle.ipc_limits.specs.declared.limits.Limits.{Limits}
use Rattle.ipc_disk.specs.Medium.{Medium}
use Rattle.ipc_store.specs.Histories.{Takes}
use Rattle.ipc_hub.specs.Clients.{Clients, hangup}
use Rattle.ipc_hub.specs.View.{StoredHub}
use Rattle.ipc_hub.specs.Relations.Matches.{Serves, StoredMatches}
use Rattle.ipc_server.specs.Acts.{Act}
use Rattle.ipc_server.specs.Acts.Act.{HangsUp as to_hang_up}
use Rattle.ipc_server.specs.Runs.{RunsRound, Sends}
use Rattle.ipc_server.specs.View.{ClientView, EachClient, is_gone}

-- Connections were hung up, one after another, and nothing else was done.
pub data HangsUp {D : Type 0} (medium : D → Medium) (moment : ℕ) (old : StoredHub D)
    : StoredHub D → List Act → Type 0 where
  None : HangsUp medium moment old old []
  More : (last next : StoredHub D) (acts : List Act) (conn : ℕ) → HangsUp medium moment old last acts
      → Serves medium last next (λ limits h. hangup limits h conn moment)
      → HangsUp medium moment old next (acts ++ to_hang_up conn moment ∷ [])

-- One connection was hung up, or was before: then nothing was done.
abbrev pub EndsConnection : {D : Type 0} → (D → Medium) → ℕ → ℕ → StoredHub D → StoredHub D → Type 0
EndsConnection medium moment conn old new =
    (new ≡ old) ⊎ Serves medium old new (λ limits h. hangup limits h conn moment)

-- What was accepted was made to last.
pub record Releases {D : Type 0} (medium : D → Medium) (old new : StoredHub D) : Type 0 where
  pub same : (limits : Limits) (h : Clients) → StoredMatches limits old h → StoredMatches limits new h
  pub takes : Takes medium old.store [] new.store

-- What was accepted was made to last, and after that clients were sent what they may see.
pub record Answers {D : Type 0} (medium : D → Medium) (old new : StoredHub D) (told : List Act) : Type 0 where
  pub lasting : StoredHub D
  pub releases : Releases medium old lasting
  pub sends : Sends lasting new told

-- The end of a round: connections were hung up, and the clients were answered.
pub record EndsRound {D : Type 0} (medium : D → Medium) (moment : ℕ) (old new : StoredHub D) : Type 0 where
  pub parted : StoredHub D
  pub hung_up : List Act
  pub hangs_up : HangsUp medium moment old parted hung_up
  pub told : List Act
  pub answers : Answers medium parted new told

-- None of the clients that a turn leaves was gone when the clients had been written to: none is over, and each that the
-- server has ended had something to see then. From there on the turn has only parted with the others.
pub record HasParted {D : Type 0} (medium : D → Medium) (moment : ℕ) (old new : StoredHub D)
    (left : List (Option ClientView)) : Type 0 where
  pub written : StoredHub D
  pub goes : RunsRound medium moment old written
  pub none_gone : EachClient (λ client. is_gone written.hub client ≡ false) left
  pub parts : EndsRound medium moment written new
