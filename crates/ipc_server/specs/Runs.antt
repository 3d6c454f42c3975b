-- What a server's steps come to, whatever connections of the definitions its hub matches.
use Rattle.std.specs.Prelude.{◌≡◌, ◌⊎◌, ℕ, List, [], ◌∷◌, ◌++◌, length, Option}
use Rattle.std.specs.Io.KnownBytes.{Appends, Consumes}
use Rattle.ipc_limits.specs.declared.limits.Limits.{Limits}
use Rattle.ipc_disk.specs.Counts.{Counts}
use Rattle.ipc_disk.specs.Medium.{Medium}
use Rattle.ipc_store.specs.declared.fault.CommitError.{CommitError}
use Rattle.ipc_store.specs.declared.fault.CommitError.TheVariants as commit
use Rattle.ipc_hub.specs.Clients.{Clients, consume}
use Rattle.ipc_hub.specs.Lives.{HubCall, Seen}
use Rattle.ipc_hub.specs.View.{StoredHub, HasStopped, output_of}
use Rattle.ipc_hub.specs.Relations.Matches.{Comes, Simulates, StoredMatches}
use Rattle.ipc_hub.specs.Relations.Faults.{Halts}
use Rattle.ipc_server.specs.declared.fault.ServeFault.{ServeFault}
use Rattle.ipc_server.specs.declared.fault.ServeFault.TheVariants.{Device, Socket, Stopped}
use Rattle.ipc_server.specs.Acts.{Act, BeginsOutput, IsAt, IsShown, Piece, Sees}
use Rattle.ipc_server.specs.Acts.{after, after_one, all_of, feeds, joined, sends}
use Rattle.ipc_server.specs.Acts.Act.{Consumes as to_consume, Ticks}

-- Calls on a hub at one moment, one after another, and what they make of the clients: each is a call of the hub, to
-- which no other comes in between. The frames are those that were in an output from which a client was sent something.
pub data Steps {D : Type 0} (medium : D → Medium) (moment : ℕ) (limits : Limits) (old : StoredHub D) (h : Clients)
    : StoredHub D → List Act → List Seen → Type 0 where
  None : Steps medium moment limits old h old [] []
  More : (last next : StoredHub D) (acts : List Act) (seen : List Seen) (act : Act) (frames : List Seen)
      → Steps medium moment limits old h last acts seen
      → IsAt moment act → IsShown last.hub act → Sees last.hub (after limits h acts) act frames
      → HubCall medium limits last (after limits h acts) next (after_one limits (after limits h acts) act)
      → Steps medium moment limits old h next (acts ++ act ∷ []) (frames ++ seen)

-- These calls were made, and the hub goes on: it matches what they come to, and its store has taken the events that
-- they accept.
pub record CallsMade {D : Type 0} (medium : D → Medium) (moment : ℕ) (limits : Limits) (old new : StoredHub D)
    (h : Clients) (acts : List Act) : Type 0 where
  pub seen : List Seen
  pub steps : Steps medium moment limits old h new acts seen
  pub comes : Comes medium limits old new h (after limits h acts)

-- Some calls were made at one moment.
abbrev pub RunsCalls : {D : Type 0} → (D → Medium) → ℕ → StoredHub D → StoredHub D → Type 0
RunsCalls medium moment old new =
    (limits : Limits) (h : Clients) → StoredMatches limits old h
    → (acts : List Act) × CallsMade medium moment limits old new h acts

-- Some calls were made at one moment, and this holds of them.
abbrev pub RunsSuch : {D : Type 0} → (D → Medium) → ℕ → StoredHub D → StoredHub D → (List Act → Type 0) → Type 0
RunsSuch medium moment old new Such =
    (limits : Limits) (h : Clients) → StoredMatches limits old h
    → (acts : List Act) × CallsMade medium moment limits old new h acts × Such acts

-- Time passed first, up to this moment, and the other calls were made at it.
abbrev pub RunsRound : {D : Type 0} → (D → Medium) → ℕ → StoredHub D → StoredHub D → Type 0
RunsRound medium moment old new =
    (limits : Limits) (h : Clients) → StoredMatches limits old h
    → (acts : List Act) × CallsMade medium moment limits old new h (Ticks moment ∷ acts)

-- Pieces of one client were fed at one moment, and they are what was there of its bytes and is no more.
abbrev pub FeedsInput : {D : Type 0} → (D → Medium) → ℕ → ℕ → StoredHub D → StoredHub D → Option (List ℕ)
    → Option (List ℕ) → Type 0
FeedsInput medium conn moment old new there left =
    (limits : Limits) (h : Clients) → StoredMatches limits old h
    → (pieces : List Piece) × CallsMade medium moment limits old new h (feeds conn moment pieces)
    × Consumes there left (all_of pieces)

-- Clients were sent what they may see, one after another, and nothing else was done.
pub data Sends {D : Type 0} (old : StoredHub D) : StoredHub D → List Act → Type 0 where
  None : Sends old old []
  More : (last next : StoredHub D) (acts : List Act) (conn : ℕ) (bytes : List ℕ) → Sends old last acts
      → BeginsOutput last.hub conn bytes
      → Simulates last.hub next.hub (λ _ h. consume h conn (length bytes)) → next.store ≡ last.store
      → Sends old next (acts ++ to_consume conn bytes ∷ [])

-- A client was sent the first bytes that it could see, in pieces, and its socket was written these, and no others; it
-- can see the rest still.
abbrev pub WritesOutput : {D : Type 0} → ℕ → StoredHub D → StoredHub D → Option (List ℕ) → Option (List ℕ) → Type 0
WritesOutput conn old new written now =
    (pieces : List (List ℕ)) × Sends old new (sends conn pieces)
    × (output_of old.hub conn ≡ joined pieces ++ output_of new.hub conn) × Appends written now (joined pieces)

-- A call of the hub met this fault, after some others; then clients were sent what they may see.
pub record StoppedAt {D : Type 0} (medium : D → Medium) (counts : D → Counts) (moment : ℕ) (limits : Limits)
    (old new : StoredHub D) (h : Clients) (error : CommitError) : Type 0 where
  pub acts : List Act
  pub before : StoredHub D
  pub makes : CallsMade medium moment limits old before h acts
  pub halted : StoredHub D
  pub halts : Halts medium counts before halted error
  pub told : List Act
  pub sends : Sends halted new told

abbrev pub StopsAt : {D : Type 0} → (D → Medium) → (D → Counts) → ℕ → StoredHub D → StoredHub D → CommitError → Type 0
StopsAt medium counts moment old new error =
    (limits : Limits) (h : Clients) → StoredMatches limits old h → StoppedAt medium counts moment limits old new h error

-- A turn was broken off by this fault. It did nothing if the sockets could not be waited for, or if the hub had stopped
-- before it.
abbrev pub BreaksOff : {D : Type 0} → (D → Medium) → (D → Counts) → ℕ → StoredHub D → StoredHub D → ServeFault → Type 0
BreaksOff medium counts moment old new Socket = new ≡ old
BreaksOff medium counts moment old new Device = StopsAt medium counts moment old new commit.Device
BreaksOff medium counts moment old new Stopped =
    (HasStopped old × (new ≡ old)) ⊎ StopsAt medium counts moment old new commit.Stopped
