-- What a call comes to that is refused.
use Rattle.std.specs.Prelude.{◌≡◌, ◌⊎◌, ◌+◌, ◌<◌, ◌≤◌, ◌==◌, ◌||◌, ℕ, true, false, List, [], length, take, ⊤}
use Rattle.std.specs.Prelude.{Result, OnOk, OnErr, IfOk, IfErr}
use Rattle.ipc_limits.specs.declared.limits.Limits.{Limits}
use Rattle.ipc_limits.specs.Limits.{longest_reply}
use Rattle.ipc_base.specs.Table.{seen_as}
use Rattle.ipc_disk.specs.Counts.{Counts, counted}
use Rattle.ipc_disk.specs.Medium.{Medium, IsHonest}
use Rattle.ipc_store.specs.declared.fault.CommitError.{CommitError}
use Rattle.ipc_store.specs.declared.fault.CommitError.TheVariants as commit
use Rattle.ipc_store.specs.Histories.{Takes}
use Rattle.ipc_store.specs.View.{IsAtLastEpoch, IsReadyFor, IsStopped, Spends, events_left}
use Rattle.ipc_hub.specs.declared.fault.ServeError.{ServeError}
use Rattle.ipc_hub.specs.declared.fault.ServeError.TheVariants.{Unknown, Device, Stopped}
use Rattle.ipc_hub.specs.Clients.{Clients, connect, fail, tick}
use Rattle.ipc_hub.specs.View.{StoredHub, HasNoFrame, HasStopped, is_connected, numbers_of}
use Rattle.ipc_hub.specs.Relations.Delivery.{released, HasSpaceFor}
use Rattle.ipc_hub.specs.Relations.Invariant.{HasPassed, HubInvariant}
use Rattle.ipc_hub.specs.Relations.Matches.{HubMatches, StoredMatches, Serves, ServesBytes, ServesFeed, Simulates}
use Rattle.ipc_hub.specs.Relations.Rows.{is_open_in}

-- What waited could not be made to last, before the call did anything else: a hub of the definitions that matched now
-- matches when it has failed. What a crash leaves at any moment of it is what `Takes` says.
pub record Fails {D : Type 0} (medium : D → Medium) (old new : StoredHub D) : Type 0 where
  pub takes : Takes medium old.store [] new.store
  pub stopped : IsStopped new.store
  pub unconfirmed : new.store.confirmed ≡ old.store.confirmed
  pub matches : (limits : Limits) (h : Clients) → StoredMatches limits old h
      → HubMatches limits old.store.confirmed new.hub (fail old.store.confirmed h)

-- It is so by this fault: the disk has counted a failure, or the numbers of epochs are at their end.
abbrev pub FailsBy : {D : Type 0} → (D → Medium) → (D → Counts) → StoredHub D → StoredHub D → CommitError
    → Type 0
FailsBy medium counts old new commit.Device =
    Fails medium old new × ((counts new.store.disk).failures ≡ counted (counts old.store.disk).failures 1)
FailsBy medium counts old new commit.Stopped = Fails medium old new × IsAtLastEpoch old.store

-- A call that lets time pass or commits is refused by this fault. It is `Stopped` if the hub goes on no more, and once
-- if the numbers of epochs are at their end: then the hub fails as by the disk.
abbrev pub Halts : {D : Type 0} → (D → Medium) → (D → Counts) → StoredHub D → StoredHub D → CommitError
    → Type 0
Halts medium counts old new commit.Device = FailsBy medium counts old new commit.Device
Halts medium counts old new commit.Stopped =
    (HasStopped old × (new ≡ old)) ⊎ FailsBy medium counts old new commit.Stopped

-- a call that names a connection is refused so, or because no connection has the number
abbrev pub Refuses : {D : Type 0} → (D → Medium) → (D → Counts) → StoredHub D → StoredHub D → ℕ
    → ServeError → Type 0
Refuses medium counts old new conn Unknown =
    (¬ HasStopped old) × (is_connected old.hub conn ≡ false) × (new ≡ old)
Refuses medium counts old new conn Device = Halts medium counts old new commit.Device
Refuses medium counts old new conn Stopped = Halts medium counts old new commit.Stopped

-- A feed has failed by this fault after it had taken some bytes of a piece. It is two calls in a row: a feed of these
-- bytes, and then what waits cannot be made to last.
pub record FailsWithin {D : Type 0} (medium : D → Medium) (counts : D → Counts) (old new : StoredHub D) (conn : ℕ)
    (piece : List ℕ) (moment : ℕ) (e : CommitError) : Type 0 where
  pub there : is_connected old.hub conn ≡ true
  pub taken : ℕ
  pub some : 0 < taken
  pub within : taken ≤ length piece
  pub fed : StoredHub D
  pub feeds : ServesFeed medium old fed conn (take taken piece) moment
  pub spends : Spends counts (2 + taken) old.store fed.store
  pub fails : FailsBy medium counts fed new e

-- a feed is refused by this fault, before it did anything else or within
abbrev pub HaltsFeed : {D : Type 0} → (D → Medium) → (D → Counts) → StoredHub D → StoredHub D → ℕ → List ℕ → ℕ
    → CommitError → Type 0
HaltsFeed medium counts old new conn piece moment e =
    Halts medium counts old new e ⊎ FailsWithin medium counts old new conn piece moment e

-- so it is, or because no connection has the number
abbrev pub RefusesFeed : {D : Type 0} → (D → Medium) → (D → Counts) → StoredHub D → StoredHub D → ℕ → List ℕ → ℕ
    → ServeError → Type 0
RefusesFeed medium counts old new conn piece moment Unknown = Refuses medium counts old new conn Unknown
RefusesFeed medium counts old new conn piece moment Device =
    HaltsFeed medium counts old new conn piece moment commit.Device
RefusesFeed medium counts old new conn piece moment Stopped =
    HaltsFeed medium counts old new conn piece moment commit.Stopped

-- What waited was made to last, or nothing had to be; or that is refused. A hub of the definitions that matched still
-- does.
pub record Settles {D : Type 0} (medium : D → Medium) (counts : D → Counts) (old new : StoredHub D)
    (done : Result ⊤ CommitError) : Type 0 where
  pub ok : OnOk done ((limits : Limits) (h : Clients) → StoredMatches limits old h → StoredMatches limits new h)
  pub takes : Takes medium old.store [] new.store
  pub numbers : numbers_of new.hub ≡ numbers_of old.hub
  pub refused : IfErr done (λ e. FailsBy medium counts old new e)
  pub spends : OnOk done (Spends counts 1 old.store new.store)
  pub honest : IsHonest (medium old.store.disk) → IsHonest (medium new.store.disk)

-- A connection has come under a number that was not in use; or memory was refused, and nothing has changed.
pub record Joins {D E : Type 0} (old new : StoredHub D) (conn : ℕ) (done : Result ⊤ E) : Type 0 where
  pub ok : OnOk done (Simulates old.hub new.hub (λ _ h. connect h conn))
  pub joins : OnOk done ((other : ℕ) → is_connected new.hub other ≡ (other == conn || is_connected old.hub other))
  pub store : new.store ≡ old.store
  pub err : OnErr done (new ≡ old)

-- Time has passed, the tick waits, records of so many bytes have room after it, and two events more can be counted; or
-- that is refused, by a commit before it.
pub record Advances {D : Type 0} (medium : D → Medium) (counts : D → Counts) (old new : StoredHub D) (moment more : ℕ)
    (done : Result ⊤ CommitError) : Type 0 where
  pub ok : OnOk done (Serves medium old new (λ limits h. tick limits h moment))
  pub numbers : numbers_of new.hub ≡ numbers_of old.hub
  pub invariant : OnOk done (HubInvariant new.hub)
  pub ready : OnOk done (IsReadyFor new.store more 2)
  pub later : OnOk done (0 < new.store.waiting)
  pub passed : OnOk done (HasPassed old.hub new.hub)
  pub refused : IfErr done (λ e. Halts medium counts old new e)
  pub spends : OnOk done (Spends counts 2 old.store new.store)
  pub honest : IsHonest (medium old.store.disk) → IsHonest (medium new.store.disk)

-- Some bytes of a piece were taken in once time had passed, and then what waited could not be made to last, by this
-- fault.
pub record FailsIn {D : Type 0} (medium : D → Medium) (counts : D → Counts) (old new : StoredHub D) (conn : ℕ)
    (piece : List ℕ) (moment : ℕ) (e : CommitError) : Type 0 where
  pub taken : ℕ
  pub some : 0 < taken
  pub within : taken ≤ length piece
  pub fed : StoredHub D
  pub serves : ServesBytes medium old fed conn (take taken piece) moment
  pub spends : Spends counts taken old.store fed.store
  pub fails : FailsBy medium counts fed new e

-- Bytes of a piece were taken in once time had passed, and what waited was made to last once at most; or that failed
-- when some of them were.
pub record TakesPiece {D : Type 0} (medium : D → Medium) (counts : D → Counts) (old new : StoredHub D) (conn : ℕ)
    (piece : List ℕ) (moment : ℕ) (done : Result ℕ CommitError) : Type 0 where
  pub ok : IfOk done (λ taken. ServesBytes medium old new conn (take taken piece) moment)
  pub within : IfOk done (λ taken. taken ≤ length piece)
  pub whole : IfOk done (λ taken. HasNoFrame new.hub conn → taken ≡ length piece)
  pub starts : HasSpaceFor old.hub (longest_reply old.hub.limits) conn → 0 < length piece
      → IfOk done (λ taken. 0 < taken)
  pub dropped : is_open_in old.hub.connections conn ≡ false → IfOk done (λ taken. taken ≡ length piece)
  pub numbers : numbers_of new.hub ≡ numbers_of old.hub
  pub spends : IfOk done (λ taken. Spends counts (1 + taken) old.store new.store)
  pub refused : IfErr done (λ e. FailsIn medium counts old new conn piece moment e)
  pub honest : IsHonest (medium old.store.disk) → IsHonest (medium new.store.disk)

-- all events that waited are confirmed, and their frames are seen; nothing waits
pub record Lasts {D : Type 0} (old new : StoredHub D) : Type 0 where
  pub all : new.hub.connections ≡ seen_as released old.hub.connections
  pub confirmed : new.store.confirmed ≡ old.store.confirmed + old.store.waiting
  pub waiting : new.store.waiting ≡ 0
  pub records : new.store.records ≡ []
  pub state : new.hub.state ≡ old.hub.state
  pub left : events_left new.store ≡ events_left old.store
