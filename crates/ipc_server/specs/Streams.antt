-- What the sockets of the clients give and take in a round: what is fed for a connection came from the socket of its
-- own client, and what is taken from its output went there. It is said of the bytes of a socket that are known: those
-- that it will still give (read(2)), and those that it was written (write(2)).
use Rattle.std.specs.Prelude.{◌≡◌, ℕ, true, List, [], All, is_some, Option, Some, None}
use Rattle.std.specs.Io.KnownBytes.{Appends, Consumes, prepend_known}
use Rattle.slab.specs.Slab.{Slab, get}
use Rattle.ipc_disk.specs.Medium.{Medium}
use Rattle.ipc_hub.specs.View.{HubView, StoredHub, is_connected}
use Rattle.ipc_server.specs.declared.client.Client.{Client}
use Rattle.ipc_server.specs.Acts.{Act, Spares, fed, sent}
use Rattle.ipc_server.specs.Rounds.{Answers, HangsUp}
use Rattle.ipc_server.specs.Rows.{IsServing, clients_of}
use Rattle.ipc_server.specs.Runs.{Sends}
use Rattle.ipc_server.specs.View.{ClientView, HaveOwnNumbers, client_of}

-- the input of a client: what was read of its socket and not taken, and what it will still give
abbrev pub input_of : {S : Type 0} → (S → Option (List ℕ)) → Client S → Option (List ℕ)
input_of remaining client = prepend_known client.piece.items (remaining client.socket)

-- a client was fed these bytes: they are what was there of its input and is no more
abbrev pub Gives : {S : Type 0} → (S → Option (List ℕ)) → Client S → Client S → List ℕ → Type 0
Gives remaining was now bytes = Consumes (input_of remaining was) (input_of remaining now) bytes

-- its socket was written these bytes, and no others
abbrev pub Gets : {S : Type 0} → (S → Option (List ℕ)) → Client S → Client S → List ℕ → Type 0
Gets contents was now bytes = Appends (contents was.socket) (contents now.socket) bytes

-- The client of a number moved these bytes; also if it was let go after that. No client comes, and where there is none
-- no bytes are moved.
abbrev pub HasMoved : {C : Type 0} → (C → C → List ℕ → Type 0) → Option C → Option C → List ℕ → Type 0
HasMoved Moves None None bytes = bytes ≡ []
HasMoved Moves None (Some now) bytes = ⊥
HasMoved {C} Moves (Some was) None bytes = (last : C) × Moves was last bytes
HasMoved Moves (Some was) (Some now) bytes = Moves was now bytes

-- the client of each number moved its bytes
abbrev pub HaveMoved : {C : Type 0} → (C → C → List ℕ → Type 0) → (ℕ → List ℕ) → Slab C → Slab C → Type 0
HaveMoved Moves bytes old new = (number : ℕ) → HasMoved Moves (get old number) (get new number) (bytes number)

-- what is fed for each connection came from its own client, and what is sent to each client went to its own socket
abbrev pub AreFed : {S : Type 0} → (S → Option (List ℕ)) → Slab (Client S) → Slab (Client S) → List Act → Type 0
AreFed remaining old new acts = HaveMoved (Gives remaining) (λ number. fed number acts) old new

abbrev pub AreSent : {S : Type 0} → (S → Option (List ℕ)) → Slab (Client S) → Slab (Client S) → List Act → Type 0
AreSent contents old new acts = HaveMoved (Gets contents) (λ number. sent number acts) old new

-- Clients were read and fed, and nothing else was done.
pub record Hears {S : Type 0} (remaining : S → Option (List ℕ)) (old new : Slab (Client S)) (acts : List Act)
    : Type 0 where
  pub fed : AreFed remaining old new acts
  pub silent : (conn : ℕ) → sent conn acts ≡ []
  pub spares : (conn : ℕ) → All (Spares conn) acts

-- so it is, if each client's connection has its own number
abbrev pub HearsEach : {S : Type 0} → (S → Option (List ℕ)) → Slab (Client S) → Slab (Client S) → List Act → Type 0
HearsEach remaining old new acts = HaveOwnNumbers (clients_of old) → Hears remaining old new acts

-- no connection of these clients was made or hung up
abbrev pub SparesEach : List (Option ClientView) → List Act → Type 0
SparesEach clients acts =
    (number : ℕ) → is_some (client_of clients number) ≡ true → All (Spares number) acts

-- nor one of a client that was there before and is there after
abbrev pub SparesBoth : List (Option ClientView) → List (Option ClientView) → List Act → Type 0
SparesBoth old new acts =
    (number : ℕ) → is_some (client_of old number) ≡ true → is_some (client_of new number) ≡ true
    → All (Spares number) acts

-- What a round does with sockets. All clients are read before the first is written to, so there is a moment in between:
-- until then each connection was fed what its socket gave, and from then on each socket was written what its client was
-- sent. The connection of a client that is left was neither made nor hung up.
pub record Streams {S : Type 0} (remaining contents : S → Option (List ℕ)) (old new : Slab (Client S))
    (acts : List Act) : Type 0 where
  pub read : Slab (Client S)
  pub fed : AreFed remaining old read acts
  pub sent : AreSent contents read new acts
  pub spares : SparesEach (clients_of new) acts

-- Clients were sent what they may see, and each socket was written what its own client was sent.
pub record SendsEach {D S : Type 0} (contents : S → Option (List ℕ)) (old new : StoredHub D)
    (clients next : Slab (Client S)) : Type 0 where
  pub told : List Act
  pub sends : Sends old new told
  pub sent : HaveOwnNumbers (clients_of clients) → AreSent contents clients next told

-- All that was accepted was made durable, and then clients were sent what they may see, each by its own socket.
pub record AnswersEach {D S : Type 0} (medium : D → Medium) (contents : S → Option (List ℕ)) (old new : StoredHub D)
    (clients next : Slab (Client S)) : Type 0 where
  pub told : List Act
  pub answers : Answers medium old new told
  pub sent : HaveOwnNumbers (clients_of clients) → AreSent contents clients next told

-- connections were hung up, and none of those clients that are left
pub record PartsWith {D S : Type 0} (medium : D → Medium) (moment : ℕ) (old new : StoredHub D)
    (clients left : Slab (Client S)) : Type 0 where
  pub acts : List Act
  pub hangs_up : HangsUp medium moment old new acts
  pub spares : IsServing old.hub clients → SparesEach (clients_of left) acts

-- Connections may have come, and those that were there are left as they were.
pub record OnlyJoins (old new : HubView) (acts : List Act) : Type 0 where
  pub spares : (number : ℕ) → is_connected old number ≡ true → All (Spares number) acts
  pub stays : (number : ℕ) → is_connected old number ≡ true → is_connected new number ≡ true
