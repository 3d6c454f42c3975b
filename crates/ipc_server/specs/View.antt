-- What a caller sees of a server: its hub, and its clients by the number of their connection.
use Rattle.std.specs.Prelude.{◌≡◌, ◌⊎◌, ◌<◌, ℕ, Bool, true, false, ◌&&◌, ◌||◌, ◌==◌, List, [], length}
use Rattle.std.specs.Prelude.{Option, Some, None, is_some, option_map, slice_index_or, unwrap_or}
use Rattle.ipc_hub.specs.View.{HubView, StoredHub, is_connected, output_of, ended_of}

-- what became of a client when it was last written to
pub record Writing : Type 0 where
  -- its socket took no more bytes
  pub full : Bool
  -- a write to its socket has failed, then or before
  pub failed : Bool
  -- how many writes were made
  pub writes : ℕ

pub record ClientView : Type 0 where
  -- the number of its connection
  pub conn : ℕ
  -- its bytes that were read, and that the hub has not taken
  pub piece : List ℕ
  -- a read may give something: none has said since that it would block
  pub readable : Bool
  -- how many reads of it were made in the last turn that has read it
  pub reads : ℕ
  -- its connection is to be hung up: the end of its input was read, or its socket has failed
  pub over : Bool
  pub writing : Writing

pub record ServerView (D : Type 0) : Type 0 where
  pub hub : StoredHub D
  -- the client of each number from 0 on, or none
  pub clients : List (Option ClientView)
  -- connections may wait: the listening socket has told so, and no accept has said since that it would block
  pub may_accept : Bool
  -- more connections may have come than one turn takes, or may find room now that the last turn has closed others
  pub crowded : Bool

-- the most reads of a client in one turn
abbrev pub most_reads : ℕ
most_reads = 16

-- the most writes to a client, each time that it is written to
abbrev pub most_writes : ℕ
most_writes = 16

-- the client that has the number
abbrev pub client_of : List (Option ClientView) → ℕ → Option ClientView
client_of clients number = slice_index_or clients number None

-- each client is such a one
abbrev pub EachClient : (ClientView → Type 0) → List (Option ClientView) → Type 0
EachClient P clients = (number : ℕ) (client : ClientView) → client_of clients number ≡ Some client → P client

-- some client is such a one
abbrev pub SomeClient : (ClientView → Type 0) → List (Option ClientView) → Type 0
SomeClient P clients =
    (number : ℕ) × (client : ClientView) × (client_of clients number ≡ Some client) × P client

-- there is a client with the number whose socket has failed
abbrev pub has_failed : List (Option ClientView) → ℕ → Bool
has_failed clients number = unwrap_or (option_map (λ c. c.writing.failed) (client_of clients number)) false

-- each client's connection has its own number
abbrev pub HaveOwnNumbers : List (Option ClientView) → Type 0
HaveOwnNumbers clients =
    (number : ℕ) (client : ClientView) → client_of clients number ≡ Some client → client.conn ≡ number

-- Each client has its connection in the hub, under its own number, and no other connection is there.
pub record HaveConnections (hub : HubView) (clients : List (Option ClientView)) : Type 0 where
  pub own : HaveOwnNumbers clients
  pub same : (number : ℕ) → is_connected hub number ≡ is_some (client_of clients number)

-- A client was read: if a read may give something still, then a piece of what was read is kept, or its reads are used.
abbrev pub WasRead : ClientView → Type 0
WasRead client = client.readable ≡ true → client.piece ≡ [] → client.reads ≡ most_reads

-- A client was written to: a write was made if its socket is full; and if that is not full and has not failed, then
-- nothing is left that it may see, or its writes are used.
abbrev pub WasWritten : HubView → ClientView → Type 0
WasWritten hub client =
    (client.writing.full ≡ true → 0 < client.writing.writes)
    × (client.writing.full ≡ false → client.writing.failed ≡ false
    → (output_of hub client.conn ≡ []) ⊎ (client.writing.writes ≡ most_writes))

-- A client is gone if it is over, or if the server has ended its connection and all that it may see was written.
abbrev pub is_gone : HubView → ClientView → Bool
is_gone hub client = client.over || (ended_of hub client.conn && (length (output_of hub client.conn) == 0))
