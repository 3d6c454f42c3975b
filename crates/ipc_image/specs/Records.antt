-- The records of events, as they stand in a batch directly after each other: the length of what follows (four bytes),
-- the kind (one), the moment (eight), and what else the event says.
use Rattle.std.specs.Prelude.{◌≡◌, ◌<◌, ◌+◌, ◌^◌, ℕ, List, [], ◌∷◌, ◌++◌, length, take}
use Rattle.std.specs.Int.{w32, w64, to_be_bytes}
use Rattle.ipc_wire.specs.Spelling.{HasFrame, request_bytes}
use Rattle.ipc_engine.specs.declared.event.Event.{Event}
use Rattle.ipc_engine.specs.View.{plain_event}
use Rattle.ipc_engine.specs.Event.{PlainEvent, Connect, Call, Interrupt, Tick, Exit, Restart, moment_of}

abbrev pub kind_of : PlainEvent → ℕ
kind_of (Connect cred serial moment) = 1
kind_of (Call pid request moment) = 2
kind_of (Interrupt pid serial moment) = 3
kind_of (Tick moment) = 4
kind_of (Exit pid moment) = 5
kind_of Restart = 6

-- a HELLO: its serial, uid and gid; a request: the pid, and its frame without the length; an INTERRUPT: the pid, and
-- its serial; an exit: the pid
abbrev pub details : PlainEvent → List ℕ
details (Connect cred serial moment) = to_be_bytes w32 serial ++ to_be_bytes w32 cred.uid ++ to_be_bytes w32 cred.gid
details (Call pid request moment) = to_be_bytes w32 pid ++ request_bytes request
details (Interrupt pid serial moment) = to_be_bytes w32 pid ++ to_be_bytes w32 serial
details (Tick moment) = []
details (Exit pid moment) = to_be_bytes w32 pid
details Restart = []

-- the record without its length
abbrev pub text_of : PlainEvent → List ℕ
text_of e = kind_of e ∷ to_be_bytes w64 (moment_of e) ++ details e

unfoldable pub record_bytes : PlainEvent → List ℕ
record_bytes e = to_be_bytes w32 (9 + length (details e)) ++ text_of e

-- the details of an event are numbers in the range of their fields, and a request that has a frame
abbrev pub HasDetails : PlainEvent → Type 0
HasDetails (Connect cred serial moment) = (serial < 2 ^ 32) × (cred.uid < 2 ^ 32) × (cred.gid < 2 ^ 32)
HasDetails (Call pid request moment) = (pid < 2 ^ 32) × HasFrame request
HasDetails (Interrupt pid serial moment) = (pid < 2 ^ 32) × (serial < 2 ^ 32)
HasDetails (Tick moment) = Unit {0}
HasDetails (Exit pid moment) = pid < 2 ^ 32
HasDetails Restart = Unit {0}

-- the events that have a record
pub record HasRecord (e : PlainEvent) : Type 0 where
  pub moment : moment_of e < 2 ^ 64
  pub details : HasDetails e

-- the bytes begin with the record of an event
pub record BeginsWith (bytes : List ℕ) (e : PlainEvent) : Type 0 where
  pub has : HasRecord e
  pub front : take (length (record_bytes e)) bytes ≡ record_bytes e

-- what a reader found: how many bytes, and the event
abbrev pub plain_found : ℕ × Event → ℕ × PlainEvent
plain_found found = (found.0, plain_event found.1)
