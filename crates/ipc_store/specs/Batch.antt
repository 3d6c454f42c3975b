-- A batch: the events that one commit makes last.
use Rattle.std.specs.Prelude.{◌≤◌, ◌+◌, ◌-◌, ℕ, List, ◌++◌, length, All}
use Rattle.std.specs.List.{flat_map}
use Rattle.byteorder.specs.Endian.{big_bytes}
use Rattle.ipc_engine.specs.Event.{PlainEvent}
use Rattle.ipc_image.specs.Format.{format}
use Rattle.ipc_image.specs.Records.{record_bytes, HasRecord}

-- the most bytes that a batch has, with its length
abbrev pub most_bytes : ℕ
most_bytes = format.batch

-- the most bytes of the records in it, which stand after four bytes of length
abbrev pub most_records : ℕ
most_records = most_bytes - 4

-- the bytes of the record of a tick, than which none is shorter, and of an exit
abbrev pub tick_record : ℕ
tick_record = 13

abbrev pub exit_record : ℕ
exit_record = 17

-- the records of events, each directly after the one before
abbrev pub records_of : List PlainEvent → List ℕ
records_of events = flat_map record_bytes events

-- the bytes of a batch: how many bytes its records have (four bytes), and the records
unfoldable pub batch_bytes : List PlainEvent → List ℕ
batch_bytes events = big_bytes 4 (length (records_of events)) ++ records_of events

-- the events make one batch, of at most so many bytes
pub record AreBatchOf (most : ℕ) (events : List PlainEvent) : Type 0 where
  pub each : All HasRecord events
  pub size : 4 + length (records_of events) ≤ most

abbrev pub AreBatch : List PlainEvent → Type 0
AreBatch = AreBatchOf most_bytes
