-- The bytes of a batch in a buffer.
use Rattle.std.specs.Prelude.{◌≡◌, ◌≤◌, ◌+◌, ◌*◌, ◌-◌, ℕ, List, length, take}
use Rattle.byteorder.specs.Endian.{big_bytes}
use Rattle.ipc_store.specs.Batch.{most_bytes, tick_record}

-- the first len bytes are a batch of so many records: their length, at least the bytes of a tick's for
-- each, and nothing else if there is none
pub record IsFilled (bytes : List ℕ) (len count : ℕ) : Type 0 where
  pub size : length bytes ≡ most_bytes
  pub least : tick_record * count + 4 ≤ len
  pub none : count ≡ 0 → len ≡ 4
  pub within : len ≤ most_bytes
  pub field : take 4 bytes ≡ big_bytes 4 (len - 4)
