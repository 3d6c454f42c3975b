-- A batch of bytes, and the numbers in a sector. Numbers have their highest byte first.
use Rattle.std.specs.Prelude.{◌≡◌, ℕ, ◌+◌, ◌≤◌, List, length}
use Rattle.byteorder.specs.Endian.{big_number}

-- the number in the first four bytes of a batch
unfoldable pub length_in : List ℕ → ℕ
length_in bytes = big_number 4 bytes

-- a batch: its first four bytes are the number of the bytes after them
pub record IsBatch (batch : List ℕ) : Type 0 where
  pub field : 4 ≤ length batch
  pub right : length_in batch + 4 ≡ length batch

-- the epoch that a header or a tag names, in the first eight bytes of its sector
unfoldable pub epoch_in : List ℕ → ℕ
epoch_in sector = big_number 8 sector
