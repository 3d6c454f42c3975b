-- A journal with a header. The first sector of its range is the header: the epoch in 8 bytes, and in 4 how many of the
-- sectors after it are used. There stand the batches, each from a sector of its own on.
use Rattle.std.specs.Prelude.{◌≡◌, ◌⊎◌, ℕ, ◌≤◌, ◌<◌, List, ◌++◌, drop, replicate}
use Rattle.byteorder.specs.Endian.{big_bytes, big_number}
use Rattle.ipc_disk.specs.declared.range.Range.{Range}
use Rattle.ipc_disk.specs.Medium.{Image}
use Rattle.ipc_disk.specs.Standing.{sector_at}
use Rattle.ipc_journal.specs.Batch.{epoch_in}

-- the used sectors that a header names
unfoldable pub used_in : List ℕ → ℕ
used_in sector = big_number 4 (drop 8 sector)

-- the bytes of a header: its epoch, its used sectors, and zeros
unfoldable pub header_bytes : ℕ → ℕ → List ℕ
header_bytes epoch used = big_bytes 8 epoch ++ (big_bytes 4 used ++ replicate 500 0)

-- the epoch in an image's header
abbrev pub header_epoch : Range → Image → ℕ
header_epoch range image = epoch_in (sector_at image range.first)

-- the used sectors in an image's header
abbrev pub header_used : Range → Image → ℕ
header_used range image = used_in (sector_at image range.first)

-- the header is of an earlier epoch, and then none of its sectors is used; or it is of this one, and so many are
pub data Counts (range : Range) (epoch used : ℕ) (image : Image) : Type 0 where
  Older : header_epoch range image < epoch → used ≡ 0 → Counts range epoch used image
  Current : header_epoch range image ≡ epoch → header_used range image ≡ used → used < range.count
      → Counts range epoch used image

-- it is of a later epoch, or is of this one and counts sectors past the end
abbrev pub IsBadHeader : Range → ℕ → Image → Type 0
IsBadHeader range epoch image = (epoch < header_epoch range image)
    ⊎ ((header_epoch range image ≡ epoch) × (range.count ≤ header_used range image))
