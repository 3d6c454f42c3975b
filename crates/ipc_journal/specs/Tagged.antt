-- A journal of tagged sectors. Each begins with its tag: the epoch in 8 bytes, the number of its batch in 4 (from 1 at
-- each epoch), its index in the batch in 2, and how many sectors the batch has in 2. The other 496 bytes are those of
-- the batch, one sector after another, and zeros at its end.
use Rattle.std.specs.Prelude.{◌≡◌, ◌⊎◌, ℕ, ◌+◌, ◌-◌, ◌*◌, ◌/◌, ◌≤◌, ◌<◌, List, ◌++◌, length, take, drop, replicate}
use Rattle.byteorder.specs.Endian.{big_bytes, big_number}
use Rattle.ipc_disk.specs.declared.range.Range.{Range}
use Rattle.ipc_disk.specs.Medium.{Image}
use Rattle.ipc_disk.specs.Range.{IsOutside}
use Rattle.ipc_disk.specs.Since.{SameAt}
use Rattle.ipc_disk.specs.Standing.{sector_at}
use Rattle.ipc_journal.specs.Batch.{epoch_in}

-- the sectors that so many bytes take
abbrev pub pieces_for : ℕ → ℕ
pieces_for len = (len + 495) / 496

-- the batch that a tag names, its place there, and the sectors of the batch
unfoldable pub number_in : List ℕ → ℕ
number_in sector = big_number 4 (drop 8 sector)

unfoldable pub index_in : List ℕ → ℕ
index_in sector = big_number 2 (drop 12 sector)

unfoldable pub count_in : List ℕ → ℕ
count_in sector = big_number 2 (drop 14 sector)

-- the tag says so
pub record IsTagged (epoch number index count : ℕ) (sector : List ℕ) : Type 0 where
  pub epoch_is : epoch_in sector ≡ epoch
  pub number_is : number_in sector ≡ number
  pub index_is : index_in sector ≡ index
  pub count_is : count_in sector ≡ count

-- From this place on stand all sectors of a batch, the one after so many others: as many as their tags say, and none of
-- them past the end.
pub record IsWhole (range : Range) (epoch place before count : ℕ) (image : Image) : Type 0 where
  pub some : 0 < count
  pub within : place + count ≤ range.count
  pub each : (i : ℕ) → i < count → IsTagged epoch (before + 1) i count (sector_at image (range.first + place + i))

-- those of the bytes that stand in the i-th of their sectors
abbrev pub tagged_piece : ℕ → List ℕ → List ℕ
tagged_piece i bytes = take 496 (drop (496 * i) bytes)

-- from this sector on, each sector has the next piece of the bytes after its tag
abbrev pub StandsTagged : ℕ → List ℕ → Image → Type 0
StandsTagged at bytes image = (i : ℕ) → i < pieces_for (length bytes)
    → take (length (tagged_piece i bytes)) (drop 16 (sector_at image (at + i))) ≡ tagged_piece i bytes

-- a sector as it is written: its tag, a piece of the bytes, and zeros
unfoldable pub tagged_bytes : ℕ → ℕ → ℕ → ℕ → List ℕ → List ℕ
tagged_bytes epoch number index count piece =
    big_bytes 8 epoch ++ (big_bytes 4 number ++ (big_bytes 2 index ++ (big_bytes 2 count
    ++ (piece ++ replicate (496 - length piece) 0))))

-- from this sector on a batch of this number is written
abbrev pub IsTaggedAt : ℕ → ℕ → ℕ → List ℕ → Image → Type 0
IsTaggedAt at epoch number bytes image = (i : ℕ) → i < pieces_for (length bytes)
    → sector_at image (at + i)
    ≡ tagged_bytes epoch number i (pieces_for (length bytes)) (tagged_piece i bytes)

-- each sector of the batch is as it was in the old image, or written, and each other one is as it was
pub record IsMixed (at epoch number : ℕ) (bytes : List ℕ) (old image : Image) : Type 0 where
  pub outside : SameAt (IsOutside (record { first = at; count = pieces_for (length bytes) })) old image
  pub inside : (i : ℕ) → i < pieces_for (length bytes)
      → (sector_at image (at + i) ≡ sector_at old (at + i))
      ⊎ (sector_at image (at + i)
      ≡ tagged_bytes epoch number i (pieces_for (length bytes)) (tagged_piece i bytes))

-- No whole batch goes on from this place, and the sector there is of no later epoch: the journal ends, after so many
-- batches.
pub record IsEnd (range : Range) (epoch place before : ℕ) (image : Image) : Type 0 where
  pub within : place ≤ range.count
  pub none : (count : ℕ) → IsWhole range epoch place before count image → ⊥
  pub not_later : place < range.count → epoch_in (sector_at image (range.first + place)) ≤ epoch
