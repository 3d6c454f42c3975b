-- How bytes stand on a disk from a sector on: 512 of them a sector, the last of them with less.
use Rattle.std.specs.Prelude.{◌≡◌, ℕ, ◌+◌, ◌-◌, ◌*◌, ◌/◌, ◌<◌, List, [], ◌++◌, length}
use Rattle.std.specs.Prelude.{take, drop, replicate, slice_index_or}
use Rattle.ipc_disk.specs.Medium.{Image}

-- the sectors that so many bytes take
abbrev pub sectors_for : ℕ → ℕ
sectors_for len = (len + 511) / 512

-- a sector of an image
abbrev pub sector_at : Image → ℕ → List ℕ
sector_at image i = slice_index_or image i []

-- those of the bytes that stand in the i-th of their sectors
abbrev pub piece : ℕ → List ℕ → List ℕ
piece i bytes = take 512 (drop (512 * i) bytes)

-- from this sector on, each sector begins with the next piece of the bytes
abbrev pub StandsAt : ℕ → List ℕ → Image → Type 0
StandsAt at bytes image = (i : ℕ) → i < sectors_for (length bytes)
    → take (length (piece i bytes)) (sector_at image (at + i)) ≡ piece i bytes

-- bytes filled up with zeros to a sector
abbrev pub filled : List ℕ → List ℕ
filled bytes = bytes ++ replicate (512 - length bytes) 0

-- the i-th of their sectors as it is written: the piece that stands in it, and zeros
abbrev pub padded_piece : ℕ → List ℕ → List ℕ
padded_piece i bytes = filled (piece i bytes)

-- from this sector on stand these bytes and the zeros after them
abbrev pub IsWrittenAt : ℕ → List ℕ → Image → Type 0
IsWrittenAt at bytes image = (i : ℕ) → i < sectors_for (length bytes)
    → sector_at image (at + i) ≡ padded_piece i bytes
