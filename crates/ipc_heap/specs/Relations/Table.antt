-- A table on its way to a disk.
use Rattle.std.specs.Prelude.{◌≡◌, ℕ, ◌+◌, ◌-◌, ◌*◌, ◌<◌, List, ◌∷◌, ◌++◌, ◌^◌, [], length, take, drop, replicate}
use Rattle.std.specs.Prelude.{slice_index_or, flat_map}
use Rattle.std.specs.List.{range_with_len}
use Rattle.ipc_base.specs.Objects.{PlainObjects, AreObjects, object_sectors}
use Rattle.ipc_disk.specs.Medium.{Image}
use Rattle.ipc_disk.specs.Standing.{sectors_for}
use Rattle.ipc_heap.specs.Heap.{IsChained, Placed, table_sectors_for, table_words, words_at, words_in}

-- one of some objects, by its place
abbrev pub object_at : PlainObjects → ℕ → ℕ × List ℕ
object_at objects i = slice_index_or objects i (0, [])

-- the k-th n of some numbers, filled up with zeros
abbrev pub padded_part : ℕ → ℕ → List ℕ → List ℕ
padded_part n k xs = take n (drop (n * k) xs) ++ replicate (n - length (take n (drop (n * k) xs))) 0

-- a sector with the next one of a table and the j-th 127 words of it
abbrev pub IsTableSector : List ℕ → ℕ → ℕ → List ℕ → Type 0
IsTableSector words j next sector = words_in sector ≡ next ∷ padded_part 127 j words

-- a table of these words stands in these sectors
pub record IsTableOn (words sectors : List ℕ) (image : Image) : Type 0 where
  pub chained : IsChained image sectors
  pub words_there : take (length words) (flat_map (words_at image) sectors) ≡ words

-- an object that stands from a sector on, in sectors one after another
abbrev pub placed_at : ℕ → ℕ × List ℕ → Placed
placed_at first o = record { number = o.0; len = length o.1; sectors = range_with_len first (sectors_for (length o.1)) }

-- objects that stand one after another from a sector on
abbrev pub placed_after : ℕ → PlainObjects → List Placed
placed_after first [] = []
placed_after first (o ∷ os) = placed_at first o ∷ placed_after (first + sectors_for (length o.1)) os

-- their table stands after them, and all of them have numbers
pub record IsLaid (first beyond : ℕ) (objects : PlainObjects) : Type 0 where
  pub are : AreObjects objects
  pub last : beyond ≡ first + object_sectors objects
  pub fit : beyond + table_sectors_for (length (table_words (placed_after first objects))) < 2 ^ 32
