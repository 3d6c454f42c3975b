-- What the sectors of an object heap mean: objects by number, a table that says where each of them is, and a root that
-- says where the table is, and at which epoch all of this holds. An object has sectors of its own, one for each 512 of
-- its bytes, which may stand anywhere in the range. The root is one sector: the epoch in 8 bytes, the first sector of
-- the table in 4, and in 4 how many bytes the table has. A sector of the table has the next one in 4 bytes, 0 in the
-- last, and 508 bytes of the table. The table is how many objects there are (4 bytes), and for each object, by rising
-- number, its number (8), its length (8) and its sectors in their order (4 each). So the table is words of four bytes.
-- Numbers have their highest byte first.
use Rattle.std.specs.Prelude.{◌≡◌, ◌≢◌, ◌⊎◌, ℕ, ◌+◌, ◌*◌, ◌/◌, ◌%◌, ◌^◌}
use Rattle.std.specs.Prelude.{◌<◌, List, [], ◌∷◌, ◌++◌, length, map, take, drop}
use Rattle.std.specs.Prelude.{All, nat_eq, slice_index_or, flat_map}
use Rattle.std.specs.List.{IsDistinct}
use Rattle.byteorder.specs.Endian.{big_number}
use Rattle.ipc_base.specs.Objects.{PlainObjects, AreObjects}
use Rattle.ipc_base.specs.Table.{IsRising}
use Rattle.ipc_disk.specs.Medium.{Image}
use Rattle.ipc_disk.specs.declared.range.Range.{Range}
use Rattle.ipc_disk.specs.Range.{IsInside, IsOutside, IsWithin}
use Rattle.ipc_disk.specs.Standing.{sector_at, sectors_for}

-- ---- where a heap lies

-- a disk of so many sectors has its range and its root, which are apart from each other and from sector 0
pub record IsLaidOut (range : Range) (root size : ℕ) : Type 0 where
  pub within : IsWithin range size
  pub root_there : root < size
  pub apart : IsOutside range root
  pub not_first : 0 < range.first

-- its sectors, and those that are not
abbrev pub IsOwn : Range → ℕ → ℕ → Type 0
IsOwn range root i = (i ≡ root) ⊎ IsInside range i

abbrev pub IsElsewhere : Range → ℕ → ℕ → Type 0
IsElsewhere range root i = (i ≢ root) × IsOutside range i

-- ---- which sectors are used

-- an object, and where it stands: its number, how many bytes it has, and its sectors in their order
pub record Placed : Type 0 where
  pub number : ℕ
  pub len : ℕ
  pub sectors : List ℕ

-- the objects by number, and the sectors of the table in their order
pub record Allocation : Type 0 where
  pub placed : List Placed
  pub table : List ℕ

abbrev pub object_sectors : List Placed → List ℕ
object_sectors placed = flat_map (λ p. p.sectors) placed

-- all sectors that are used, but for the root
abbrev pub used : Allocation → List ℕ
used a = object_sectors a.placed ++ a.table

-- ---- the table

-- what an object has in it, and all of it
abbrev pub object_words : Placed → List ℕ
object_words p = p.number / 2 ^ 32 ∷ p.number % 2 ^ 32 ∷ p.len / 2 ^ 32 ∷ p.len % 2 ^ 32 ∷ p.sectors

abbrev pub table_words : List Placed → List ℕ
table_words placed = length placed ∷ flat_map object_words placed

-- how many sectors so many words take, 127 each
abbrev pub table_sectors_for : ℕ → ℕ
table_sectors_for words = (words + 126) / 127

-- Objects have what a table can say of them, each has the sectors that its length takes, and no sector is used twice.
pub record IsAllocation (range : Range) (a : Allocation) : Type 0 where
  pub numbers : IsRising 0 (map (λ p. p.number) a.placed) (2 ^ 64)
  pub sizes : All (λ p. (0 < p.len) × (p.len < 2 ^ 64) × (length p.sectors ≡ sectors_for p.len)) a.placed
  pub table : length a.table ≡ table_sectors_for (length (table_words a.placed))
  pub inside : All (IsInside range) (used a)
  pub once : IsDistinct nat_eq (used a)

-- ---- what stands on an image

-- the words that bytes spell, four bytes each
unfoldable pub words_in : List ℕ → List ℕ
words_in (a ∷ b ∷ c ∷ d ∷ bytes) = big_number 4 (a ∷ b ∷ c ∷ d ∷ []) ∷ words_in bytes
words_in _ = []

-- the numbers of a root
unfoldable pub epoch_in : List ℕ → ℕ
epoch_in sector = big_number 8 sector

unfoldable pub first_in : List ℕ → ℕ
first_in sector = big_number 4 (drop 8 sector)

unfoldable pub len_in : List ℕ → ℕ
len_in sector = big_number 4 (drop 12 sector)

-- the next sector that a sector of the table names, and the words of the table in it
unfoldable pub next_in : List ℕ → ℕ
next_in sector = big_number 4 sector

abbrev pub words_at : Image → ℕ → List ℕ
words_at image i = words_in (drop 4 (sector_at image i))

-- each sector of the table names the one after it
abbrev pub IsChained : Image → List ℕ → Type 0
IsChained image table =
    (k : ℕ) → k < length table → next_in (sector_at image (slice_index_or table k 0)) ≡ slice_index_or table (k + 1) 0

-- an object as it stands there
abbrev pub object_on : Image → Placed → ℕ × List ℕ
object_on image p = (p.number, take p.len (flat_map (sector_at image) p.sectors))

-- The image has these objects, in these sectors, at this epoch.
pub record HoldsIn (range : Range) (root epoch : ℕ) (a : Allocation) (objects : PlainObjects) (image : Image)
    : Type 0 where
  pub are : AreObjects objects
  pub positive : 0 < epoch
  pub allocated : IsAllocation range a
  pub current : epoch_in (sector_at image root) ≡ epoch
  pub first : first_in (sector_at image root) ≡ slice_index_or a.table 0 0
  pub long : len_in (sector_at image root) ≡ 4 * length (table_words a.placed)
  pub chained : IsChained image a.table
  pub table : take (length (table_words a.placed)) (flat_map (words_at image) a.table) ≡ table_words a.placed
  pub stand : objects ≡ map (object_on image) a.placed

-- the image has a heap of these objects at this epoch
pub record Holds (range : Range) (root epoch : ℕ) (objects : PlainObjects) (image : Image) : Type 0 where
  pub allocation : Allocation
  pub there : HoldsIn range root epoch allocation objects image

-- it has the one under this root, or the other under that
abbrev pub HoldsEither : Range → ℕ → ℕ → PlainObjects → ℕ → ℕ → PlainObjects → Image → Type 0
HoldsEither range root epoch objects next_root next others image =
    Holds range root epoch objects image ⊎ Holds range next_root next others image
