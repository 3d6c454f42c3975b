-- How a heap is damaged, and in which sector that is seen first. The root is looked at first, then the chain of the
-- table's sectors, then the objects in their order, and at last whether all of it is a map.
use Rattle.std.specs.Prelude.{◌≡◌, ◌≢◌, ◌⊎◌, ℕ, ◌+◌, ◌-◌, ◌*◌, ◌/◌, ◌^◌, ◌<◌}
use Rattle.std.specs.Prelude.{◌≤◌, List, [], ◌∷◌, ◌++◌, length, map, take, drop}
use Rattle.std.specs.Prelude.{min, All, Contains, nat_eq, slice_index_or, flat_map, Any}
use Rattle.std.specs.List.{IsDistinct}
use Rattle.ipc_base.specs.Table.{IsRising}
use Rattle.ipc_disk.specs.Medium.{Image}
use Rattle.ipc_disk.specs.declared.range.Range.{Range}
use Rattle.ipc_disk.specs.Range.{IsInside}
use Rattle.ipc_disk.specs.Standing.{sector_at, sectors_for}
use Rattle.ipc_heap.specs.Heap.{Placed, epoch_in, first_in, len_in, next_in, object_sectors, object_words, words_at}

-- a sector that can be a root: its epoch is not 0, and its table has a count, is no longer than the range, and begins
-- in it
pub record IsRoot (range : Range) (sector : List ℕ) : Type 0 where
  pub positive : 0 < epoch_in sector
  pub some : 4 ≤ len_in sector
  pub most : len_in sector ≤ 508 * range.count
  pub first : IsInside range (first_in sector)

-- the first sectors of a table's chain, the last one of them, and how many the whole has
pub record AreFirst (range : Range) (image : Image) (first : ℕ) (table : List ℕ) : Type 0 where
  pub some : 0 < length table
  pub begin : slice_index_or table 0 0 ≡ first
  pub linked : (k : ℕ) → k + 1 < length table
      → next_in (sector_at image (slice_index_or table k 0)) ≡ slice_index_or table (k + 1) 0
  pub inside : All (IsInside range) table
  pub once : IsDistinct nat_eq table

abbrev pub last_of : List ℕ → ℕ
last_of table = slice_index_or table (length table - 1) 0

abbrev pub chain_for : ℕ → ℕ
chain_for bytes = (bytes + 507) / 508

-- All sectors of the table: a chain as long as the root says, of which the last one names none.
pub record IsTable (range : Range) (root : ℕ) (image : Image) (table : List ℕ) : Type 0 where
  pub is_root : IsRoot range (sector_at image root)
  pub first : AreFirst range image (first_in (sector_at image root)) table
  pub all : length table ≡ chain_for (len_in (sector_at image root))
  pub last : next_in (sector_at image (last_of table)) ≡ 0

-- its words: as many as the root says
abbrev pub words_of_table : ℕ → Image → List ℕ → List ℕ
words_of_table root image table =
    take (len_in (sector_at image root) / 4) (flat_map (words_at image) table)

-- in which of its sectors a word stands; past the end, the last one
abbrev pub sector_of_word : ℕ → List ℕ → ℕ → ℕ
sector_of_word words table at = slice_index_or table (min at (words - 1) / 127) 0

-- The first objects of a table are these, in its words from the second one on, and what comes after them. There is
-- nothing wrong with them but that they may be empty.
pub record AreFirstObjects (range : Range) (table words : List ℕ) (placed : List Placed) (rest : List ℕ) : Type 0 where
  pub words_are : drop 1 words ≡ flat_map object_words placed ++ rest
  pub numbers : IsRising 0 (map (λ p. p.number) placed) (2 ^ 64)
  pub sizes : All (λ p. (p.len < 2 ^ 64) × (length p.sectors ≡ sectors_for p.len)) placed
  pub inside : All (IsInside range) (object_sectors placed)
  pub once : IsDistinct nat_eq (object_sectors placed ++ table)

-- the numbers in the words of an object, as far as there are so many
abbrev pub number_in : List ℕ → ℕ
number_in words = slice_index_or words 0 0 * 2 ^ 32 + slice_index_or words 1 0

abbrev pub size_in : List ℕ → ℕ
size_in words = slice_index_or words 2 0 * 2 ^ 32 + slice_index_or words 3 0

-- what comes after these objects is no object: it has too few words, or its number is not above those before it
abbrev pub IsBroken : List Placed → List ℕ → Type 0
IsBroken placed rest =
    (length rest < 4) ⊎ (length rest < 4 + sectors_for (size_in rest))
    ⊎ Any (λ p. number_in rest ≤ p.number) placed

-- the object that comes after these has the first of its sectors, so many, in order, and the next one is this
pub record HasSectors (range : Range) (table : List ℕ) (placed : List Placed) (rest before : List ℕ) (next : ℕ)
    : Type 0 where
  pub whole : 4 + sectors_for (size_in rest) ≤ length rest
  pub few : length before < sectors_for (size_in rest)
  pub are : take (length before + 1) (drop 4 rest) ≡ before ++ next ∷ []
  pub inside : All (IsInside range) before
  pub once : IsDistinct nat_eq ((object_sectors placed ++ before) ++ table)

-- The first sector in which a heap is seen to be damaged.
pub data IsFirstDamage (range : Range) (root : ℕ) (image : Image) : ℕ → Type 0 where
  -- the root is none
  Root : (IsRoot range (sector_at image root) → ⊥) → IsFirstDamage range root image root
  -- a sector of the table names one outside the range, or one that came before
  Next : (table : List ℕ) → IsRoot range (sector_at image root)
      → AreFirst range image (first_in (sector_at image root)) table
      → length table < chain_for (len_in (sector_at image root))
      → ((IsInside range (next_in (sector_at image (last_of table))) → ⊥)
      ⊎ Contains table (next_in (sector_at image (last_of table))))
      → IsFirstDamage range root image (last_of table)
  -- the last one names another
  Last : (table : List ℕ) → IsRoot range (sector_at image root)
      → AreFirst range image (first_in (sector_at image root)) table
      → length table ≡ chain_for (len_in (sector_at image root))
      → next_in (sector_at image (last_of table)) ≢ 0 → IsFirstDamage range root image (last_of table)
  -- an object has too few words, or a number that does not rise: the sector in which it begins
  Object : (table rest : List ℕ) (placed : List Placed) → IsTable range root image table
      → AreFirstObjects range table (words_of_table root image table) placed rest
      → length placed < slice_index_or (words_of_table root image table) 0 0 → IsBroken placed rest
      → IsFirstDamage range root image (sector_of_word (length (words_of_table root image table)) table
      (length (words_of_table root image table) - length rest))
  -- an object has a sector that is used already: the sector in which the object begins
  Twice : (table rest before : List ℕ) (next : ℕ) (placed : List Placed) → IsTable range root image table
      → AreFirstObjects range table (words_of_table root image table) placed rest
      → length placed < slice_index_or (words_of_table root image table) 0 0
      → (IsBroken placed rest → ⊥) → HasSectors range table placed rest before next → IsInside range next
      → Contains ((object_sectors placed ++ before) ++ table) next
      → IsFirstDamage range root image (sector_of_word (length (words_of_table root image table)) table
      (length (words_of_table root image table) - length rest))
  -- an object has a sector outside the range: the sector that holds its number
  Outside : (table rest before : List ℕ) (next : ℕ) (placed : List Placed) → IsTable range root image table
      → AreFirstObjects range table (words_of_table root image table) placed rest
      → length placed < slice_index_or (words_of_table root image table) 0 0
      → (IsBroken placed rest → ⊥) → HasSectors range table placed rest before next → (IsInside range next → ⊥)
      → IsFirstDamage range root image (sector_of_word (length (words_of_table root image table)) table
      (length (words_of_table root image table) - length rest + 4 + length before))
  -- bytes are left over, or an object is empty
  Rest : (table rest : List ℕ) (placed : List Placed) → IsTable range root image table
      → AreFirstObjects range table (words_of_table root image table) placed rest
      → length placed ≡ slice_index_or (words_of_table root image table) 0 0
      → (4 * length (words_of_table root image table) ≢ len_in (sector_at image root)) ⊎ (0 < length rest)
      ⊎ Any (λ p. p.len ≡ 0) placed
      → IsFirstDamage range root image root
