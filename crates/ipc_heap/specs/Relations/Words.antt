-- A heap's table as the code keeps it, word by word.
use Rattle.std.specs.Prelude.{◌≡◌, ℕ, suc, ◌+◌, ◌-◌, ◌*◌, ◌^◌, ◌<◌, ◌≤◌, List, [], ◌∷◌, ◌++◌, length, map, take, drop}
use Rattle.std.specs.Prelude.{All, nat_eq}
use Rattle.std.specs.Prelude.{vec_capacity, slice_index_or, slice_get, flat_map, ◌↔◌, IsTrue, Contains, Some}
use Rattle.std.specs.List.{IsDistinct}
use Rattle.std.specs.Global.{Vec}
use Rattle.ipc_base.specs.Table.{IsRising}
use Rattle.ipc_disk.specs.declared.range.Range.{Range}
use Rattle.ipc_disk.specs.Range.{IsInside}
use Rattle.ipc_disk.specs.Standing.{sectors_for}
use Rattle.ipc_heap.specs.declared.uses.Use.{Use}
use Rattle.ipc_heap.specs.declared.words.Place.{Place}
use Rattle.ipc_heap.specs.Relations.Uses.{AreGiven}
use Rattle.ipc_heap.specs.Heap.{Placed, object_sectors, object_words, table_sectors_for, table_words}

-- the number that two words spell, the high one first
abbrev pub wide_at : List ℕ → ℕ → ℕ
wide_at words at = slice_index_or words at 0 * 2 ^ 32 + slice_index_or words (at + 1) 0

-- how many words the object has that begins at a place
abbrev pub object_len_at : List ℕ → ℕ → ℕ
object_len_at words at = 4 + sectors_for (wide_at words (at + 2))

-- so many objects, as their words say
abbrev pub placed_from : ℕ → List ℕ → List Placed
placed_from (suc n) (a ∷ b ∷ c ∷ d ∷ words) =
    let len = c * 2 ^ 32 + d in
    let p : Placed = record { number = a * 2 ^ 32 + b; len = len; sectors = take (sectors_for len) words } in
    p ∷ placed_from n (drop (sectors_for len) words)
placed_from n words = []

abbrev pub placed_in : List ℕ → List Placed
placed_in [] = []
placed_in (count ∷ words) = placed_from count words

-- words that are the table of these objects, each of which can be read
pub record AreWords (words : List ℕ) (placed : List Placed) : Type 0 where
  pub are : words ≡ table_words placed
  pub numbers : IsRising 0 (map (λ p. p.number) placed) (2 ^ 64)
  pub sizes : All (λ p. (0 < p.len) × (p.len < 2 ^ 64) × (length p.sectors ≡ sectors_for p.len)) placed

-- The place of a number among objects: these have lower numbers and come before it, these have higher ones and come
-- after it. Between them is the object of the number, if it is there.
pub record IsPlace (placed : List Placed) (number : ℕ) (place : Place) : Type 0 where
  pub before : List Placed
  pub here : List Placed
  pub after : List Placed
  pub are : placed ≡ before ++ (here ++ after)
  pub lower : All (λ p. p.number < number) before
  pub same : All (λ p. p.number ≡ number) here
  pub one : length here ≤ 1
  pub higher : All (λ p. number < p.number) after
  pub at : place.at ≡ 1 + length (flat_map object_words before)
  pub len : place.len ≡ length (flat_map object_words here)

-- words with others in a place, and another count
abbrev pub replaced : List ℕ → Place → List ℕ → ℕ → List ℕ
replaced words place others count =
    count ∷ (drop 1 (take place.at words) ++ (others ++ drop (place.at + place.len) words))

-- An object, whose words these are, is put among those of a table: its words take the place of those of the object of
-- its number, and the sectors of that one are not those of the map any more.
pub record IsPutIn (table : List ℕ) (number : ℕ) (object : List ℕ) (first : ℕ) (old new : List Use) (words : List ℕ)
    : Type 0 where
  pub place : Place
  pub found : IsPlace (placed_in table) number place
  pub given : AreGiven first old (object_sectors found.here) new
  pub now : words ≡ replaced table place object (slice_index_or table 0 0 + (1 - place.len))

-- What holds of every heap: its words are the table of objects, which can be told apart and read, their sectors and no
-- others are noted as those of the map, and there is room for all words of any objects in the range.
pub record IsHeap (range : Range) (words table : Vec ℕ) (uses : List Use) : Type 0 where
  pub is_table : words.items ≡ table_words (placed_in words.items)
  pub numbers : IsRising 0 (map (λ p. p.number) (placed_in words.items)) (2 ^ 64)
  pub sizes : All (λ p. (0 < p.len) × (p.len < 2 ^ 64) × (length p.sectors ≡ sectors_for p.len)) (placed_in words.items)
  pub inside : All (IsInside range) (object_sectors (placed_in words.items))
  pub once : IsDistinct nat_eq (object_sectors (placed_in words.items))
  pub table_within : All (IsInside range) table.items
  pub all_uses : length uses ≡ range.count
  pub next_uses : (i : ℕ) (u : Use) → slice_get uses i ≡ Some u
      → IsTrue u.next ↔ Contains (object_sectors (placed_in words.items)) (range.first + i)
  pub room : 5 * range.count + 5 ≤ vec_capacity words
  pub table_room : table_sectors_for (5 * range.count + 5) ≤ vec_capacity table
