-- What has been seen of a heap while it is opened.
use Rattle.std.specs.Prelude.{◌≡◌, ◌⊎◌, ◌↔◌, ℕ, ◌+◌, ◌*◌, ◌<◌, ◌≤◌, Bool, IsTrue}
use Rattle.std.specs.Prelude.{List, [], ◌∷◌, ◌++◌, length, take, All, Any, Contains}
use Rattle.std.specs.Prelude.{nat_eq, count_by, slice_get, slice_index_or, Option, Some, MatchBool, IfSome, IsSomeAnd}
use Rattle.std.specs.List.{IsDistinct}
use Rattle.ipc_disk.specs.declared.range.Range.{Range}
use Rattle.ipc_disk.specs.Range.{IsInside}
use Rattle.ipc_disk.specs.Standing.{sectors_for}
use Rattle.ipc_heap.specs.declared.root.Root.{Root}
use Rattle.ipc_heap.specs.declared.uses.Use.{Use}
use Rattle.ipc_heap.specs.Damage.{AreFirstObjects, number_in, sector_of_word, size_in}
use Rattle.ipc_heap.specs.Heap.{Placed, object_sectors}
use Rattle.ipc_heap.specs.View.{is_free}

-- numbers that a root can have
pub record IsSound (range : Range) (root : Root) : Type 0 where
  pub positive : 0 < root.epoch
  pub some : 4 ≤ root.len
  pub most : root.len ≤ 508 * range.count
  pub first : IsInside range root.first

-- The sectors of these objects and of this table are noted as used, those of the objects also as what will be saved
-- next. Each is one of the range, and none is there twice.
pub record AreNoted (range : Range) (objects table : List ℕ) (uses : List Use) : Type 0 where
  pub all : length uses ≡ range.count
  pub saved : (i : ℕ) (u : Use) → slice_get uses i ≡ Some u
      → IsTrue u.saved ↔ Contains (objects ++ table) (range.first + i)
  pub next : (i : ℕ) (u : Use) → slice_get uses i ≡ Some u → IsTrue u.next ↔ Contains objects (range.first + i)
  pub inside : All (IsInside range) (objects ++ table)
  pub once : IsDistinct nat_eq (objects ++ table)
  pub free : count_by is_free uses + length (objects ++ table) ≡ range.count

-- these words begin with an object of so many sectors, whose number is above the last one
pub record HasObject (last : Option ℕ) (words : List ℕ) (sectors : ℕ) : Type 0 where
  pub count : sectors ≡ sectors_for (size_in words)
  pub whole : 4 + sectors ≤ length words
  pub above : IfSome last (λ n. n < number_in words)

-- they begin with none
abbrev pub LacksObject : Option ℕ → List ℕ → Type 0
LacksObject last words =
    (length words < 4) ⊎ (length words < 4 + sectors_for (size_in words)) ⊎ IsSomeAnd last (λ n. number_in words ≤ n)

-- Among the sectors of an object one stopped the walk: it is used already, or it is none of the range. That is seen in
-- the sector of the table in which the object begins, or in the one that holds the number.
pub record StopsAt (range : Range) (used table found : List ℕ) (words at sector : ℕ) : Type 0 where
  pub before : List ℕ
  pub next : ℕ
  pub few : length before < length found
  pub are : take (length before + 1) found ≡ before ++ next ∷ []
  pub inside : All (IsInside range) before
  pub once : IsDistinct nat_eq ((used ++ before) ++ table)
  pub stops : (IsInside range next × Contains ((used ++ before) ++ table) next
      × (sector ≡ sector_of_word words table at))
      ⊎ ((IsInside range next → ⊥) × (sector ≡ sector_of_word words table (at + 4 + length before)))

-- All objects of the table were gone through and noted. It is a map if no words are left over and none is empty.
pub record AreAllNoted (range : Range) (table words : List ℕ) (uses : List Use) (whole : Bool) : Type 0 where
  pub placed : List Placed
  pub rest : List ℕ
  pub are : AreFirstObjects range table words placed rest
  pub all : length placed ≡ slice_index_or words 0 0
  pub noted : AreNoted range (object_sectors placed) table uses
  pub is_map : MatchBool whole ((rest ≡ []) × All (λ p. 0 < p.len) placed)
      ((0 < length rest) ⊎ Any (λ p. p.len ≡ 0) placed)
