-- An object among those of a table.
use Rattle.std.specs.Prelude.{◌≡◌, ℕ, List, length, map, All, Contains, nat_eq, Option, Some}
use Rattle.ipc_base.specs.Table.{value_at}
use Rattle.ipc_disk.specs.Standing.{sectors_for}
use Rattle.ipc_heap.specs.Heap.{Placed, object_sectors, object_words}

-- what is seen of the object of a number, if it is there
abbrev pub seen_at : {X : Type 0} → (Placed → X) → List Placed → ℕ → Option X
seen_at see placed number = value_at nat_eq (map (λ p. (p.number, see p)) placed) number

-- these are the words of the object of a number
pub record IsFound (placed : List Placed) (number : ℕ) (words : List ℕ) : Type 0 where
  pub object : Placed
  pub are : words ≡ object_words object
  pub seen : (see : Placed → List ℕ) → seen_at see placed number ≡ Some (see object)
  pub sized : length object.sectors ≡ sectors_for object.len
  pub among : All (Contains (object_sectors placed)) object.sectors
