-- Numbered objects, each some bytes: what a checkpoint saves and gives back. They are a finite map from numbers to
-- bytes, as a list by rising number.
use Rattle.std.specs.Prelude.{◌≡◌, ℕ, ◌+◌, ◌-◌, ◌*◌, ◌/◌, ◌<◌, ◌≤◌, ◌^◌, Bool, false, List, ◌++◌, length, take}
use Rattle.std.specs.Prelude.{drop, replicate, slice_get, Some, sum_by, All}
use Rattle.ipc_base.specs.Table.{keys_of, IsRising}

abbrev pub PlainObjects : Type 0
PlainObjects = List (ℕ × List ℕ)

-- a number has eight bytes, and so has a length; no object is empty; how many there are has four bytes
pub record AreObjects (objects : PlainObjects) : Type 0 where
  pub numbers : IsRising 0 (keys_of objects) (2 ^ 64)
  pub some : All (λ o. 0 < length o.1) objects
  pub lengths : All (λ o. length o.1 < 2 ^ 64) objects
  pub count : length objects < 2 ^ 32

-- 512 bytes from a place on, with zeros past the end
abbrev pub window : ℕ → List ℕ → List ℕ
window place bytes =
    take 512 (drop place bytes) ++ replicate (512 - length (take 512 (drop place bytes))) 0

-- ---- how many sectors of 512 bytes they take

-- the sectors of the objects, if each begins a sector of its own
abbrev pub object_sectors : PlainObjects → ℕ
object_sectors objects = sum_by (λ o. (length o.1 + 511) / 512) objects

-- the bytes of a table of them: a count, 16 for each object, and 4 for each of its sectors
abbrev pub table_bytes : PlainObjects → ℕ
table_bytes objects = 4 + 16 * length objects + 4 * object_sectors objects

-- they and their table fit into so many sectors; a sector of the table has 508 bytes of it
abbrev pub Fit : ℕ → PlainObjects → Type 0
Fit area objects = object_sectors objects + (table_bytes objects + 507) / 508 ≤ area

-- ---- what was saved

-- each object that does not differ is among the saved ones, with these bytes
abbrev pub OthersAreThere : (ℕ → Bool) → PlainObjects → PlainObjects → Type 0
OthersAreThere differs objects saved =
    (i : ℕ) (o : ℕ × List ℕ) → slice_get objects i ≡ Some o → differs i ≡ false
    → (j : ℕ) × (slice_get saved j ≡ Some o)
