-- What becomes of the uses of sectors.
use Rattle.std.specs.Prelude.{◌≡◌, ◌⊎◌, ◌↔◌, ℕ, ◌+◌, ◌-◌, ◌<◌, ◌≤◌, Bool, true, false, List, Some, length, map}
use Rattle.std.specs.Prelude.{slice_get, slice_set, slice_index_or}
use Rattle.std.specs.Prelude.{All, Contains, count_by, nat_eq}
use Rattle.std.specs.List.{AllWithin, IsDistinct}
use Rattle.ipc_disk.specs.declared.range.Range.{Range}
use Rattle.ipc_disk.specs.Range.{IsOutside}
use Rattle.ipc_heap.specs.declared.uses.Use.{Use}
use Rattle.ipc_heap.specs.View.{is_free}

-- from a place on nothing uses a sector
pub record HasTop (uses : List Use) (top : ℕ) : Type 0 where
  pub within : top ≤ length uses
  pub unused : AllWithin (λ u. is_free u ≡ true) uses top (length uses)

-- a sector that was free is taken for what will be saved next
pub record IsTaken (old : List Use) (i : ℕ) (new : List Use) : Type 0 where
  pub was : Use
  pub there : slice_get old i ≡ Some was
  pub free : is_free was ≡ true
  pub now : new ≡ slice_set old i (record was { next = true })

-- what is noted of each sector
abbrev pub next_bits : List Use → List Bool
next_bits uses = map (λ u. u.next) uses

abbrev pub saved_bits : List Use → List Bool
saved_bits uses = map (λ u. u.saved) uses

-- a sector of a range from a first one on, which was free
abbrev pub WasFree : ℕ → List Use → ℕ → Type 0
WasFree first uses s = (first ≤ s) × (u : Use) × (slice_get uses (s - first) ≡ Some u) × (is_free u ≡ true)

-- these sectors of a range were free, and are taken for what will be saved next
pub record AreTaken (first : ℕ) (old : List Use) (sectors : List ℕ) (new : List Use) : Type 0 where
  pub long : length new ≡ length old
  pub once : IsDistinct nat_eq sectors
  pub were_free : All (WasFree first old) sectors
  pub saved : saved_bits new ≡ saved_bits old
  pub next : (i : ℕ) → i < length old → (slice_index_or (next_bits new) i false ≡ true)
      ↔ ((slice_index_or (next_bits old) i false ≡ true) ⊎ Contains sectors (first + i))
  pub left : count_by is_free new + length sectors ≡ count_by is_free old

-- these sectors of a range are not those of the map any more
pub record AreGiven (first : ℕ) (old : List Use) (sectors : List ℕ) (new : List Use) : Type 0 where
  pub long : length new ≡ length old
  pub saved : saved_bits new ≡ saved_bits old
  pub next : (i : ℕ) → i < length old → (slice_index_or (next_bits new) i false ≡ true)
      ↔ ((slice_index_or (next_bits old) i false ≡ true) × (Contains sectors (first + i) → ⊥))
  pub more : count_by is_free old ≤ count_by is_free new

-- a sector that is none of a range, or not free
abbrev pub IsNotFree : Range → List Use → ℕ → Type 0
IsNotFree range uses i =
    IsOutside range i ⊎ ((u : Use) × (slice_get uses (i - range.first) ≡ Some u) × (is_free u ≡ false))
