-- What is seen of a heap: where it lies, its epoch, where its objects stand, and which sectors are free.
use Rattle.std.specs.Prelude.{◌≡◌, ℕ, ◌^◌, ◌<◌, Bool, not, ◌||◌, List, ◌++◌, length, map, nat_eq, count_by, All}
use Rattle.std.specs.List.{IsDistinct}
use Rattle.ipc_base.specs.Objects.{PlainObjects}
use Rattle.ipc_base.specs.Table.{IsRising, with_entry, without}
use Rattle.ipc_disk.specs.Medium.{Medium}
use Rattle.ipc_disk.specs.declared.range.Range.{Range}
use Rattle.ipc_disk.specs.Range.{IsInside}
use Rattle.ipc_disk.specs.Standing.{sectors_for}
use Rattle.ipc_heap.specs.declared.uses.Use.{Use}
use Rattle.ipc_heap.specs.Heap.{Placed, object_on, object_sectors}

pub record HeapView : Type 0 where
  pub range : Range
  -- the root that tells of what is saved
  pub root : ℕ
  -- the root that the next flip writes: the same, or the one that `set_next_root` has named
  pub next_root : ℕ
  pub epoch : ℕ
  -- the objects, by rising number, with the puts and removals so far
  pub placed : List Placed
  -- the sectors of the table that is on the disk
  pub table : List ℕ
  -- of each sector of the range, in order, who uses it
  pub uses : List Use

-- neither what stands on the disk nor what will be there uses it
abbrev pub is_free : Use → Bool
is_free u = not (u.saved || u.next)

-- how many sectors are free
abbrev pub free : HeapView → ℕ
free heap = count_by is_free heap.uses

-- the map: what the heap will be, with the puts and removals so far
abbrev pub map_of : HeapView → Medium → PlainObjects
map_of heap medium = map (object_on medium.contents) heap.placed

-- a map with this object, in the place of the one of its number
abbrev pub with_object : {X : Type 0} → List (ℕ × X) → ℕ → X → List (ℕ × X)
with_object objects number bytes = with_entry (without nat_eq objects number) number bytes

-- the numbers of the map's objects, and how many bytes each of them has
abbrev pub sizes_of : HeapView → List (ℕ × ℕ)
sizes_of heap = map (λ p. (p.number, p.len)) heap.placed

-- The numbers of objects rise, none of them is empty, and each has the sectors that its bytes take. These are of the
-- range, and none is there twice.
pub record ArePlaced (range : Range) (placed : List Placed) : Type 0 where
  pub numbers : IsRising 0 (map (λ p. p.number) placed) (2 ^ 64)
  pub sizes : All (λ p. (0 < p.len) × (p.len < 2 ^ 64) × (length p.sectors ≡ sectors_for p.len)) placed
  pub inside : All (IsInside range) (object_sectors placed)
  pub once : IsDistinct nat_eq (object_sectors placed)

-- the sectors that a heap uses once nothing but the map is saved
abbrev pub used_by : HeapView → List ℕ
used_by heap = object_sectors heap.placed ++ heap.table

-- where it lies and is saved next, its epoch and the table that is on the disk are the same
pub record StaysInPlace (old new : HeapView) : Type 0 where
  pub range : new.range ≡ old.range
  pub root : new.root ≡ old.root
  pub next_root : new.next_root ≡ old.next_root
  pub epoch : new.epoch ≡ old.epoch
  pub table : new.table ≡ old.table

-- what was to be saved next is saved
abbrev pub turned : Use → Use
turned u = record u { saved = u.next }
