-- A heap's value matches a disk: what stands there is the map of the last flip, or of the open, and what the readers
-- give is that map with the puts and removals since.
use Rattle.std.specs.Prelude.{◌≡◌, ◌⊎◌, ◌↔◌, ℕ, ◌+◌, ◌-◌, Bool, false, not}
use Rattle.std.specs.Prelude.{nat_eq, length, map, filter, Contains, IsTrue, Some, slice_get}
use Rattle.ipc_base.specs.Objects.{PlainObjects, AreObjects}
use Rattle.ipc_disk.specs.Medium.{Image, Medium, IsHonest}
use Rattle.ipc_disk.specs.declared.range.Range.{Range}
use Rattle.ipc_disk.specs.Range.{IsInside, IsOutside}
use Rattle.ipc_disk.specs.Since.{EachImageSince}
use Rattle.ipc_heap.specs.declared.uses.Use.{Use}
use Rattle.ipc_heap.specs.Heap.{Allocation, Holds, HoldsIn, object_sectors, used}
use Rattle.ipc_heap.specs.View.{HeapView, StaysInPlace, is_free, map_of}

-- a sector has a part of an object of the map just if it is noted as one that will be saved
abbrev pub AreNext : HeapView → Type 0
AreNext heap =
    (i : ℕ) (u : Use) → slice_get heap.uses i ≡ Some u
    → IsTrue u.next ↔ Contains (object_sectors heap.placed) (heap.range.first + i)

-- The disk is honest. Each image that a crash now may leave has the saved objects, all in the same sectors, and under a
-- root that is none of the range. A sector is used by what is saved if it has a part of these objects or of their
-- table, and by what will be saved next if it has a part of an object of the map.
pub record HeapMatches (heap : HeapView) (saved : PlainObjects) (medium : Medium) : Type 0 where
  pub honest : IsHonest medium
  pub apart : IsOutside heap.range heap.root
  pub there : Allocation
  pub images : (image : Image) → medium.images_now image
      → HoldsIn heap.range heap.root heap.epoch there saved image
  pub table : there.table ≡ heap.table
  pub are : AreObjects (map_of heap medium)
  pub all : length heap.uses ≡ heap.range.count
  pub saved_uses : (i : ℕ) (u : Use) → slice_get heap.uses i ≡ Some u
      → IsTrue u.saved ↔ Contains (used there) (heap.range.first + i)
  pub next_uses : AreNext heap

-- In whatever part of the range all images that a crash might leave had these objects, all images since have them.
abbrev pub StaysSaved : Range → ℕ → ℕ → PlainObjects → Medium → Medium → Type 0
StaysSaved range root epoch objects old new =
    (part : Range) → ((i : ℕ) → IsInside part i → IsInside range i)
    → ((image : Image) → old.images_now image → Holds part root epoch objects image)
    → EachImageSince old new (Holds part root epoch objects)

-- a sector that no put may touch: it is none of the range, or not free
abbrev pub IsKept : HeapView → ℕ → Type 0
IsKept heap i =
    IsOutside heap.range i
    ⊎ ((u : Use) × (slice_get heap.uses (i - heap.range.first) ≡ Some u) × (is_free u ≡ false))

-- Of the objects of the map those of some numbers are left. Nothing is done to the disk, and what is saved uses the
-- sectors that it has used.
pub record Keeps (numbers : ℕ → Bool) (old new : HeapView) : Type 0 where
  pub stays : StaysInPlace old new
  pub placed : new.placed ≡ filter (λ p. numbers p.number) old.placed
  pub saved : map (λ u. u.saved) new.uses ≡ map (λ u. u.saved) old.uses
  pub next : AreNext old → AreNext new

-- an object was taken out of the map, if it was there
abbrev pub Removes : ℕ → HeapView → HeapView → Type 0
Removes object old new = Keeps (λ number. not (nat_eq number object)) old new
