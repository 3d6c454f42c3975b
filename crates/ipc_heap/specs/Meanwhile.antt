-- What is there for one who reads a disk while its heap is changed. Until a flip writes the root, none but free sectors
-- are written: in each image whose root is not of a later epoch, what is saved stands where it stood.
use Rattle.std.specs.Prelude.{◌⊎◌, ℕ, ◌<◌, Contains}
use Rattle.ipc_base.specs.Objects.{PlainObjects}
use Rattle.ipc_disk.specs.Medium.{Image, Medium}
use Rattle.ipc_disk.specs.declared.range.Range.{Range}
use Rattle.ipc_disk.specs.Range.{IsOutside}
use Rattle.ipc_disk.specs.Since.{EachImageSince, SameAt}
use Rattle.ipc_disk.specs.Standing.{sector_at}
use Rattle.ipc_heap.specs.Heap.{Allocation, HoldsIn, epoch_in, used}

-- a part of the image's objects, or of their table, stands in this sector
pub record IsUsedIn (range : Range) (root : ℕ) (image : Image) (sector : ℕ) : Type 0 where
  pub epoch : ℕ
  pub has : Allocation
  pub objects : PlainObjects
  pub there : HoldsIn range root epoch has objects image
  pub is : Contains (used has) sector

-- the later image has what the earlier one has in all sectors but those of the range that nothing uses there
abbrev pub KeepsUsed : Range → ℕ → Image → Image → Type 0
KeepsUsed range root earlier later = SameAt (λ i. IsOutside range i ⊎ IsUsedIn range root earlier i) earlier later

-- so it does, or the heap was turned over since: the root is of a later epoch
abbrev pub KeepsUsedOrTurns : Range → ℕ → Image → Image → Type 0
KeepsUsedOrTurns range root earlier later =
    KeepsUsed range root earlier later ⊎ (epoch_in (sector_at earlier root) < epoch_in (sector_at later root))

-- each image that a crash since `old` may have left stands so to one that a crash could leave at `old`
abbrev pub EachLater : (Image → Image → Type 0) → Medium → Medium → Type 0
EachLater IsLater old new =
    EachImageSince old new (λ image. (earlier : Image) × old.images_now earlier × IsLater earlier image)
