-- What the sectors of a checkpoint mean: objects and an epoch. They are those of an object heap, of which the objects
-- and their table take at most half of the range, so that the next ones have room beside them.
use Rattle.std.specs.Prelude.{ℕ, ◌*◌, ◌^◌, ◌≤◌, ◌<◌}
use Rattle.ipc_base.specs.Objects.{PlainObjects}
use Rattle.ipc_disk.specs.Medium.{Image}
use Rattle.ipc_disk.specs.Range.{IsOutside, IsWithin}
use Rattle.ipc_heap.specs.Damage as damage
use Rattle.ipc_heap.specs.Heap as heap
use Rattle.ipc_checkpoint.specs.declared.layout.Layout.{Layout}
-- the epoch that a root names
pub use Rattle.ipc_heap.specs.Heap.{epoch_in}

-- Where a checkpoint lies: a disk of so many sectors has its range and its root, which are apart from each other and
-- from sector 0, the range has room for twice the area, and the bytes of an area can be counted in four.
pub record IsLaidOut (layout : Layout) (size : ℕ) : Type 0 where
  pub within : IsWithin layout.range size
  pub root : layout.root < size
  pub apart : IsOutside layout.range layout.root
  pub not_first : 0 < layout.range.first
  pub room : 2 * layout.area ≤ layout.range.count
  pub counted : 512 * layout.area < 2 ^ 32

-- the sectors of a checkpoint, and those that are not
abbrev pub IsOwn : Layout → ℕ → Type 0
IsOwn layout i = heap.IsOwn layout.range layout.root i

abbrev pub IsElsewhere : Layout → ℕ → Type 0
IsElsewhere layout i = heap.IsElsewhere layout.range layout.root i

-- the image has a checkpoint of these objects at this epoch
abbrev pub Holds : Layout → ℕ → PlainObjects → Image → Type 0
Holds layout epoch objects image = heap.Holds layout.range layout.root epoch objects image

-- the image has none, and this is the first sector in which that is seen
abbrev pub IsFirstDamage : Layout → Image → ℕ → Type 0
IsFirstDamage layout image sector = damage.IsFirstDamage layout.range layout.root image sector
