-- What is there for one who reads a disk while its checkpoint is saved, as it is of the heap.
use Rattle.std.specs.Prelude.{ℕ}
use Rattle.ipc_disk.specs.Medium.{Image}
use Rattle.ipc_heap.specs.Meanwhile as heap
use Rattle.ipc_checkpoint.specs.declared.layout.Layout.{Layout}
-- how each image that a crash since then may have left stands to one of then
pub use Rattle.ipc_heap.specs.Meanwhile.{EachLater}

-- a part of the image's checkpoint, but for its root, stands in this sector
abbrev pub IsUsedIn : Layout → Image → ℕ → Type 0
IsUsedIn layout image sector = heap.IsUsedIn layout.range layout.root image sector

-- the later image has what the earlier one has in all sectors but those of the range that nothing uses there
abbrev pub KeepsUsed : Layout → Image → Image → Type 0
KeepsUsed layout earlier later = heap.KeepsUsed layout.range layout.root earlier later

-- so it does, or the root is of a later epoch
abbrev pub KeepsUsedOrTurns : Layout → Image → Image → Type 0
KeepsUsedOrTurns layout earlier later = heap.KeepsUsedOrTurns layout.range layout.root earlier later
