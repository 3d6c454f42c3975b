-- A checkpoint's value matches a disk: these objects stand there at its epoch.
use Rattle.std.specs.Prelude.{◌⊎◌, ◌≡◌, ℕ, ◌+◌, ◌/◌, Bool, [], ◌∷◌, All, if◌then◌else◌, length}
use Rattle.ipc_base.specs.Objects.{PlainObjects, object_sectors, table_bytes}
use Rattle.ipc_disk.specs.Medium.{Image, Medium}
use Rattle.ipc_disk.specs.Range.{IsInside}
use Rattle.ipc_disk.specs.Standing.{sectors_for}
use Rattle.ipc_heap.specs.Heap as heap
use Rattle.ipc_heap.specs.Matches.{HeapMatches}
use Rattle.ipc_heap.specs.View.{map_of}
use Rattle.ipc_checkpoint.specs.declared.layout.Layout.{Layout}
use Rattle.ipc_checkpoint.specs.Checkpoint.{Holds}
use Rattle.ipc_checkpoint.specs.View.{CheckpointView, free_of, layout_of, saved_root}

-- how many sectors the table of objects takes, and how many the objects take with it
abbrev pub table_sectors : PlainObjects → ℕ
table_sectors objects = (table_bytes objects + 507) / 508

abbrev pub sectors_of : PlainObjects → ℕ
sectors_of objects = object_sectors objects + table_sectors objects

-- how many those objects take that differ
abbrev pub changed_sectors : (ℕ → Bool) → PlainObjects → ℕ
changed_sectors differs [] = 0
changed_sectors differs (o ∷ objects) =
    (if differs 0 then sectors_for (length o.1) else 0) + changed_sectors (λ i. differs (i + 1)) objects

-- These objects are saved under this root, and are those of the map. All sectors are free that they and their table do
-- not take.
pub record IsSavedUnder (root : ℕ) (checkpoint : CheckpointView) (objects : PlainObjects) (medium : Medium)
    : Type 0 where
  pub matches : HeapMatches checkpoint.heap objects medium
  pub under : saved_root checkpoint ≡ root
  pub map : map_of checkpoint.heap medium ≡ objects
  pub inside : All (IsInside checkpoint.heap.range) (heap.object_sectors checkpoint.heap.placed)
  pub free : free_of checkpoint + sectors_of objects ≡ checkpoint.heap.range.count

-- they are saved where the next ones will be
abbrev pub CheckpointMatches : CheckpointView → PlainObjects → Medium → Type 0
CheckpointMatches checkpoint objects medium = IsSavedUnder (layout_of checkpoint).root checkpoint objects medium

-- an image has the one checkpoint or the other
abbrev pub HoldsEither : Layout → ℕ → PlainObjects → ℕ → PlainObjects → Image → Type 0
HoldsEither layout epoch objects next others image =
    Holds layout epoch objects image ⊎ Holds layout next others image
