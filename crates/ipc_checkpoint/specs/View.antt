-- What a checkpoint's value shows: where it lies, its epoch, and which of its sectors are free.
use Rattle.std.specs.Prelude.{ℕ, ◌+◌, ◌≤◌}
use Rattle.ipc_heap.specs.View.{HeapView, free}
use Rattle.ipc_heap.specs.declared.error.OpenError.{OpenError}
use Rattle.ipc_heap.specs.declared.error.OpenError.TheVariants as opens
use Rattle.ipc_checkpoint.specs.declared.error.LoadError.{LoadError}
use Rattle.ipc_checkpoint.specs.declared.error.LoadError.TheVariants.{Device, Damaged, NoMemory}
use Rattle.ipc_checkpoint.specs.declared.layout.Layout.{Layout}

pub record CheckpointView : Type 0 where
  -- the most sectors that its objects and their table may take
  pub area : ℕ
  pub heap : HeapView

-- where it lies, with its root in this sector
abbrev pub layout_under : ℕ → CheckpointView → Layout
layout_under root checkpoint =
    record { range = checkpoint.heap.range; root = root; area = checkpoint.area }

-- where the next save will put it: under the root that it has, or under the one that `set_next_root` has named
abbrev pub layout_of : CheckpointView → Layout
layout_of checkpoint = layout_under checkpoint.heap.next_root checkpoint

-- the root that tells of what is saved
abbrev pub saved_root : CheckpointView → ℕ
saved_root checkpoint = checkpoint.heap.root

-- a checkpoint with this root for the next save
abbrev pub with_next_root : ℕ → CheckpointView → CheckpointView
with_next_root root checkpoint = record checkpoint { heap = record checkpoint.heap { next_root = root } }

abbrev pub epoch_of : CheckpointView → ℕ
epoch_of checkpoint = checkpoint.heap.epoch

-- how many sectors are free
abbrev pub free_of : CheckpointView → ℕ
free_of checkpoint = free checkpoint.heap

-- all of its sectors are free but those of an area
abbrev pub HasSpare : CheckpointView → Type 0
HasSpare checkpoint = checkpoint.heap.range.count ≤ free_of checkpoint + checkpoint.area

-- the fault of a load that meets this fault of the heap
abbrev pub of_open_error : OpenError → LoadError
of_open_error opens.Device = Device
of_open_error (opens.Damaged sector) = Damaged sector
of_open_error opens.NoMemory = NoMemory
