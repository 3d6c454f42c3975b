-- What images have while a heap is turned over.
use Rattle.std.specs.Prelude.{◌≢◌, ◌⊎◌, ℕ, ◌*◌, List, length, Contains, slice_index_or}
use Rattle.ipc_disk.specs.Medium.{Image, Medium}
use Rattle.ipc_disk.specs.Since.{SameAt}
use Rattle.ipc_disk.specs.Standing.{sector_at}
use Rattle.ipc_heap.specs.Relations.Root.{IsRead}
use Rattle.ipc_heap.specs.Relations.Table.{IsTableOn}

-- an image from before, but for the sectors of the next table
pub record IsUnturned (table : List ℕ) (old : Medium) (image : Image) : Type 0 where
  pub before : Image
  pub now : old.images_now before
  pub others : SameAt (λ i. ¬ Contains table i) before image

-- the next table stands there, the root tells of it at this epoch, and the other sectors are as they were
pub record IsTurned (words table : List ℕ) (root epoch : ℕ) (old image : Image) : Type 0 where
  pub table_there : IsTableOn words table image
  pub root_there : IsRead (sector_at image root)
      (record { epoch = epoch; first = slice_index_or table 0 0; len = 4 * length words })
  pub others : SameAt (λ i. (¬ Contains table i) × (i ≢ root)) old image

abbrev pub IsEither : List ℕ → List ℕ → ℕ → ℕ → Medium → Image → Type 0
IsEither words table root epoch old image =
    IsUnturned table old image ⊎ IsTurned words table root epoch old.contents image
