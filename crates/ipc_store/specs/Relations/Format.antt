-- What a disk is on its way to a device.
use Rattle.std.specs.Prelude.{ℕ, [], length}
use Rattle.ipc_limits.specs.declared.limits.Limits.{Limits}
use Rattle.ipc_base.specs.Objects.{PlainObjects}
use Rattle.ipc_checkpoint.specs.Checkpoint.{Holds}
use Rattle.ipc_disk.specs.Medium.{Image, Medium}
use Rattle.ipc_disk.specs.Standing.{sector_at}
use Rattle.ipc_state.specs.State.{State}
use Rattle.ipc_image.specs.Format.{device_form}
use Rattle.ipc_image.specs.Saved.{StandForStateIn}
use Rattle.ipc_image.specs.Superblock.{IsFormatted}
use Rattle.ipc_store.specs.Image.{layout_of, HasBatches}

-- each image that a crash now may leave
abbrev pub EachNow : Medium → (Image → Type 0) → Type 0
EachNow medium P = (image : Image) → medium.images_now image → P image

-- its first sector is no superblock
abbrev pub IsErased : Image → Type 0
IsErased image = ¬ IsFormatted (sector_at image 0)

-- Where a device of all its sectors has them, it has objects that stand for the state, and at their epoch a journal
-- without a batch: all but the superblock.
pub record IsPrepared (limits : Limits) (s : State) (image : Image) : Type 0 where
  pub epoch : ℕ
  pub objects : PlainObjects
  pub there : Holds (layout_of limits (length image)) epoch objects image
  pub stand : StandForStateIn (device_form limits) limits s objects
  pub journal : HasBatches (device_form limits) epoch [] image
