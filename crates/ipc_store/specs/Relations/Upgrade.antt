-- What an upgrade has read, and how it goes on.
use Rattle.std.specs.Prelude.{◌≡◌, ◌<◌, ℕ, List, Some, position, not as is_not}
use Rattle.ipc_limits.specs.declared.limits.Limits.{Limits}
use Rattle.ipc_base.specs.Objects.{PlainObjects}
use Rattle.ipc_checkpoint.specs.declared.layout.Layout.{Layout}
use Rattle.ipc_checkpoint.specs.Matches.{CheckpointMatches}
use Rattle.ipc_checkpoint.specs.View.{CheckpointView, epoch_of}
use Rattle.ipc_disk.specs.Medium.{Image, Medium, IsDurable}
use Rattle.ipc_state.specs.State.{State, restart}
use Rattle.ipc_engine.specs.Changes.{IsTracked}
use Rattle.ipc_engine.specs.Engine.{Machine}
use Rattle.ipc_engine.specs.Event.{PlainEvent}
use Rattle.ipc_image.specs.Format.{format, format_one}
use Rattle.ipc_image.specs.Greater.{AreAtLeast, at_least}
use Rattle.ipc_image.specs.Saved.{StandForStateIn}
use Rattle.ipc_image.specs.declared.format.Format.{Format}
use Rattle.ipc_image.specs.declared.superblock.Superblock.{Superblock}
use Rattle.ipc_store.specs.declared.fault.UpgradeError.{UpgradeError}
use Rattle.ipc_store.specs.declared.fault.UpgradeError.TheVariants as errors
use Rattle.ipc_store.specs.Image.{layout_in, HasBatches, HasObjectsIn, IsDeviceIn, LeadToBy}
use Rattle.ipc_store.specs.Relations.Loading.{IsNamedIn}

-- where the objects of the version before are read once more, and where those of today are written: on all of the disk,
-- with the old root
abbrev pub whole_layout : Limits → ℕ → Layout
whole_layout limits sectors = record (layout_in format limits sectors) { root = format_one.root }

-- the superblock is that of the image, which is a device of the old version
abbrev pub IsNamed : Superblock → Image → Type 0
IsNamed = IsNamedIn format_one

-- what an error says of the limits beside the device's own, and of the sectors that they need, of which the disk has
-- so many
abbrev pub IsRoomRefusal : Limits → Limits → ℕ → ℕ → UpgradeError → Type 0
IsRoomRefusal limits own least sectors (errors.BadLimits bad) = position is_not (at_least limits own) ≡ Some bad.field
IsRoomRefusal limits own least sectors (errors.TooSmall need) =
    (need ≡ least) × (sectors < need) × AreAtLeast limits own
IsRoomRefusal limits own least sectors error = ⊥

-- An image stands for this state in an old version, piece by piece: it is a device, and has these objects and batches.
pub record HasOldIn (form : Format) (own : Limits) (epoch : ℕ) (objects : PlainObjects)
    (batches : List (List PlainEvent)) (image : Image) : Type 0 where
  pub device : IsDeviceIn form own image
  pub there : HasObjectsIn form own epoch objects image
  pub journal : HasBatches form epoch batches image

abbrev pub HasOld : Limits → ℕ → PlainObjects → List (List PlainEvent) → Image → Type 0
HasOld = HasOldIn format_one

-- A crash now leaves what is read, which stands for a state in the old version. The machine is in the state after a
-- restart, and knows what is otherwise there than in the objects that are saved.
pub record IsReadOld (medium : Medium) (checkpoint : CheckpointView) (machine : Machine) : Type 0 where
  pub durable : IsDurable medium
  pub state : State
  pub base : State
  pub objects : PlainObjects
  pub batches : List (List PlainEvent)
  pub old : HasOld machine.limits (epoch_of checkpoint) objects batches medium.contents
  pub stand : StandForStateIn format_one machine.limits base objects
  pub leads : LeadToBy format_one.batch machine.limits base batches state
  pub saved : CheckpointMatches checkpoint objects medium
  pub restarted : machine.state ≡ restart machine.limits state
  pub tracked : IsTracked machine.changed base machine.state
