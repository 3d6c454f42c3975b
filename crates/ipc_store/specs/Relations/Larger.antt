-- What an upgrade to version 3 has read, and how it goes on.
use Rattle.std.specs.Prelude.{◌≡◌, ◌⊎◌, ◌+◌, ◌≤◌, ◌<◌, ℕ, [], ◌∷◌, Some}
use Rattle.ipc_limits.specs.declared.limits.Limits.{Limits}
use Rattle.ipc_base.specs.Objects.{PlainObjects}
use Rattle.ipc_checkpoint.specs.declared.layout.Layout.{Layout}
use Rattle.ipc_checkpoint.specs.Matches.{CheckpointMatches}
use Rattle.ipc_checkpoint.specs.View.{CheckpointView, epoch_of}
use Rattle.ipc_disk.specs.Medium.{Image, Medium, IsDurable, IsHonest}
use Rattle.ipc_state.specs.State.{State, restart}
use Rattle.ipc_engine.specs.Engine.{Machine}
use Rattle.ipc_engine.specs.Event.{Restart}
use Rattle.ipc_image.specs.Format.{format}
use Rattle.ipc_image.specs.Saved.{StandForStateIn}
use Rattle.ipc_store.specs.Image.{epoch_at_in, layout_in, last_epoch, StandsForIn}
use Rattle.ipc_store.specs.Larger.{exceeded_field, larger, HasNoTwoEpochs}
use Rattle.ipc_store.specs.Relations.Loading.{IsFoundDamaged}
use Rattle.ipc_store.specs.Relations.Matches.{StoreMatches}
use Rattle.ipc_store.specs.Relations.Upgrade.{HasOldIn}
use Rattle.ipc_store.specs.View.{StoreView}
use Rattle.ipc_store.specs.declared.fault.UpgradeError.{UpgradeError}
use Rattle.ipc_store.specs.declared.fault.UpgradeError.TheVariants as errors

-- where the objects of version 2 are read once more, and those of version 3 are written: on all of the disk, with the
-- old root
abbrev pub beside : Limits → ℕ → Layout
beside limits sectors = record (layout_in larger limits sectors) { root = format.root }

-- A crash now leaves what is read, which stands for this state after a restart, in version 2 and without a batch, and
-- has an epoch more.
pub record IsInPlace (own : Limits) (s : State) (medium : Medium) : Type 0 where
  pub honest : IsHonest medium
  pub durable : IsDurable medium
  pub epoch : ℕ
  pub some : 0 < epoch
  pub later : epoch < last_epoch
  pub objects : PlainObjects
  pub old : HasOldIn format own epoch objects [] medium.contents
  pub stand : StandForStateIn format own (restart own s) objects

-- The same, as a checkpoint of all of the disk has it, and a machine that has gone through a restart once more.
pub record IsReadBeside (own limits : Limits) (s : State) (medium : Medium) (checkpoint : CheckpointView)
    (machine : Machine) : Type 0 where
  pub durable : IsDurable medium
  pub some : 0 < epoch_of checkpoint
  pub objects : PlainObjects
  pub old : HasOldIn format own (epoch_of checkpoint) objects [] medium.contents
  pub stand : StandForStateIn format own (restart own s) objects
  pub saved : CheckpointMatches checkpoint objects medium
  pub restarted : machine.state ≡ restart limits s

-- A store is in the state after a restart, which waits for a commit, from a state for which the image stands in
-- version 2.
pub record IsRestarted {D : Type 0} (own : Limits) (image : Image) (medium : Medium) (store : StoreView D)
    : Type 0 where
  pub state : State
  pub stood : StandsForIn format own state image
  pub matches : StoreMatches medium store state (Restart ∷ [])
  pub epoch : epoch_of store.checkpoint ≡ epoch_at_in format image

-- what an error says of a machine's state and the epoch of its objects
abbrev pub IsTestRefusal : Limits → ℕ → State → UpgradeError → Type 0
IsTestRefusal limits epoch s (errors.BadLimits bad) = exceeded_field limits s ≡ Some bad.field
IsTestRefusal limits epoch s (errors.Damaged sector) = (last_epoch ≤ epoch + 1) × (sector ≡ format.root)
IsTestRefusal limits epoch s error = ⊥

-- what an error says of the state, which the image stands for in version 2
abbrev pub IsStateRefusal : Limits → Limits → Image → UpgradeError → Type 0
IsStateRefusal own limits image (errors.BadLimits bad) =
    (s : State) × StandsForIn format own s image × (exceeded_field limits (restart own s) ≡ Some bad.field)
IsStateRefusal own limits image (errors.Damaged sector) =
    IsFoundDamaged format image sector ⊎ (HasNoTwoEpochs image × (sector ≡ format.root))
IsStateRefusal own limits image errors.Device = Unit {0}
IsStateRefusal own limits image errors.NoMemory = Unit {0}
IsStateRefusal own limits image error = ⊥
