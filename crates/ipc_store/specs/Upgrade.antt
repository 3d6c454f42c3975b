-- An upgrade: a device of the version before becomes one of the version of today, where it lies. A crash at any moment
-- leaves the one or the other.
use Rattle.std.specs.Prelude.{◌≡◌, ◌⊎◌, ℕ}
use Rattle.ipc_limits.specs.declared.limits.Limits.{Limits}
use Rattle.ipc_disk.specs.Growth.{HasGrown}
use Rattle.ipc_disk.specs.Medium.{Image, Medium, IsHonest}
use Rattle.ipc_disk.specs.Since.{EachImageSince}
use Rattle.ipc_image.specs.Format.{format_one}
use Rattle.ipc_image.specs.Greater.{AreAtLeast}
use Rattle.ipc_state.specs.State.{State, restart}
use Rattle.ipc_store.specs.Image.{epoch_at_in, last_epoch, NamesAll, StandsFor, StandsForIn}
use Rattle.ipc_store.specs.Lives.{IsLeft}

-- the image stands for the state in the old version, under the limits that its superblock names, or, in the version of
-- today and under those of the upgrade, for what a restart makes of it
abbrev pub StandsForOldOrNew : Limits → Limits → State → Image → Type 0
StandsForOldOrNew own limits s image = StandsForIn format_one own s image ⊎ StandsFor limits (restart limits s) image

-- What a crash within an upgrade may leave: what it could leave before, or what stands for the state that was read.
abbrev pub UpgradesTo : Limits → Medium → Image → Type 0
UpgradesTo limits old image = old.images_now image
    ⊎ ((own : Limits) × (s : State) × StandsForIn format_one own s old.contents × StandsForOldOrNew own limits s image)

-- What an upgrade gives: the disk stood for a state in the old version, under limits that were no greater, and from
-- then on each image that a crash may leave stands for it after a restart, in the version of today, and names all
-- sectors of the disk.
pub record IsUpgraded (limits : Limits) (old new : Medium) : Type 0 where
  pub own : Limits
  pub greater : AreAtLeast limits own
  pub state : State
  pub stood : StandsForIn format_one own state old.contents
  pub honest : IsHonest new
  pub stands : (image : Image) → new.images_now image → StandsFor limits (restart limits state) image
  pub whole : (image : Image) → new.images_now image → NamesAll image

-- it stands for a state in the old version, and its objects are of the last epoch
pub record HasNoNextEpoch (image : Image) : Type 0 where
  pub limits : Limits
  pub state : State
  pub stands : StandsForIn format_one limits state image
  pub epoch : epoch_at_in format_one image ≡ last_epoch

-- ---- what upgrades, one after another, leave

-- each image that a crash now may leave stands for the state, in the old version or in that of today
pub record RestsOldOrNew (own limits : Limits) (s : State) (medium : Medium) : Type 0 where
  pub honest : IsHonest medium
  pub left : (image : Image) → medium.images_now image → StandsForOldOrNew own limits s image

-- Any number of upgrades under these limits, one after another, each of which was refused, or stopped at some moment of
-- it. Between them the disk may have grown, or begun to.
pub data StoppedUpgrades {D : Type 0} (medium : D → Medium) (limits : Limits) (disk : D) : D → Type 0 where
  None : StoppedUpgrades medium limits disk disk
  More : (before after left : D) → StoppedUpgrades medium limits disk before
      → EachImageSince (medium before) (medium after) (UpgradesTo limits (medium before))
      → IsLeft (medium before) (medium after) (medium left) → StoppedUpgrades medium limits disk left
  Larger : (before left : D) (most : ℕ) → StoppedUpgrades medium limits disk before → IsHonest (medium left)
      → ((image : Image) → (medium left).images_now image → HasGrown most (medium before) image)
      → StoppedUpgrades medium limits disk left
