-- Why a device is refused: what an error says of its image. That the disk has failed, or that memory was refused, says
-- nothing of the image.
use Rattle.std.specs.Prelude.{◌≡◌, ◌⊎◌, ◌<◌, ◌≤◌, ℕ, Some, position, not as is_not}
use Rattle.ipc_limits.specs.Limits.{tests}
use Rattle.ipc_limits.specs.declared.limits.Limits.{Limits}
use Rattle.ipc_disk.specs.Medium.{Image}
use Rattle.ipc_image.specs.Format.{format, format_one}
use Rattle.ipc_image.specs.Greater.{AreAtLeast, at_least}
use Rattle.ipc_image.specs.Sizes.{first_fault, need_in, need_of}
use Rattle.ipc_image.specs.Superblock.{AreOf}
use Rattle.ipc_image.specs.declared.format.Format.{Format}
use Rattle.ipc_state.specs.State.{State, restart}
use Rattle.ipc_store.specs.Image.{IsDeviceIn, IsDamagedIn, IsFirstFaultIn, IsNotFormatted, HasVersionBut, StandsForIn}
use Rattle.ipc_store.specs.Larger.{exceeded_field, larger, HasNoTwoEpochs}
use Rattle.ipc_store.specs.Upgrade.{HasNoNextEpoch}
use Rattle.ipc_store.specs.declared.fault.OpenError.{OpenError}
use Rattle.ipc_store.specs.declared.fault.OpenError.TheVariants as errors
use Rattle.ipc_store.specs.declared.fault.UpgradeError.{UpgradeError}
use Rattle.ipc_store.specs.declared.fault.UpgradeError.TheVariants as upgrades

-- what an error says of an image that is read as one of this form
abbrev pub IsRefusal : Format → Image → OpenError → Type 0
IsRefusal form image errors.Device = Unit {0}
IsRefusal form image errors.NotFormatted = IsNotFormatted image
IsRefusal form image (errors.Version found) = HasVersionBut form found image
IsRefusal form image (errors.Damaged sector) = IsDamagedIn form image × IsFirstFaultIn form image sector
IsRefusal form image errors.NoMemory = Unit {0}

-- sector 0 is no superblock of a device of this form, and this is its number
pub record IsNoSuperblock (form : Format) (image : Image) (sector : ℕ) : Type 0 where
  pub damaged : IsDamagedIn form image
  pub none : (limits : Limits) → ¬ IsDeviceIn form limits image
  pub first : sector ≡ 0

-- the device is one of the old version under limits that are no greater than these, and a disk of so many sectors has
-- room for these
pub record MayBecome (limits : Limits) (size : ℕ) (image : Image) : Type 0 where
  pub own : Limits
  pub device : IsDeviceIn format_one own image
  pub greater : AreAtLeast limits own
  pub room : need_of limits ≤ size

-- a device of the old version is damaged first at this sector, or has no next epoch, which its root shows
abbrev pub IsOldDamage : Image → ℕ → Type 0
IsOldDamage image sector =
    (IsDamagedIn format_one image × IsFirstFaultIn format_one image sector)
    ⊎ (HasNoNextEpoch image × (sector ≡ format_one.root))

-- What an error says of an upgrade under these limits, on a disk of so many sectors. The tests come in this order: the
-- limits by themselves, how the disk begins, its version, its superblock, the limits beside the device's own, the room,
-- and all else that stands there.
abbrev pub IsUpgradeRefusal : Limits → ℕ → Image → UpgradeError → Type 0
IsUpgradeRefusal limits size image (upgrades.BadLimits bad) =
    (position is_not (tests format.most limits) ≡ Some bad.field)
    ⊎ (AreOf format limits × (own : Limits) × IsDeviceIn format_one own image
    × (position is_not (at_least limits own) ≡ Some bad.field))
IsUpgradeRefusal limits size image upgrades.NotFormatted = AreOf format limits × IsNotFormatted image
IsUpgradeRefusal limits size image (upgrades.Version found) = AreOf format limits × HasVersionBut format_one found image
IsUpgradeRefusal limits size image (upgrades.TooSmall need) =
    AreOf format limits × (need ≡ need_of limits) × (size < need) × (own : Limits) × IsDeviceIn format_one own image
    × AreAtLeast limits own
IsUpgradeRefusal limits size image (upgrades.Damaged sector) =
    AreOf format limits
    × (IsNoSuperblock format_one image sector ⊎ (MayBecome limits size image × IsOldDamage image sector))
IsUpgradeRefusal limits size image upgrades.Device = Unit {0}
IsUpgradeRefusal limits size image upgrades.NoMemory = Unit {0}

-- the device is one of version 2 under limits that are no greater than these, and a disk of so many sectors has room
-- for these in version 3
pub record MayEnlarge (limits : Limits) (size : ℕ) (image : Image) : Type 0 where
  pub own : Limits
  pub device : IsDeviceIn format own image
  pub greater : AreAtLeast limits own
  pub room : need_in larger limits ≤ size

-- it is damaged first at this sector, or has not two epochs more, which its root shows
abbrev pub IsSmallDamage : Image → ℕ → Type 0
IsSmallDamage image sector =
    (IsDamagedIn format image × IsFirstFaultIn format image sector)
    ⊎ (HasNoTwoEpochs image × (sector ≡ format.root))

-- The same of an upgrade to version 3. Last comes what the state exceeds.
abbrev pub IsLargerRefusal : Limits → ℕ → Image → UpgradeError → Type 0
IsLargerRefusal limits size image (upgrades.BadLimits bad) =
    (first_fault larger limits ≡ Some bad.field)
    ⊎ (AreOf larger limits × (own : Limits) × IsDeviceIn format own image
    × ((position is_not (at_least limits own) ≡ Some bad.field)
    ⊎ (MayEnlarge limits size image × (s : State) × StandsForIn format own s image
    × (exceeded_field limits (restart own s) ≡ Some bad.field))))
IsLargerRefusal limits size image upgrades.NotFormatted = AreOf larger limits × IsNotFormatted image
IsLargerRefusal limits size image (upgrades.Version found) = AreOf larger limits × HasVersionBut format found image
IsLargerRefusal limits size image (upgrades.TooSmall need) =
    AreOf larger limits × (need ≡ need_in larger limits) × (size < need) × (own : Limits) × IsDeviceIn format own image
    × AreAtLeast limits own
IsLargerRefusal limits size image (upgrades.Damaged sector) =
    AreOf larger limits
    × (IsNoSuperblock format image sector ⊎ (MayEnlarge limits size image × IsSmallDamage image sector))
IsLargerRefusal limits size image upgrades.Device = Unit {0}
IsLargerRefusal limits size image upgrades.NoMemory = Unit {0}
