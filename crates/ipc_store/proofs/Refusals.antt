-- Errors that are passed on, and what they say there.
use Rattle.std.proofs.Common.{◌≡◌, ◌<◌, inl, inr, ℕ, sym, subst}
use Rattle.std.specs.Prelude.{IfErr, Result}
use Rattle.std.specs.Result.{IsErrAnd}
use Rattle.std.proofs.lemmas.Result.{err_from_is_err_and}
use Rattle.ipc_limits.specs.declared.limits.Limits.{Limits}
use Rattle.ipc_disk.specs.Medium.{Image}
use Rattle.ipc_image.specs.Format.{format, format_one}
use Rattle.ipc_image.specs.Sizes.{need_of}
use Rattle.ipc_image.specs.Superblock.{AreOf}
use Rattle.ipc_image.specs.declared.format.Format.{Format}
use Rattle.ipc_store.specs.Image.{IsDeviceIn, IsFirstFaultIn}
use Rattle.ipc_store.specs.Refusals.{IsOldDamage, IsRefusal, IsUpgradeRefusal, MayBecome}
use Rattle.ipc_store.specs.Relations.Loading.{IsDamage, IsFoundDamaged, IsSuperblockRefusal}
use Rattle.ipc_store.specs.Relations.Upgrade.{IsRoomRefusal}
use Rattle.ipc_store.specs.View.{of_open_error}
use Rattle.ipc_store.specs.declared.fault.OpenError.{OpenError}
use Rattle.ipc_store.specs.declared.fault.OpenError.TheVariants as errors
use Rattle.ipc_store.specs.declared.fault.UpgradeError.{UpgradeError}
use Rattle.ipc_store.specs.declared.fault.UpgradeError.TheVariants as upgrades

-- an error that is passed on, as it came or as another
pub passed : {T E : Type 0} (P : E → Type 0) (went : Result T E) (fault : E) → IsErrAnd went (λ y. y ≡ fault) → P fault → IfErr went P
passed {T} {E} P went fault and is =
    let q = err_from_is_err_and went and in subst (λ (r : Result T E). IfErr r P) (sym q.1) (subst P (sym q.2) is)

-- a damage of another kind
pub damage-map : (P Q : ℕ → Type 0) (error : OpenError) → ((sector : ℕ) → P sector → Q sector) → IsDamage P error → IsDamage Q error
damage-map P Q errors.Device on is = tt
damage-map P Q errors.NotFormatted on is = absurd is
damage-map P Q (errors.Version found) on is = absurd is
damage-map P Q (errors.Damaged sector) on is = on sector is
damage-map P Q errors.NoMemory on is = tt

module _ (form : Format) (image : Image) where
  pub damage-refused : (error : OpenError) → IsDamage (IsFoundDamaged form image) error → IsRefusal form image error
  damage-refused errors.Device is = tt
  damage-refused errors.NotFormatted is = absurd is
  damage-refused (errors.Version found) is = absurd is
  damage-refused (errors.Damaged sector) is = is
  damage-refused errors.NoMemory is = tt

  pub superblock-refused : (error : OpenError) → IsSuperblockRefusal form image error → IsRefusal form image error
  superblock-refused errors.Device is = tt
  superblock-refused errors.NotFormatted is = is
  superblock-refused (errors.Version found) is = is
  superblock-refused (errors.Damaged sector) is =
      (is.damaged, subst (IsFirstFaultIn form image) (sym is.first) (IsFirstFaultIn.Superblock is.none))
  superblock-refused errors.NoMemory is = absurd is

module _ (limits : Limits) (size : ℕ) (image : Image) (checked : AreOf format limits) where
  pub superblock-upgrade : (error : OpenError) → IsSuperblockRefusal format_one image error → IsUpgradeRefusal limits size image (of_open_error error)
  superblock-upgrade errors.Device is = tt
  superblock-upgrade errors.NotFormatted is = (checked, is)
  superblock-upgrade (errors.Version found) is = (checked, is)
  superblock-upgrade (errors.Damaged sector) is = (checked, inl is)
  superblock-upgrade errors.NoMemory is = absurd is

  pub damage-upgrade : MayBecome limits size image → (error : OpenError) → IsDamage (IsOldDamage image) error
      → IsUpgradeRefusal limits size image (of_open_error error)
  damage-upgrade may errors.Device is = tt
  damage-upgrade may errors.NotFormatted is = absurd is
  damage-upgrade may (errors.Version found) is = absurd is
  damage-upgrade may (errors.Damaged sector) is = (checked, inr (may, is))
  damage-upgrade may errors.NoMemory is = tt

  pub room-upgrade : (own : Limits) → IsDeviceIn format_one own image → (error : UpgradeError)
      → IsRoomRefusal limits own (need_of limits) size error → IsUpgradeRefusal limits size image error
  room-upgrade own device (upgrades.BadLimits bad) is = inr (checked, own, device, is)
  room-upgrade own device (upgrades.TooSmall need) is = (checked, is.0, is.1, own, device, is.2)
  room-upgrade own device upgrades.NotFormatted is = absurd is
  room-upgrade own device (upgrades.Version found) is = absurd is
  room-upgrade own device (upgrades.Damaged sector) is = absurd is
  room-upgrade own device upgrades.Device is = absurd is
  room-upgrade own device upgrades.NoMemory is = absurd is

-- the room is too small for what is asked for
pub small-room : (limits own : Limits) (least size : ℕ) (error : UpgradeError) (need : ℕ) → error ≡ upgrades.TooSmall need
    → IsRoomRefusal limits own least size error → (need ≡ least) × (size < need)
small-room limits own least size (upgrades.TooSmall n) need e is =
    let same : n ≡ need = cc in subst (λ (k : ℕ). (k ≡ least) × (size < k)) same (is.0, is.1)
small-room limits own least size (upgrades.BadLimits bad) need e is = cc
small-room limits own least size upgrades.NotFormatted need e is = absurd is
small-room limits own least size (upgrades.Version found) need e is = absurd is
small-room limits own least size (upgrades.Damaged sector) need e is = absurd is
small-room limits own least size upgrades.Device need e is = absurd is
small-room limits own least size upgrades.NoMemory need e is = absurd is

-- the disk does not fail in a comparison
pub no-device : (limits own : Limits) (least size : ℕ) (error : UpgradeError) → error ≡ upgrades.Device → IsRoomRefusal limits own least size error → ⊥
no-device limits own least size (upgrades.TooSmall n) e is = cc
no-device limits own least size (upgrades.BadLimits bad) e is = cc
no-device limits own least size upgrades.NotFormatted e is = is
no-device limits own least size (upgrades.Version found) e is = is
no-device limits own least size (upgrades.Damaged sector) e is = is
no-device limits own least size upgrades.Device e is = is
no-device limits own least size upgrades.NoMemory e is = is

-- an error of an open is never about room
pub no-room : (fault : OpenError) (need : ℕ) → of_open_error fault ≡ upgrades.TooSmall need → ⊥
no-room errors.Device need e = cc
no-room errors.NotFormatted need e = cc
no-room (errors.Version found) need e = cc
no-room (errors.Damaged sector) need e = cc
no-room errors.NoMemory need e = cc
