-- Why what stands on a device cannot be loaded: the superblock, and what comes after it.
use Rattle.std.specs.Prelude.{◌≡◌, ◌⊎◌, ℕ, List, length, map}
use Rattle.ipc_limits.specs.declared.limits.Limits.{Limits}
use Rattle.ipc_base.specs.Objects.{PlainObjects}
use Rattle.ipc_checkpoint.specs.Checkpoint.{IsFirstDamage, Holds}
use Rattle.ipc_checkpoint.specs.declared.layout.Layout.{Layout}
use Rattle.ipc_checkpoint.specs.Matches.{CheckpointMatches}
use Rattle.ipc_checkpoint.specs.View.{CheckpointView, epoch_of as saved_epoch, layout_of as saved_layout}
use Rattle.ipc_disk.specs.Calls.{IsSameDisk}
use Rattle.ipc_disk.specs.Counts.{Counts, counted}
use Rattle.ipc_disk.specs.Medium.{Image, Medium, IsDurable, IsHonest, Stays}
use Rattle.ipc_engine.specs.Changes.{IsTracked}
use Rattle.ipc_engine.specs.Engine.{Machine}
use Rattle.ipc_engine.specs.Event.{PlainEvent}
use Rattle.ipc_image.specs.Format.{device_form, format, format_one}
use Rattle.ipc_image.specs.Superblock.{named_form}
use Rattle.ipc_image.specs.declared.format.Format.{Format}
use Rattle.ipc_image.specs.declared.superblock.Superblock.{Superblock}
use Rattle.ipc_image.specs.Saved.{StandForStateIn}
use Rattle.ipc_journal.specs.declared.journal.Journal.{Journal}
use Rattle.ipc_journal.specs.Journal.{sectors_of}
use Rattle.ipc_journal.specs.View.{form_of, range_of, epoch_of, used_of, count_of}
use Rattle.ipc_state.specs.State.{State}
use Rattle.ipc_store.specs.Batch.{batch_bytes}
use Rattle.ipc_store.specs.declared.places.Versions.{Versions}
use Rattle.ipc_store.specs.Image.{journal_form, journal_range, layout_of, named_sectors, HasBatches, IsDevice, LeadTo}
use Rattle.ipc_store.specs.Image.{HasBaseIn, HasVersionBut, IsDamagedIn, IsDeviceIn, IsFirstFaultIn, IsNotFormatted}
use Rattle.ipc_store.specs.Refusals.{IsNoSuperblock}
use Rattle.ipc_store.specs.declared.fault.OpenError.{OpenError}
use Rattle.ipc_store.specs.declared.fault.OpenError.TheVariants as errors

-- the form of a device that is read, if it is of version 1, of version 2, or if it is opened
abbrev pub form_for : Versions → List ℕ → Format
form_for Versions.One sector = format_one
form_for Versions.Two sector = format
form_for Versions.Opened sector = named_form sector

-- the superblock is that of the image, which is a device of this form
abbrev pub IsNamedIn : Format → Superblock → Image → Type 0
IsNamedIn form superblock image =
    IsDeviceIn form superblock.limits image × (superblock.sectors ≡ named_sectors image)

-- the journal has these batches, as a value that was read
abbrev pub IsAfter : Journal → List (List PlainEvent) → Type 0
IsAfter journal batches =
    (used_of journal ≡ sectors_of (form_of journal) (map batch_bytes batches))
    × (count_of journal ≡ length (map batch_bytes batches))

-- What was read of a device on which a crash leaves what is read. It is as `MachineMatches` says, but that anything may
-- stand in the journal after its batches.
pub record IsLoadedUnder (limits : Limits) (medium : Medium) (machine : Machine) (checkpoint : CheckpointView)
    (journal : Journal) : Type 0 where
  pub honest : IsHonest medium
  pub durable : IsDurable medium
  pub form : form_of journal ≡ journal_form (device_form limits)
  pub range : range_of journal ≡ journal_range (device_form limits)
  pub epoch : epoch_of journal ≡ saved_epoch checkpoint
  pub device : IsDevice limits medium.contents
  pub lies : saved_layout checkpoint ≡ layout_of limits (named_sectors medium.contents)
  pub from : State
  pub objects : PlainObjects
  pub stand : StandForStateIn (device_form limits) limits from objects
  pub saved : CheckpointMatches checkpoint objects medium
  pub batches : List (List PlainEvent)
  pub journal_is : HasBatches (device_form limits) (saved_epoch checkpoint) batches medium.contents
  pub after : IsAfter journal batches
  pub leads : LeadTo limits from batches machine.state
  pub tracked : IsTracked machine.changed from machine.state

abbrev pub IsLoaded : Medium → Machine → CheckpointView → Journal → Type 0
IsLoaded medium machine = IsLoadedUnder machine.limits medium machine

-- what an error says that may come after the superblock was read: such a damage at its sector, and never that the
-- device begins otherwise or is of another version
abbrev pub IsDamage : (ℕ → Type 0) → OpenError → Type 0
IsDamage damage errors.Device = Unit {0}
IsDamage damage errors.NotFormatted = ⊥
IsDamage damage (errors.Version found) = ⊥
IsDamage damage (errors.Damaged sector) = damage sector
IsDamage damage errors.NoMemory = Unit {0}

-- what an error says of a superblock
abbrev pub IsSuperblockRefusal : Format → Image → OpenError → Type 0
IsSuperblockRefusal form image errors.Device = Unit {0}
IsSuperblockRefusal form image errors.NotFormatted = IsNotFormatted image
IsSuperblockRefusal form image (errors.Version found) = HasVersionBut form found image
IsSuperblockRefusal form image (errors.Damaged sector) = IsNoSuperblock form image sector
IsSuperblockRefusal form image errors.NoMemory = ⊥

-- there are none, as this sector shows first
pub record HasNoObjects (layout : Layout) (image : Image) (sector : ℕ) : Type 0 where
  pub none : (epoch : ℕ) (objects : PlainObjects) → ¬ Holds layout epoch objects image
  pub first : IsFirstDamage layout image sector

-- there are some, but they stand for no state; then it is the root's sector
pub record HasOthers (form : Format) (limits : Limits) (layout : Layout) (image : Image) (sector : ℕ) : Type 0 where
  pub epoch : ℕ
  pub objects : PlainObjects
  pub there : Holds layout epoch objects image
  pub none : (s : State) → ¬ StandForStateIn form limits s objects
  pub at : sector ≡ form.root

-- the one or the other
abbrev pub IsObjectDamage : Format → Limits → Layout → Image → ℕ → Type 0
IsObjectDamage form limits layout image sector =
    HasNoObjects layout image sector ⊎ HasOthers form limits layout image sector

-- the device has no base under these limits, and is damaged first at this sector
pub record HasNoBase (form : Format) (limits : Limits) (image : Image) (sector : ℕ) : Type 0 where
  pub none : (epoch : ℕ) (base : State) → ¬ HasBaseIn form limits epoch base image
  pub first : IsFirstFaultIn form image sector

-- it is damaged first at this sector
abbrev pub IsFoundDamaged : Format → Image → ℕ → Type 0
IsFoundDamaged form image sector = IsDamagedIn form image × IsFirstFaultIn form image sector

-- A sync, and reads alone: what is read stays, there is no new image, and no write is counted. If the disk has failed
-- that is one failure, and else none is counted.
pub record OnlySyncs {D : Type 0} (size : D → ℕ) (medium : D → Medium) (counts : D → Counts) (failed : Type 0)
    (old new : D) : Type 0 where
  pub same : IsSameDisk size medium old new
  pub stays : IsHonest (medium old) → Stays (medium old) (medium new)
  pub writes : (counts new).writes ≡ (counts old).writes
  pub failure : failed → (counts new).failures ≡ counted (counts old).failures 1
  pub no_failure : failed ⊎ ((counts new).failures ≡ (counts old).failures)
