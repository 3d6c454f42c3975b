-- What an image of a device stands for, by the form of the device. Its objects stand for a base, the state that the
-- last save has kept, and the batches of its journal at the same epoch lead from there to the state of the image.
use Rattle.std.specs.Prelude.{◌≡◌, ◌⊎◌, ◌<◌, ◌≤◌, ◌-◌, ◌^◌}
use Rattle.std.specs.Prelude.{if◌then◌else◌, Bool, true, false, ◌&&◌, nat_eq, Option, Some, None}
use Rattle.std.specs.Prelude.{ℕ, List, [], ◌∷◌, length, map, All}
use Rattle.std.specs.List.{flat_map}
use Rattle.ipc_limits.specs.declared.limits.Limits.{Limits}
use Rattle.ipc_base.specs.Objects.{PlainObjects}
use Rattle.ipc_disk.specs.declared.range.Range.{Range}
use Rattle.ipc_disk.specs.Medium.{Image}
use Rattle.ipc_disk.specs.Standing.{sector_at}
use Rattle.ipc_journal.specs.declared.form.Form.{Form}
use Rattle.ipc_journal.specs.declared.form.Form.TheVariants.{Headed, Tagged}
use Rattle.ipc_journal.specs.Journal.{sector_of, sectors_of, Holds, IsFull, Stand}
use Rattle.ipc_journal.specs.Journal.{HasBadHeader, HasLater, HasMore, IsNext}
use Rattle.ipc_checkpoint.specs.declared.layout.Layout.{Layout}
use Rattle.ipc_checkpoint.specs.Checkpoint.{IsFirstDamage, epoch_in, Holds as HoldsObjects}
use Rattle.ipc_state.specs.State.{State}
use Rattle.ipc_engine.specs.Event.{PlainEvent}
use Rattle.ipc_engine.specs.Engine.{IsForProcess}
use Rattle.ipc_engine.specs.Step.{step, run}
use Rattle.ipc_image.specs.declared.format.Format.{Format}
use Rattle.ipc_image.specs.Format.{device_form, journal_first, objects_first}
use Rattle.ipc_image.specs.Saved.{StandForStateIn}
use Rattle.ipc_image.specs.Sizes.{area_in, first_fault}
use Rattle.ipc_image.specs.Superblock.{IsFormatted, version_in, sectors_in, is_of, IsSuperblockIn, named_form}
use Rattle.ipc_store.specs.Batch.{batch_bytes, AreBatchOf}

-- limits as those of a device of this form
abbrev pub as_of : Format → Limits → Limits
as_of form limits = record limits { version = form.version; journal = form.journal }

-- limits as a device of the form that they name has them
abbrev pub own_limits : Limits → Limits
own_limits limits = as_of (device_form limits) limits

-- whether limits name this form
abbrev pub names_form : Format → Limits → Bool
names_form form limits = nat_eq limits.version form.version && nat_eq limits.journal form.journal

abbrev pub or_version : Option ℕ → Bool → Option ℕ
or_version (Some field) names = Some field
or_version None names = if names then None else Some 23

-- the first test that they fail as limits of a device of their own form: one of a field, that of the area, or that of
-- the version and the journal
abbrev pub own_fault : Limits → Option ℕ
own_fault limits = or_version (first_fault (device_form limits) limits) (names_form (device_form limits) limits)

-- the sectors of the journal
abbrev pub journal_range : Format → Range
journal_range form = record { first = journal_first; count = form.journal }

-- its form: its sectors have tags, or it has a header
abbrev pub journal_form : Format → Form
journal_form form = if form.tags then Tagged else Headed

-- the object area of a device of so many sectors, after the journal to the end
abbrev pub objects_range : Format → ℕ → Range
objects_range form sectors = record { first = objects_first form; count = sectors - objects_first form }

-- where its objects lie
abbrev pub layout_in : Format → Limits → ℕ → Layout
layout_in form limits sectors =
    record { range = objects_range form sectors; root = form.root; area = area_in form limits }

abbrev pub layout_of : Limits → ℕ → Layout
layout_of limits = layout_in (device_form limits) limits

-- the first epoch, with which a device is made, and the last
abbrev pub first_epoch : ℕ
first_epoch = 1

abbrev pub last_epoch : ℕ
last_epoch = 2 ^ 64 - 1

-- each process that an event names is connected when the event comes
abbrev pub AreFor : Limits → State → List PlainEvent → Type 0
AreFor limits s [] = Unit {0}
AreFor limits s (e ∷ es) = IsForProcess s e × AreFor limits (step limits s e).state es

-- all events of some batches, in order
abbrev pub events_of : List (List PlainEvent) → List PlainEvent
events_of batches = flat_map (λ (events : List PlainEvent). events) batches

-- the batches, each of at most so many bytes, lead from one state to another
pub record LeadToBy (most : ℕ) (limits : Limits) (from : State) (batches : List (List PlainEvent)) (s : State)
    : Type 0 where
  pub each : All (AreBatchOf most) batches
  pub named : AreFor limits from (events_of batches)
  pub state : s ≡ (run limits from (events_of batches)).state

abbrev pub LeadTo : Limits → State → List (List PlainEvent) → State → Type 0
LeadTo limits = LeadToBy (device_form limits).batch limits

-- the form that its first sector names
abbrev pub form_at : Image → Format
form_at image = named_form (sector_at image 0)

-- how many sectors the device has, as its first one says; the disk may have more
abbrev pub named_sectors : Image → ℕ
named_sectors image = sectors_in (sector_at image 0)

-- it names all sectors that there are
abbrev pub NamesAll : Image → Type 0
NamesAll image = named_sectors image ≡ length image

-- the image is of a device with these limits: its first sector is their superblock, and it has the sectors that this
-- names
pub record IsDeviceIn (form : Format) (limits : Limits) (image : Image) : Type 0 where
  pub superblock : IsSuperblockIn form (named_sectors image) limits (sector_at image 0)
  pub whole : named_sectors image ≤ length image

abbrev pub IsDevice : Limits → Image → Type 0
IsDevice limits = IsDeviceIn (device_form limits) limits

-- at this epoch it has these objects, where such a device has them
abbrev pub HasObjectsIn : Format → Limits → ℕ → PlainObjects → Image → Type 0
HasObjectsIn form limits epoch objects image =
    HoldsObjects (layout_in form limits (named_sectors image)) epoch objects image

abbrev pub HasObjects : Limits → ℕ → PlainObjects → Image → Type 0
HasObjects limits = HasObjectsIn (device_form limits) limits

-- at this epoch its journal has these batches
abbrev pub HasBatches : Format → ℕ → List (List PlainEvent) → Image → Type 0
HasBatches form epoch batches image =
    Holds (journal_form form) (journal_range form) epoch (map batch_bytes batches) image

-- it is of a device with these limits, and at this epoch its objects stand for the base
pub record HasBaseIn (form : Format) (limits : Limits) (epoch : ℕ) (base : State) (image : Image) : Type 0 where
  pub device : IsDeviceIn form limits image
  pub objects : PlainObjects
  pub there : HasObjectsIn form limits epoch objects image
  pub stand : StandForStateIn form limits base objects

abbrev pub HasBase : Limits → ℕ → State → Image → Type 0
HasBase limits = HasBaseIn (device_form limits) limits

-- the image stands for a state under these limits
pub record StandsForIn (form : Format) (limits : Limits) (s : State) (image : Image) : Type 0 where
  pub epoch : ℕ
  pub base : State
  pub kept : HasBaseIn form limits epoch base image
  pub batches : List (List PlainEvent)
  pub journal : HasBatches form epoch batches image
  pub leads : LeadToBy form.batch limits base batches s

-- and so for an open
abbrev pub StandsFor : Limits → State → Image → Type 0
StandsFor limits = StandsForIn (device_form limits) limits

-- it stands for none
abbrev pub HasNoStateIn : Format → Image → Type 0
HasNoStateIn form image = (limits : Limits) (s : State) → ¬ StandsForIn form limits s image

abbrev pub HasNoState : Image → Type 0
HasNoState image = (limits : Limits) (s : State) → ¬ StandsFor limits s image

-- The faults that a superblock has, in their order. The device has too few sectors for one, or
-- begins otherwise.
abbrev pub IsNotFormatted : Image → Type 0
IsNotFormatted image = (length image < 3) ⊎ (¬ IsFormatted (sector_at image 0))

-- it is of another version, or has features that are not known
pub record HasVersionBut (form : Format) (found : ℕ) (image : Image) : Type 0 where
  pub formatted : ¬ IsNotFormatted image
  pub version : version_in (sector_at image 0) ≡ found
  pub other : is_of form (sector_at image 0) ≡ false

abbrev pub HasVersion : ℕ → Image → Type 0
HasVersion found image = HasVersionBut (form_at image) found image

-- it is of this version, and stands for no state
pub record IsDamagedIn (form : Format) (image : Image) : Type 0 where
  pub formatted : ¬ IsNotFormatted image
  pub version : is_of form (sector_at image 0) ≡ true
  pub stands_for_none : HasNoStateIn form image

abbrev pub IsDamaged : Image → Type 0
IsDamaged image = IsDamagedIn (form_at image) image

-- the epoch of its objects, which their root has
abbrev pub epoch_at_in : Format → Image → ℕ
epoch_at_in form image = epoch_in (sector_at image form.root)

abbrev pub epoch_at : Image → ℕ
epoch_at image = epoch_at_in (form_at image) image

-- The device stands for a state, its objects and its journal are of the last epoch, and the journal has no room for one
-- batch more.
pub record IsAtEnd (image : Image) : Type 0 where
  pub limits : Limits
  pub state : State
  pub stands : StandsFor limits state image
  pub epoch : epoch_at image ≡ last_epoch
  pub full : IsFull (journal_form (device_form limits)) (journal_range (device_form limits)) last_epoch image

-- these batches stand in the journal from its first sector on
abbrev pub HasBatchesThere : Format → ℕ → List (List PlainEvent) → Image → Type 0
HasBatchesThere form epoch batches image =
    Stand (journal_form form) (journal_range form) epoch (map batch_bytes batches) image

-- how many sectors they take
abbrev pub place_after : Format → List (List PlainEvent) → ℕ
place_after form batches = sectors_of (journal_form form) (map batch_bytes batches)

-- the journal has one batch more after these, but none of events that can come there, of at most so many bytes
abbrev pub HasNoBatchAfter : Format → ℕ → Limits → State → ℕ → List (List PlainEvent) → Image → Type 0
HasNoBatchAfter form most limits s epoch batches image =
    let place = place_after form batches in
    HasMore (journal_form form) (journal_range form) epoch place (length batches) image
    × ((events : List PlainEvent) → AreBatchOf most events → AreFor limits s events
    → ¬ IsNext (journal_form form) (journal_range form) epoch place (length batches) (batch_bytes events) image)

-- or a sector of a later epoch stands after them
abbrev pub HasLaterAfter : Format → ℕ → List (List PlainEvent) → Image → Type 0
HasLaterAfter form epoch batches image =
    HasLater (journal_form form) (journal_range form) epoch (place_after form batches) image

-- Where a damage is first seen: in sector 0, which is no superblock of this device; in the root or the sectors of the
-- objects, which are none; in the root, whose objects stand for no state; in the header of the journal; or after
-- good batches, where one more is none of events that can come there, or a sector is of a later epoch.
pub data IsFirstFaultIn (form : Format) (image : Image) : ℕ → Type 0 where
  Superblock : ((limits : Limits) → ¬ IsDeviceIn form limits image) → IsFirstFaultIn form image 0
  Objects : (limits : Limits) (sector : ℕ) → IsDeviceIn form limits image
      → IsFirstDamage (layout_in form limits (named_sectors image)) image sector
      → IsFirstFaultIn form image sector
  NoState : (limits : Limits) (epoch : ℕ) (objects : PlainObjects) → IsDeviceIn form limits image
      → HasObjectsIn form limits epoch objects image → ((s : State) → ¬ StandForStateIn form limits s objects)
      → IsFirstFaultIn form image form.root
  Header : (limits : Limits) (epoch : ℕ) (base : State) → HasBaseIn form limits epoch base image
      → HasBadHeader (journal_form form) (journal_range form) epoch image → IsFirstFaultIn form image journal_first
  AtBatch : (limits : Limits) (epoch : ℕ) (base : State) (batches : List (List PlainEvent)) (s : State)
      → HasBaseIn form limits epoch base image → LeadToBy form.batch limits base batches s
      → HasBatchesThere form epoch batches image
      → HasNoBatchAfter form form.batch limits s epoch batches image ⊎ HasLaterAfter form epoch batches image
      → IsFirstFaultIn form image (sector_of (journal_form form) (journal_range form) (place_after form batches))

abbrev pub IsFirstFault : Image → ℕ → Type 0
IsFirstFault image = IsFirstFaultIn (form_at image) image
