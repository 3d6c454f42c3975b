-- A store matches its disk: what stands there, and what waits.
use Rattle.std.specs.Prelude.{◌≡◌, ◌⊎◌, ℕ, false, List, length, map, All}
use Rattle.ipc_limits.specs.declared.limits.Limits.{Limits}
use Rattle.ipc_base.specs.Objects.{PlainObjects}
use Rattle.ipc_checkpoint.specs.Checkpoint.{IsLaidOut}
use Rattle.ipc_checkpoint.specs.Matches.{CheckpointMatches}
use Rattle.ipc_checkpoint.specs.View.{CheckpointView, epoch_of as saved_epoch, layout_of as saved_layout}
use Rattle.ipc_disk.specs.Medium.{Image, Medium, IsHonest}
use Rattle.ipc_disk.specs.Range.{IsWithin}
use Rattle.ipc_journal.specs.declared.journal.Journal.{Journal}
use Rattle.ipc_journal.specs.Matches.{JournalMatches}
use Rattle.ipc_journal.specs.View.{form_of, range_of, epoch_of}
use Rattle.ipc_state.specs.State.{State, restart}
use Rattle.ipc_engine.specs.Changes.{IsTracked}
use Rattle.ipc_engine.specs.Engine.{Machine}
use Rattle.ipc_engine.specs.Event.{PlainEvent}
use Rattle.ipc_engine.specs.Step.{run}
use Rattle.ipc_image.specs.Format.{device_form}
use Rattle.ipc_image.specs.Records.{HasRecord}
use Rattle.ipc_image.specs.Saved.{StandForStateIn}
use Rattle.ipc_image.specs.Sizes.{area_in}
use Rattle.ipc_image.specs.Superblock.{AreOf}
use Rattle.ipc_store.specs.Batch.{records_of, batch_bytes}
use Rattle.ipc_store.specs.Image.{journal_form, journal_range, layout_of, named_sectors}
use Rattle.ipc_store.specs.Image.{AreFor, IsDevice, LeadTo, StandsFor}
use Rattle.ipc_store.specs.View.{StoreView}

-- a device may have these limits; its objects and its journal lie on a disk of so many sectors, with room for a state
-- under them, and are of one epoch
pub record AreOnDisk (size : ℕ) (limits : Limits) (checkpoint : CheckpointView) (journal : Journal) : Type 0 where
  pub of : AreOf (device_form limits) limits
  pub objects : IsLaidOut (saved_layout checkpoint) size
  pub room : (saved_layout checkpoint).area ≡ area_in (device_form limits) limits
  pub form : form_of journal ≡ journal_form (device_form limits)
  pub within : IsWithin (range_of journal) size
  pub epoch : epoch_of journal ≡ saved_epoch checkpoint

-- Each image that a crash now may leave is of a device with these limits. Its objects stand for a state, and the
-- batches of its journal lead from there to the base.
pub record DeviceMatches (medium : Medium) (limits : Limits) (checkpoint : CheckpointView) (journal : Journal)
    (base : State) : Type 0 where
  pub honest : IsHonest medium
  pub form : form_of journal ≡ journal_form (device_form limits)
  pub range : range_of journal ≡ journal_range (device_form limits)
  pub epoch : epoch_of journal ≡ saved_epoch checkpoint
  pub device : (image : Image) → medium.images_now image
      → IsDevice limits image × (saved_layout checkpoint ≡ layout_of limits (named_sectors image))
  pub from : State
  pub objects : PlainObjects
  pub stand : StandForStateIn (device_form limits) limits from objects
  pub saved : CheckpointMatches checkpoint objects medium
  pub batches : List (List PlainEvent)
  pub appended : JournalMatches journal (map batch_bytes batches) medium
  pub leads : LeadTo limits from batches base

-- The machine goes on from what stands there: what is otherwise than in the state that was saved has changed.
pub record MachineMatches (medium : Medium) (machine : Machine) (checkpoint : CheckpointView) (journal : Journal)
    : Type 0 where
  pub device : DeviceMatches medium machine.limits checkpoint journal machine.state
  pub tracked : IsTracked machine.changed device.from machine.state

-- these events wait, each with a place in the batch
pub record HasPending {D : Type 0} (store : StoreView D) (base : State) (pending : List PlainEvent) : Type 0 where
  pub records : store.records ≡ records_of pending
  pub count : store.waiting ≡ length pending
  pub each : All HasRecord pending
  pub named : AreFor store.machine.limits base pending
  pub state : store.machine.state ≡ (run store.machine.limits base pending).state

-- The store goes on from the base, which each image that a crash now may leave stands for, and
-- these events wait. Its engine is in the state after them, and what is otherwise than in the state that was saved has
-- changed.
pub record StoreMatches {D : Type 0} (medium : Medium) (store : StoreView D) (base : State)
    (pending : List PlainEvent) : Type 0 where
  pub running : store.stopped ≡ false
  pub device : DeviceMatches medium store.machine.limits store.checkpoint store.journal base
  pub waits : HasPending store base pending
  pub tracked : IsTracked store.machine.changed device.from store.machine.state

-- a store that has not stopped, on an honest disk, matches it
abbrev pub MatchesIfHonest : {D : Type 0} → Medium → StoreView D → Type 0
MatchesIfHonest medium store = store.stopped ≡ false → IsHonest medium
    → (base : State) × ((pending : List PlainEvent) × StoreMatches medium store base pending)

-- an image stands for one of two states
abbrev pub StandsForEither : Limits → State → State → Image → Type 0
StandsForEither limits s t image = StandsFor limits s image ⊎ StandsFor limits t image

-- What a crash within an open may leave: what it could leave before, or what stands for the state
-- that was read, or for that state after a restart.
abbrev pub OpensTo : Medium → Image → Type 0
OpensTo old image = old.images_now image
    ⊎ ((limits : Limits) × (s : State) × StandsFor limits s old.contents
    × StandsForEither limits s (restart limits s) image)
