-- What is there for one who reads a device while its server goes on. Objects are saved where none are, and once they
-- stand the root is of a later epoch; until then the journal only grows.
use Rattle.std.specs.Prelude.{◌≡◌, ◌⊎◌, ◌<◌, ℕ, List, length, map}
use Rattle.ipc_checkpoint.specs.Meanwhile.{EachLater}
use Rattle.ipc_disk.specs.Medium.{Image, Medium}
use Rattle.ipc_disk.specs.Range.{IsOutside}
use Rattle.ipc_disk.specs.Since.{SameAt}
use Rattle.ipc_disk.specs.Standing.{sector_at}
use Rattle.ipc_heap.specs.Meanwhile.{IsUsedIn}
use Rattle.ipc_journal.specs.Meanwhile.{ComesInOrder, IsPartOf, IsReadFrom, KeepsBatches}
use Rattle.ipc_state.specs.State.{State}
use Rattle.ipc_engine.specs.Event.{PlainEvent}
use Rattle.ipc_store.specs.Batch.{batch_bytes}
use Rattle.ipc_store.specs.Image.{epoch_at, form_at, journal_form, journal_range, named_sectors, objects_range}
use Rattle.ipc_store.specs.Relations.Matches.{StoreMatches}
use Rattle.ipc_store.specs.View.{StoreView}

-- what is saved in an image needs this sector: it is the superblock, the root, or has a part of an object or the table
abbrev pub IsNeeded : Image → ℕ → Type 0
IsNeeded image sector =
    let form = form_at image in
    (sector ≡ 0) ⊎ (sector ≡ form.root)
    ⊎ IsUsedIn (objects_range form (named_sectors image)) form.root image sector

-- The later image is of the same save: it has the same sectors wherever the earlier one needs them, and the batches of
-- the earlier one, and may have more after them.
pub record IsOfSameSave (earlier later : Image) : Type 0 where
  pub needed : SameAt (IsNeeded earlier) earlier later
  pub journal : KeepsBatches (journal_form (form_at earlier)) (journal_range (form_at earlier)) (epoch_at earlier)
      earlier later

-- The later image is of a later save: its root, in the same place, has a later epoch.
pub record IsOfLaterSave (earlier later : Image) : Type 0 where
  pub form : form_at earlier ≡ form_at later
  pub epoch : epoch_at earlier < epoch_at later

-- the one or the other
abbrev pub GoesOn : Image → Image → Type 0
GoesOn earlier later = IsOfSameSave earlier later ⊎ IsOfLaterSave earlier later

-- Who reads the disk of a store while it makes a call finds images that go on from those of before, and if what waits
-- joins the journal, its batch stands before a header counts it, or each image has a part of its tagged sectors.
pub record StaysReadable {D : Type 0} (medium : D → Medium) (store : StoreView D) (new : D) : Type 0 where
  pub goes_on : (base : State) (pending : List PlainEvent) → StoreMatches (medium store.disk) store base pending
      → EachLater GoesOn (medium store.disk) (medium new)
  pub stands_first : (base : State) (pending : List PlainEvent)
      (at : StoreMatches (medium store.disk) store base pending)
      → ComesInOrder medium store.journal (map batch_bytes at.device.batches) (batch_bytes pending) store.disk new

-- the later image goes on from the earlier one, and has its root
abbrev pub HasOneRoot : Image → Image → Type 0
HasOneRoot earlier later =
    let root = (form_at earlier).root in
    GoesOn earlier later × (sector_at earlier root ≡ sector_at later root)

-- Sectors that were read one after another, each as some image has it that goes on from the first one under the same
-- root: those outside the journal, the header of the journal as it was seen in one of these images, and after it the
-- body, in images in which the batches of that one stand.
pub record IsRead (first seen read : Image) : Type 0 where
  pub count : length read ≡ length first
  pub outside : (i : ℕ) → IsOutside (journal_range (form_at first)) i
      → (later : Image) × HasOneRoot first later × (sector_at read i ≡ sector_at later i)
  pub one_root : HasOneRoot first seen
  pub journal : IsReadFrom (journal_range (form_at first)) (epoch_at seen) seen read

-- Sectors of a device with a tagged journal that were read one after another: each as some image has it that goes on
-- from the first one under the same root, and that is a part of what comes meanwhile.
pub record IsReadInParts (first whole read : Image) : Type 0 where
  pub count : length read ≡ length first
  pub each : (i : ℕ) → (later : Image) × HasOneRoot first later
      × IsPartOf (journal_range (form_at first)) (epoch_at first) whole later × (sector_at read i ≡ sector_at later i)
