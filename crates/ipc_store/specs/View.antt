-- What a store shows.
use Rattle.std.specs.Prelude.{◌≡◌, ◌≤◌, ◌+◌, ◌-◌, ◌^◌, ℕ}
use Rattle.std.specs.Prelude.{Bool, true, false, if◌then◌else◌, List, [], length, Result, OnOk, OnErr}
use Rattle.ipc_disk.specs.Counts.{Counts, with_calls}
use Rattle.ipc_engine.specs.Engine.{Machine}
use Rattle.ipc_image.specs.Changed.{differs_in}
use Rattle.ipc_image.specs.Saved.{saved_in}
use Rattle.ipc_checkpoint.specs.declared.error.LoadError.{LoadError}
use Rattle.ipc_checkpoint.specs.declared.error.LoadError.TheVariants as load
use Rattle.ipc_checkpoint.specs.Matches.{changed_sectors, table_sectors}
use Rattle.ipc_checkpoint.specs.View.{CheckpointView, epoch_of}
use Rattle.ipc_journal.specs.declared.journal.Journal.{Journal}
use Rattle.ipc_journal.specs.View.{append_syncs, append_writes, form_of, Fits, used_of}
use Rattle.ipc_journal.specs.declared.error.JournalError.{JournalError}
use Rattle.ipc_journal.specs.declared.error.JournalError.TheVariants as journal
use Rattle.ipc_image.specs.Format.{device_form, longest_record}
use Rattle.ipc_store.specs.Batch.{most_bytes}
use Rattle.ipc_store.specs.Image.{last_epoch}
use Rattle.ipc_store.specs.declared.fault.OpenError.{OpenError}
use Rattle.ipc_store.specs.declared.fault.OpenError.TheVariants.{Device, Damaged, NoMemory}
use Rattle.ipc_store.specs.declared.fault.OpenError.TheVariants as opening
use Rattle.ipc_store.specs.declared.fault.UpgradeError.{UpgradeError}
use Rattle.ipc_store.specs.declared.fault.UpgradeError.TheVariants as upgrade

-- a batch as its callers see it: the records of its events, and how many they are
pub record BatchView : Type 0 where
  pub records : List ℕ
  pub count : ℕ

pub record StoreView (D : Type 0) : Type 0 where
  pub disk : D
  pub machine : Machine
  pub checkpoint : CheckpointView
  pub journal : Journal
  -- the records of the events that wait for a commit, and how many they are
  pub records : List ℕ
  pub waiting : ℕ
  -- how many events it has made last since it was opened
  pub confirmed : ℕ
  -- a call on the disk has failed, or the epochs are at their end
  pub stopped : Bool

-- the parts of a store, as it shows them
abbrev pub store_view : {D : Type 0} → D → Machine → CheckpointView → Journal → BatchView → ℕ → Bool
    → StoreView D
store_view disk machine checkpoint journal batch confirmed stopped = record {
  disk = disk;
  machine = machine;
  checkpoint = checkpoint;
  journal = journal;
  records = batch.records;
  waiting = batch.count;
  confirmed = confirmed;
  stopped = stopped;
}

-- records of so many bytes still fit into the batch
abbrev pub HasRoomFor : {D : Type 0} → StoreView D → ℕ → Type 0
HasRoomFor store bytes = 4 + length store.records + bytes ≤ most_bytes

-- a record of the greatest length still fits into it
abbrev pub HasRoom : {D : Type 0} → StoreView D → Type 0
HasRoom store = HasRoomFor store longest_record

abbrev pub IsStopped : {D : Type 0} → StoreView D → Type 0
IsStopped store = store.stopped ≡ true

-- how many more events it takes until it is opened again
abbrev pub events_left : {D : Type 0} → StoreView D → ℕ
events_left store = if store.stopped then 0 else 2 ^ 64 - 1 - (store.confirmed + store.waiting)

-- how many of its numbers it has used: its epoch, and the events since it was opened
abbrev pub numbers_used : {D : Type 0} → StoreView D → ℕ
numbers_used store = epoch_of store.checkpoint + (store.confirmed + store.waiting)

-- The events that waited have been made last, if the call was Ok; else the store is stopped and they still wait. The
-- machine stays as it was, but for what has changed since its state was saved.
pub record IsCommitted {D T E : Type 0} (result : Result T E) (old new : StoreView D) : Type 0 where
  pub waiting : OnOk result (new.waiting ≡ 0)
  pub records : OnOk result (new.records ≡ [])
  pub confirmed : OnOk result (new.confirmed ≡ old.confirmed + old.waiting)
  pub running : OnOk result (new.stopped ≡ false)
  pub stops : OnErr result (IsStopped new)
  pub still_waits : OnErr result (new.waiting ≡ old.waiting)
  pub unconfirmed : OnErr result (new.confirmed ≡ old.confirmed)
  pub machine : new.machine ≡ record old.machine { changed = new.machine.changed }

-- A call went well: the store has not stopped, the disk has counted no failure, and so many numbers more are used at
-- most.
pub record Spends {D : Type 0} (counts : D → Counts) (n : ℕ) (old new : StoreView D) : Type 0 where
  pub running : new.stopped ≡ false
  pub failures : (counts new.disk).failures ≡ (counts old.disk).failures
  pub numbers : numbers_used new ≤ numbers_used old + n

-- records of so many bytes fit into the batch, and it takes so many events more
abbrev pub IsReadyFor : {D : Type 0} → StoreView D → ℕ → ℕ → Type 0
IsReadyFor store bytes events = HasRoomFor store bytes × (events ≤ events_left store)

-- the batch that waits fits into the journal
abbrev pub HasPlace : {D : Type 0} → StoreView D → Type 0
HasPlace store = Fits store.journal (4 + length store.records)

-- its epoch has no next one, which a save needs, and a commit whose batch does not fit into the journal
abbrev pub IsAtLastEpoch : {D : Type 0} → StoreView D → Type 0
IsAtLastEpoch store = epoch_of store.checkpoint ≡ last_epoch

-- it has gone on to the next epoch, at which its journal is empty and no object has changed since the state was saved
abbrev pub HasTurned : {D : Type 0} → StoreView D → StoreView D → Type 0
HasTurned old new =
    (epoch_of new.checkpoint ≡ epoch_of old.checkpoint + 1) × (used_of new.journal ≡ 0) × (new.machine.changed ≡ [])

-- the calls of a commit whose batch joins the journal
abbrev pub append_calls : {D : Type 0} → StoreView D → Counts → Counts
append_calls store =
    let form = form_of store.journal in
    with_calls (append_writes form (4 + length store.records)) (append_syncs form)

-- how many sectors a save of the state of a machine writes: those of the objects that have changed, of the table of all
-- objects, and the root
abbrev pub save_sectors : Machine → ℕ
save_sectors machine =
    let objects = saved_in (device_form machine.limits) machine.state in
    changed_sectors (differs_in machine.changed objects) objects + table_sectors objects + 1

-- the fault of an open that meets this fault of the objects' sectors
abbrev pub of_load_error : LoadError → OpenError
of_load_error load.Device = Device
of_load_error (load.Damaged sector) = Damaged sector
of_load_error load.NoMemory = NoMemory

-- the fault of an open that meets this fault of the journal
abbrev pub of_journal_error : JournalError → OpenError
of_journal_error journal.Device = Device
of_journal_error (journal.Damaged sector) = Damaged sector

-- the fault of an upgrade that meets this fault of a load
abbrev pub of_open_error : OpenError → UpgradeError
of_open_error opening.Device = upgrade.Device
of_open_error opening.NotFormatted = upgrade.NotFormatted
of_open_error (opening.Version found) = upgrade.Version found
of_open_error (opening.Damaged sector) = upgrade.Damaged sector
of_open_error opening.NoMemory = upgrade.NoMemory
