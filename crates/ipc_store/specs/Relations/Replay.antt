-- What a replay of a journal finds.
use Rattle.std.specs.Prelude.{◌≡◌, ◌⊎◌, ℕ, List, All}
use Rattle.ipc_limits.specs.declared.limits.Limits.{Limits}
use Rattle.ipc_disk.specs.Medium.{Image}
use Rattle.ipc_journal.specs.Journal.{sector_of}
use Rattle.ipc_state.specs.State.{State}
use Rattle.ipc_engine.specs.Event.{PlainEvent}
use Rattle.ipc_engine.specs.Step.{run}
use Rattle.ipc_image.specs.Records.{HasRecord}
use Rattle.ipc_image.specs.declared.format.Format.{Format}
use Rattle.ipc_store.specs.Batch.{records_of}
use Rattle.ipc_store.specs.Image.{journal_form, journal_range, place_after, AreFor, LeadToBy}
use Rattle.ipc_store.specs.Image.{HasBatches, HasBatchesThere, HasLaterAfter, HasNoBatchAfter}

-- the bytes are the records of these events, which lead from one state to another
pub record AreRecords (limits : Limits) (from : State) (bytes : List ℕ) (events : List PlainEvent)
    (to : State) : Type 0 where
  pub each : All HasRecord events
  pub spelled : bytes ≡ records_of events
  pub named : AreFor limits from events
  pub state : to ≡ (run limits from events).state

-- at this epoch the batches of the journal are these, each of at most so many bytes, and they lead from one state to
-- another
pub record Replays (form : Format) (most : ℕ) (limits : Limits) (from : State) (epoch : ℕ) (image : Image)
    (batches : List (List PlainEvent)) (s : State) : Type 0 where
  pub holds : HasBatches form epoch batches image
  pub leads : LeadToBy most limits from batches s

-- the batches before this sector are good ones, and what follows there is none
pub record IsGoodUpTo (form : Format) (most : ℕ) (limits : Limits) (from : State) (epoch : ℕ) (image : Image)
    (sector : ℕ) : Type 0 where
  pub batches : List (List PlainEvent)
  pub state : State
  pub leads : LeadToBy most limits from batches state
  pub there : HasBatchesThere form epoch batches image
  pub sector_is : sector ≡ sector_of (journal_form form) (journal_range form) (place_after form batches)
  pub none : HasNoBatchAfter form most limits state epoch batches image
      ⊎ HasLaterAfter form epoch batches image

-- no batches of events that can come are those of the journal, and this is where the first fault is
pub record IsBadAt (form : Format) (most : ℕ) (limits : Limits) (from : State) (epoch : ℕ) (image : Image) (sector : ℕ)
    : Type 0 where
  pub none : (batches : List (List PlainEvent)) (s : State) → ¬ Replays form most limits from epoch image batches s
  pub first : IsGoodUpTo form most limits from epoch image sector
