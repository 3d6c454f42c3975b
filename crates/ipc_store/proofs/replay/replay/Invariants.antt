-- The batches that were read are replayed, and the disk is as it was.
use Rattle.std.proofs.Common.{◌≡◌, ◌-◌, ℕ, [], length}
use Rattle.ipc_disk.specs.Calls.{OnlyReads}
use Rattle.ipc_disk.specs.Medium.{IsHonest}
use Rattle.ipc_journal.specs.Reader.{place_of, form_read, range_read, epoch_read, HasRead, IsReaderOf}
use Rattle.ipc_state.specs.State.{State}
use Rattle.ipc_engine.specs.Changes.{IsTracked}
use Rattle.ipc_image.specs.declared.format.Format.{Format}
use Rattle.ipc_store.specs.Image.{journal_form, journal_range}
use Rattle.ipc_store.proofs.Replaying.{Replayed}
use Rattle.ipc_store.proofs.replay.replay.Given as goal

abbrev pub invariant-loop-len : goal.invariant-loop-len
invariant-loop-len g l =
    let medium = g.D.SectorDisk.medium in
    record {
      room : length l.room ≡ length l.fn.room;
      of : IsReaderOf (form_read l.fn.reader) (range_read l.fn.reader) (epoch_read l.fn.reader) l.reader;
      limits : l.engine.limits ≡ l.fn.engine.limits;
      tracked : (base : State) → IsTracked l.fn.engine.changed base l.fn.engine.state → IsTracked l.engine.changed base l.engine.state;
      replayed : IsHonest (medium l.fn.disk) → (d : Format) (epoch : ℕ) → IsReaderOf (journal_form d) (journal_range d) epoch l.fn.reader
          → HasRead l.fn.reader [] (medium l.fn.disk).contents
          → Replayed d (length l.fn.room) l.fn.engine.limits l.fn.engine.state epoch (medium l.fn.disk).contents l.reader l.engine.state;
      reads : OnlyReads g.D.SectorDisk.size medium g.D.SectorDisk.counts ⊥ l.fn.disk l.disk;
    }

abbrev pub decreases-loop-len : goal.decreases-loop-len
decreases-loop-len g l = (range_read l.fn.reader).count - place_of l.reader
