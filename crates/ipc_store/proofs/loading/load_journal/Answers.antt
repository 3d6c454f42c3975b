-- Each exit: the journal that was read, and what its batches lead to.
use Rattle.std.proofs.Common.{[], ℕ, List, ◌<◌, ◌^◌, Err, length, sym, ap, subst, ◌∙◌, arith}
use Rattle.std.specs.Prelude.{map}
use Rattle.ipc_disk.specs.Medium.{Image, IsHonest}
use Rattle.ipc_checkpoint.specs.View.{epoch_of as saved_epoch}
use Rattle.ipc_disk.proofs.CallerLemmas.{OnlyReads-as}
use Rattle.ipc_disk.specs.declared.range.Range.{Range}
use Rattle.ipc_journal.specs.declared.form.Form.{Form}
use Rattle.ipc_journal.specs.Journal.{HasBadHeader, sectors_of}
use Rattle.ipc_journal.specs.Reader.{HasRead, IsReaderOf}
use Rattle.ipc_engine.specs.Event.{PlainEvent}
use Rattle.ipc_store.specs.Batch.{batch_bytes}
use Rattle.ipc_store.specs.Image.{journal_form, journal_range}
use Rattle.ipc_store.specs.View.{of_journal_error}
use Rattle.ipc_store.specs.Relations.Replay.{IsBadAt, Replays}
use Rattle.ipc_store.proofs.Faults.{journal-device, opened-damage}
use Rattle.ipc_store.proofs.Opened.{header-damaged, batch-damaged}
use Rattle.ipc_store.proofs.Refusals.{damage-map, passed}
use Rattle.ipc_store.proofs.loading.load_journal.Given.{Over}
use Rattle.ipc_store.proofs.loading.load_journal.Goals as goal
use Rattle.ipc_store.proofs.loading.load_journal.Goals.{In_ok-reader, In_ok-replay}

-- the image has no more sectors than can be counted
fits : (g : Over) (c : In_ok-reader g) → IsHonest (g.D.SectorDisk.medium c.args.disk.now)
    → length (g.D.SectorDisk.medium c.args.disk.now).contents < 2 ^ 32
fits g c honest =
    omega (arith, (g.met.D.SectorDisk.shaped c.args.disk.now _ honest.reads).count, g.met.D.SectorDisk.fits c.args.disk.now)

-- the reader is of the journal at the epoch of the objects
reader_of : (g : Over) (c : In_ok-reader g)
    → IsReaderOf (journal_form c.args.form) (journal_range c.args.form) (saved_epoch c.args.checkpoint.now) c.in_ok-reader.reader
reader_of g c =
    subst (λ (n : ℕ). IsReaderOf (journal_form c.args.form) (journal_range c.args.form) n c.in_ok-reader.reader) c.epoch.ensures
    (subst (λ (r : Range). IsReaderOf (journal_form c.args.form) r c.epoch.result c.in_ok-reader.reader) c.journal_range.ensures
    (subst (λ (f : Form). IsReaderOf f c.journal_range.result c.epoch.result c.in_ok-reader.reader) c.journal_form.ensures c.in_ok-reader.ensures.of))

-- it has read nothing yet
begins : (g : Over) (c : In_ok-reader g) → IsHonest (g.D.SectorDisk.medium c.args.disk.now)
    → HasRead c.in_ok-reader.reader [] (g.D.SectorDisk.medium c.open.new.disk).contents
begins g c honest =
    subst (HasRead c.in_ok-reader.reader []) (sym ((c.open.ensures.reads.stays honest).contents honest)) (c.in_ok-reader.ensures.begins honest)

pub returns-in_err-reader-clause-refused : goal.returns-in_err-reader-clause-refused
returns-in_err-reader-clause-refused g c =
    passed _ c.from_residual.result (of_journal_error c.in_err-reader.field-0.0) c.from_residual.ensures.1
    (opened-damage c.in_err-reader.field-0.0 _
    (λ sector is most honest has.
    let image : Image = (g.D.SectorDisk.medium c.args.disk.now).contents in
    let few : length image < 2 ^ 32 =
    omega (arith, (g.met.D.SectorDisk.shaped c.args.disk.now image honest.reads).count, g.met.D.SectorDisk.fits c.args.disk.now) in
    header-damaged c.args.form c.requires.known c.args.engine.now.limits (saved_epoch c.args.checkpoint.now) c.args.engine.now.state image few has sector
    (c.in_err-reader.ensures.named sector (ap Err is) ∙ ap (λ (r : Range). r.first) c.journal_range.ensures)
    (subst (λ (n : ℕ). HasBadHeader (journal_form c.args.form) (journal_range c.args.form) n image) c.epoch.ensures
    (subst (λ (r : Range). HasBadHeader (journal_form c.args.form) r c.epoch.result image) c.journal_range.ensures
    (subst (λ (f : Form). HasBadHeader f c.journal_range.result c.epoch.result image) c.journal_form.ensures
    (c.in_err-reader.ensures.damaged sector (ap Err is) honest))))))

pub returns-in_err-reader-clause-reads : goal.returns-in_err-reader-clause-reads
returns-in_err-reader-clause-reads g c =
    let device = journal-device c.open.result c.from_residual.result c.in_err-reader.field-0.0 c.in_err-reader.was c.from_residual.ensures.1 in
    OnlyReads-as device.0 device.1 c.open.ensures.reads

pub returns-in_err-replay-clause-refused : goal.returns-in_err-replay-clause-refused
returns-in_err-replay-clause-refused g c =
    passed _ c.from_residual-in_err-replay.result c.in_err-replay.field-0.0 c.from_residual-in_err-replay.ensures.1
    (damage-map _ _ c.in_err-replay.field-0.0
    (λ sector found-bad most honest has.
    let here = (goal.at.returns-in_err-replay-clause-refused g c).In_ok-reader in
    let image : Image = (g.D.SectorDisk.medium c.args.disk.now).contents in
    let limits = c.args.engine.now.limits in
    let s = c.args.engine.now.state in
    let epoch : ℕ = saved_epoch c.args.checkpoint.now in
    let calls = c.open.ensures.reads.stays honest in
    let bad = found-bad (calls.time.honest.0 honest) c.args.form epoch (reader_of g here) (begins g here honest) in
    batch-damaged c.args.form c.requires.known limits epoch s image (fits g here honest) has sector
    (subst (λ (n : ℕ). IsBadAt c.args.form n limits s epoch image sector) (sym most)
    (subst (λ (x : Image). IsBadAt c.args.form (length c.args.room.now) limits s epoch x sector) (calls.contents honest) bad)))
    c.in_err-replay.ensures.refused)

-- the batches that were gone through
replays : (g : Over) (c : In_ok-replay g) → IsHonest (g.D.SectorDisk.medium c.args.disk.now) → (batches : List (List PlainEvent))
    × Replays c.args.form (length c.args.room.now) c.args.engine.now.limits c.args.engine.now.state (saved_epoch c.args.checkpoint.now)
    (g.D.SectorDisk.medium c.args.disk.now).contents batches c.replay.new.engine.state
    × HasRead c.replay.new.reader (map batch_bytes batches) (g.D.SectorDisk.medium c.args.disk.now).contents
replays g c honest =
    let here = (goal.at.In_ok-replay g c).In_ok-reader in
    let calls = c.open.ensures.reads.stays honest in
    let limits = c.args.engine.now.limits in
    let s = c.args.engine.now.state in
    let epoch : ℕ = saved_epoch c.args.checkpoint.now in
    let found = c.in_ok-replay.ensures.replays (calls.time.honest.0 honest) c.args.form epoch (reader_of g here) (begins g here honest) in (
      found.0,
      subst (λ (x : Image). Replays c.args.form (length c.args.room.now) limits s epoch x found.0 c.replay.new.engine.state) (calls.contents honest) found.1,
      subst (HasRead c.replay.new.reader (map batch_bytes found.0)) (calls.contents honest) found.2,
    )

-- the value is of that journal
reader_after : (g : Over) (c : In_ok-replay g)
    → IsReaderOf (journal_form c.args.form) (journal_range c.args.form) (saved_epoch c.args.checkpoint.now) c.replay.new.reader
reader_after g c = c.replay.ensures.of c.args.form (saved_epoch c.args.checkpoint.now) (reader_of g (goal.at.In_ok-replay g c).In_ok-reader)

pub returns-clause-form : goal.returns-clause-form
returns-clause-form g c = c.into_journal.ensures.form ∙ (reader_after g (goal.at.returns-clause-form g c).In_ok-replay).form_is

pub returns-clause-range : goal.returns-clause-range
returns-clause-range g c = c.into_journal.ensures.range ∙ (reader_after g (goal.at.returns-clause-range g c).In_ok-replay).range_is

pub returns-clause-epoch : goal.returns-clause-epoch
returns-clause-epoch g c = c.into_journal.ensures.epoch ∙ (reader_after g (goal.at.returns-clause-epoch g c).In_ok-replay).epoch_is

pub returns-clause-stands : goal.returns-clause-stands
returns-clause-stands g c = λ honest.
    let found = replays g (goal.at.returns-clause-stands g c).In_ok-replay honest in
    let journal = c.into_journal.ensures in (
      found.0,
      found.1.holds,
      found.1.leads,
      (
        journal.used ∙ found.2.used ∙ ap (λ (f : Form). sectors_of f (map batch_bytes found.0)) (sym journal.form),
        journal.count ∙ found.2.count,
      ),
    )
