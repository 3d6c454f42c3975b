-- One batch more is replayed, or what stands there is no batch that goes on from here.
use Rattle.std.proofs.Common.{◌≡◌, ◌⊎◌, ◌+◌, ◌++◌, ◌∷◌, [], ℕ, List, Option, Ok, Err, true, length, take, drop, map}
use Rattle.std.proofs.Common.{refl, sym, ap, ◌∙◌, subst, arith}
use Rattle.std.specs.Result.{IsErrOf}
use Rattle.std.proofs.lemmas.Bool.{false≢true}
use Rattle.std.proofs.lemmas.List.{length-take-le}
use Rattle.ipc_disk.specs.declared.range.Range.{Range}
use Rattle.ipc_disk.specs.Medium.{Image, IsHonest}
use Rattle.ipc_disk.specs.Calls.{OnlyReads}
use Rattle.ipc_disk.proofs.CallerLemmas.{OnlyReads-start, OnlyReads-then, OnlyReads-as, OnlyReads-ok}
use Rattle.ipc_journal.specs.declared.error.JournalError.{JournalError}
use Rattle.ipc_journal.specs.declared.error.JournalError.TheVariants as journal
use Rattle.ipc_journal.specs.declared.form.Form.{Form}
use Rattle.ipc_journal.specs.declared.reader.Reader.{Reader}
use Rattle.ipc_journal.specs.Journal.{sector_of, sectors_in, EndsAt, HasLater, HasMore, HasNone, IsNext}
use Rattle.ipc_journal.specs.Reader.{place_of, before_of, form_read, range_read, epoch_read, HasRead, IsReaderOf}
use Rattle.ipc_state.specs.State.{State}
use Rattle.ipc_engine.specs.Event.{PlainEvent}
use Rattle.ipc_store.specs.Batch.{batch_bytes}
use Rattle.ipc_image.specs.declared.format.Format.{Format}
use Rattle.ipc_store.specs.Image.{journal_form, journal_range}
use Rattle.ipc_store.specs.View.{of_journal_error}
use Rattle.ipc_store.specs.Relations.Replay.{AreRecords}
use Rattle.ipc_store.proofs.Loaded.{OnlyReads-never}
use Rattle.ipc_store.proofs.Faults.{journal-device, ok-device, opened-damage, read-device, damaged-device, memory-device}
use Rattle.ipc_store.proofs.Refusals.{passed}
use Rattle.ipc_store.proofs.Replaying.{Found, as-journal, replayed_none, replayed_more, replayed_refused, replayed_all, replayed_damaged}
use Rattle.ipc_store.proofs.Replaying.{records_slice, take_below, AreRecords-same}
use Rattle.ipc_store.proofs.replay.replay.Given.{Over}
use Rattle.ipc_store.proofs.replay.replay.Goals as goal
use Rattle.ipc_store.proofs.replay.replay.Goals.{After-next_batch, In_ok-go_through}

-- a batch is read: the disk is as it was
reads_on : (g : Over) (c : After-next_batch g)
    → OnlyReads g.D.SectorDisk.size g.D.SectorDisk.medium g.D.SectorDisk.counts (IsErrOf c.next_batch.result journal.Device) c.args.disk.now
    c.next_batch.new.disk
reads_on g c = OnlyReads-then c.loop-len.invariant.reads c.next_batch.ensures.reads

-- and none of the calls has failed
reads_well : (g : Over) (c : After-next_batch g) (found : Option ℕ) → c.next_batch.result ≡ Ok found
    → OnlyReads g.D.SectorDisk.size g.D.SectorDisk.medium g.D.SectorDisk.counts ⊥ c.args.disk.now c.next_batch.new.disk
reads_well g c found was = OnlyReads-ok (read-device c.next_batch.result found was) (reads_on g c)

pub loop-len-init : goal.loop-len-init
loop-len-init g c = record {
  room = refl;
  of = record { form_is = refl; range_is = refl; epoch_is = refl };
  limits = refl;
  tracked = λ base is. is;
  replayed = λ honest d epoch is read. replayed_none d (length c.args.room.now) c.args.engine.now.limits c.args.engine.now.state epoch
      (g.D.SectorDisk.medium c.args.disk.now).contents c.args.reader.now is read;
  reads = OnlyReads-start c.args.disk.now;
}

-- what was read is the next batch
found_there : (g : Over) (c : In_ok-go_through g) → IsHonest (g.D.SectorDisk.medium c.args.disk.now) → (d : Format) (epoch : ℕ)
    → IsReaderOf (journal_form d) (journal_range d) epoch c.args.reader.now → HasRead c.args.reader.now [] (g.D.SectorDisk.medium c.args.disk.now).contents
    → Found d (length c.args.room.now) epoch (g.D.SectorDisk.medium c.args.disk.now).contents (place_of c.loop-len.reader) (before_of c.loop-len.reader)
    (take c.in-Some.len c.next_batch.new.into)
found_there g c honest d epoch of read =
    let inv = c.loop-len.invariant in
    let replayed = inv.replayed honest d epoch of read in
    let e = c.in_ok-len.ensures in
    let len = c.in-Some.len in
    let room : List ℕ = c.next_batch.new.into in
    let bytes : List ℕ = take len room in
    let calls = inv.reads.stays honest in
    let contents = calls.contents honest in
    let image : Image = (g.D.SectorDisk.medium c.args.disk.now).contents in
    let now = subst (HasRead c.loop-len.reader (map batch_bytes replayed.so_far.0)) (sym contents) replayed.so_far.2 in
    let long : length bytes ≡ len = length-take-le len room (omega (arith, e.fits len c.in-Some.is, c.next_batch.auto.into)) in
    record {
      next = as-journal d (λ (f : Form) (r : Range) (n : ℕ). IsNext f r n (place_of c.loop-len.reader) (before_of c.loop-len.reader) bytes image)
          epoch c.loop-len.reader replayed.of
          (subst
          (λ (i : Image). IsNext (form_read c.loop-len.reader) (range_read c.loop-len.reader) (epoch_read c.loop-len.reader)
          (place_of c.loop-len.reader) (before_of c.loop-len.reader) bytes i)
          contents (e.next len c.in-Some.is (calls.time.honest.0 honest) (map batch_bytes replayed.so_far.0) now));
      short = omega (arith, long, e.fits len c.in-Some.is, inv.room);
      field = take_below 4 bytes (take_below len room (e.bytes len c.in-Some.is));
    }

-- whatever events its records are of, the machine has gone through them
only_there : (g : Over) (c : In_ok-go_through g) (events : List PlainEvent) (to : State)
    → AreRecords c.args.engine.now.limits c.loop-len.engine.state (drop 4 (take c.in-Some.len c.next_batch.new.into)) events to
    → (c.in_ok-go_through.field-0 ≡ true) × (c.go_through.new.engine.state ≡ to)
only_there g c events to are =
    c.in_ok-go_through.ensures.only events to
    (AreRecords-same _ _ c.loop-len.engine.state to _ _ events (sym c.loop-len.invariant.limits)
    (sym (records_slice c.in-Some.len c.next_batch.new.into (c.in_ok-len.ensures.least c.in-Some.len c.in-Some.is))) are)

-- the sector that the reader names
sector_is : (d : Format) (reader : Reader) (epoch : ℕ) → IsReaderOf (journal_form d) (journal_range d) epoch reader → (sector : ℕ)
    → sector ≡ sector_of (form_read reader) (range_read reader) (place_of reader) → sector ≡ sector_of (journal_form d) (journal_range d) (place_of reader)
sector_is d reader epoch of sector is =
    is ∙ ap (λ (f : Form). sector_of f (range_read reader) (place_of reader)) of.form_is
    ∙ ap (λ (r : Range). sector_of (journal_form d) r (place_of reader)) of.range_is

pub returns-in_err-len-clause-refused : goal.returns-in_err-len-clause-refused
returns-in_err-len-clause-refused g c =
    passed _ c.from_residual.result (of_journal_error c.in_err-len.field-0.0) c.from_residual.ensures.1
    (opened-damage c.in_err-len.field-0.0 _
    (λ sector is honest d epoch of read.
    let inv = c.loop-len.invariant in
    let reader = c.loop-len.reader in
    let image : Image = (g.D.SectorDisk.medium c.args.disk.now).contents in
    let calls = inv.reads.stays honest in
    let contents = calls.contents honest in
    let replayed = inv.replayed honest d epoch of read in
    let was = ap (λ (x : JournalError). Err x) is in
    let now = subst (HasRead reader (map batch_bytes replayed.so_far.0)) (sym contents) replayed.so_far.2 in
    let bad = c.in_err-len.ensures.damaged sector was (calls.time.honest.0 honest) (map batch_bytes replayed.so_far.0) now in
    replayed_damaged d (length c.args.room.now) c.requires.room c.args.engine.now.limits c.args.engine.now.state epoch image reader
    c.loop-len.engine.state replayed
    (as-journal d (λ (f : Form) (r : Range) (n : ℕ). HasLater f r n (place_of reader) image
    ⊎ (HasMore f r n (place_of reader) (before_of reader) image
    × HasNone f r n (place_of reader) (before_of reader) (length c.args.room.now) image)) epoch reader replayed.of
    (subst
    (λ (i : Image). HasLater (form_read reader) (range_read reader) (epoch_read reader) (place_of reader) i
    ⊎ (HasMore (form_read reader) (range_read reader) (epoch_read reader) (place_of reader) (before_of reader) i
    × HasNone (form_read reader) (range_read reader) (epoch_read reader) (place_of reader) (before_of reader) (length c.args.room.now) i))
    contents
    (subst
    (λ (k : ℕ). HasLater (form_read reader) (range_read reader) (epoch_read reader) (place_of reader) (g.D.SectorDisk.medium c.loop-len.disk).contents
    ⊎ (HasMore (form_read reader) (range_read reader) (epoch_read reader) (place_of reader) (before_of reader)
    (g.D.SectorDisk.medium c.loop-len.disk).contents
    × HasNone (form_read reader) (range_read reader) (epoch_read reader) (place_of reader) (before_of reader) k
    (g.D.SectorDisk.medium c.loop-len.disk).contents))
    inv.room bad)))
    sector (sector_is d reader epoch replayed.of sector (c.in_err-len.ensures.named sector was))))

pub returns-in_err-len-clause-reads : goal.returns-in_err-len-clause-reads
returns-in_err-len-clause-reads g c =
    let device = journal-device c.next_batch.result c.from_residual.result c.in_err-len.field-0.0 c.in_err-len.was c.from_residual.ensures.1 in
    OnlyReads-as device.0 device.1 (reads_on g (goal.at.returns-in_err-len-clause-reads g c).After-next_batch)

pub returns-in_default-clause-replays : goal.returns-in_default-clause-replays
returns-in_default-clause-replays g c = λ honest d epoch of read.
    let inv = c.loop-len.invariant in
    let reader = c.loop-len.reader in
    let image : Image = (g.D.SectorDisk.medium c.args.disk.now).contents in
    let calls = inv.reads.stays honest in
    let contents = calls.contents honest in
    let replayed = inv.replayed honest d epoch of read in
    let now = subst (HasRead reader (map batch_bytes replayed.so_far.0)) (sym contents) replayed.so_far.2 in
    let none = c.in_ok-len.was ∙ ap Ok c.in_default.is in
    let end = c.next_batch.ensures.ended none (calls.time.honest.0 honest) (map batch_bytes replayed.so_far.0) now in
    let all = replayed_all d (length c.args.room.now) c.requires.room c.args.engine.now.limits c.args.engine.now.state epoch image reader
    c.loop-len.engine.state replayed
    (as-journal d (λ (f : Form) (r : Range) (n : ℕ). EndsAt f r n (place_of reader) (before_of reader) image) epoch reader replayed.of
    (subst (λ (i : Image). EndsAt (form_read reader) (range_read reader) (epoch_read reader) (place_of reader) (before_of reader) i) contents end)) in
    (all.0, all.1, subst (λ (r : Reader). HasRead r (map batch_bytes all.0) image) (sym (c.next_batch.ensures.none none)) all.2)

pub returns-in_default-clause-reads : goal.returns-in_default-clause-reads
returns-in_default-clause-reads g c =
    OnlyReads-never (ok-device _) (reads_well g (goal.at.returns-in_default-clause-reads g c).After-next_batch c.in_ok-len.field-0 c.in_ok-len.was)

pub returns-in_err-go_through-clause-reads : goal.returns-in_err-go_through-clause-reads
returns-in_err-go_through-clause-reads g c =
    OnlyReads-never (memory-device c.from_residual-in_err-go_through.result c.from_residual-in_err-go_through.ensures.1)
    (reads_well g (goal.at.returns-in_err-go_through-clause-reads g c).After-next_batch c.in_ok-len.field-0 c.in_ok-len.was)

pub returns-then-not-branch-clause-refused : goal.returns-then-not-branch-clause-refused
returns-then-not-branch-clause-refused g c = λ honest d epoch of read.
    let here = (goal.at.returns-then-not-branch-clause-refused g c).In_ok-go_through in
    let replayed = c.loop-len.invariant.replayed honest d epoch of read in
    replayed_refused d (length c.args.room.now) c.requires.room _ _ epoch _ c.loop-len.reader _ replayed _ (found_there g here honest d epoch of read)
    (λ es t are. false≢true (sym c.if-not-branch.true ∙ (only_there g here es t are).0)) _
    (sector_is d c.loop-len.reader epoch replayed.of _ c.sector-sector.ensures)

pub returns-then-not-branch-clause-reads : goal.returns-then-not-branch-clause-reads
returns-then-not-branch-clause-reads g c =
    OnlyReads-never (damaged-device _) (reads_well g (goal.at.returns-then-not-branch-clause-reads g c).After-next_batch c.in_ok-len.field-0 c.in_ok-len.was)

pub loop-len-preserved : goal.loop-len-preserved
loop-len-preserved g c =
    let here = (goal.at.loop-len-preserved g c).In_ok-go_through in
    let inv = c.loop-len.invariant in
    let e = c.in_ok-len.ensures in
    let len = c.in-Some.len in
    let room = c.next_batch.new.into in
    let s = c.loop-len.engine.state in
    let t = c.go_through.new.engine.state in
    let old = c.loop-len.reader in
    let new = c.next_batch.new.self in
    let events = c.in_ok-go_through.ensures.all c.if-not-branch.false in
    let are = AreRecords-same _ _ s t _ _ events.0 inv.limits (records_slice len room (e.least len c.in-Some.is)) events.1 in
    let size : length (take len room) ≡ len = length-take-le len room (omega (arith, e.fits len c.in-Some.is, c.next_batch.auto.into)) in
    let of_next : (form : Form) (range : Range) (epoch : ℕ) → IsReaderOf form range epoch old → IsReaderOf form range epoch new = λ form range epoch of.
    record {
      form_is = c.next_batch.ensures.of.form_is ∙ of.form_is;
      range_is = c.next_batch.ensures.of.range_is ∙ of.range_is;
      epoch_is = c.next_batch.ensures.of.epoch_is ∙ of.epoch_is;
    } in
    record {
      room = omega (arith, c.next_batch.auto.into, inv.room);
      of = of_next _ _ _ inv.of;
      limits = c.in_ok-go_through.ensures.limits ∙ inv.limits;
      tracked = λ base is. c.go_through.ensures.tracked base (inv.tracked base is);
      replayed = λ honest d epoch of read.
          let image : Image = (g.D.SectorDisk.medium c.args.disk.now).contents in
          let calls = inv.reads.stays honest in
          let contents = calls.contents honest in
          let replayed = inv.replayed honest d epoch of read in
          let now = subst (HasRead old (map batch_bytes replayed.so_far.0)) (sym contents) replayed.so_far.2 in
          replayed_more d (length c.args.room.now) c.requires.room _ _ epoch image old s replayed (take len room) (found_there g here honest d epoch of read)
          new (of_next _ _ _ replayed.of)
          (subst (HasRead new (map batch_bytes replayed.so_far.0 ++ take len room ∷ [])) contents
          (e.more len c.in-Some.is (calls.time.honest.0 honest) (map batch_bytes replayed.so_far.0) now))
          (e.passes len c.in-Some.is ∙ ap (λ (f : Form). place_of old + sectors_in f len) replayed.of.form_is
          ∙ ap (λ (n : ℕ). place_of old + sectors_in (journal_form d) n) (sym size))
          (e.counts len c.in-Some.is) events.0 t are (λ es to good. (only_there g here es to good).1);
      reads = reads_well g (goal.at.loop-len-preserved g c).After-next_batch c.in_ok-len.field-0 c.in_ok-len.was;
    }

pub loop-len-smaller : goal.loop-len-smaller
loop-len-smaller g c =
    let e = c.in_ok-len.ensures in
    let len = c.in-Some.len in
    let is = c.in-Some.is in
    omega (arith, e.goes_on len is, e.inside len is, ap (λ (r : Range). r.count) c.loop-len.invariant.of.range_is)

pub returns-in_err-go_through-clause-tracked : goal.returns-in_err-go_through-clause-tracked
returns-in_err-go_through-clause-tracked g c = λ base is. c.go_through.ensures.tracked base (c.loop-len.invariant.tracked base is)

pub returns-then-not-branch-clause-tracked : goal.returns-then-not-branch-clause-tracked
returns-then-not-branch-clause-tracked g c = λ base is. c.go_through.ensures.tracked base (c.loop-len.invariant.tracked base is)
