-- After the superblock: what was read is what stood there before.
use Rattle.std.proofs.Common.{◌≡◌, ◌≤◌, ap, ℕ, ◌<◌, ◌^◌, List, length, sym, subst, ◌∙◌, arith}
use Rattle.ipc_limits.specs.declared.limits.Limits.{Limits}
use Rattle.ipc_base.specs.Objects.{PlainObjects, Fit}
use Rattle.ipc_checkpoint.specs.View.{epoch_of as saved_epoch}
use Rattle.ipc_checkpoint.proofs.CallerLemmas.{CheckpointMatches-stays}
use Rattle.ipc_disk.proofs.CallerLemmas.{OnlyReads-as, OnlyReads-ok, OnlyReads-then}
use Rattle.ipc_disk.specs.Medium.{Image, Medium, IsHonest, Stays}
use Rattle.ipc_state.specs.declared.parked.Object.{Object}
use Rattle.ipc_engine.specs.Changes.{IsTracked}
use Rattle.ipc_image.specs.declared.format.Format.{Format}
use Rattle.ipc_image.specs.Format.{device_form, IsFormat}
use Rattle.ipc_image.specs.Saved.{StandForStateIn}
use Rattle.ipc_image.specs.Sizes.{area_in, need_in}
use Rattle.ipc_image.specs.Superblock.{AreOf}
use Rattle.ipc_image.proofs.CallerLemmas.{device-fits, form-batch, form-known}
use Rattle.ipc_store.specs.Batch.{most_bytes}
use Rattle.ipc_store.specs.Image.{journal_form, journal_range, layout_in, IsDeviceIn, HasBaseIn, HasBatches, LeadToBy}
use Rattle.ipc_store.specs.Image.{StandsFor, StandsForIn}
use Rattle.ipc_store.proofs.Devices.{has-spare}
use Rattle.ipc_store.specs.Relations.Loading.{IsFoundDamaged, IsNamedIn}
use Rattle.ipc_store.proofs.Faults.{passed-device}
use Rattle.ipc_store.proofs.Loaded.{stays-durable, Kept, Led, loaded, on-disk}
use Rattle.ipc_store.proofs.Opened.{base-damaged}
use Rattle.ipc_store.proofs.Refusals.{damage-map, passed}
use Rattle.ipc_store.proofs.loading.read_named.Given.{Over}
use Rattle.ipc_store.proofs.loading.read_named.Goals as goal
use Rattle.ipc_store.proofs.loading.read_named.Goals.{In_ok-checkpoint}

module _ (limits : Limits) (form : Format) (is : form ≡ device_form limits) where
  known : IsFormat form
  known = subst IsFormat (sym is) (form-known limits)

  batch-is : form.batch ≡ most_bytes
  batch-is = ap (λ (f : Format). f.batch) is ∙ form-batch limits

pub load_base-requires-clause-known : goal.load_base-requires-clause-known
load_base-requires-clause-known g c = known c.args.superblock.limits c.args.form c.requires.form

pub load_journal-requires-clause-known : goal.load_journal-requires-clause-known
load_journal-requires-clause-known g c = known c.args.superblock.limits c.args.form c.requires.form

-- ---- after the objects

reads-base : (g : Over) (c : In_ok-checkpoint g) → IsHonest (g.D.SectorDisk.medium c.args.disk.now)
    → Stays (g.D.SectorDisk.medium c.args.disk.now) (g.D.SectorDisk.medium c.load_base.new.disk)
reads-base g c honest = c.load_base.ensures.reads.stays honest

-- the base, which the objects stand for
has : (g : Over) (c : In_ok-checkpoint g) → IsHonest (g.D.SectorDisk.medium c.args.disk.now)
    → IsNamedIn c.args.form c.args.superblock (g.D.SectorDisk.medium c.args.disk.now).contents
    → HasBaseIn c.args.form c.args.superblock.limits (saved_epoch c.in_ok-checkpoint.checkpoint) c.in_ok-checkpoint.engine.state
    (g.D.SectorDisk.medium c.load_base.new.disk).contents
has g c honest names =
    subst
    (HasBaseIn c.args.form c.args.superblock.limits (saved_epoch c.in_ok-checkpoint.checkpoint) c.in_ok-checkpoint.engine.state)
    (sym ((reads-base g c honest).contents honest)) (c.in_ok-checkpoint.ensures.there honest names.0 names.1)

-- ---- the exits

pub returns-in_err-checkpoint-clause-refused : goal.returns-in_err-checkpoint-clause-refused
returns-in_err-checkpoint-clause-refused g c =
    let old : Medium = g.D.SectorDisk.medium c.args.disk.now in
    let image : Image = old.contents in
    let form = c.args.form in
    let limits : Limits = c.args.superblock.limits in
    let error = c.in_err-checkpoint.field-0.0 in
    passed _ c.from_residual.result error c.from_residual.ensures.1
    (damage-map _ (λ sector. IsHonest old → IsNamedIn form c.args.superblock image → IsFoundDamaged form image sector) error
    (λ sector damage honest names.
    let few : length image < 2 ^ 32 =
    omega (arith, (g.met.D.SectorDisk.shaped c.args.disk.now image honest.reads).count, g.met.D.SectorDisk.fits c.args.disk.now) in
    let none = damage honest names.0 names.1 in
    (base-damaged form (known limits form c.requires.form) limits image few names.0 none.none, none.first))
    c.in_err-checkpoint.ensures.refused)

pub returns-in_err-checkpoint-clause-reads : goal.returns-in_err-checkpoint-clause-reads
returns-in_err-checkpoint-clause-reads g c =
    let device = passed-device c.load_base.result c.from_residual.result c.in_err-checkpoint.field-0.0 c.in_err-checkpoint.was
    c.from_residual.ensures.1 in
    OnlyReads-as device.0 device.1 c.load_base.ensures.reads

pub returns-in_err-journal-clause-refused : goal.returns-in_err-journal-clause-refused
returns-in_err-journal-clause-refused g c =
    let old : Medium = g.D.SectorDisk.medium c.args.disk.now in
    let mid : Medium = g.D.SectorDisk.medium c.load_base.new.disk in
    let form = c.args.form in
    let limits : Limits = c.args.superblock.limits in
    let error = c.in_err-journal.field-0.0 in
    let checkpoint = c.in_ok-checkpoint.checkpoint in
    let from = c.in_ok-checkpoint.engine.state in
    let here = (goal.at.returns-in_err-journal-clause-refused g c).In_ok-checkpoint in
    passed _ c.from_residual-in_err-journal.result error c.from_residual-in_err-journal.ensures.1
    (damage-map _ (λ sector. IsHonest old → IsNamedIn form c.args.superblock old.contents → IsFoundDamaged form old.contents sector) error
    (λ sector damage honest names.
    let s1 = reads-base g here honest in
    subst (λ (i : Image). IsFoundDamaged form i sector) (s1.contents honest)
    (damage (batch-is limits form c.requires.form ∙ sym c.requires.room) (s1.time.honest.0 honest)
    (subst (λ (l : Limits). HasBaseIn form l (saved_epoch checkpoint) from mid.contents) (sym c.in_ok-checkpoint.ensures.limits) (has g here honest names))))
    c.in_err-journal.ensures.refused)

pub returns-in_err-journal-clause-reads : goal.returns-in_err-journal-clause-reads
returns-in_err-journal-clause-reads g c =
    let device = passed-device c.load_journal.result c.from_residual-in_err-journal.result c.in_err-journal.field-0.0 c.in_err-journal.was
    c.from_residual-in_err-journal.ensures.1 in
    OnlyReads-then (OnlyReads-ok (λ failed. cc) c.in_ok-checkpoint.ensures.reads) (OnlyReads-as device.0 device.1 c.load_journal.ensures.reads)

pub returns-clause-reads : goal.returns-clause-reads
returns-clause-reads g c =
    OnlyReads-as (λ never. absurd never) (λ failed. cc)
    (OnlyReads-then (OnlyReads-ok (λ failed. cc) c.in_ok-checkpoint.ensures.reads) (OnlyReads-ok (λ failed. cc) c.in_ok-journal.ensures.reads))

pub returns-clause-on_disk : goal.returns-clause-on_disk
returns-clause-on_disk g c =
    let limits : Limits = c.args.superblock.limits in
    let is = c.requires.form in
    on-disk limits c.args.superblock.sectors c.in_ok-checkpoint.checkpoint
    (c.in_ok-checkpoint.ensures.layout ∙ ap (λ (f : Format). layout_in f limits c.args.superblock.sectors) is)
    c.in_ok-journal.journal (c.in_ok-journal.ensures.form ∙ ap journal_form is) (c.in_ok-journal.ensures.range ∙ ap journal_range is)
    c.in_ok-journal.ensures.epoch c.load_journal.new.engine
    (c.load_journal.ensures.limits ∙ c.in_ok-checkpoint.ensures.limits) (g.D.SectorDisk.size c.load_journal.new.disk)
    (omega (
      arith,
      c.requires.there,
      c.load_base.ensures.reads.same.sectors,
      c.load_journal.ensures.reads.same.sectors,
    ))
    (subst (λ (f : Format). AreOf f limits) is c.requires.of)
    (subst (λ (f : Format). need_in f limits ≤ c.args.superblock.sectors) is c.requires.own_room)

-- the image stands for the state after the batches
pub returns-clause-stands : goal.returns-clause-stands
returns-clause-stands g c = λ honest names.
    let here = (goal.at.returns-clause-stands g c).In_ok-checkpoint in
    let image : Image = (g.D.SectorDisk.medium c.load_base.new.disk).contents in
    let s2 = reads-base g here honest in
    let h2 = s2.time.honest.0 honest in
    let limits : Limits = c.args.superblock.limits in
    let form = c.args.form in
    let s = c.load_journal.new.engine.state in
    let engine = c.in_ok-checkpoint.engine in
    let read = c.in_ok-journal.ensures.stands h2 in
    let stands : StandsForIn form limits s image = record {
      epoch = saved_epoch c.in_ok-checkpoint.checkpoint;
      base = engine.state;
      kept = has g here honest names;
      batches = read.0;
      journal = read.1;
      leads = subst (λ (l : Limits). LeadToBy form.batch l engine.state read.0 s) c.in_ok-checkpoint.ensures.limits
          (subst (λ (n : ℕ). LeadToBy n engine.limits engine.state read.0 s)
          (c.requires.room ∙ sym (batch-is limits form c.requires.form)) read.2);
    } in
    subst (StandsFor c.load_journal.new.engine.limits s) (s2.contents honest)
    (subst (λ (l : Limits). StandsFor l s image) (sym (c.load_journal.ensures.limits ∙ c.in_ok-checkpoint.ensures.limits))
    (subst (λ (f : Format). StandsForIn f limits s image) c.requires.form stands))

pub returns-clause-loaded : goal.returns-clause-loaded
returns-clause-loaded g c = λ honest durable named.
    let m2 : Medium = g.D.SectorDisk.medium c.load_base.new.disk in
    let m3 : Medium = g.D.SectorDisk.medium c.load_journal.new.disk in
    let limits : Limits = c.args.superblock.limits in
    let form = c.args.form in
    let is = c.requires.form in
    let s12 = c.load_base.ensures.reads.stays honest in
    let h2 = s12.time.honest.0 honest in
    let d2 = stays-durable _ m2 honest s12 durable in
    let s23 = c.load_journal.ensures.reads.stays h2 in
    let names = subst (IsNamedIn form c.args.superblock) (sym (s23.contents h2 ∙ s12.contents honest)) named in
    let from = c.in_ok-checkpoint.engine.state in
    let to = c.load_journal.new.engine.state in
    let base = c.in_ok-checkpoint.ensures.base in
    let epoch = saved_epoch c.in_ok-checkpoint.checkpoint in
    let journal = c.in_ok-journal.journal in
    let tracked : IsTracked c.load_journal.new.engine.changed from to =
    c.load_journal.ensures.tracked from
    (subst (λ (marks : List Object). IsTracked marks from from) (sym c.in_ok-checkpoint.ensures.changed) (λ o off e is. is)) in
    let engine = c.in_ok-checkpoint.engine in
    let read = c.in_ok-journal.ensures.stands h2 in
    let led : Led limits from to epoch journal m3.contents = (
      read.0,
      subst (λ (f : Format). HasBatches f epoch read.0 m3.contents) is (subst (HasBatches form epoch read.0) (sym (s23.contents h2)) read.1),
      subst (λ (n : ℕ). LeadToBy n limits from read.0 to) (c.requires.room ∙ sym (form-batch limits))
          (subst (λ (l : Limits). LeadToBy (length c.args.room.now) l from read.0 to) c.in_ok-checkpoint.ensures.limits read.2),
      read.3,
    ) in
    let kept : Kept (device_form limits) limits from c.in_ok-checkpoint.checkpoint m3 =
    subst (λ (f : Format). Kept f limits from c.in_ok-checkpoint.checkpoint m3) is
    (base.0, base.1, CheckpointMatches-stays c.in_ok-checkpoint.checkpoint base.0 m2 m3 s23 (base.3 honest durable)) in
    loaded limits c.args.superblock.sectors c.in_ok-checkpoint.checkpoint
    (c.in_ok-checkpoint.ensures.layout ∙ ap (λ (f : Format). layout_in f limits c.args.superblock.sectors) is)
    journal (c.in_ok-journal.ensures.form ∙ ap journal_form is) (c.in_ok-journal.ensures.range ∙ ap journal_range is) c.in_ok-journal.ensures.epoch
    c.load_journal.new.engine (c.load_journal.ensures.limits ∙ c.in_ok-checkpoint.ensures.limits) m3 from (s23.time.honest.0 h2)
    (stays-durable m2 m3 h2 s23 d2) (subst (λ (f : Format). IsDeviceIn f limits m3.contents) is names.0) names.1 kept led tracked

-- all is free but an area
pub returns-clause-spare : goal.returns-clause-spare
returns-clause-spare g c =
    let limits : Limits = c.args.superblock.limits in
    let form = c.args.form in
    let base = c.in_ok-checkpoint.ensures.base in
    let is = c.requires.form in
    let d = device_form limits in
    let stand : StandForStateIn d limits c.in_ok-checkpoint.engine.state base.0 =
    subst (λ (f : Format). StandForStateIn f limits c.in_ok-checkpoint.engine.state base.0) is base.1 in
    let fit : Fit (area_in d limits) base.0 = subst (λ (o : PlainObjects). Fit (area_in d limits) o) (sym stand.are)
    (device-fits limits c.in_ok-checkpoint.engine.state (subst (λ (f : Format). AreOf f limits) is c.requires.of) stand.sound) in
    has-spare (layout_in form limits c.args.superblock.sectors) c.in_ok-checkpoint.checkpoint base.0 c.in_ok-checkpoint.ensures.layout
    (subst (λ (f : Format). Fit (area_in f limits) base.0) (sym is) fit) base.2
