-- What the objects are in version 1 they are seen from the whole disk.
use Rattle.std.proofs.Common.{◌≡◌, inl, ℕ, ◌≤◌, ◌<◌, ◌^◌, List, length, refl, sym, ap, subst, ◌∙◌, arith}
use Rattle.ipc_limits.specs.declared.limits.Limits.{Limits}
use Rattle.ipc_base.specs.Objects.{PlainObjects, Fit}
use Rattle.ipc_checkpoint.specs.declared.layout.Layout.{Layout}
use Rattle.ipc_checkpoint.specs.Checkpoint.{Holds}
use Rattle.ipc_checkpoint.specs.Matches.{CheckpointMatches}
use Rattle.ipc_checkpoint.specs.View.{CheckpointView, epoch_of, layout_of as saved_layout}
use Rattle.ipc_checkpoint.proofs.CallerLemmas.{CheckpointMatches-holds, CheckpointMatches-stays, Holds-one}
use Rattle.ipc_disk.specs.Calls.{OnlyReads}
use Rattle.ipc_disk.specs.Medium.{Image, Medium, IsHonest, IsDurable, Stays}
use Rattle.ipc_disk.proofs.CallerLemmas.{OnlyReads-as, OnlyReads-ok, OnlyReads-then}
use Rattle.ipc_heap.proofs.CallerLemmas.{Holds-wider}
use Rattle.ipc_state.specs.State.{State, restart}
use Rattle.ipc_state.specs.declared.parked.Object.{Object}
use Rattle.ipc_engine.specs.Changes.{IsTracked}
use Rattle.ipc_engine.specs.Sound.{IsSound}
use Rattle.ipc_image.specs.Format.{format, format_one}
use Rattle.ipc_image.specs.Saved.{StandForStateIn}
use Rattle.ipc_image.specs.Sizes.{area_of}
use Rattle.ipc_image.specs.declared.superblock.Superblock.{Superblock}
use Rattle.ipc_image.proofs.CallerLemmas.{each-at-least, old-saved-fits}
use Rattle.ipc_store.specs.Image.{layout_in, named_sectors, objects_range, HasBaseIn, HasBatches, LeadToBy}
use Rattle.ipc_store.specs.Refusals.{IsOldDamage}
use Rattle.ipc_store.specs.Relations.Upgrade.{whole_layout, HasOld, IsNamed}
use Rattle.ipc_store.proofs.Devices.{has-spare}
use Rattle.ipc_store.proofs.Faults.{ok-device, passed-device}
use Rattle.ipc_store.proofs.Greater.{area-greater, few-of-two, restart-waits, sound-greater}
use Rattle.ipc_store.proofs.Loaded.{OnlyReads-never, stays-durable}
use Rattle.ipc_store.proofs.Opened.{base-damaged}
use Rattle.ipc_store.proofs.Refusals.{damage-map, passed}
use Rattle.ipc_store.proofs.upgrade.read_state.Given.{Over}
use Rattle.ipc_store.proofs.upgrade.read_state.Goals as goal
use Rattle.ipc_store.proofs.upgrade.read_state.Goals.{In_ok-load_base, In_ok-checkpoint}

-- the image has no more sectors than can be counted
few : (g : Over) (d : _) → IsHonest (g.D.SectorDisk.medium d) → length (g.D.SectorDisk.medium d).contents < 2 ^ 32
few g d honest = omega (arith, (g.met.D.SectorDisk.shaped d (g.D.SectorDisk.medium d).contents honest.reads).count, g.met.D.SectorDisk.fits d)

-- the objects of the device, as a wider range has them
module _ (limits own : Limits) (superblock : Superblock) (size : ℕ) (image : Image) (named : IsNamed superblock image) (there : superblock.sectors ≤ size) where
  pub seen-from-all : (epoch : ℕ) (objects : PlainObjects) → Holds (layout_in format_one superblock.limits superblock.sectors) epoch objects image
      → Holds (whole_layout limits size) epoch objects image
  seen-from-all epoch objects =
      Holds-wider (objects_range format_one superblock.sectors) (objects_range format size) format_one.root epoch objects image
      (λ i inside. (inside.0, omega (arith, inside.1, there)))

-- what was loaded is there, on the disk as it was
in-place : (limits : Limits) (sectors : ℕ) (checkpoint : CheckpointView) (objects : PlainObjects) (old mid : Medium)
    → saved_layout checkpoint ≡ layout_in format_one limits sectors → CheckpointMatches checkpoint objects mid → IsHonest mid
    → mid.contents ≡ old.contents → Holds (layout_in format_one limits sectors) (epoch_of checkpoint) objects old.contents
in-place limits sectors checkpoint objects old mid layout matches honest same =
    subst (λ (i : Image). Holds (layout_in format_one limits sectors) (epoch_of checkpoint) objects i) same
    (subst (λ (l : Layout). Holds l (epoch_of checkpoint) objects mid.contents) layout
    (CheckpointMatches-holds checkpoint objects mid matches mid.contents honest.reads))

-- in the place where version 1 has them
base-there : (g : Over) (c : In_ok-load_base g) → IsHonest (g.D.SectorDisk.medium c.args.disk.now) → IsDurable (g.D.SectorDisk.medium c.args.disk.now)
    → Holds (layout_in format_one c.args.superblock.limits c.args.superblock.sectors) (epoch_of c.in_ok-load_base.field-0.0)
    c.in_ok-load_base.ensures.base.0 (g.D.SectorDisk.medium c.args.disk.now).contents
base-there g c honest durable =
    let reads = c.load_base.ensures.reads.stays honest in
    in-place c.args.superblock.limits c.args.superblock.sectors c.in_ok-load_base.field-0.0 c.in_ok-load_base.ensures.base.0
    (g.D.SectorDisk.medium c.args.disk.now) (g.D.SectorDisk.medium c.load_base.new.disk) c.in_ok-load_base.ensures.layout
    (c.in_ok-load_base.ensures.base.3 honest durable) (reads.time.honest.0 honest) (reads.contents honest)

-- ---- after they were seen from the whole disk

module _ (g : Over) (c : In_ok-checkpoint g) (honest : IsHonest (g.D.SectorDisk.medium c.args.disk.now))
    (durable : IsDurable (g.D.SectorDisk.medium c.args.disk.now)) (named : IsNamed c.args.superblock (g.D.SectorDisk.medium c.args.disk.now).contents) where
  abbrev old : Medium
  old = g.D.SectorDisk.medium c.args.disk.now

  abbrev mid : Medium
  mid = g.D.SectorDisk.medium c.load_base.new.disk

  abbrev wide : Medium
  wide = g.D.SectorDisk.medium c.load_whole.new.disk

  honest-mid : IsHonest mid
  honest-mid = (c.load_base.ensures.reads.stays honest).time.honest.0 honest

  durable-mid : IsDurable mid
  durable-mid = stays-durable old mid honest (c.load_base.ensures.reads.stays honest) durable

  stays-wide : Stays mid wide
  stays-wide = c.load_whole.ensures.reads.stays honest-mid

  same-wide : wide.contents ≡ old.contents
  same-wide = stays-wide.contents honest-mid ∙ (c.load_base.ensures.reads.stays honest).contents honest

  honest-wide : IsHonest wide
  honest-wide = stays-wide.time.honest.0 honest-mid

  durable-wide : IsDurable wide
  durable-wide = stays-durable mid wide honest-mid stays-wide durable-mid

  abbrev size : ℕ
  size = g.D.SectorDisk.size c.load_base.new.disk

  abbrev objects : PlainObjects
  objects = c.in_ok-checkpoint.ensures.base.0

  abbrev epoch : ℕ
  epoch = epoch_of c.in_ok-checkpoint.checkpoint

  matches : CheckpointMatches c.in_ok-checkpoint.checkpoint objects wide
  matches = c.in_ok-checkpoint.ensures.base.3 honest-mid durable-mid

  -- the objects that were seen are those that were read in their place
  there : Holds (layout_in format_one c.args.superblock.limits (named_sectors old.contents)) epoch objects old.contents
  there =
      let first = c.in_ok-load_base.field-0.0 in
      let its : PlainObjects = c.in_ok-load_base.ensures.base.0 in
      let placed : Holds (layout_in format_one c.args.superblock.limits c.args.superblock.sectors) (epoch_of first) its old.contents =
      in-place c.args.superblock.limits c.args.superblock.sectors first its old mid c.in_ok-load_base.ensures.layout
      (c.in_ok-load_base.ensures.base.3 honest durable) honest-mid ((c.load_base.ensures.reads.stays honest).contents honest) in
      let seen : Holds (whole_layout c.args.limits.now size) epoch objects old.contents =
      subst (λ (i : Image). Holds (whole_layout c.args.limits.now size) epoch objects i) same-wide
      (subst (λ (l : Layout). Holds l epoch objects wide.contents) c.in_ok-checkpoint.ensures.layout
      (CheckpointMatches-holds c.in_ok-checkpoint.checkpoint objects wide matches wide.contents honest-wide.reads)) in
      let one = Holds-one (whole_layout c.args.limits.now size) (epoch_of first) epoch its objects old.contents
      (seen-from-all c.args.limits.now c.args.superblock.limits c.args.superblock size old.contents named
      (omega (arith, c.requires.there, c.load_base.ensures.reads.same.sectors)) (epoch_of first) its placed) seen in
      subst (λ (n : ℕ). Holds (layout_in format_one c.args.superblock.limits n) epoch objects old.contents) named.1
      (subst (λ (n : ℕ). Holds (layout_in format_one c.args.superblock.limits c.args.superblock.sectors) n objects old.contents) one.0
      (subst (λ (o : PlainObjects).
      Holds (layout_in format_one c.args.superblock.limits c.args.superblock.sectors) (epoch_of first) o old.contents) one.1 placed))

  stand : StandForStateIn format_one c.args.superblock.limits c.in_ok-checkpoint.engine.state objects
  stand = c.in_ok-checkpoint.ensures.base.1

  -- and the image has the base for which they stand
  wide-base : HasBaseIn format_one c.args.superblock.limits epoch c.in_ok-checkpoint.engine.state old.contents
  wide-base = record { device = named.0; objects = objects; there = there; stand = stand }

-- ---- the exits

pub returns-in_err-load_base-clause-refused : goal.returns-in_err-load_base-clause-refused
returns-in_err-load_base-clause-refused g c =
    passed _ c.from_residual.result c.in_err-load_base.field-0.0 c.from_residual.ensures.1
    (damage-map _ _ c.in_err-load_base.field-0.0
    (λ sector damage honest durable named.
    let has = damage honest named.0 named.1 in
    inl (base-damaged format_one (inl refl) c.args.superblock.limits _ (few g c.args.disk.now honest) named.0 has.none, has.first))
    c.in_err-load_base.ensures.refused)

pub returns-in_err-checkpoint-clause-refused : goal.returns-in_err-checkpoint-clause-refused
returns-in_err-checkpoint-clause-refused g c =
    passed _ c.from_residual-in_err-checkpoint.result c.in_err-checkpoint.field-0.0 c.from_residual-in_err-checkpoint.ensures.1
    (damage-map _ _ c.in_err-checkpoint.field-0.0
    (λ sector damage honest durable named. absurd (
    let here = (goal.at.returns-in_err-checkpoint-clause-refused g c).In_ok-load_base in
    let disk = c.load_base.new.disk in
    let limits : Limits = c.args.limits.now in
    let base = c.in_ok-load_base.ensures.base in
    let wide : Layout = whole_layout limits (g.D.SectorDisk.size disk) in
    damage ((c.load_base.ensures.reads.stays honest).time.honest.0 honest)
    (epoch_of c.in_ok-load_base.field-0.0) base.0 c.in_ok-load_base.field-0.1.state
    (subst (λ (i : Image). Holds wide (epoch_of c.in_ok-load_base.field-0.0) base.0 i) (sym ((c.load_base.ensures.reads.stays honest).contents honest))
    (seen-from-all limits c.args.superblock.limits c.args.superblock (g.D.SectorDisk.size disk)
    (g.D.SectorDisk.medium c.args.disk.now).contents named (omega (arith, c.requires.there, c.load_base.ensures.reads.same.sectors))
    (epoch_of c.in_ok-load_base.field-0.0) base.0 (base-there g here honest durable)))
    base.1))
    c.in_err-checkpoint.ensures.refused)

-- the reads so far, none of which failed
base-reads : (g : Over) (c : In_ok-load_base g)
    → OnlyReads g.D.SectorDisk.size g.D.SectorDisk.medium g.D.SectorDisk.counts ⊥ c.args.disk.now c.load_base.new.disk
base-reads g c = OnlyReads-ok (ok-device _) c.in_ok-load_base.ensures.reads

pub returns-in_err-checkpoint-clause-reads : goal.returns-in_err-checkpoint-clause-reads
returns-in_err-checkpoint-clause-reads g c =
    let device = passed-device c.load_whole.result c.from_residual-in_err-checkpoint.result c.in_err-checkpoint.field-0.0 c.in_err-checkpoint.was
    c.from_residual-in_err-checkpoint.ensures.1 in
    OnlyReads-then (base-reads g (goal.at.returns-in_err-checkpoint-clause-reads g c).In_ok-load_base)
    (OnlyReads-as device.0 device.1 c.load_whole.ensures.reads)

wide-reads : (g : Over) (c : In_ok-checkpoint g)
    → OnlyReads g.D.SectorDisk.size g.D.SectorDisk.medium g.D.SectorDisk.counts ⊥ c.args.disk.now c.load_whole.new.disk
wide-reads g c = OnlyReads-then (OnlyReads-ok (ok-device _) c.in_ok-load_base.ensures.reads) (OnlyReads-ok (ok-device _) c.in_ok-checkpoint.ensures.reads)

pub returns-in_err-go_through_journal-clause-reads : goal.returns-in_err-go_through_journal-clause-reads
returns-in_err-go_through_journal-clause-reads g c =
    let device = passed-device c.go_through_journal.result c.from_residual-in_err-go_through_journal.result c.in_err-go_through_journal.field-0.0
    c.in_err-go_through_journal.was c.from_residual-in_err-go_through_journal.ensures.1 in
    OnlyReads-then (wide-reads g (goal.at.returns-in_err-go_through_journal-clause-reads g c).In_ok-checkpoint)
    (OnlyReads-as device.0 device.1 c.go_through_journal.ensures.reads)

pub returns-clause-reads : goal.returns-clause-reads
returns-clause-reads g c =
    OnlyReads-never (ok-device _) (OnlyReads-then (wide-reads g (goal.at.returns-clause-reads g c).In_ok-checkpoint)
    (OnlyReads-ok (ok-device _) c.in_ok-go_through_journal.ensures.reads))

pub returns-in_err-go_through_journal-clause-refused : goal.returns-in_err-go_through_journal-clause-refused
returns-in_err-go_through_journal-clause-refused g c =
    passed _ c.from_residual-in_err-go_through_journal.result c.in_err-go_through_journal.field-0.0
    c.from_residual-in_err-go_through_journal.ensures.1
    (damage-map _ _ c.in_err-go_through_journal.field-0.0
    (λ sector damage honest durable named.
    let here = (goal.at.returns-in_err-go_through_journal-clause-refused g c).In_ok-checkpoint in
    let engine = c.in_ok-checkpoint.engine in
    let at : ℕ = epoch_of c.in_ok-checkpoint.checkpoint in
    let same = same-wide g here honest durable named in
    subst (λ (i : Image). IsOldDamage i sector) same
    (damage (honest-wide g here honest durable named)
    (durable-wide g here honest durable named)
    (subst (λ (l : Limits). HasBaseIn format_one l at engine.state (g.D.SectorDisk.medium c.load_whole.new.disk).contents)
    (sym c.in_ok-checkpoint.ensures.limits)
    (subst (λ (i : Image). HasBaseIn format_one c.args.superblock.limits at engine.state i) (sym same) (wide-base g here honest durable named)))))
    c.in_err-go_through_journal.ensures.refused)

pub returns-clause-spare : goal.returns-clause-spare
returns-clause-spare g c =
    let own : Limits = c.args.superblock.limits in
    let limits : Limits = c.args.limits.now in
    let base = c.in_ok-checkpoint.ensures.base in
    let stand : StandForStateIn format_one own c.in_ok-checkpoint.engine.state base.0 = base.1 in
    let fit : Fit (area_of own) base.0 =
    subst (λ (o : PlainObjects). Fit (area_of own) o) (sym stand.are) (old-saved-fits own c.in_ok-checkpoint.engine.state c.requires.own.passed stand.sound) in
    let less = area-greater own limits (each-at-least limits own c.requires.greater) in
    let layout : Layout = whole_layout limits (g.D.SectorDisk.size c.load_base.new.disk) in
    has-spare layout c.in_ok-checkpoint.checkpoint base.0 c.in_ok-checkpoint.ensures.layout (omega (arith, fit, less))
    (base.2 ∙ ap (λ (l : Layout). l.range.count) c.in_ok-checkpoint.ensures.layout)

pub returns-clause-sound : goal.returns-clause-sound
returns-clause-sound g c =
    let own : Limits = c.args.superblock.limits in
    let limits : Limits = c.args.limits.now in
    let engine = c.go_through_journal.new.engine in
    let after = c.in_ok-go_through_journal.ensures.restarted in
    sound-greater own limits engine.state (each-at-least limits own c.requires.greater)
    (ap (λ (s : State). s.wait) after.1 ∙ restart-waits c.in_ok-checkpoint.engine.limits after.0) (few-of-two limits c.requires.of.version engine.state)
    (subst (λ (l : Limits). IsSound l engine.state) (c.go_through_journal.ensures.limits ∙ c.in_ok-checkpoint.ensures.limits)
    c.in_ok-go_through_journal.ensures.sound)

pub returns-clause-read : goal.returns-clause-read
returns-clause-read g c = λ honest durable named.
    let here = (goal.at.returns-clause-read g c).In_ok-checkpoint in
    let wide : Medium = g.D.SectorDisk.medium c.load_whole.new.disk in
    let new : Medium = g.D.SectorDisk.medium c.go_through_journal.new.disk in
    let own : Limits = c.args.superblock.limits in
    let machine = c.go_through_journal.new.engine in
    let checkpoint = c.in_ok-checkpoint.checkpoint in
    let base = c.in_ok-checkpoint.engine.state in
    let objects : PlainObjects = c.in_ok-checkpoint.ensures.base.0 in
    let honest-there = honest-wide g here honest durable named in
    let durable-there = durable-wide g here honest durable named in
    let stays = c.go_through_journal.ensures.reads.stays honest-there in
    let same : new.contents ≡ wide.contents = stays.contents honest-there in
    let limits : machine.limits ≡ own = c.go_through_journal.ensures.limits ∙ c.in_ok-checkpoint.ensures.limits in
    let after = c.in_ok-go_through_journal.ensures.restarted in
    let led = after.2 honest-there durable-there in
    let whole : HasOld own (epoch_of checkpoint) objects led.0 new.contents =
    subst (HasOld own (epoch_of checkpoint) objects led.0) (sym (same ∙ same-wide g here honest durable named)) (record {
      device = named.0;
      there = there g here honest durable named;
      journal = subst (HasBatches format_one (epoch_of checkpoint) led.0) (same-wide g here honest durable named) led.1;
    }) in
    record {
      durable = stays-durable wide new honest-there stays durable-there;
      state = after.0;
      base = base;
      objects = objects;
      batches = led.0;
      old = subst (λ (l : Limits). HasOld l (epoch_of checkpoint) objects led.0 new.contents) (sym limits) whole;
      stand = subst (λ (l : Limits). StandForStateIn format_one l base objects) (sym limits) (c.in_ok-checkpoint.ensures.base.1);
      leads = subst (λ (l : Limits). LeadToBy format_one.batch l base led.0 after.0) (sym (c.go_through_journal.ensures.limits)) led.2;
      saved = CheckpointMatches-stays checkpoint objects wide new stays (matches g here honest durable named);
      restarted = after.1 ∙ ap (λ (l : Limits). restart l after.0) (sym c.go_through_journal.ensures.limits);
      tracked = c.in_ok-go_through_journal.ensures.tracked base
          (subst (λ (marks : List Object). IsTracked marks base base) (sym c.in_ok-checkpoint.ensures.changed) (λ o off e is. is));
    }

pub returns-clause-limits : goal.returns-clause-limits
returns-clause-limits g c = c.go_through_journal.ensures.limits ∙ c.in_ok-checkpoint.ensures.limits
