-- The limits, and then the state.
use Rattle.std.proofs.Common.{◌≡◌, Err, sym, ap, subst}
use Rattle.ipc_limits.specs.declared.limits.Limits.{Limits}
use Rattle.ipc_limits.specs.Limits.{AreWithin}
use Rattle.ipc_disk.specs.Medium.{Image, IsHonest, IsDurable, Stays}
use Rattle.ipc_disk.proofs.CallerLemmas.{OnlyReads-as, OnlyReads-ok}
use Rattle.ipc_image.specs.Format.{format}
use Rattle.ipc_image.specs.Greater.{AreAtLeast}
use Rattle.ipc_image.specs.Superblock.{AreOf}
use Rattle.ipc_image.proofs.CallerLemmas.{last-of}
use Rattle.ipc_store.specs.Image.{as_of}
use Rattle.ipc_store.specs.Refusals.{IsOldDamage}
use Rattle.ipc_store.specs.Relations.Loading.{OnlySyncs}
use Rattle.ipc_store.specs.Relations.Upgrade.{IsNamed}
use Rattle.ipc_store.specs.View.{of_open_error}
use Rattle.ipc_store.specs.declared.fault.UpgradeError.TheVariants as errors
use Rattle.ipc_store.proofs.Faults.{passed-same, passed_on, upgrade-device}
use Rattle.ipc_store.proofs.Refusals.{damage-map, damage-upgrade, no-room, passed}
use Rattle.ipc_store.proofs.Loaded.{OnlySyncs-as, OnlySyncs-never, OnlySyncs-ok, OnlySyncs-then}
use Rattle.ipc_store.proofs.upgrade.read_old.Given.{Over}
use Rattle.ipc_store.proofs.upgrade.read_old.Goals as goal
use Rattle.ipc_store.proofs.upgrade.read_old.Goals.{In_ok-superblock}

-- after the superblock was read, the disk is as it was, and it is the superblock of the image
module _ (g : Over) (c : In_ok-superblock g) (honest : IsHonest (g.D.SectorDisk.medium c.args.disk.now)) where
  reads-limits : Stays (g.D.SectorDisk.medium c.args.disk.now) (g.D.SectorDisk.medium c.read_limits.new.disk)
  reads-limits = c.read_limits.ensures.reads.stays honest

  honest-then : IsHonest (g.D.SectorDisk.medium c.read_limits.new.disk)
  honest-then = reads-limits.time.honest.0 honest

  durable-then : IsDurable (g.D.SectorDisk.medium c.read_limits.new.disk)
  durable-then = c.in_ok-superblock.ensures.durable honest

  named-then : IsNamed c.in_ok-superblock.superblock (g.D.SectorDisk.medium c.read_limits.new.disk).contents
  named-then = subst (IsNamed c.in_ok-superblock.superblock) (sym (reads-limits.contents honest)) (c.in_ok-superblock.ensures.device honest)

-- limits of version 2 that pass
are-of : (limits : Limits) → limits ≡ as_of format limits → AreWithin format.most limits → AreOf format limits
are-of limits own within = last-of limits (ap (λ (l : Limits). l.version) own) (ap (λ (l : Limits). l.journal) own) within

pub read_limits-requires : goal.read_limits-requires
read_limits-requires g c = are-of c.args.limits.now c.requires c.in_ok-check.ensures.ok

pub read_state-requires-clause-of : goal.read_state-requires-clause-of
read_state-requires-clause-of g c = are-of c.args.limits.now c.requires c.in_ok-check.ensures.ok

pub returns-clause-of : goal.returns-clause-of
returns-clause-of g c = are-of c.args.limits.now c.requires c.in_ok-check.ensures.ok

pub returns-in_err-found-clause-refused : goal.returns-in_err-found-clause-refused
returns-in_err-found-clause-refused g c =
    let fault = c.in_err-found.field-0.0 in
    passed _ c.from_residual-in_err-found.result (of_open_error fault) c.from_residual-in_err-found.ensures.1
    (λ honest.
    let here = (goal.at.returns-in_err-found-clause-refused g c).In_ok-superblock in
    let image : Image = (g.D.SectorDisk.medium c.args.disk.now).contents in
    damage-upgrade c.args.limits.now _ image (are-of c.args.limits.now c.requires c.in_ok-check.ensures.ok)
    (record {
      own = c.in_ok-superblock.superblock.limits;
      device = (c.in_ok-superblock.ensures.device honest).0;
      greater = c.in_ok-superblock.ensures.greater;
      room = c.in_ok-superblock.ensures.room;
    })
    fault
    (damage-map _ (IsOldDamage image) fault
    (λ sector damage. subst (λ (i : Image). IsOldDamage i sector) ((reads-limits g here honest).contents honest)
    (damage (honest-then g here honest) (durable-then g here honest) (named-then g here honest)))
    c.in_err-found.ensures.refused))

pub returns-in_err-found-clause-small : goal.returns-in_err-found-clause-small
returns-in_err-found-clause-small g c = λ need is.
    let fault = c.in_err-found.field-0.0 in
    absurd (no-room fault need
    (passed_on c.from_residual-in_err-found.result (of_open_error fault) (errors.TooSmall need) c.from_residual-in_err-found.ensures.1 is))

-- the calls until then, none of which has failed
read-so-far : (g : Over) (c : In_ok-superblock g)
    → OnlySyncs g.D.SectorDisk.size g.D.SectorDisk.medium g.D.SectorDisk.counts ⊥ c.args.disk.now c.read_limits.new.disk
read-so-far g c = OnlySyncs-ok (λ failed. cc) c.in_ok-superblock.ensures.reads

pub returns-in_err-found-clause-reads : goal.returns-in_err-found-clause-reads
returns-in_err-found-clause-reads g c =
    let device = upgrade-device c.read_state.result c.from_residual-in_err-found.result c.in_err-found.field-0.0 c.in_err-found.was
    c.from_residual-in_err-found.ensures.1 in
    OnlySyncs-then (read-so-far g (goal.at.returns-in_err-found-clause-reads g c).In_ok-superblock)
    (OnlyReads-as device.0 device.1 c.read_state.ensures.reads)

-- ---- the superblock, the limits or the room do not do

pub returns-in_err-superblock-clause-refused : goal.returns-in_err-superblock-clause-refused
returns-in_err-superblock-clause-refused g c =
    passed _ c.from_residual-in_err-superblock.result c.in_err-superblock.field-0.0 c.from_residual-in_err-superblock.ensures.1
    c.in_err-superblock.ensures.refused

pub returns-in_err-superblock-clause-small : goal.returns-in_err-superblock-clause-small
returns-in_err-superblock-clause-small g c = λ need is.
    c.in_err-superblock.ensures.small need
    (ap Err (passed_on c.from_residual-in_err-superblock.result c.in_err-superblock.field-0.0 (errors.TooSmall need)
    c.from_residual-in_err-superblock.ensures.1 is))

pub returns-in_err-superblock-clause-reads : goal.returns-in_err-superblock-clause-reads
returns-in_err-superblock-clause-reads g c =
    let device = passed-same c.read_limits.result c.from_residual-in_err-superblock.result c.in_err-superblock.field-0.0 errors.Device
    c.in_err-superblock.was c.from_residual-in_err-superblock.ensures.1 in
    OnlySyncs-as device.0 device.1 c.read_limits.ensures.reads

-- ---- all was read

pub returns-clause-read : goal.returns-clause-read
returns-clause-read g c = λ honest.
    let here = (goal.at.returns-clause-read g c).In_ok-superblock in
    c.in_ok-found.ensures.read (honest-then g here honest) (durable-then g here honest) (named-then g here honest)

pub returns-clause-reads : goal.returns-clause-reads
returns-clause-reads g c =
    OnlySyncs-never (λ failed. cc) (OnlySyncs-then (read-so-far g (goal.at.returns-clause-reads g c).In_ok-superblock)
    (OnlyReads-ok (λ failed. cc) c.in_ok-found.ensures.reads))

pub returns-clause-greater : goal.returns-clause-greater
returns-clause-greater g c = subst (AreAtLeast c.args.limits.now) (sym c.in_ok-found.ensures.limits) c.in_ok-superblock.ensures.greater
