-- What is read is what stood there before.
use Rattle.std.proofs.Common.{◌≡◌, ◌≤◌, Err, inl, ℕ, refl, ap, subst, ◌∙◌, arith}
use Rattle.std.proofs.lemmas.Result.{err_from_is_err_and}
use Rattle.ipc_limits.specs.declared.limits.Limits.{Limits}
use Rattle.ipc_disk.specs.Medium.{Image, IsHonest}
use Rattle.ipc_disk.proofs.CallerLemmas.{IsSameDisk-call, OnlyReads-as, OnlyReads-ok}
use Rattle.ipc_store.specs.Relations.Loading.{IsSuperblockRefusal, OnlySyncs}
use Rattle.ipc_image.specs.declared.format.Format.{Format}
use Rattle.ipc_image.specs.Format.{format_one}
use Rattle.ipc_image.specs.Sizes.{need_in}
use Rattle.ipc_store.specs.Image.{named_sectors, IsDeviceIn}
use Rattle.ipc_store.specs.Relations.Upgrade.{IsNamed, IsRoomRefusal}
use Rattle.ipc_store.specs.View.{of_open_error}
use Rattle.ipc_store.specs.declared.fault.UpgradeError.TheVariants as errors
use Rattle.ipc_store.proofs.Faults.{ok-device, passed_on, upgrade-device}
use Rattle.ipc_store.proofs.Refusals.{no-device, no-room, passed, room-upgrade, small-room, superblock-upgrade}
use Rattle.ipc_store.proofs.Loaded.{OnlySyncs-call, OnlySyncs-never, OnlySyncs-then, stays-durable}
use Rattle.ipc_store.proofs.upgrade.read_limits.Given.{Over}
use Rattle.ipc_store.proofs.upgrade.read_limits.Goals as goal
use Rattle.ipc_store.proofs.upgrade.read_limits.Goals.{In_ok-superblock}

-- the calls until then, none of which has failed
syncs : (g : Over) (c : In_ok-superblock g)
    → OnlySyncs g.D.SectorDisk.size g.D.SectorDisk.medium g.D.SectorDisk.counts ⊥ c.args.disk.now c.load_superblock.new.disk
syncs g c =
    OnlySyncs-then (OnlySyncs-call c.in_ok-sync.ensures.call c.sync.ensures.medium)
    (OnlyReads-ok (ok-device _) c.in_ok-superblock.ensures.reads)

-- it is one of version 1
is-one : (g : Over) (c : In_ok-superblock g) → c.in_ok-superblock.field-0-0 ≡ format_one
is-one g c = c.in_ok-superblock.ensures.old refl

device : (g : Over) (c : In_ok-superblock g) → IsHonest (g.D.SectorDisk.medium c.args.disk.now)
    → IsNamed c.in_ok-superblock.superblock (g.D.SectorDisk.medium c.args.disk.now).contents
device g c honest =
    let superblock = c.in_ok-superblock.superblock in
    let image : Image = (g.D.SectorDisk.medium c.sync.new.self).contents in
    subst (IsNamed superblock) (c.sync.ensures.medium.contents honest)
    (subst (λ (f : Format). IsDeviceIn f superblock.limits image × (superblock.sectors ≡ named_sectors image)) (is-one g c)
    (c.in_ok-superblock.ensures.device (c.sync.ensures.medium.time.honest.0 honest)))

pub returns-clause-own_room : goal.returns-clause-own_room
returns-clause-own_room g c =
    let superblock = c.in_ok-superblock.superblock in
    subst (λ (f : Format). need_in f superblock.limits ≤ superblock.sectors) (is-one g (goal.at.returns-clause-own_room g c).In_ok-superblock)
    c.in_ok-superblock.ensures.room

pub returns-clause-device : goal.returns-clause-device
returns-clause-device g c = device g (goal.at.returns-clause-device g c).In_ok-superblock

pub returns-clause-durable : goal.returns-clause-durable
returns-clause-durable g c = λ honest.
    let now = c.sync.ensures.medium.time.honest.0 honest in
    stays-durable _ _ now (c.load_superblock.ensures.reads.stays now) c.in_ok-sync.ensures.durable

pub returns-in_err-superblock-clause-refused : goal.returns-in_err-superblock-clause-refused
returns-in_err-superblock-clause-refused g c =
    let fault = c.in_err-superblock.field-0.0 in
    passed _ c.from_residual-in_err-superblock.result (of_open_error fault) c.from_residual-in_err-superblock.ensures.1
    (λ honest.
    superblock-upgrade c.args.limits.now _ (g.D.SectorDisk.medium c.args.disk.now).contents c.requires fault
    (subst (λ (image : Image). IsSuperblockRefusal format_one image fault) (c.sync.ensures.medium.contents honest)
    (c.in_err-superblock.ensures.refused (c.sync.ensures.medium.time.honest.0 honest))))

pub returns-in_err-superblock-clause-small : goal.returns-in_err-superblock-clause-small
returns-in_err-superblock-clause-small g c = λ need is.
    let fault = c.in_err-superblock.field-0.0 in
    absurd (no-room fault need
    (passed_on c.from_residual-in_err-superblock.result (of_open_error fault) (errors.TooSmall need) c.from_residual-in_err-superblock.ensures.1 is))

-- ---- limits or room that do not do

pub returns-in_err-test_room-clause-refused : goal.returns-in_err-test_room-clause-refused
returns-in_err-test_room-clause-refused g c =
    passed _ c.from_residual-in_err-test_room.result c.in_err-test_room.field-0.0 c.from_residual-in_err-test_room.ensures.1
    (λ honest.
    let limits : Limits = c.args.limits.now in
    let own : Limits = c.in_ok-superblock.superblock.limits in
    let error = c.in_err-test_room.field-0.0 in
    let size = c.sectors.ensures ∙ c.load_superblock.ensures.reads.same.sectors ∙ c.sync.ensures.call.sectors in
    room-upgrade limits _ (g.D.SectorDisk.medium c.args.disk.now).contents c.requires own
    (device g (goal.at.returns-in_err-test_room-clause-refused g c).In_ok-superblock honest).0 error
    (subst (λ (n : ℕ). IsRoomRefusal limits own n (g.D.SectorDisk.size c.args.disk.now) error) c.need-need.ensures.exact
    (subst (λ (n : ℕ). IsRoomRefusal limits own c.need-need.result n error) size c.in_err-test_room.ensures.refused)))

pub returns-in_err-test_room-clause-small : goal.returns-in_err-test_room-clause-small
returns-in_err-test_room-clause-small g c = λ need is.
    let e = passed_on c.from_residual-in_err-test_room.result c.in_err-test_room.field-0.0 (errors.TooSmall need)
    c.from_residual-in_err-test_room.ensures.1 is in
    let small = small-room c.args.limits.now c.in_ok-superblock.superblock.limits _ _ c.in_err-test_room.field-0.0 need e c.in_err-test_room.ensures.refused in
    (small.0 ∙ c.need-need.ensures.exact, omega (arith, small.1, c.sectors.ensures, c.load_superblock.ensures.reads.same.sectors, c.sync.ensures.call.sectors))

-- ---- what was done on the disk

pub returns-in_err-sync-clause-reads : goal.returns-in_err-sync-clause-reads
returns-in_err-sync-clause-reads g c =
    let q = err_from_is_err_and c.from_residual.result c.from_residual.ensures.1 in
    record {
      same = IsSameDisk-call c.in_err-sync.ensures.call c.sync.ensures.medium.time;
      stays = λ honest. c.sync.ensures.medium;
      writes = ap (λ n. n.writes) c.in_err-sync.ensures.call.err;
      failure = λ bad. ap (λ n. n.failures) c.in_err-sync.ensures.call.err;
      no_failure = inl (q.1 ∙ ap Err q.2);
    }

pub returns-in_err-superblock-clause-reads : goal.returns-in_err-superblock-clause-reads
returns-in_err-superblock-clause-reads g c =
    let device = upgrade-device c.load_superblock.result c.from_residual-in_err-superblock.result c.in_err-superblock.field-0.0 c.in_err-superblock.was
    c.from_residual-in_err-superblock.ensures.1 in
    OnlySyncs-then (OnlySyncs-call c.in_ok-sync.ensures.call c.sync.ensures.medium)
    (OnlyReads-as device.0 device.1 c.load_superblock.ensures.reads)

pub returns-in_err-test_room-clause-reads : goal.returns-in_err-test_room-clause-reads
returns-in_err-test_room-clause-reads g c =
    OnlySyncs-never
    (λ is. no-device c.args.limits.now c.in_ok-superblock.superblock.limits _ _ c.in_err-test_room.field-0.0
    (passed_on c.from_residual-in_err-test_room.result c.in_err-test_room.field-0.0 errors.Device c.from_residual-in_err-test_room.ensures.1 is)
    c.in_err-test_room.ensures.refused)
    (syncs g (goal.at.returns-in_err-test_room-clause-reads g c).In_ok-superblock)

pub returns-clause-reads : goal.returns-clause-reads
returns-clause-reads g c = OnlySyncs-never (λ failed. cc) (syncs g (goal.at.returns-clause-reads g c).In_ok-superblock)
