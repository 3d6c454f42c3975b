-- The limits and the superblock: what is read is what stood there before.
use Rattle.std.proofs.Common.{◌≡◌, ◌≤◌, Err, inl, ℕ, refl, ap, sym, subst, ◌∙◌}
use Rattle.std.specs.Prelude.{None, Some}
use Rattle.std.proofs.lemmas.Option.{none-some}
use Rattle.std.proofs.lemmas.Result.{err_from_is_err_and}
use Rattle.ipc_limits.specs.declared.limits.Limits.{Limits}
use Rattle.ipc_disk.specs.Medium.{Image, IsHonest}
use Rattle.ipc_disk.proofs.CallerLemmas.{IsSameDisk-call, OnlyReads-as, OnlyReads-ok}
use Rattle.ipc_store.specs.Relations.Loading.{IsNamedIn, IsSuperblockRefusal, OnlySyncs}
use Rattle.ipc_image.specs.declared.format.Format.{Format}
use Rattle.ipc_image.specs.Format.{format}
use Rattle.ipc_image.specs.Sizes.{first_fault, need_in}
use Rattle.ipc_image.specs.Superblock.{AreOf}
use Rattle.ipc_store.specs.Image.{as_of}
use Rattle.ipc_store.specs.Larger.{larger}
use Rattle.ipc_store.specs.Relations.Upgrade.{IsRoomRefusal}
use Rattle.ipc_store.specs.View.{of_open_error}
use Rattle.ipc_store.specs.declared.fault.UpgradeError.TheVariants as errors
use Rattle.ipc_store.proofs.Faults.{ok-device, passed_on, upgrade-device}
use Rattle.ipc_store.proofs.LargerRefusals.{room-larger, superblock-larger}
use Rattle.ipc_store.proofs.Refusals.{no-device, passed}
use Rattle.ipc_store.proofs.Loaded.{OnlySyncs-call, OnlySyncs-never, OnlySyncs-then, stays-durable}
use Rattle.ipc_store.proofs.larger.read_small.Given.{Over}
use Rattle.ipc_store.proofs.larger.read_small.Goals as goal
use Rattle.ipc_store.proofs.larger.read_small.Goals.{In_ok-need, In_ok-superblock}

-- the limits pass
checked : (limits : Limits) → limits ≡ as_of larger limits → (limits.version ≡ 3 → limits.journal ≡ 257 → AreOf larger limits) → AreOf larger limits
checked limits own of = of (ap (λ (l : Limits). l.version) own) (ap (λ (l : Limits). l.journal) own)

passes : (g : Over) (c : In_ok-need g) → AreOf larger c.args.limits.now
passes g c =
    checked c.args.limits.now c.requires
    (subst (λ (f : Format). c.args.limits.now.version ≡ f.version → c.args.limits.now.journal ≡ f.journal → AreOf f c.args.limits.now)
    c.three.ensures.is c.in_ok-need.ensures.of)

-- the calls until then, none of which has failed
syncs : (g : Over) (c : In_ok-superblock g)
    → OnlySyncs g.D.SectorDisk.size g.D.SectorDisk.medium g.D.SectorDisk.counts ⊥ c.args.disk.now c.load_superblock.new.disk
syncs g c =
    OnlySyncs-then (OnlySyncs-call c.in_ok-sync.ensures.call c.sync.ensures.medium)
    (OnlyReads-ok (ok-device _) c.in_ok-superblock.ensures.reads)

-- it is one of version 2
is-two : (g : Over) (c : In_ok-superblock g) → c.in_ok-superblock.field-0-0 ≡ format
is-two g c = c.in_ok-superblock.ensures.two refl

device : (g : Over) (c : In_ok-superblock g) → IsHonest (g.D.SectorDisk.medium c.args.disk.now)
    → IsNamedIn format c.in_ok-superblock.superblock (g.D.SectorDisk.medium c.args.disk.now).contents
device g c honest =
    let superblock = c.in_ok-superblock.superblock in
    let image : Image = (g.D.SectorDisk.medium c.sync.new.self).contents in
    subst (IsNamedIn format superblock) (c.sync.ensures.medium.contents honest)
    (subst (λ (f : Format). IsNamedIn f superblock image) (is-two g c)
    (c.in_ok-superblock.ensures.device (c.sync.ensures.medium.time.honest.0 honest)))

pub returns-clause-of : goal.returns-clause-of
returns-clause-of g c = passes g (goal.at.returns-clause-of g c).In_ok-need

pub returns-clause-limits : goal.returns-clause-limits
returns-clause-limits g c =
    subst (λ (f : Format). AreOf f c.in_ok-superblock.superblock.limits) (is-two g (goal.at.returns-clause-limits g c).In_ok-superblock)
    c.in_ok-superblock.ensures.limits

pub returns-clause-own_room : goal.returns-clause-own_room
returns-clause-own_room g c =
    let superblock = c.in_ok-superblock.superblock in
    subst (λ (f : Format). need_in f superblock.limits ≤ superblock.sectors) (is-two g (goal.at.returns-clause-own_room g c).In_ok-superblock)
    c.in_ok-superblock.ensures.room

pub returns-clause-device : goal.returns-clause-device
returns-clause-device g c = device g (goal.at.returns-clause-device g c).In_ok-superblock

pub returns-clause-durable : goal.returns-clause-durable
returns-clause-durable g c = λ honest.
    let now = c.sync.ensures.medium.time.honest.0 honest in
    stays-durable _ _ now (c.load_superblock.ensures.reads.stays now) c.in_ok-sync.ensures.durable

pub returns-in_err-superblock-clause-refused : goal.returns-in_err-superblock-clause-refused
returns-in_err-superblock-clause-refused g c =
    let fault = c.in_err-superblock.field-0.0 in
    passed _ c.from_residual-in_err-superblock.result (of_open_error fault) c.from_residual-in_err-superblock.ensures.1
    (λ honest.
    superblock-larger c.args.limits.now _ (g.D.SectorDisk.medium c.args.disk.now).contents
    (passes g (goal.at.returns-in_err-superblock-clause-refused g c).In_ok-need) fault
    (subst (λ (image : Image). IsSuperblockRefusal format image fault) (c.sync.ensures.medium.contents honest)
    (c.in_err-superblock.ensures.refused (c.sync.ensures.medium.time.honest.0 honest))))

pub returns-in_err-test_room-clause-refused : goal.returns-in_err-test_room-clause-refused
returns-in_err-test_room-clause-refused g c =
    passed _ c.from_residual-in_err-test_room.result c.in_err-test_room.field-0.0 c.from_residual-in_err-test_room.ensures.1
    (λ honest.
    let limits : Limits = c.args.limits.now in
    let own : Limits = c.in_ok-superblock.superblock.limits in
    let error = c.in_err-test_room.field-0.0 in
    let size = c.sectors.ensures ∙ c.load_superblock.ensures.reads.same.sectors ∙ c.sync.ensures.call.sectors in
    let least = c.in_ok-need.ensures.exact ∙ ap (λ (f : Format). need_in f limits) c.three.ensures.is in
    room-larger limits _ (g.D.SectorDisk.medium c.args.disk.now).contents
    (passes g (goal.at.returns-in_err-test_room-clause-refused g c).In_ok-need) own
    (device g (goal.at.returns-in_err-test_room-clause-refused g c).In_ok-superblock honest).0 error
    (subst (λ (n : ℕ). IsRoomRefusal limits own n (g.D.SectorDisk.size c.args.disk.now) error) least
    (subst (λ (n : ℕ). IsRoomRefusal limits own c.in_ok-need.need n error) size c.in_err-test_room.ensures.refused)))

-- ---- what was done on the disk

pub returns-in_err-sync-clause-reads : goal.returns-in_err-sync-clause-reads
returns-in_err-sync-clause-reads g c =
    let q = err_from_is_err_and c.from_residual-in_err-sync.result c.from_residual-in_err-sync.ensures.1 in
    record {
      same = IsSameDisk-call c.in_err-sync.ensures.call c.sync.ensures.medium.time;
      stays = λ honest. c.sync.ensures.medium;
      writes = ap (λ n. n.writes) c.in_err-sync.ensures.call.err;
      failure = λ bad. ap (λ n. n.failures) c.in_err-sync.ensures.call.err;
      no_failure = inl (q.1 ∙ ap Err q.2);
    }

pub returns-in_err-superblock-clause-reads : goal.returns-in_err-superblock-clause-reads
returns-in_err-superblock-clause-reads g c =
    let device = upgrade-device c.load_superblock.result c.from_residual-in_err-superblock.result c.in_err-superblock.field-0.0 c.in_err-superblock.was
    c.from_residual-in_err-superblock.ensures.1 in
    OnlySyncs-then (OnlySyncs-call c.in_ok-sync.ensures.call c.sync.ensures.medium)
    (OnlyReads-as device.0 device.1 c.load_superblock.ensures.reads)

pub returns-in_err-test_room-clause-reads : goal.returns-in_err-test_room-clause-reads
returns-in_err-test_room-clause-reads g c =
    OnlySyncs-never
    (λ is. no-device c.args.limits.now c.in_ok-superblock.superblock.limits _ _ c.in_err-test_room.field-0.0
    (passed_on c.from_residual-in_err-test_room.result c.in_err-test_room.field-0.0 errors.Device c.from_residual-in_err-test_room.ensures.1 is)
    c.in_err-test_room.ensures.refused)
    (syncs g (goal.at.returns-in_err-test_room-clause-reads g c).In_ok-superblock)

pub returns-clause-reads : goal.returns-clause-reads
returns-clause-reads g c = OnlySyncs-never (λ failed. cc) (syncs g (goal.at.returns-clause-reads g c).In_ok-superblock)

-- ---- limits that do not pass

-- once they have passed no test fails
none-fails : (g : Over) (c : In_ok-need g) → first_fault larger c.args.limits.now ≡ None
none-fails g c = subst (λ (f : Format). first_fault f c.args.limits.now ≡ None) c.three.ensures.is c.in_ok-need.ensures.none

pub returns-in_err-need-clause-refused : goal.returns-in_err-need-clause-refused
returns-in_err-need-clause-refused g c =
    passed _ c.from_residual.result (errors.BadLimits c.in_err-need.field-0.0) c.from_residual.ensures.1
    (λ honest. inl (subst (λ (f : Format). first_fault f c.args.limits.now ≡ Some c.in_err-need.field-0.0.field) c.three.ensures.is
    c.in_err-need.ensures.first))

pub returns-in_err-sync-clause-checked : goal.returns-in_err-sync-clause-checked
returns-in_err-sync-clause-checked g c = λ field is.
    absurd (none-some field (sym (none-fails g (goal.at.returns-in_err-sync-clause-checked g c).In_ok-need) ∙ is))

pub returns-in_err-superblock-clause-checked : goal.returns-in_err-superblock-clause-checked
returns-in_err-superblock-clause-checked g c = λ field is.
    absurd (none-some field (sym (none-fails g (goal.at.returns-in_err-superblock-clause-checked g c).In_ok-need) ∙ is))

pub returns-in_err-test_room-clause-checked : goal.returns-in_err-test_room-clause-checked
returns-in_err-test_room-clause-checked g c = λ field is.
    absurd (none-some field (sym (none-fails g (goal.at.returns-in_err-test_room-clause-checked g c).In_ok-need) ∙ is))

pub returns-clause-checked : goal.returns-clause-checked
returns-clause-checked g c = λ field is.
    absurd (none-some field (sym (none-fails g (goal.at.returns-clause-checked g c).In_ok-need) ∙ is))
