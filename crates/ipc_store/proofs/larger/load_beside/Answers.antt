-- The objects of version 2 seen from the whole disk, and the machine that they stand for.
use Rattle.std.proofs.Common.{◌≡◌, ◌⊎◌, inl, inr, ℕ, length, refl, sym, ap, subst, ◌∙◌, arith}
use Rattle.ipc_limits.specs.declared.limits.Limits.{Limits}
use Rattle.ipc_base.specs.Objects.{Fit, PlainObjects}
use Rattle.ipc_checkpoint.specs.declared.layout.Layout.{Layout}
use Rattle.ipc_disk.specs.Medium.{IsHonest}
use Rattle.ipc_disk.proofs.CallerLemmas.{OnlyReads-ok}
use Rattle.ipc_image.specs.declared.format.Format.{Format}
use Rattle.ipc_image.specs.Format.{format}
use Rattle.ipc_image.specs.Saved.{StandForStateIn}
use Rattle.ipc_image.specs.Sizes.{area_in}
use Rattle.ipc_image.proofs.CallerLemmas.{saved-fits}
use Rattle.ipc_state.specs.State.{restart}
use Rattle.ipc_store.specs.Image.{layout_in}
use Rattle.ipc_store.specs.Larger.{larger}
use Rattle.ipc_store.specs.Relations.Larger.{beside}
use Rattle.ipc_store.specs.Relations.Loading.{IsDamage}
use Rattle.ipc_store.specs.declared.fault.OpenError.{OpenError}
use Rattle.ipc_store.specs.declared.fault.OpenError.TheVariants as opening
use Rattle.ipc_store.proofs.Devices.{has-spare}
use Rattle.ipc_store.proofs.Enlarging.{is-its, is-whole, larger-opened, read-beside, smaller-fits}
use Rattle.ipc_store.proofs.Faults.{damaged-device, ok-device}
use Rattle.ipc_store.proofs.Loaded.{OnlyReads-never}
use Rattle.ipc_store.proofs.Refusals.{passed}
use Rattle.ipc_store.proofs.larger.load_beside.Given.{Over}
use Rattle.ipc_store.proofs.larger.load_beside.Goals as goal
use Rattle.ipc_store.proofs.larger.load_beside.Goals.{After-load_objects}

-- with the old root
abbrev with_old_root : Layout → Layout
with_old_root layout = record { range = layout.range; root = format.root; area = layout.area }

-- where they lie
lies : (g : Over) (c : After-load_objects g) → with_old_root c.layout_in.result ≡ beside c.args.limits.now (g.D.SectorDisk.size c.args.disk.now)
lies g c =
    ap with_old_root (c.layout_in.ensures.exact ∙ ap (λ (f : Format). layout_in f c.args.limits.now c.sectors.result) c.three.ensures.is
    ∙ ap (layout_in larger c.args.limits.now) c.sectors.ensures)

-- the disk has the sectors of what is read
count : (g : Over) (d : _) → IsHonest (g.D.SectorDisk.medium d) → length (g.D.SectorDisk.medium d).contents ≡ g.D.SectorDisk.size d
count g d honest = (g.met.D.SectorDisk.shaped d (g.D.SectorDisk.medium d).contents honest.reads).count

-- an error that says no damage is the disk's, or for want of memory
no-damage : (P : ℕ → Type 0) (error : OpenError) → IsDamage P error → ((sector : ℕ) → P sector → ⊥) → (error ≡ opening.Device) ⊎ (error ≡ opening.NoMemory)
no-damage P opening.Device is none = inl refl
no-damage P opening.NotFormatted is none = absurd is
no-damage P (opening.Version found) is none = absurd is
no-damage P (opening.Damaged sector) is none = absurd (none sector is)
no-damage P opening.NoMemory is none = inr refl

pub returns-in_err-checkpoint-clause-refused : goal.returns-in_err-checkpoint-clause-refused
returns-in_err-checkpoint-clause-refused g c =
    let error = c.in_err-checkpoint.field-0.0 in
    passed _ c.from_residual.result error c.from_residual.ensures.1
    (λ own s at greater within.
    no-damage _ error c.in_err-checkpoint.ensures.refused
    (λ sector damage.
    is-whole c.args.limits.now own s (g.D.SectorDisk.size c.args.disk.now) (with_old_root c.layout_in.result)
    (lies g (goal.at.returns-in_err-checkpoint-clause-refused g c).After-load_objects) (g.D.SectorDisk.medium c.args.disk.now)
    (count g c.args.disk.now at.honest) at greater within sector (damage at.honest)))

pub returns-then-epoch-clause-refused : goal.returns-then-epoch-clause-refused
returns-then-epoch-clause-refused g c = λ own s at greater within.
    let stays = c.load_objects.ensures.reads.stays at.honest in
    let its = is-its c.args.limits.now own s (g.D.SectorDisk.size c.args.disk.now) (with_old_root c.layout_in.result)
    (lies g (goal.at.returns-then-epoch-clause-refused g c).After-load_objects) (g.D.SectorDisk.medium c.args.disk.now)
    (count g c.args.disk.now at.honest) at (g.D.SectorDisk.medium c.load_objects.new.disk) stays c.in_ok-checkpoint.checkpoint
    c.in_ok-checkpoint.ensures.layout c.in_ok-checkpoint.ensures.base.0 (c.in_ok-checkpoint.ensures.base.3 at.honest at.durable) in
    absurd (omega (arith, at.later, its.0, c.epoch.ensures, c.if-epoch.true))

pub returns-then-epoch-clause-reads : goal.returns-then-epoch-clause-reads
returns-then-epoch-clause-reads g c = OnlyReads-never (damaged-device _) (OnlyReads-ok (ok-device _) c.in_ok-checkpoint.ensures.reads)

pub returns-in_err-step-clause-refused : goal.returns-in_err-step-clause-refused
returns-in_err-step-clause-refused g c =
    passed _ c.from_residual-in_err-step.result opening.NoMemory c.from_residual-in_err-step.ensures.1 (λ own s at greater within. inr refl)

pub returns-clause-spare : goal.returns-clause-spare
returns-clause-spare g c =
    let limits : Limits = c.args.limits.now in
    let base = c.in_ok-checkpoint.ensures.base in
    let state = c.in_ok-checkpoint.engine.state in
    let stand : StandForStateIn format limits state base.0 = base.1 in
    let fit : Fit (area_in larger limits) base.0 =
    subst (λ (o : PlainObjects). Fit (area_in larger limits) o) (sym stand.are)
    (smaller-fits (area_in larger limits) state (saved-fits larger larger-opened limits state c.requires.of stand.sound)) in
    let placed = lies g (goal.at.returns-clause-spare g c).After-load_objects in
    let layout : Layout = beside limits (g.D.SectorDisk.size c.args.disk.now) in
    has-spare layout c.in_ok-checkpoint.checkpoint base.0 (c.in_ok-checkpoint.ensures.layout ∙ placed) fit
    (base.2 ∙ ap (λ (l : Layout). l.range.count) placed)

pub returns-clause-read : goal.returns-clause-read
returns-clause-read g c = λ own s at.
    let engine = c.in_ok-checkpoint.engine in
    read-beside c.args.limits.now own s (g.D.SectorDisk.size c.args.disk.now) (with_old_root c.layout_in.result)
    (lies g (goal.at.returns-clause-read g c).After-load_objects) (g.D.SectorDisk.medium c.args.disk.now)
    (count g c.args.disk.now at.honest) at (g.D.SectorDisk.medium c.load_objects.new.disk) (c.load_objects.ensures.reads.stays at.honest)
    c.in_ok-checkpoint.checkpoint c.in_ok-checkpoint.ensures.layout c.in_ok-checkpoint.ensures.base.0
    (c.in_ok-checkpoint.ensures.base.3 at.honest at.durable) engine.state c.step.new.self c.in_ok-checkpoint.ensures.base.1
    (c.in_ok-step.ensures.state ∙ ap (λ (l : Limits). restart l engine.state) c.in_ok-checkpoint.ensures.limits)
    c.requires.of.version (c.restart_twice_is_once.ensures.state own s)

pub returns-clause-reads : goal.returns-clause-reads
returns-clause-reads g c = OnlyReads-never (ok-device _) (OnlyReads-ok (ok-device _) c.in_ok-checkpoint.ensures.reads)
