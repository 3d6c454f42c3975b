-- The limits are as those of version 3.
use Rattle.std.proofs.Common.{◌≡◌, ◌<◌, ◌^◌, ℕ, Some, IfOk, IfErr, length, ap, subst, ◌∙◌, arith}
use Rattle.std.proofs.lemmas.Result.{IfErr-weaker}
use Rattle.ipc_limits.specs.declared.limits.Limits.{Limits}
use Rattle.ipc_disk.specs.Medium.{Image, IsHonest}
use Rattle.ipc_image.specs.Sizes.{first_fault}
use Rattle.ipc_image.specs.declared.format.Format.{Format}
use Rattle.ipc_store.specs.Image.{as_of}
use Rattle.ipc_store.specs.Larger.{larger, IsEnlarged}
use Rattle.ipc_store.specs.Refusals.{IsLargerRefusal}
use Rattle.ipc_store.specs.declared.fault.UpgradeError.TheVariants as errors
use Rattle.ipc_store.proofs.LargerRefusals.{larger-refused-by}
use Rattle.ipc_store.proofs.store.Store.upgrade_large.Given.{Over}
use Rattle.ipc_store.proofs.store.Store.upgrade_large.Goals as goal
use Rattle.ipc_store.proofs.store.Store.upgrade_large.Goals.{After-enlarge}

limits-are : (g : Over) (c : After-enlarge g) → c.as_of.result ≡ as_of larger c.args.limits.now
limits-are g c = c.as_of.ensures ∙ ap (λ (f : Format). as_of f c.args.limits.now) c.three.ensures.is

pub returns-clause-ok : goal.returns-clause-ok
returns-clause-ok g c =
    subst (λ (l : Limits). IfOk c.enlarge.result (λ new. IsHonest (g.D.SectorDisk.medium c.args.disk)
    → IsEnlarged l (g.D.SectorDisk.medium c.args.disk) (g.D.SectorDisk.medium new))) (limits-are g (goal.at.returns-clause-ok g c).After-enlarge)
    c.enlarge.ensures.ok

pub returns-clause-refused : goal.returns-clause-refused
returns-clause-refused g c =
    subst (λ (l : Limits). IfErr c.enlarge.result (λ fault. IsHonest (g.D.SectorDisk.medium c.args.disk)
    → IsLargerRefusal l (g.D.SectorDisk.size c.args.disk) (g.D.SectorDisk.medium c.args.disk).contents fault.error))
    (limits-are g (goal.at.returns-clause-refused g c).After-enlarge) c.enlarge.ensures.refused

pub returns-clause-checked : goal.returns-clause-checked
returns-clause-checked g c =
    subst (λ (l : Limits). (field : ℕ) → first_fault larger l ≡ Some field
    → IfErr c.enlarge.result (λ fault. (fault.error ≡ errors.BadLimits (record { field = field })) × (fault.disk ≡ c.args.disk)))
    (limits-are g (goal.at.returns-clause-checked g c).After-enlarge) c.enlarge.ensures.checked

pub returns-clause-refusals : goal.returns-clause-refusals
returns-clause-refusals g c =
    let limits : Limits = as_of larger c.args.limits.now in
    let image : Image = (g.D.SectorDisk.medium c.args.disk).contents in
    IfErr-weaker c.enlarge.result _ _
    (λ fault refused own s honest stands passed greater room within.
    let few : length image < 2 ^ 32 =
    omega (arith, (g.met.D.SectorDisk.shaped c.args.disk image honest.reads).count, g.met.D.SectorDisk.fits c.args.disk) in
    larger-refused-by limits own s (g.D.SectorDisk.size c.args.disk) image fault.error few stands passed greater room within (refused honest))
    (returns-clause-refused g c)
