-- The limits are as those of version 2.
use Rattle.std.proofs.Common.{◌≡◌, ◌⊎◌, ◌≤◌, ℕ, Some, position, not, IfOk, IfErr, subst}
use Rattle.ipc_limits.specs.Limits.{tests}
use Rattle.ipc_limits.specs.declared.limits.Limits.{Limits}
use Rattle.ipc_disk.specs.Medium.{IsHonest}
use Rattle.ipc_state.specs.State.{State}
use Rattle.ipc_image.specs.Format.{format, format_one}
use Rattle.ipc_image.specs.Greater.{AreAtLeast}
use Rattle.ipc_image.specs.Sizes.{need_of}
use Rattle.ipc_image.specs.Superblock.{AreOf}
use Rattle.ipc_store.specs.Image.{StandsForIn}
use Rattle.ipc_store.specs.Refusals.{IsUpgradeRefusal}
use Rattle.ipc_store.specs.Upgrade.{HasNoNextEpoch, IsUpgraded}
use Rattle.ipc_store.specs.declared.fault.UpgradeError.TheVariants as errors
use Rattle.ipc_store.proofs.store.Store.upgrade.Goals as goal

pub returns-clause-ok : goal.returns-clause-ok
returns-clause-ok g c =
    subst (λ (l : Limits). IfOk c.upgrade_as.result (λ new. IsHonest (g.D.SectorDisk.medium c.args.disk)
    → IsUpgraded l (g.D.SectorDisk.medium c.args.disk) (g.D.SectorDisk.medium new))) c.as_of.ensures c.upgrade_as.ensures.ok

pub returns-clause-refusals : goal.returns-clause-refusals
returns-clause-refusals g c =
    subst (λ (l : Limits). IfErr c.upgrade_as.result (λ fault. (own : Limits) (s : State) → IsHonest (g.D.SectorDisk.medium c.args.disk)
    → StandsForIn format_one own s (g.D.SectorDisk.medium c.args.disk).contents → AreOf format l
    → AreAtLeast l own → need_of l ≤ g.D.SectorDisk.size c.args.disk
    → (fault.error ≡ errors.Device) ⊎ (fault.error ≡ errors.NoMemory)
    ⊎ HasNoNextEpoch (g.D.SectorDisk.medium c.args.disk).contents)) c.as_of.ensures c.upgrade_as.ensures.refusals

pub returns-clause-checked : goal.returns-clause-checked
returns-clause-checked g c =
    subst (λ (l : Limits). (field : ℕ) → position not (tests format.most l) ≡ Some field
    → IfErr c.upgrade_as.result (λ fault. (fault.error ≡ errors.BadLimits (record { field = field })) × (fault.disk ≡ c.args.disk)))
    c.as_of.ensures c.upgrade_as.ensures.checked

pub returns-clause-refused : goal.returns-clause-refused
returns-clause-refused g c =
    subst (λ (l : Limits). IfErr c.upgrade_as.result (λ fault. IsHonest (g.D.SectorDisk.medium c.args.disk)
    → IsUpgradeRefusal l (g.D.SectorDisk.size c.args.disk) (g.D.SectorDisk.medium c.args.disk).contents fault.error))
    c.as_of.ensures c.upgrade_as.ensures.refused
