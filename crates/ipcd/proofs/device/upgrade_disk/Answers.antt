use Rattle.std.proofs.Common.{◌≡◌, ◌∙◌, ℕ, sym, ap, subst}
use Rattle.ipc_limits.specs.declared.limits.Limits.{Limits}
use Rattle.ipc_image.specs.Format.{format}
use Rattle.ipc_store.specs.Refusals.{IsUpgradeRefusal}
use Rattle.ipc_store.specs.Upgrade.{IsUpgraded}
use Rattle.ipc_store.specs.declared.fault.UpgradeError.{UpgradeError}
use Rattle.ipc_store.specs.declared.fault.UpgradeError.TheVariants as upgrade
use Rattle.ipc_store.proofs.CallerLemmas.{as-of-same}
use Rattle.ipcd.specs.declared.ending.Fault.TheVariants.{TooSmall}
use Rattle.ipcd.specs.Ending.{of_upgrade_error}
use Rattle.ipcd.proofs.device.upgrade_disk.Goals as goal

-- the fault of too little room is that of one error
is_small : (e : UpgradeError) (need : ℕ) → of_upgrade_error e ≡ TooSmall need → e ≡ upgrade.TooSmall need
is_small (upgrade.TooSmall n) need is = let same : n ≡ need = cc in ap (λ (k : ℕ). upgrade.TooSmall k) same
is_small (upgrade.BadLimits limit) need is = cc
is_small upgrade.NotFormatted need is = cc
is_small (upgrade.Version found) need is = cc
is_small (upgrade.Damaged sector) need is = cc
is_small upgrade.Device need is = cc
is_small upgrade.NoMemory need is = cc

pub returns-in-Err-clause-refused : goal.returns-in-Err-clause-refused
returns-in-Err-clause-refused g c = (
  c.in-Err.unupgraded.error,
  c.from.ensures,
  λ honest. subst (λ (l : Limits). IsUpgradeRefusal l (g.D.SectorDisk.size c.args.disk) (g.D.SectorDisk.medium c.args.disk).contents c.in-Err.unupgraded.error)
      (as-of-same format c.args.limits.now c.requires) (c.in-Err.ensures.refused honest),
)

pub returns-in-Ok-clause-ok : goal.returns-in-Ok-clause-ok
returns-in-Ok-clause-ok g c = λ honest.
    subst (λ (l : Limits). IsUpgraded l (g.D.SectorDisk.medium c.args.disk) (g.D.SectorDisk.medium c.in-Ok.made))
    (as-of-same format c.args.limits.now c.requires) (c.in-Ok.ensures.ok honest)

pub returns-in-Err-clause-small : goal.returns-in-Err-clause-small
returns-in-Err-clause-small g c = λ need is. c.in-Err.ensures.small need (is_small _ need (sym c.from.ensures ∙ is))
