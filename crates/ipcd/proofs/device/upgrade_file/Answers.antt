use Rattle.std.proofs.lemmas.Result.{err_from_is_err_and}
use Rattle.ipc_store.specs.declared.fault.UpgradeError.TheVariants as upgrade
use Rattle.ipcd.proofs.device.upgrade_file.Goals as goal

pub returns-in_err-disk-clause-named : goal.returns-in_err-disk-clause-named
returns-in_err-disk-clause-named g c =
    let q = err_from_is_err_and c.from_residual.result c.from_residual.ensures.1 in
    rw q.1 (upgrade.Device, q.2)
