use Rattle.ipc_store.proofs.Loaded.{OnlySyncs-never, OnlySyncs-ok}
use Rattle.ipc_store.proofs.Faults.{ok-device}
use Rattle.ipc_store.proofs.opening.read_device.Goals as goal

pub returns-in-Ok-load-clause-reads : goal.returns-in-Ok-load-clause-reads
returns-in-Ok-load-clause-reads g c = OnlySyncs-never (ok-device _) (OnlySyncs-ok (λ failed. cc) c.in-Ok-load.ensures.reads)
