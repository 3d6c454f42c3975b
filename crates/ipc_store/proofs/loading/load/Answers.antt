-- What is read is what stood there before the sync.
use Rattle.std.proofs.Common.{subst}
use Rattle.std.proofs.lemmas.Result.{IfErr-weaker, IfOk-weaker}
use Rattle.ipc_disk.specs.Medium.{Image}
use Rattle.ipc_store.specs.Image.{form_at}
use Rattle.ipc_store.specs.Refusals.{IsRefusal}
use Rattle.ipc_store.proofs.Loaded.{OnlySyncs-call, OnlySyncs-then}
use Rattle.ipc_store.proofs.loading.load.Goals as goal

pub returns-clause-loaded : goal.returns-clause-loaded
returns-clause-loaded g c =
    IfOk-weaker c.read_all.result _ _
    (λ found loaded honest. loaded (c.sync.ensures.medium.time.honest.0 honest) c.in_ok-sync.ensures.durable) c.read_all.ensures.loaded

pub returns-clause-refused : goal.returns-clause-refused
returns-clause-refused g c =
    IfErr-weaker c.read_all.result _ _
    (λ error refused honest.
    subst (λ (i : Image). IsRefusal (form_at i) i error) (c.sync.ensures.medium.contents honest)
    (refused (c.sync.ensures.medium.time.honest.0 honest)))
    c.read_all.ensures.refused

pub returns-clause-reads : goal.returns-clause-reads
returns-clause-reads g c =
    OnlySyncs-then (OnlySyncs-call c.in_ok-sync.ensures.call c.sync.ensures.medium) c.read_all.ensures.reads
