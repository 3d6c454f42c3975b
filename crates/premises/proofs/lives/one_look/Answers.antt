use Rattle.ipc_disk.specs.Memory.{memory_medium}
use Rattle.ipc_store.proofs.CallerLemmas.{parts-same, read-same}
use Rattle.premises.proofs.lives.one_look.Goals as goal

pub returns-in-Ok : goal.returns-in-Ok
returns-in-Ok c =
    let image = (memory_medium c.in_ok-disk.disk).contents in
    (image, c.in-Ok.ensures.ok (c.disks_in_memory_are_honest.ensures.memory c.in_ok-disk.disk), read-same image, parts-same image)
