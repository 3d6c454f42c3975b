-- What waits lies within the disk under it.
use Rattle.ipc_disk.proofs.RunsLemmas.{IsHonest-joined, within-disk}
use Rattle.ipc_disk.proofs.laws.a_joined_disk_is_as_honest.Goals as goal

pub returns : goal.returns
returns g c =
    let disk = c.args.disk.now in
    let run = disk.run.value in
    let under = g.D.RunDisk.medium disk.disk in
    IsHonest-joined run.range.first _ under (within-disk run (g.D.RunDisk.size disk.disk) under disk.inside (g.met.D.RunDisk.shaped disk.disk))
