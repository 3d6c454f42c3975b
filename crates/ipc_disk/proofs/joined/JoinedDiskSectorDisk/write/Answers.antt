-- What waits is put out where the sector does not join it, and then the sector waits.
use Rattle.std.proofs.Common.{subst}
use Rattle.ipc_disk.specs.Medium.{Writes}
use Rattle.ipc_disk.specs.Joined.{joined_medium}
use Rattle.ipc_disk.specs.declared.joined.JoinedDisk.{JoinedDisk}
use Rattle.ipc_disk.proofs.RunsLemmas.{Writes-after, Writes-none, honest-before}
use Rattle.ipc_disk.proofs.joined.JoinedDiskSectorDisk.write.Goals as goal
use Rattle.ipc_disk.proofs.joined.JoinedDiskSectorDisk.write.Goals.{then-not-joins+in_ok-put, else-not-joins}

pub returns-in_err-put-clause-medium : goal.returns-in_err-put-clause-medium
returns-in_err-put-clause-medium g c = Writes-none c.args.at c.args.from.now _ _ c.put.ensures.medium

pub returns-clause-medium : goal.returns-clause-medium
returns-clause-medium g c =
    let new = joined_medium c.join.new.self in
    let P : JoinedDisk g.row.D.Denot g.D.RunDisk → Type 0 = λ d. Writes c.args.at c.args.from.now (joined_medium d) new in
    elim c.if-not-joins.branch [
      | then-not-joins+in_ok-put w ↦
          let mid = w.put.new.self in
          Writes-after c.args.at c.args.from.now _ (joined_medium mid) _
          (honest-before (g.D.RunDisk.size mid.disk) mid.run.value _ (g.D.RunDisk.medium mid.disk) mid.inside
          (g.met.D.RunDisk.shaped mid.disk) w.put.ensures.medium)
          w.put.ensures.medium
          (subst P w.self-is c.join.ensures.medium)
      | else-not-joins w ↦ subst P w.self-is c.join.ensures.medium
    ]
