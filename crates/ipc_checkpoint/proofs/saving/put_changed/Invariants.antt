use Rattle.ipc_checkpoint.proofs.Putting.{PutSoFar}
use Rattle.ipc_checkpoint.proofs.saving.put_changed.Given as goal

-- so many objects were looked at
abbrev pub invariant-loop-i : goal.invariant-loop-i
invariant-loop-i g l =
    PutSoFar g.D.SectorDisk.size g.D.SectorDisk.medium g.D.SectorDisk.counts (g.O.Objects.objects l.objects) (g.O.Objects.differs l.objects)
    l.fn.heap l.fn.disk l.i l.heap l.disk
