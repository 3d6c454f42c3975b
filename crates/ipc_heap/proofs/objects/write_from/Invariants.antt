-- So many sectors of the object are written.
use Rattle.std.proofs.Common.{length}
use Rattle.std.specs.List.{range_with_len}
use Rattle.ipc_disk.specs.Medium.{IsHonest}
use Rattle.ipc_disk.specs.Range.{IsOutside}
use Rattle.ipc_disk.specs.Standing.{sectors_for}
use Rattle.ipc_heap.specs.Relations.Table.{object_at}
use Rattle.ipc_heap.proofs.Writes.{ObjectSector, StandsIn, Wrote}
use Rattle.ipc_heap.proofs.objects.write_from.Given as goal

abbrev pub invariant-loop-k : goal.invariant-loop-k
invariant-loop-k g l = record {
  wrote : Wrote g.D.SectorDisk.size g.D.SectorDisk.medium g.D.SectorDisk.counts
      (IsOutside (record { first = l.first; count = sectors_for (length (object_at (g.O.Objects.objects l.objects) l.i).1) })) l.k l.initial.disk l.disk;
  stands : IsHonest (g.D.SectorDisk.medium l.initial.disk)
      → StandsIn (ObjectSector (object_at (g.O.Objects.objects l.objects) l.i).1) (range_with_len l.first l.k) (g.D.SectorDisk.medium l.disk).contents;
  mark : g.O.Objects.marks l.objects l.i l.mark;
}
