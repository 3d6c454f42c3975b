-- So many objects are written.
use Rattle.std.proofs.Common.{◌≡◌, ◌+◌, map, take}
use Rattle.ipc_base.specs.Objects.{object_sectors}
use Rattle.ipc_disk.specs.Medium.{IsHonest}
use Rattle.ipc_disk.specs.Range.{IsOutside}
use Rattle.ipc_heap.specs.Heap.{object_on}
use Rattle.ipc_heap.specs.Relations.Table.{placed_after}
use Rattle.ipc_heap.proofs.Writes.{Wrote}
use Rattle.ipc_heap.proofs.objects.write_objects.Given as goal

abbrev pub invariant-loop-i : goal.invariant-loop-i
invariant-loop-i g l = record {
  place : l.at ≡ l.first + object_sectors (take l.i (g.O.Objects.objects l.objects));
  wrote : Wrote g.D.SectorDisk.size g.D.SectorDisk.medium g.D.SectorDisk.counts
      (IsOutside (record { first = l.first; count = object_sectors (g.O.Objects.objects l.objects) }))
      (object_sectors (take l.i (g.O.Objects.objects l.objects)))
      l.initial.disk l.disk;
  stand : IsHonest (g.D.SectorDisk.medium l.initial.disk)
      → map (object_on (g.D.SectorDisk.medium l.disk).contents) (placed_after l.first (take l.i (g.O.Objects.objects l.objects)))
      ≡ take l.i (g.O.Objects.objects l.objects);
}
