-- So many pieces are read, and the disk is as it was.
use Rattle.std.proofs.Common.{◌≡◌, ◌↔◌}
use Rattle.std.specs.Prelude.{Some, slice_get}
use Rattle.ipc_disk.specs.Medium.{IsHonest, Stays}
use Rattle.ipc_disk.proofs.Pieces.{StandsBelow}
use Rattle.ipc_disk.proofs.standing.read_bytes.Given as goal

abbrev pub invariant-loop-i : goal.invariant-loop-i
invariant-loop-i g l = record {
  stands : IsHonest (g.D.SectorDisk.medium l.initial.disk) → slice_get (g.D.SectorDisk.medium l.initial.disk).contents l.at ≡ Some l.first
      → StandsBelow l.i l.at l.into (g.D.SectorDisk.medium l.initial.disk).contents;
  reads : IsHonest (g.D.SectorDisk.medium l.initial.disk) → Stays (g.D.SectorDisk.medium l.initial.disk) (g.D.SectorDisk.medium l.disk);
  honest : IsHonest (g.D.SectorDisk.medium l.initial.disk) ↔ IsHonest (g.D.SectorDisk.medium l.disk);
  size : g.D.SectorDisk.size l.disk ≡ g.D.SectorDisk.size l.initial.disk;
  counts : g.D.SectorDisk.counts l.disk ≡ g.D.SectorDisk.counts l.initial.disk;
}
