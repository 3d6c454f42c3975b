-- So many pieces are written, and nothing else.
use Rattle.std.proofs.Common.{◌≡◌, ◌↔◌}
use Rattle.ipc_disk.specs.Counts.{counted}
use Rattle.ipc_disk.specs.Medium.{IsHonest}
use Rattle.ipc_disk.specs.Range.{IsOutside}
use Rattle.ipc_disk.specs.Since.{LeavesAlone}
use Rattle.std.proofs.Common.{length}
use Rattle.ipc_disk.specs.Standing.{sectors_for}
use Rattle.ipc_disk.proofs.Pieces.{WrittenBelow}
use Rattle.ipc_disk.proofs.standing.write_bytes.Given as goal

abbrev pub invariant-loop-i : goal.invariant-loop-i
invariant-loop-i g l = record {
  written : IsHonest (g.D.SectorDisk.medium l.initial.disk) → WrittenBelow l.i l.first l.bytes (g.D.SectorDisk.medium l.disk).contents;
  others : IsHonest (g.D.SectorDisk.medium l.initial.disk) → LeavesAlone (IsOutside (record { first = l.first; count = sectors_for (length l.bytes) }))
      (g.D.SectorDisk.medium l.initial.disk) (g.D.SectorDisk.medium l.disk);
  honest : IsHonest (g.D.SectorDisk.medium l.initial.disk) ↔ IsHonest (g.D.SectorDisk.medium l.disk);
  size : g.D.SectorDisk.size l.disk ≡ g.D.SectorDisk.size l.initial.disk;
  failures : (g.D.SectorDisk.counts l.disk).failures ≡ (g.D.SectorDisk.counts l.initial.disk).failures;
  writes : (g.D.SectorDisk.counts l.disk).writes ≡ counted (g.D.SectorDisk.counts l.initial.disk).writes l.i;
  syncs : (g.D.SectorDisk.counts l.disk).syncs ≡ (g.D.SectorDisk.counts l.initial.disk).syncs;
}
