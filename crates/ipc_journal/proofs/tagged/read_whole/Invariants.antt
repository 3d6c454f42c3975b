-- So many sectors are tagged, their pieces are read, and the disk is as it was.
use Rattle.std.proofs.Common.{◌≡◌, ◌↔◌, ◌+◌, ◌<◌, ℕ}
use Rattle.std.specs.Prelude.{Some, slice_get}
use Rattle.ipc_disk.specs.Medium.{IsHonest, Stays}
use Rattle.ipc_disk.specs.Standing.{sector_at}
use Rattle.ipc_journal.specs.Tagged.{IsTagged}
use Rattle.ipc_journal.proofs.TagPieces.{StandsBelow}
use Rattle.ipc_journal.proofs.tagged.read_whole.Given as goal

abbrev pub invariant-loop-index : goal.invariant-loop-index
invariant-loop-index g l = record {
  tagged : IsHonest (g.D.SectorDisk.medium l.initial.disk) → (i : ℕ) → 0 < i → i < l.index
      → IsTagged l.tag.epoch l.tag.number i l.tag.count (sector_at (g.D.SectorDisk.medium l.initial.disk).contents (l.at + i));
  stands : IsHonest (g.D.SectorDisk.medium l.initial.disk) → slice_get (g.D.SectorDisk.medium l.initial.disk).contents l.at ≡ Some l.first
      → StandsBelow l.index l.at l.into (g.D.SectorDisk.medium l.initial.disk).contents;
  reads : IsHonest (g.D.SectorDisk.medium l.initial.disk) → Stays (g.D.SectorDisk.medium l.initial.disk) (g.D.SectorDisk.medium l.disk);
  honest : IsHonest (g.D.SectorDisk.medium l.initial.disk) ↔ IsHonest (g.D.SectorDisk.medium l.disk);
  size : g.D.SectorDisk.size l.disk ≡ g.D.SectorDisk.size l.initial.disk;
  counts : g.D.SectorDisk.counts l.disk ≡ g.D.SectorDisk.counts l.initial.disk;
}
