-- So many sectors are written, and nothing else.
use Rattle.std.proofs.Common.{◌≡◌, ◌↔◌, length}
use Rattle.ipc_disk.specs.Counts.{counted}
use Rattle.ipc_disk.specs.Medium.{Image, IsHonest}
use Rattle.ipc_disk.specs.Range.{IsOutside}
use Rattle.ipc_disk.specs.Since.{EachImageSince, LeavesAlone}
use Rattle.ipc_journal.specs.Tagged.{pieces_for, IsMixed}
use Rattle.ipc_journal.proofs.TagPieces.{WrittenBelow}
use Rattle.ipc_journal.proofs.tagged.write_tagged.Given as goal

abbrev pub invariant-loop-i : goal.invariant-loop-i
invariant-loop-i g l = record {
  written : IsHonest (g.D.SectorDisk.medium l.initial.disk)
      → WrittenBelow l.i l.at l.epoch l.number l.batch (g.D.SectorDisk.medium l.disk).contents;
  mixed : IsHonest (g.D.SectorDisk.medium l.initial.disk)
      → EachImageSince (g.D.SectorDisk.medium l.initial.disk) (g.D.SectorDisk.medium l.disk)
      (λ image. (old : Image) × (g.D.SectorDisk.medium l.initial.disk).images_now old × IsMixed l.at l.epoch l.number l.batch old image);
  others : IsHonest (g.D.SectorDisk.medium l.initial.disk) → LeavesAlone (IsOutside (record { first = l.at; count = pieces_for (length l.batch) }))
      (g.D.SectorDisk.medium l.initial.disk) (g.D.SectorDisk.medium l.disk);
  honest : IsHonest (g.D.SectorDisk.medium l.initial.disk) ↔ IsHonest (g.D.SectorDisk.medium l.disk);
  size : g.D.SectorDisk.size l.disk ≡ g.D.SectorDisk.size l.initial.disk;
  failures : (g.D.SectorDisk.counts l.disk).failures ≡ (g.D.SectorDisk.counts l.initial.disk).failures;
  writes : (g.D.SectorDisk.counts l.disk).writes ≡ counted (g.D.SectorDisk.counts l.initial.disk).writes l.i;
  syncs : (g.D.SectorDisk.counts l.disk).syncs ≡ (g.D.SectorDisk.counts l.initial.disk).syncs;
}
