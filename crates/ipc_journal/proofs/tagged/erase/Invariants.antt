-- So many sectors are zeros, and nothing else is written.
use Rattle.std.proofs.Common.{◌≡◌, ◌↔◌, ℕ, ◌+◌, ◌<◌, [], replicate}
use Rattle.ipc_disk.specs.Counts.{counted}
use Rattle.ipc_disk.specs.Medium.{Image, IsHonest}
use Rattle.ipc_disk.specs.Range.{IsOutside}
use Rattle.ipc_disk.specs.Since.{EachImageSince, LeavesAlone}
use Rattle.ipc_disk.specs.Standing.{sector_at}
use Rattle.ipc_journal.specs.Journal.{Holds}
use Rattle.ipc_journal.specs.declared.form.Form.TheVariants.{Headed}
use Rattle.ipc_journal.proofs.tagged.erase.Given as goal

abbrev pub invariant-loop-i : goal.invariant-loop-i
invariant-loop-i g l = record {
  erased : IsHonest (g.D.SectorDisk.medium l.initial.disk) → (k : ℕ) → k < l.i
      → sector_at (g.D.SectorDisk.medium l.disk).contents (l.range.first + k) ≡ replicate 512 0;
  others : IsHonest (g.D.SectorDisk.medium l.initial.disk)
      → LeavesAlone (IsOutside l.range) (g.D.SectorDisk.medium l.initial.disk) (g.D.SectorDisk.medium l.disk);
  headed : (epoch : ℕ) → 0 < epoch → IsHonest (g.D.SectorDisk.medium l.initial.disk)
      → ((image : Image) → (g.D.SectorDisk.medium l.initial.disk).images_now image → Holds Headed l.range epoch [] image)
      → EachImageSince (g.D.SectorDisk.medium l.initial.disk) (g.D.SectorDisk.medium l.disk) (Holds Headed l.range epoch []);
  honest : IsHonest (g.D.SectorDisk.medium l.initial.disk) ↔ IsHonest (g.D.SectorDisk.medium l.disk);
  size : g.D.SectorDisk.size l.disk ≡ g.D.SectorDisk.size l.initial.disk;
  failures : (g.D.SectorDisk.counts l.disk).failures ≡ (g.D.SectorDisk.counts l.initial.disk).failures;
  writes : (g.D.SectorDisk.counts l.disk).writes ≡ counted (g.D.SectorDisk.counts l.initial.disk).writes l.i;
  syncs : (g.D.SectorDisk.counts l.disk).syncs ≡ (g.D.SectorDisk.counts l.initial.disk).syncs;
}
