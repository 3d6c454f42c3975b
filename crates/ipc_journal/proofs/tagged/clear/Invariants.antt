-- The sectors so far are of earlier epochs; none but zeros was written, and nothing if none was found.
use Rattle.std.proofs.Common.{◌≡◌, ◌-◌, ◌↔◌, false, ℕ, ◌+◌, ◌<◌, ◌≤◌}
use Rattle.ipc_disk.specs.Counts.{counted}
use Rattle.ipc_disk.specs.Medium.{IsHonest, Stays}
use Rattle.ipc_disk.specs.Range.{IsOutside}
use Rattle.ipc_disk.specs.Since.{EachImageSince, LeavesAlone}
use Rattle.ipc_disk.specs.Standing.{sector_at}
use Rattle.ipc_journal.specs.Batch.{epoch_in}
use Rattle.ipc_journal.specs.Journal.{IsClear}
use Rattle.ipc_journal.specs.declared.form.Form.TheVariants.{Tagged}
use Rattle.ipc_journal.proofs.Cleared.{Cleared}
use Rattle.ipc_journal.proofs.tagged.clear.Given as goal

abbrev pub invariant-loop-i : goal.invariant-loop-i
invariant-loop-i g l = record {
  older : 0 < l.epoch → IsHonest (g.D.SectorDisk.medium l.initial.disk) → (k : ℕ) → l.used ≤ k → k < l.i
      → epoch_in (sector_at (g.D.SectorDisk.medium l.disk).contents (l.range.first + k)) < l.epoch;
  images : IsHonest (g.D.SectorDisk.medium l.initial.disk)
      → EachImageSince (g.D.SectorDisk.medium l.initial.disk) (g.D.SectorDisk.medium l.disk)
      (Cleared (l.range.first + l.used) (g.D.SectorDisk.medium l.initial.disk));
  others : IsHonest (g.D.SectorDisk.medium l.initial.disk)
      → LeavesAlone (IsOutside l.range) (g.D.SectorDisk.medium l.initial.disk) (g.D.SectorDisk.medium l.disk);
  kept : l.found ≡ false → IsHonest (g.D.SectorDisk.medium l.initial.disk)
      → Stays (g.D.SectorDisk.medium l.initial.disk) (g.D.SectorDisk.medium l.disk);
  honest : IsHonest (g.D.SectorDisk.medium l.initial.disk) ↔ IsHonest (g.D.SectorDisk.medium l.disk);
  size : g.D.SectorDisk.size l.disk ≡ g.D.SectorDisk.size l.initial.disk;
  failures : (g.D.SectorDisk.counts l.disk).failures ≡ (g.D.SectorDisk.counts l.initial.disk).failures;
  writes : (g.D.SectorDisk.counts l.disk).writes ≤ counted (g.D.SectorDisk.counts l.initial.disk).writes (l.i - l.used);
  syncs : (g.D.SectorDisk.counts l.disk).syncs ≡ (g.D.SectorDisk.counts l.initial.disk).syncs;
  quiet : l.found ≡ false → g.D.SectorDisk.counts l.disk ≡ g.D.SectorDisk.counts l.initial.disk;
  clear : IsHonest (g.D.SectorDisk.medium l.initial.disk)
      → IsClear Tagged l.range l.epoch l.used (g.D.SectorDisk.medium l.initial.disk).contents → l.found ≡ false;
  begun : l.i ≡ l.used → (l.found ≡ false) × (l.disk ≡ l.initial.disk);
}
