-- So many sectors are written, and nothing else.
use Rattle.std.proofs.Common.{◌≡◌, take}
use Rattle.ipc_disk.specs.Medium.{IsHonest}
use Rattle.ipc_disk.specs.Runs.{WritesRun, set_run}
use Rattle.ipc_disk.proofs.split.SectorRunsRunDisk.write.Given as goal

abbrev pub invariant-loop-i : goal.invariant-loop-i
invariant-loop-i g l = record {
  written : IsHonest (g.D.SectorDisk.medium l.initial.self.disk)
      → (g.D.SectorDisk.medium l.self.disk).contents ≡ set_run l.first (take l.i l.from) (g.D.SectorDisk.medium l.initial.self.disk).contents;
  run : WritesRun l.first l.from (g.D.SectorDisk.medium l.initial.self.disk) (g.D.SectorDisk.medium l.self.disk);
  size : g.D.SectorDisk.size l.self.disk ≡ g.D.SectorDisk.size l.initial.self.disk;
  failures : (g.D.SectorDisk.counts l.self.disk).failures ≡ (g.D.SectorDisk.counts l.initial.self.disk).failures;
  syncs : (g.D.SectorDisk.counts l.self.disk).syncs ≡ (g.D.SectorDisk.counts l.initial.self.disk).syncs;
}
