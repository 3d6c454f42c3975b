-- So many sectors of the table are written, and nothing else.
use Rattle.std.proofs.Common.{take}
use Rattle.std.specs.Prelude.{Contains}
use Rattle.ipc_disk.specs.Medium.{IsHonest}
use Rattle.ipc_heap.proofs.Writes.{Wrote, StandsIn, TableSector}
use Rattle.ipc_heap.proofs.table.write_table.Given as goal

abbrev pub invariant-loop-j : goal.invariant-loop-j
invariant-loop-j g l = record {
  wrote : Wrote g.D.SectorDisk.size g.D.SectorDisk.medium g.D.SectorDisk.counts (λ i. Contains (g.T.Table.sectors l.table) i → ⊥) l.j l.initial.disk l.disk;
  stands : IsHonest (g.D.SectorDisk.medium l.initial.disk)
      → StandsIn (TableSector (g.T.Table.words l.table) (g.T.Table.sectors l.table)) (take l.j (g.T.Table.sectors l.table))
      (g.D.SectorDisk.medium l.disk).contents;
}
