use Rattle.std.proofs.Common.{◌≡◌}
use Rattle.std.specs.Prelude.{vec_capacity}
use Rattle.ipc_disk.specs.Calls.{OnlyReads}
use Rattle.ipc_disk.specs.Medium.{IsHonest}
use Rattle.ipc_heap.proofs.Opens.{AreRead, AreHops}
use Rattle.ipc_heap.proofs.opening.read_table.Given as goal

-- so many sectors of the table were read
abbrev pub invariant-loop-j : goal.invariant-loop-j
invariant-loop-j g l = record {
  read : AreRead l.range l.root l.table.items l.words.items l.uses l.j l.at;
  hops : IsHonest (g.D.SectorDisk.medium l.fn.disk)
      → AreHops l.root (g.D.SectorDisk.medium l.fn.disk).contents l.table.items l.words.items l.at;
  reads : OnlyReads g.D.SectorDisk.size g.D.SectorDisk.medium g.D.SectorDisk.counts ⊥ l.fn.disk l.disk;
  room : vec_capacity l.table ≡ vec_capacity l.fn.table;
  words_room : vec_capacity l.words ≡ vec_capacity l.fn.words;
}
