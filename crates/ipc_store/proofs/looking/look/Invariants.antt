-- The looks so far have read, and nothing else.
use Rattle.std.proofs.Common.{◌≡◌, length}
use Rattle.ipc_store.specs.Batch.{most_bytes}
use Rattle.ipc_store.specs.Look.{LeavesAlone}
use Rattle.ipc_store.proofs.looking.look.Given as goal

abbrev pub invariant-loop : goal.invariant-loop
invariant-loop g l = record {
  alone : LeavesAlone g.D.SectorDisk.size g.D.SectorDisk.medium g.D.SectorDisk.counts l.fn.disk l.disk;
  room : length l.room.items ≡ most_bytes;
}
