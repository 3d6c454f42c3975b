-- so many times 512 bytes were read
use Rattle.std.proofs.Common.{◌≡◌, ℕ, ◌*◌, List, length, min, take, Some}
use Rattle.std.specs.Prelude.{nat_eq}
use Rattle.ipc_base.specs.Table.{value_at}
use Rattle.ipc_disk.specs.Calls.{OnlyReads}
use Rattle.ipc_disk.specs.Medium.{IsHonest}
use Rattle.ipc_heap.specs.View.{map_of}
use Rattle.ipc_checkpoint.proofs.loading.read_object.Given as goal

abbrev pub invariant-loop-k : goal.invariant-loop-k
invariant-loop-k g l = record {
  long : length l.bytes.items ≡ min (512 * l.k) l.len;
  bytes : IsHonest (g.D.SectorDisk.medium l.fn.disk) → (b : List ℕ)
      → value_at nat_eq (map_of l.heap (g.D.SectorDisk.medium l.fn.disk)) l.number ≡ Some b → l.bytes.items ≡ take (512 * l.k) b;
  reads : OnlyReads g.D.SectorDisk.size g.D.SectorDisk.medium g.D.SectorDisk.counts ⊥ l.fn.disk l.disk;
}
