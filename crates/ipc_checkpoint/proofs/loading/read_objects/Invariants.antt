-- the first i objects were read
use Rattle.std.proofs.Common.{◌≡◌, ◌-◌, ◌≤◌, length, take}
use Rattle.ipc_base.specs.Table.{seen_as}
use Rattle.ipc_disk.specs.Calls.{OnlyReads}
use Rattle.ipc_disk.specs.Medium.{IsHonest}
use Rattle.ipc_heap.specs.View.{map_of, sizes_of}
use Rattle.ipc_checkpoint.proofs.loading.read_objects.Given as goal

abbrev pub invariant-loop-number : goal.invariant-loop-number
invariant-loop-number g l = record {
  sizes : seen_as (λ bytes. length bytes) l.objects ≡ take l.i (sizes_of l.heap);
  objects : IsHonest (g.D.SectorDisk.medium l.fn.disk) → l.objects ≡ take l.i (map_of l.heap (g.D.SectorDisk.medium l.fn.disk));
  reads : OnlyReads g.D.SectorDisk.size g.D.SectorDisk.medium g.D.SectorDisk.counts ⊥ l.fn.disk l.disk;
  few : l.i ≤ length l.heap.placed;
}

abbrev pub decreases-loop-number : goal.decreases-loop-number
decreases-loop-number g l = length l.heap.placed - l.i
