-- So many sectors of the object are taken and written.
use Rattle.std.proofs.Common.{◌≡◌, vec_capacity}
use Rattle.ipc_heap.specs.Relations.Table.{object_at}
use Rattle.ipc_heap.proofs.Writes.{ObjectSoFar}
use Rattle.ipc_heap.proofs.objects.write_object.Given as goal

abbrev pub invariant-loop-k : goal.invariant-loop-k
invariant-loop-k g l = record {
  so_far : ObjectSoFar g.D.SectorDisk.size g.D.SectorDisk.medium g.D.SectorDisk.counts l.range (object_at (g.O.Objects.objects l.objects) l.i).1 l.k
      l.initial.disk l.disk l.initial.uses l.uses l.initial.words.items l.words.items;
  capacity : vec_capacity l.words ≡ vec_capacity l.initial.words;
  mark : g.O.Objects.marks l.objects l.i l.mark;
}
