-- No sector of the heap is new.
use Rattle.ipc_heap.proofs.CallerLemmas.{Holds-grown}
use Rattle.ipc_heap.proofs.laws.a_disk_that_has_grown_has_the_same_heap.Goals as goal

pub returns : goal.returns
returns c = Holds-grown
