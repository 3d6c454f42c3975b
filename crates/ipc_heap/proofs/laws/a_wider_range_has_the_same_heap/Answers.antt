-- Each of its sectors is one of the wider range.
use Rattle.ipc_heap.proofs.CallerLemmas.{Holds-wider}
use Rattle.ipc_heap.proofs.laws.a_wider_range_has_the_same_heap.Goals as goal

pub returns : goal.returns
returns c = Holds-wider
