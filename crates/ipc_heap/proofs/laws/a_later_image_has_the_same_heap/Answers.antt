-- What is used of the earlier one is there in the later one.
use Rattle.ipc_heap.proofs.CallerLemmas.{KeepsUsed-holds}
use Rattle.ipc_heap.proofs.laws.a_later_image_has_the_same_heap.Goals as goal

pub returns : goal.returns
returns c = λ range root epoch objects earlier later apart keeps holds. record {
  allocation = holds.allocation;
  there = KeepsUsed-holds range root apart earlier later keeps epoch holds.allocation objects holds.there;
}
