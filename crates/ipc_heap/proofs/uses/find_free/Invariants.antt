-- None of those so far is free.
use Rattle.std.proofs.Common.{◌≡◌, false}
use Rattle.std.specs.List.{AllWithin}
use Rattle.ipc_heap.specs.View.{is_free}
use Rattle.ipc_heap.proofs.uses.find_free.Given as goal

abbrev pub invariant-loop-i : goal.invariant-loop-i
invariant-loop-i l = AllWithin (λ u. is_free u ≡ false) l.uses l.from l.i
