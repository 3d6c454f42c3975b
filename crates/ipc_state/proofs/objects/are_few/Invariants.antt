use Rattle.std.proofs.Common.{◌≡◌, ◌+◌, take}
use Rattle.std.specs.Prelude.{sum_by}
use Rattle.ipc_state.proofs.objects.are_few.Given as goal

-- so much may still come
abbrev pub invariant-loop-item : goal.invariant-loop-item
invariant-loop-item g l = sum_by (λ e. g.T.Counted.count e.value.object) (take l.item-index l.items) + l.left ≡ l.most
