use Rattle.std.proofs.Common.{◌-◌, length}
use Rattle.std.specs.Prelude.{is_some, nat_eq}
use Rattle.ipc_base.specs.Table.{value_at}
use Rattle.ipc_checkpoint.proofs.Keeping.{KeepsSoFar}
use Rattle.ipc_checkpoint.proofs.saving.keep_those_of.Given as goal

abbrev pub invariant-loop-number : goal.invariant-loop-number
invariant-loop-number g l =
    KeepsSoFar (λ number. is_some (value_at nat_eq (g.O.Objects.objects l.objects) number)) l.i l.fn.heap l.heap

-- an object is passed over, or is one less
abbrev pub decreases-loop-number : goal.decreases-loop-number
decreases-loop-number g l = length l.heap.placed - l.i
