-- none of the first i objects has the number
use Rattle.std.proofs.Common.{◌≡◌, drop}
use Rattle.std.specs.Prelude.{is_some, nat_eq}
use Rattle.ipc_base.specs.Table.{value_at}
use Rattle.ipc_checkpoint.proofs.saving.has.Given as goal

abbrev pub invariant-loop-i : goal.invariant-loop-i
invariant-loop-i g l =
    is_some (value_at nat_eq (g.O.Objects.objects l.objects) l.number)
    ≡ is_some (value_at nat_eq (drop l.i (g.O.Objects.objects l.objects)) l.number)
