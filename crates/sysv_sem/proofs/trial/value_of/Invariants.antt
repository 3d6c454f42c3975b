use Rattle.std.proofs.Common.{◌≡◌, take}
use Rattle.std.specs.List.{fold}
use Rattle.sysv_sem.specs.Trial.{value_of}
use Rattle.sysv_sem.proofs.trial.value_of.Given as goal

abbrev pub invariant-loop-place : goal.invariant-loop-place
invariant-loop-place g l = l.value ≡ fold (value_of l.num) l.initial.value (take l.place (g.L.OperationList.operations l.list))
