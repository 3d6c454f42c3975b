use Rattle.std.proofs.Common.{◌≡◌, take}
use Rattle.std.specs.List.{fold}
use Rattle.sysv_sem.specs.Trial.{adjustment_of}
use Rattle.sysv_sem.proofs.trial.adjustment_of.Given as goal

abbrev pub invariant-loop-place : goal.invariant-loop-place
invariant-loop-place g l = l.adjustment ≡ fold (adjustment_of l.num) l.initial.adjustment (take l.place (g.L.OperationList.operations l.list))
