use Rattle.std.proofs.Common.{take}
use Rattle.sysv_sem.specs.Bits.{AreNamed}
use Rattle.sysv_sem.proofs.Trials.{Passed, values}
use Rattle.sysv_sem.proofs.trial.try_list.Given as goal

-- those before this one pass, and their semaphores are named
abbrev pub invariant-loop-place : goal.invariant-loop-place
invariant-loop-place g l =
    record {
      passed : Passed (values l.semaphores) (g.L.OperationList.adjustments l.list) (g.L.OperationList.operations l.list) l.place;
      named : AreNamed l.named (take l.place (g.L.OperationList.operations l.list));
    }
