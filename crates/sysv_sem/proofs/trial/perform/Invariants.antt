use Rattle.std.proofs.Common.{◌≡◌, take}
use Rattle.std.specs.List.{fold}
use Rattle.sysv_sem.specs.Trial.{changed_by}
use Rattle.sysv_sem.proofs.trial.perform.Given as goal

abbrev pub invariant-loop-operation : goal.invariant-loop-operation
invariant-loop-operation l = l.semaphores ≡ fold (changed_by l.pid) l.initial.semaphores (take l.operation-index l.operations)
