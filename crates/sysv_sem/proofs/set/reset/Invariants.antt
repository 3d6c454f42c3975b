use Rattle.std.proofs.Common.{◌≡◌, take}
use Rattle.std.specs.Prelude.{replicate}
use Rattle.sysv_sem.proofs.set.reset.Given as goal

-- those before this one are as new
abbrev pub invariant-loop-at : goal.invariant-loop-at
invariant-loop-at l = take l.at l.semaphores ≡ replicate l.at (record { value = 0; pid = record { 0 = 0 } })
