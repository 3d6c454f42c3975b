use Rattle.std.proofs.Common.{◌≡◌, map, take}
use Rattle.sysv_sem.proofs.set.write_all.Given as goal

-- those before this one are written
abbrev pub invariant-loop-at : goal.invariant-loop-at
invariant-loop-at l = take l.at l.semaphores ≡ map (λ v. record { value = v; pid = l.pid }) (take l.at l.values)
