use Rattle.std.proofs.Common.{◌≡◌, take}
use Rattle.std.specs.Prelude.{sum_by}
use Rattle.posix_calls.specs.Registrations.{own}
use Rattle.posix_calls.proofs.mq.registrations.Given as goal

-- those before this one are counted
abbrev pub invariant-loop-item : goal.invariant-loop-item
invariant-loop-item l = l.count ≡ sum_by (λ e. own l.pid.0 e.value.object.registration) (take l.item-index l.item-items)
