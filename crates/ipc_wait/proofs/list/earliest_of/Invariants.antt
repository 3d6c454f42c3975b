use Rattle.std.proofs.Common.{◌≡◌, take}
use Rattle.ipc_wait.specs.Waits.{next_deadline}
use Rattle.ipc_wait.proofs.list.earliest_of.Given as goal

abbrev pub invariant-loop-waiting : goal.invariant-loop-waiting
invariant-loop-waiting g l = l.soonest ≡ next_deadline (take l.waiting-index l.calls)
