use Rattle.std.proofs.Common.{◌≡◌, length, take}
use Rattle.std.specs.List.{filter}
use Rattle.ipc_state.specs.Waiting.{PlainWaiting}
use Rattle.sysv_calls.specs.Semop.{is_stopped}
use Rattle.sysv_calls.proofs.semop.count_stopped.Given as goal

-- those before this one are counted
abbrev pub invariant-loop-waiting : goal.invariant-loop-waiting
invariant-loop-waiting l =
    l.count ≡ length (filter (λ (w : PlainWaiting). is_stopped l.state.limits l.state.state l.zero l.id.0 l.num w.pid.0 w.call.kind)
    (take l.waiting-index l.state.state.wait))
