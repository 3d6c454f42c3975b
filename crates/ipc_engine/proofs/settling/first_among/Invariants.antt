use Rattle.std.proofs.Common.{◌≡◌, false, take}
use Rattle.std.specs.Prelude.{All}
use Rattle.ipc_state.specs.Waiting.{PlainWaiting}
use Rattle.ipc_engine.specs.Step.{can_resume}
use Rattle.ipc_engine.proofs.settling.first_among.Given as goal

-- those before this one have to wait
abbrev pub invariant-loop-waiting : goal.invariant-loop-waiting
invariant-loop-waiting l = All (λ (w : PlainWaiting). can_resume l.state.limits l.state.state w ≡ false) (take l.waiting-index l.calls)
