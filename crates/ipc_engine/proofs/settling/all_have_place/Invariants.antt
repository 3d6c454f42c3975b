use Rattle.std.proofs.Common.{take}
use Rattle.std.specs.Prelude.{All}
use Rattle.ipc_engine.specs.Sound.{HasToWait}
use Rattle.ipc_engine.proofs.settling.all_have_place.Given as goal

-- those before this one do
abbrev pub invariant-loop-waiting : goal.invariant-loop-waiting
invariant-loop-waiting l = All (HasToWait l.state.limits l.state.state) (take l.waiting-index l.calls)
