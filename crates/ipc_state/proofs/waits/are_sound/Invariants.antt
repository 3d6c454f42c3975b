use Rattle.std.proofs.Common.{take}
use Rattle.std.specs.Prelude.{All}
use Rattle.ipc_state.specs.Waiting.{IsSoundWaiting}
use Rattle.ipc_state.proofs.waits.are_sound.Given as goal

-- those before this one are
abbrev pub invariant-loop-waiting : goal.invariant-loop-waiting
invariant-loop-waiting l = All IsSoundWaiting (take l.waiting-index l.calls)
