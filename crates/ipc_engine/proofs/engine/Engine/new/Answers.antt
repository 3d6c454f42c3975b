use Rattle.std.proofs.Common.{sym, subst}
use Rattle.ipc_state.specs.State.{State}
use Rattle.ipc_engine.specs.Sound.{IsSound}
use Rattle.ipc_engine.proofs.CallerLemmas.{start-sound}
use Rattle.ipc_engine.proofs.engine.Engine.new.Goals as goal

pub of-requires : goal.of-requires
of-requires c = subst (λ (s : State). IsSound c.new.result.limits s) (sym c.new.ensures.state) (start-sound c.new.result.limits)
