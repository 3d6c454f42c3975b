use Rattle.std.proofs.Common.{ap}
use Rattle.ipc_state.proofs.CallerLemmas.{restart-twice}
use Rattle.ipc_engine.specs.Step.{silent}
use Rattle.ipc_engine.proofs.laws.restart_twice_is_once.Goals as goal

pub returns-clause-state : goal.returns-clause-state
returns-clause-state c limits s = restart-twice limits s

pub returns-clause-step : goal.returns-clause-step
returns-clause-step c limits s = ap silent (restart-twice limits s)
