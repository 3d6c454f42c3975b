use Rattle.ipc_engine.proofs.CallerLemmas.{start-sound}
use Rattle.ipc_engine.proofs.Soundness.{step-sound}
use Rattle.ipc_engine.proofs.laws.step_keeps_soundness.Goals as goal

pub returns-clause-start : goal.returns-clause-start
returns-clause-start c limits = start-sound limits

pub returns-clause-step : goal.returns-clause-step
returns-clause-step c limits s e h is has = step-sound limits s e h is has
