use Rattle.ipc_engine.proofs.Waiting.{sets-clock}
use Rattle.ipc_engine.proofs.laws.event_sets_clock.Goals as goal

pub returns : goal.returns
returns c limits s e = sets-clock limits s e
