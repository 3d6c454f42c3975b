use Rattle.ipc_engine.proofs.Soundness.{step-fits}
use Rattle.ipc_engine.proofs.laws.replies_fit.Goals as goal

pub returns : goal.returns
returns c limits s e h = step-fits limits s e h
