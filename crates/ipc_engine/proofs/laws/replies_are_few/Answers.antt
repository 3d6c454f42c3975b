use Rattle.ipc_engine.proofs.Waiting.{step-few}
use Rattle.ipc_engine.proofs.laws.replies_are_few.Goals as goal

pub returns : goal.returns
returns c limits s e h = step-few limits s e h
