use Rattle.ipc_engine.proofs.CallerLemmas.{step-owes}
use Rattle.ipc_engine.proofs.laws.replies_are_asked_for.Goals as goal

pub returns : goal.returns
returns c limits s e pid sound some = step-owes limits s e pid sound some
