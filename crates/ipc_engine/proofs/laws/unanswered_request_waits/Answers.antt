use Rattle.ipc_engine.proofs.CallerLemmas.{unanswered-waits}
use Rattle.ipc_engine.proofs.laws.unanswered_request_waits.Goals as goal

pub returns : goal.returns
returns c limits s e pid sound is asking none = unanswered-waits limits s e pid sound is asking none
