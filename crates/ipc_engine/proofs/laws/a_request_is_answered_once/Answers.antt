use Rattle.ipc_engine.proofs.CallerLemmas.{step-once}
use Rattle.ipc_engine.proofs.laws.a_request_is_answered_once.Goals as goal

pub returns : goal.returns
returns c limits s e pid sound some = step-once limits s e pid sound some
