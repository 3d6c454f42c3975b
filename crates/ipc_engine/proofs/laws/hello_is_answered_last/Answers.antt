use Rattle.ipc_engine.proofs.CallerLemmas.{hello-greets}
use Rattle.ipc_engine.proofs.laws.hello_is_answered_last.Goals as goal

pub returns : goal.returns
returns c limits s cred serial moment sound = hello-greets limits s cred serial moment sound
