use Rattle.ipc_engine.proofs.Idle.{second-tick}
use Rattle.ipc_engine.proofs.laws.second_tick_does_nothing.Goals as goal

pub returns : goal.returns
returns c limits s e other = second-tick limits s e
