use Rattle.ipc_engine.proofs.Early.{step-early}
use Rattle.ipc_engine.proofs.Soundness.{step-sound}
use Rattle.ipc_engine.proofs.laws.nobody_waits_who_could_go_on.Goals as goal

pub returns-clause-waits : goal.returns-clause-waits
returns-clause-waits c limits s e h is has = λ k d i. ((step-sound limits s e h is has).waits k d i).waits

pub returns-clause-early : goal.returns-clause-early
returns-clause-early c limits s e = step-early limits s e
