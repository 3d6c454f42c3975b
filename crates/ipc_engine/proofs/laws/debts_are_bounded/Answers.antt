use Rattle.ipc_engine.proofs.CallerLemmas.{owed-most, owed-none}
use Rattle.ipc_engine.proofs.laws.debts_are_bounded.Goals as goal

pub returns-clause-most : goal.returns-clause-most
returns-clause-most c limits s pid sound = owed-most limits s pid sound

pub returns-clause-none : goal.returns-clause-none
returns-clause-none c limits s pid sound gone = owed-none limits s pid sound gone
