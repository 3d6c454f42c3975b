use Rattle.ipc_wait.proofs.CallerLemmas.{has_come-later, has_come-next_deadline}
use Rattle.ipc_wait.proofs.laws.deadlines_come.Goals as goal

pub returns-clause-stays : goal.returns-clause-stays
returns-clause-stays g c now later w = has_come-later now later w.deadline

pub returns-clause-next : goal.returns-clause-next
returns-clause-next g c = has_come-next_deadline
