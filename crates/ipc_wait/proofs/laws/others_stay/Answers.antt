use Rattle.ipc_wait.specs.Waits.{is_due}
use Rattle.ipc_wait.proofs.CallerLemmas.{waiting_call_of-without_same, waiting_call_of-without_other, filter-without}
use Rattle.ipc_wait.proofs.laws.others_stay.Goals as goal

pub returns-clause-left : goal.returns-clause-left
returns-clause-left g c = waiting_call_of-without_same

pub returns-clause-others : goal.returns-clause-others
returns-clause-others g c = waiting_call_of-without_other

pub returns-clause-on : goal.returns-clause-on
returns-clause-on g c eq on = filter-without (λ v. eq v.on on)

pub returns-clause-due : goal.returns-clause-due
returns-clause-due g c now = filter-without (is_due now)
