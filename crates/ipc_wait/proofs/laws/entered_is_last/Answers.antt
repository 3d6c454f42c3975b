use Rattle.ipc_wait.specs.Waits.{is_due}
use Rattle.ipc_wait.proofs.CallerLemmas.{filter-enter}
use Rattle.ipc_wait.proofs.laws.entered_is_last.Goals as goal

pub returns-clause-on : goal.returns-clause-on
returns-clause-on g c eq on = filter-enter (λ v. eq v.on on)

pub returns-clause-due : goal.returns-clause-due
returns-clause-due g c now = filter-enter (is_due now)
