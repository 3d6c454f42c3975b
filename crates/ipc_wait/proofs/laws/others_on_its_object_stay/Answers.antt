use Rattle.ipc_wait.proofs.CallerLemmas.{waiting_call_of-passing, filter-without_passing}
use Rattle.ipc_wait.proofs.laws.others_on_its_object_stay.Goals as goal

pub returns-clause-found : goal.returns-clause-found
returns-clause-found g c eq on = waiting_call_of-passing (λ v. eq v.on on)

pub returns-clause-left : goal.returns-clause-left
returns-clause-left g c eq on = filter-without_passing (λ v. eq v.on on)
