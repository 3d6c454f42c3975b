use Rattle.std.proofs.Common.{rules}
use Rattle.ipc_base.proofs.CallerLemmas.{rising-entry}
use Rattle.ipc_hub.proofs.Rows.{inserted}
use Rattle.ipc_hub.proofs.connections.Connections.insert.Goals as goal

pub invariant_of-self-2 : goal.invariant_of-self-2
invariant_of-self-2 c = search (rules, inserted, rising-entry)

pub returns-clause-ok : goal.returns-clause-ok
returns-clause-ok c = search (rules, inserted)
