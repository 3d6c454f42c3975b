use Rattle.std.proofs.Common.{rules}
use Rattle.ipc_hub.proofs.Rows.{process_of, put-changed, same-changed}
use Rattle.ipc_hub.proofs.serving.close.Goals as goal

pub returns-in_err-session-clause-process : goal.returns-in_err-session-clause-process
returns-in_err-session-clause-process c = search (rules, process_of)

pub returns-in_err-session-clause-table : goal.returns-in_err-session-clause-table
returns-in_err-session-clause-table c = search (rules, same-changed)

pub returns-clause-process : goal.returns-clause-process
returns-clause-process c = search (rules, process_of)

pub returns-clause-table : goal.returns-clause-table
returns-clause-table c = search (rules, put-changed)
