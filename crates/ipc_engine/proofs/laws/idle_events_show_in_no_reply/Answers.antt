use Rattle.ipc_engine.proofs.Idle.{replies-alike}
use Rattle.ipc_engine.proofs.laws.idle_events_show_in_no_reply.Goals as goal

pub returns-clause-outcomes : goal.returns-clause-outcomes
returns-clause-outcomes c limits s es h rise process = (replies-alike limits s es h rise process).outcomes

pub returns-clause-state : goal.returns-clause-state
returns-clause-state c limits s es h rise process = (replies-alike limits s es h rise process).state
