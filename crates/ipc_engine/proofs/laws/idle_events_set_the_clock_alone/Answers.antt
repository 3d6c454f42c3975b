use Rattle.ipc_engine.proofs.Idle.{exit-accepted, idle-quiet, idle-state, restart-accepted}
use Rattle.ipc_engine.proofs.laws.idle_events_set_the_clock_alone.Goals as goal

pub returns-clause-state : goal.returns-clause-state
returns-clause-state c limits s e h idle = idle-state limits s e h idle

pub returns-clause-alone : goal.returns-clause-alone
returns-clause-alone c limits s e h idle = (idle-quiet limits s e h idle).alone

pub returns-clause-exit : goal.returns-clause-exit
returns-clause-exit c limits s pid moment = exit-accepted limits s pid moment

pub returns-clause-restart : goal.returns-clause-restart
returns-clause-restart c limits s = restart-accepted limits s
