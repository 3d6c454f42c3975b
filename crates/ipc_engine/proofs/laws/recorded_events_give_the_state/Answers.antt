use Rattle.ipc_engine.proofs.Idle.{answer-clock, recorded-run}
use Rattle.ipc_engine.proofs.laws.recorded_events_give_the_state.Goals as goal

pub returns-clause-run : goal.returns-clause-run
returns-clause-run c limits s e = recorded-run limits s e

pub returns-clause-clock : goal.returns-clause-clock
returns-clause-clock c limits s e h = answer-clock limits s e h
