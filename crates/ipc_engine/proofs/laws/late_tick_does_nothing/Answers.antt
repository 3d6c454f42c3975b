use Rattle.ipc_engine.proofs.Waiting.{late-nothing}
use Rattle.ipc_engine.proofs.laws.late_tick_does_nothing.Goals as goal

pub returns-clause-tick : goal.returns-clause-tick
returns-clause-tick c limits s moment early late = late-nothing limits s moment early late

pub returns-clause-sound : goal.returns-clause-sound
returns-clause-sound c limits s h = λ k d i. (h.waits k d i).early
