use Rattle.ipc_base.proofs.CallerLemmas.{rising-found}
use Rattle.ipc_engine.proofs.laws.pid_is_below_next.Goals as goal

pub returns-clause-least : goal.returns-clause-least
returns-clause-least c limits s pid sound there = (rising-found 1 s.processes.entries s.processes.next pid sound.parts.processes.numbered.numbers there).0

pub returns-clause-below : goal.returns-clause-below
returns-clause-below c limits s pid sound there = (rising-found 1 s.processes.entries s.processes.next pid sound.parts.processes.numbered.numbers there).1
