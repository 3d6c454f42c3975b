use Rattle.std.proofs.Common.{[], length, ap, arith}
use Rattle.ipc_engine.specs.Event.{Restart}
use Rattle.ipc_store.proofs.Batches.{record-length}
use Rattle.ipc_store.proofs.larger.take_restart.Goals as goal

pub step-requires-clause-room : goal.step-requires-clause-room
step-requires-clause-room g c = omega (arith, record-length Restart, ap length c.requires.empty)

pub returns-clause-matches : goal.returns-clause-matches
returns-clause-matches g c = λ base at. c.in_default.ensures.matches base [] at
