use Rattle.ipc_engine.proofs.Waiting.{waits-joins, waits-ends}
use Rattle.ipc_engine.proofs.laws.call_that_cannot_go_on_waits.Goals as goal

pub returns-clause-joins : goal.returns-clause-joins
returns-clause-joins c limits s pid moment request on awaits free tried early =
    waits-joins limits s pid moment request on awaits free tried early

pub returns-clause-ends : goal.returns-clause-ends
returns-clause-ends c limits s pid moment request on awaits free tried late =
    waits-ends limits s pid moment request on awaits free tried late
