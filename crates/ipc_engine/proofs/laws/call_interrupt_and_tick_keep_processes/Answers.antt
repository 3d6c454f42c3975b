use Rattle.ipc_engine.specs.Step.{due}
use Rattle.ipc_engine.proofs.Waiting.{asked-keeps, interrupt-keeps}
use Rattle.ipc_engine.proofs.laws.call_interrupt_and_tick_keep_processes.Goals as goal

pub returns-clause-next : goal.returns-clause-next
returns-clause-next c limits s pid moment request = (asked-keeps limits (due moment s).state pid request request.kind).0.next

pub returns-clause-pids : goal.returns-clause-pids
returns-clause-pids c limits s pid moment request = (asked-keeps limits (due moment s).state pid request request.kind).0.pids

pub returns-clause-creds : goal.returns-clause-creds
returns-clause-creds c limits s pid other moment request = (asked-keeps limits (due moment s).state pid request request.kind).0.creds other

pub returns-clause-interrupt : goal.returns-clause-interrupt
returns-clause-interrupt c limits s pid serial moment = (interrupt-keeps limits (due moment s).state pid serial).0
