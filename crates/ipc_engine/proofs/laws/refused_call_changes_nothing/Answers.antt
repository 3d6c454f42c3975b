use Rattle.ipc_engine.proofs.Waiting.{refused-same, already-same}
use Rattle.ipc_engine.proofs.laws.refused_call_changes_nothing.Goals as goal

pub returns-clause-refused : goal.returns-clause-refused
returns-clause-refused c limits s pid moment request e h is tried = refused-same limits s pid moment request e h is tried

pub returns-clause-waiting : goal.returns-clause-waiting
returns-clause-waiting c limits s pid moment request is waits = already-same limits s pid moment request is waits
