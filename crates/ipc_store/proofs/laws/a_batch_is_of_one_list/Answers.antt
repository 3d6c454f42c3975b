use Rattle.ipc_store.specs.Batch.{most_bytes}
use Rattle.ipc_store.proofs.CallerLemmas.{batch-one}
use Rattle.ipc_store.proofs.laws.a_batch_is_of_one_list.Goals as goal

pub returns : goal.returns
returns c = batch-one most_bytes
