use Rattle.ipc_store.proofs.CallerLemmas.{StandsFor-one}
use Rattle.ipc_store.proofs.laws.an_image_stands_for_one_state.Goals as goal

pub returns : goal.returns
returns c = StandsFor-one
