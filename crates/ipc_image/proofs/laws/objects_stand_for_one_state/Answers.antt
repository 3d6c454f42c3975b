use Rattle.ipc_image.proofs.CallerLemmas.{stand-one}
use Rattle.ipc_image.proofs.laws.objects_stand_for_one_state.Goals as goal

pub returns : goal.returns
returns c = stand-one
