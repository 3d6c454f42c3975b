use Rattle.ipc_image.proofs.CallerLemmas.{area-counted}
use Rattle.ipc_image.proofs.laws.an_area_can_be_counted.Goals as goal

pub returns : goal.returns
returns c = area-counted
