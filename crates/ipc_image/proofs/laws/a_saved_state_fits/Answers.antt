use Rattle.ipc_image.proofs.CallerLemmas.{saved-fits}
use Rattle.ipc_image.proofs.laws.a_saved_state_fits.Goals as goal

pub returns : goal.returns
returns c = saved-fits
