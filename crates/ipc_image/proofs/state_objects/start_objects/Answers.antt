use Rattle.ipc_state.specs.State.{start}
use Rattle.ipc_engine.proofs.CallerLemmas.{start-sound}
use Rattle.ipc_image.proofs.SavedObjects.{start-places, start-are}
use Rattle.ipc_image.proofs.Fits.{saved-fit}
use Rattle.ipc_image.proofs.state_objects.start_objects.Goals as goal

pub invariant_of-result : goal.invariant_of-result
invariant_of-result c = (c.requires, start-places, start-are c.args.form c.requires)

pub returns-clause-fit : goal.returns-clause-fit
returns-clause-fit c limits of = saved-fit c.args.form c.requires limits start of (start-sound limits)
