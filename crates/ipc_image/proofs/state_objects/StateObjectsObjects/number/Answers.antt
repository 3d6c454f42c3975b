use Rattle.std.proofs.Common.{ap, sym, Some, ◌∙◌}
use Rattle.ipc_image.proofs.SavedObjects.{saved-number}
use Rattle.ipc_image.proofs.state_objects.StateObjectsObjects.number.Goals as goal

pub returns-then-i-lt-ALWAYS : goal.returns-then-i-lt-ALWAYS
returns-then-i-lt-ALWAYS c = saved-number c.args.self.now.0 c.args.self.now.1 c.args.i c.if-i-lt-ALWAYS.true ∙ ap Some (sym c.from.ensures)
