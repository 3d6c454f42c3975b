use Rattle.std.proofs.Common.{ap, ◌∙◌}
use Rattle.ipc_wait.specs.Waits.{next_deadline}
use Rattle.ipc_engine.specs.Engine.{Machine}
use Rattle.ipc_engine.proofs.engine.Engine.next_deadline.Goals as goal

pub returns : goal.returns
returns c = c.next_deadline.ensures ∙ ap (λ (m : Machine). next_deadline m.state.wait) c.self.view_is
