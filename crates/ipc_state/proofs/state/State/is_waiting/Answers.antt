use Rattle.std.proofs.Common.{ap, ◌∙◌}
use Rattle.ipc_state.specs.Held.{Held}
use Rattle.ipc_state.specs.State.{is_waiting}
use Rattle.ipc_state.proofs.state.State.is_waiting.Goals as goal

pub returns : goal.returns
returns c = c.is_waiting.ensures ∙ ap (λ (m : Held). is_waiting m.state c.args.pid.0) c.self.view_is
