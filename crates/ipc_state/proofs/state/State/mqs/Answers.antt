use Rattle.std.proofs.Common.{ap, ◌∙◌}
use Rattle.ipc_state.specs.Held.{Held}
use Rattle.ipc_state.proofs.state.State.mqs.Goals as goal

pub returns : goal.returns
returns c = c.items.ensures ∙ ap (λ (m : Held). m.state.mq.entries) c.self.view_is
