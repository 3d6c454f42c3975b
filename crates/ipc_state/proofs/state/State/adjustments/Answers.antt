use Rattle.std.proofs.Common.{map, ap, ◌∙◌}
use Rattle.ipc_state.specs.Held.{Held}
use Rattle.ipc_state.specs.Tables.{item_row}
use Rattle.ipc_state.proofs.state.State.adjustments.Goals as goal

pub returns : goal.returns
returns c = ap (map item_row) c.items.ensures ∙ ap (λ (m : Held). m.state.undo) c.self.view_is
