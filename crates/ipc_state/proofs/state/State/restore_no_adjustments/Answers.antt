use Rattle.std.proofs.Common.{List, ℕ, map, ap, ◌∙◌}
use Rattle.std.specs.FinMap as fin
use Rattle.ipc_base.specs.Table.{seen_as}
use Rattle.sem_undo.specs.Undo.{Undo}
use Rattle.ipc_state.specs.Held.{Held}
use Rattle.ipc_state.specs.Restored.{with_no_adjustments}
use Rattle.ipc_state.specs.State.{State}
use Rattle.ipc_state.specs.Tables.{item_row}
use Rattle.ipc_state.proofs.Inside.{state_in}
use Rattle.ipc_state.proofs.state.State.restore_no_adjustments.Goals as goal

pub returns-clause-state : goal.returns-clause-state
returns-clause-state c =
    let with_undo : List (ℕ × Undo) → State = λ (us : List (ℕ × Undo)). record (state_in c.self.inside) { undo = us } in
    ap with_undo c.in_ok-undo.ensures ∙ (λ i. with_undo (seen_as (λ p. fin.empty) (map item_row (c.items.ensures i))))
    ∙ ap (λ (m : Held). with_no_adjustments m.state) c.self.view_is
