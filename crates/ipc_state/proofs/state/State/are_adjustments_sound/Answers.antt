use Rattle.std.proofs.Common.{◌≡◌, ℕ, List, map, subst, ap, ◌∙◌}
use Rattle.std.specs.Bool.{Decides}
use Rattle.ipc_base.specs.Table.{keys_of}
use Rattle.sem_undo.specs.Undo.{Undo}
use Rattle.ipc_state.specs.declared.processes.Process.{Process}
use Rattle.ipc_state.specs.Held.{Held}
use Rattle.ipc_state.specs.Tables.{item_row}
use Rattle.ipc_state.proofs.state.State.are_adjustments_sound.Goals.{After-have_same_numbers}
use Rattle.ipc_state.proofs.state.State.are_adjustments_sound.Goals as goal

-- whose they are, in the state of the contract
same : (c : After-have_same_numbers) → Decides c.have_same_numbers.result (keys_of c.args.self.now.state.undo ≡ keys_of c.args.self.now.state.processes.entries)
same c =
    let is = ap (map item_row) c.items.ensures ∙ ap (λ (m : Held). m.state.undo) c.self.view_is in
    let of = ap (map item_row) c.items-2.ensures ∙ ap (λ (m : Held). m.state.processes.entries) c.self.view_is in
    subst (λ (us : List (ℕ × Undo)). Decides c.have_same_numbers.result (keys_of us ≡ keys_of c.args.self.now.state.processes.entries)) is
    (subst (λ (ps : List (ℕ × Process)).
    Decides c.have_same_numbers.result (keys_of (map item_row c.items.result.now) ≡ keys_of ps)) of c.have_same_numbers.ensures)

pub returns-then-have_same_numbers : goal.returns-then-have_same_numbers
returns-then-have_same_numbers c =
    let pids = (same ((goal.at.returns-then-have_same_numbers c).After-have_same_numbers)).0 c.if-have_same_numbers.true in (
      λ yes. let kept = c.are_adjustments_kept.ensures.0 yes in record { pids = pids; each = kept.0; kept = kept.1; few = kept.2 },
      λ h. c.are_adjustments_kept.ensures.1 (h.each, h.kept, h.few),
    )

pub returns-else-have_same_numbers : goal.returns-else-have_same_numbers
returns-else-have_same_numbers c =
    (λ yes. let no = c.if-have_same_numbers.false in cc, λ h. (same ((goal.at.returns-else-have_same_numbers c).After-have_same_numbers)).1 h.pids)
