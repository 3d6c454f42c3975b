use Rattle.std.proofs.Common.{◌≡◌, ℕ, List, map, Some, None, Bool, true, false, not, length, nat_eq, ap, sym, ◌∙◌}
use Rattle.std.specs.Prelude.{◌||◌, ◌&&◌, ◌==◌}
use Rattle.std.specs.FinMap as fin
use Rattle.std.specs.List.{list_any}
use Rattle.ipc_state.specs.declared.numbered.Item.{Item}
use Rattle.ipc_state.specs.declared.processes.Process.{Process}
use Rattle.ipc_state.specs.Tables.{item_row}
use Rattle.ipc_state.specs.Touching.{is_made_by, is_segment}
use Rattle.ipc_engine.specs.Changes.{has_adjustments, has_attachments, is_registered_with}
use Rattle.ipc_engine.proofs.Marks.{any-rows}
use Rattle.ipc_engine.proofs.changed.may_leave_changes.Goals.{After-has_adjustments, then-has_adjustments, else-has_adjustments}
use Rattle.ipc_engine.proofs.changed.may_leave_changes.Goals as goal

-- whether it has adjustments, if the code says so
owns : (c : After-has_adjustments) → c.has_adjustments.result ≡ has_adjustments c.args.pid.0 c.args.state.now.state.undo
owns c =
    c.has_adjustments.ensures
    ∙ any-rows item_row (λ p. nat_eq c.args.pid.0 p.0 && not (length (fin.entries p.1) == 0)) c.adjustments.result.now
    ∙ ap (has_adjustments c.args.pid.0) c.adjustments.ensures

-- and attachments
attaches : (pid : ℕ) (b : Bool) (items : List (Item Process)) (ps : List (ℕ × Process))
    → b ≡ list_any (λ i. nat_eq pid i.number && list_any (λ d. is_segment d.1.on.kind) i.value.descriptors) items → map item_row items ≡ ps
    → b ≡ has_attachments pid ps
attaches pid b items ps is same =
    is ∙ any-rows item_row (λ p. nat_eq pid p.0 && list_any (λ d. is_segment d.1.on.kind) p.1.descriptors) items ∙ ap (has_attachments pid) same

-- either of them
abbrev Leaves : After-has_adjustments → Bool
Leaves c = has_adjustments c.args.pid.0 c.args.state.now.state.undo || has_attachments c.args.pid.0 c.args.state.now.state.processes.entries

by-undo : (c : After-has_adjustments) → c.has_adjustments.result ≡ true → true ≡ Leaves c
by-undo c is = sym (ap (λ (b : Bool). b || has_attachments c.args.pid.0 c.args.state.now.state.processes.entries) (sym (owns c) ∙ is))

by-segments : (c : After-has_adjustments) → c.has_adjustments.result ≡ false
    → has_attachments c.args.pid.0 c.args.state.now.state.processes.entries ≡ Leaves c
by-segments c is = sym (ap (λ (b : Bool). b || has_attachments c.args.pid.0 c.args.state.now.state.processes.entries) (sym (owns c) ∙ is))

pub returns-then-has_attachments : goal.returns-then-has_attachments
returns-then-has_attachments c =
    let g = (goal.at.returns-then-has_attachments c).After-has_adjustments in
    let queues = is_registered_with c.args.pid.0 c.args.state.now.state.mq.entries in
    let both : true ≡ Leaves g = elim c.if-has_adjustments.branch [
      | then-has_adjustments w ↦ by-undo g w.if-has_adjustments.true
      | else-has_adjustments w ↦ sym c.if-has_attachments.true ∙ w.value-is
          ∙ attaches c.args.pid.0 w.has_attachments.result w.processes.result.now _ w.has_attachments.ensures w.processes.ensures
          ∙ by-segments g w.if-has_adjustments.false
    ] in
    c.if-has_attachments.true ∙ ap (λ (b : Bool). b || queues) both

pub returns-else-has_attachments : goal.returns-else-has_attachments
returns-else-has_attachments c =
    let g = (goal.at.returns-else-has_attachments c).After-has_adjustments in
    let queues = is_registered_with c.args.pid.0 c.args.state.now.state.mq.entries in
    let neither : false ≡ Leaves g = elim c.if-has_adjustments.branch [
      | then-has_adjustments w ↦ let no = sym c.if-has_attachments.false ∙ w.value-is ∙ w.if-has_adjustments.true in cc
      | else-has_adjustments w ↦ sym c.if-has_attachments.false ∙ w.value-is
          ∙ attaches c.args.pid.0 w.has_attachments.result w.processes.result.now _ w.has_attachments.ensures w.processes.ensures
          ∙ by-segments g w.if-has_adjustments.false
    ] in
    c.is_registered_with.ensures
    ∙ any-rows item_row (λ e. is_made_by (Some c.args.pid.0) None e.1.object.registration) c.mqs.result.now
    ∙ ap (is_registered_with c.args.pid.0) c.mqs.ensures
    ∙ ap (λ (b : Bool). b || queues) neither
