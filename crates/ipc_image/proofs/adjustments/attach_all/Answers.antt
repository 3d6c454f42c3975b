use Rattle.std.proofs.Common.{List, ℕ, pos, get_or, ◌∙◌, ap, subst, arith}
use Rattle.std.proofs.lemmas.List.{length-map, get_or-map}
use Rattle.sem_undo.specs.Undo.{Undo}
use Rattle.ipc_state.specs.Restored.{with_adjustment}
use Rattle.ipc_state.specs.State.{State}
use Rattle.ipc_image.specs.declared.adjustments.Adjustment.{Adjustment}
use Rattle.ipc_image.specs.Relations.Adjustments.{plain_of}
use Rattle.ipc_image.specs.Saved.{FitsAdjustment}
use Rattle.ipc_image.proofs.Attaching.{attached-more}
use Rattle.ipc_image.proofs.adjustments.attach_all.Goals as goal

pub loop-row-preserved : goal.loop-row-preserved
loop-row-preserved c =
    let i : ℕ = c.loop-row.row-index in
    let rows : List Adjustment = c.args.rows.now in
    let none : Adjustment = record { pid = record { 0 = 0 }; row = record { set = record { 0 = 0 }; num = 0; adjustment = pos 0 } } in
    let row : Adjustment = get_or rows i none in
    let fit = subst FitsAdjustment (get_or-map plain_of rows i none (plain_of none) c.loop-row-test.true)
    (c.requires i (plain_of none) (omega (arith, length-map rows plain_of, c.loop-row-test.true))) in
    record {
      state = c.in_ok-restore_adjustment.ensures.state fit.0
          ∙ ap (λ (s : State). with_adjustment s row.pid.0 row.row) c.loop-row.invariant.state
          ∙ ap (λ (us : List (ℕ × Undo)). let s : State = record c.args.state.now.state { undo = us } in s)
          (attached-more c.args.state.now.state.undo rows i none c.loop-row-test.true);
      limits = c.restore_adjustment.ensures.limits ∙ c.loop-row.invariant.limits;
    }
