use Rattle.std.proofs.Common.{◌≡◌, ◌∙◌, get_or, pos, true, false, not, refl, ap, sym, arith}
use Rattle.sem_undo.specs.declared.undo.UndoRow.{UndoRow}
use Rattle.ipc_image.specs.declared.adjustments.Adjustment.{Adjustment}
use Rattle.ipc_image.specs.Relations.Adjustments.{plain_of}
use Rattle.ipc_image.specs.SavedParts.{of_process}
use Rattle.ipc_image.proofs.Attaching.{same_maps, maps_at, row_is, same_test}
use Rattle.ipc_image.proofs.adjustments.are_own.Goals.{then-rows-place-via-then-rows-place, then-rows-place-via-else-rows-place+then-ne}
use Rattle.ipc_image.proofs.adjustments.are_own.Goals as goal

pub returns-then-rows-place : goal.returns-then-rows-place
returns-then-rows-place c = (
  λ yes. cc,
  λ same.
      let at : (d : UndoRow) (e : Adjustment) → ((get_or c.args.rows.now c.loop-place.place e).pid.0 ≡ c.args.pid)
      × ((get_or c.args.rows.now c.loop-place.place e).row ≡ get_or c.args.own.now c.loop-place.place d) =
      λ d e. row_is c.args.pid _ _ (maps_at (of_process c.args.pid) plain_of c.args.own.now c.args.rows.now same c.loop-place.place d e
      c.loop-place-test.true (omega (arith, c.loop-place-test.true, c.requires))) in
      let own_none : UndoRow = record { set = record { 0 = 0 }; num = 0; adjustment = pos 0 } in
      let none : Adjustment = record { pid = record { 0 = 0 }; row = own_none } in
      elim c.then-rows-place.branch [
        | then-rows-place-via-then-rows-place w ↦ absurd (w.if-rows-place.true (at own_none none).0)
        | then-rows-place-via-else-rows-place+then-ne w ↦
            let bad : true ≡ false = sym w.if-ne.true ∙ w.ne.ensures ∙ ap not (same_test _ _ (at own_none none).1) in cc
      ],
)

pub returns : goal.returns
returns c = (
  λ _. same_maps (of_process c.args.pid) plain_of c.args.own.now c.args.rows.now c.requires
      (λ k d e within. c.loop-place.invariant k d e (omega (arith, within, c.loop-place-test.false))),
  λ _. refl,
)
