use Rattle.std.proofs.Common.{List, ℕ, ◌≡◌, ◌<◌, ◌^◌, ◌∙◌, ◌++◌, map, length, ap, sym, subst}
use Rattle.std.specs.Prelude.{All}
use Rattle.std.specs.FinMap as fin
use Rattle.ipc_base.specs.Table.{keys_of, seen_as}
use Rattle.sem_undo.specs.Undo.{Undo}
use Rattle.ipc_state.specs.State.{State}
use Rattle.ipc_state.specs.declared.processes.Process.{Process}
use Rattle.ipc_image.specs.declared.adjustments.Adjustment.{Adjustment as Read}
use Rattle.ipc_image.specs.Relations.Adjustments.{plain_of}
use Rattle.ipc_image.specs.Relations.Trees.{adjustment_one}
use Rattle.ipc_image.specs.Saved.{Adjustment, adjustments_in, adjustment_bytes, adjustment_shape, adjustment_numbers, counted_bytes, FitsAdjustment}
use Rattle.ipc_image.specs.SavedParts.{all_attached}
use Rattle.ipc_image.proofs.Attaching.{none-same, none-keys_of, keys-attached, attached-all}
use Rattle.ipc_image.specs.Relations.Shapes.{plain_one, counted_one}
use Rattle.ipc_image.proofs.adjustments.restore_adjustments.Goals as goal

pub returns-then-not-are_adjustments-clause-damaged : goal.returns-then-not-are_adjustments-clause-damaged
returns-then-not-are_adjustments-clause-damaged c is undo few fit keys distinct same =
    let read = c.in_ok-read_counted.ensures.ok in
    let xs : List Adjustment = read.0 in
    let entries : List (ℕ × Process) = c.args.state.now.state.processes.entries in
    let begun : List (ℕ × Undo) = seen_as (λ (p : Process). let n : Undo = fin.empty in n) entries in
    let rows : map plain_of c.read_counted.new.into.items ≡ xs =
    read.4 ∙ ap (λ (l : List Read). map plain_of l ++ xs) c.new-rows.ensures.items in
    let all : adjustments_in undo ≡ xs =
    counted_one adjustment_bytes FitsAdjustment (plain_one adjustment_shape adjustment_numbers FitsAdjustment (λ x fit. fit.1) adjustment_one)
    (adjustments_in undo) xs few read.1 fit read.2 (sym same ∙ read.3) in
    let made : c.attach_all.new.state.state.undo ≡ undo =
    ap (λ (s : State). s.undo) c.in_ok-attach_all.ensures.state
    ∙ ap (λ (s : State). all_attached s.undo (map plain_of c.deref.result.now)) c.in_ok-restore_no_adjustments.ensures.state
    ∙ ap (all_attached begun) (ap (map plain_of) c.deref.ensures.value ∙ rows ∙ sym all)
    ∙ ap (λ (l : List (ℕ × Undo)). all_attached l (adjustments_in undo)) (none-same entries undo (sym keys)) ∙ attached-all undo distinct in
    let yes = c.are_adjustments.ensures.1 (ap adjustments_in (c.adjustments.ensures ∙ made) ∙ all ∙ sym rows
    ∙ sym (ap (map plain_of) c.deref-2.ensures.value)) in
    let other = c.if-not-are_adjustments.true in
    cc

pub returns-clause-ok : goal.returns-clause-ok
returns-clause-ok c =
    let read = c.in_ok-read_counted.ensures.ok in
    let xs : List Adjustment = read.0 in
    let rows : map plain_of c.read_counted.new.into.items ≡ xs =
    read.4 ∙ ap (λ (l : List Read). map plain_of l ++ xs) c.new-rows.ensures.items in
    let all : xs ≡ adjustments_in c.attach_all.new.state.state.undo =
    sym (ap adjustments_in (sym c.adjustments.ensures) ∙ c.are_adjustments.ensures.0 c.if-not-are_adjustments.false
    ∙ ap (map plain_of) c.deref-2.ensures.value ∙ rows) in (
      subst (λ (l : List Adjustment). length l < 2 ^ 32) all read.1,
      subst (All FitsAdjustment) all read.2,
      read.3 ∙ ap (counted_bytes adjustment_bytes) all,
      ap (λ (s : State). keys_of s.undo) c.in_ok-attach_all.ensures.state
          ∙ keys-attached c.restore_no_adjustments.new.self.state.undo (map plain_of c.deref.result.now)
          ∙ ap (λ (s : State). keys_of s.undo) c.in_ok-restore_no_adjustments.ensures.state ∙ none-keys_of c.args.state.now.state.processes.entries,
    )
