use Rattle.std.proofs.Common.{pos, FitsSigned, rules, sym, ap, subst, ◌∙◌}
use Rattle.std.specs.Option.{unwrap_or}
use Rattle.std.specs.Int.{w16}
use Rattle.std.proofs.lemmas.Int.{to_z-of_z}
use Rattle.std.specs.FinMap.{get-from_sorted}
use Rattle.sem_undo.specs.Undo.{Key, IsSoundUndo, key_cmp, entry_of, adjustment}
use Rattle.sem_undo.specs.Rows.{entries_of, IsAt, IsGap}
use Rattle.sem_undo.proofs.Sorted.{found, missing}
use Rattle.sem_undo.proofs.Tables.{key_total, sound}
use Rattle.sem_undo.proofs.undo.SemUndo.get.Goals as goal

pub returns-in-Ok-clause-adjustment : goal.returns-in-Ok-clause-adjustment
returns-in-Ok-clause-adjustment c =
    let rows = c.self.inside.rows.items in
    let key : Key = (c.args.set.0, c.args.num) in
    let fit : FitsSigned w16 c.index.result.now.adjustment = search rules in
    let at = subst (λ ys. IsAt key_cmp entry_of key ys c.in-Ok.place) c.deref.ensures.value c.in-Ok.ensures.at in
    to_z-of_z w16 _ fit ∙ ap (λ r. r.adjustment) c.index.ensures
    ∙ sym (ap (λ r. unwrap_or r (pos 0)) (get-from_sorted key_cmp (entries_of rows) key c.self.invariant.0.rising
    ∙ found key_cmp key_total entry_of key rows c.in-Ok.place at c.index.result.now))
    ∙ ap (λ t. adjustment t key) c.self.view_is

pub returns-in-Ok-clause-sound : goal.returns-in-Ok-clause-sound
returns-in-Ok-clause-sound c = subst (λ t. IsSoundUndo t) c.self.view_is (sound (entries_of c.self.inside.rows.items) c.self.invariant.0)

pub returns-in-Err-clause-adjustment : goal.returns-in-Err-clause-adjustment
returns-in-Err-clause-adjustment c =
    let rows = c.self.inside.rows.items in
    let key : Key = (c.args.set.0, c.args.num) in
    let gap = subst (λ ys. IsGap key_cmp entry_of key ys c.in-Err.field-0) c.deref.ensures.value c.in-Err.ensures.gap in
    sym (ap (λ r. unwrap_or r (pos 0)) (get-from_sorted key_cmp (entries_of rows) key c.self.invariant.0.rising
    ∙ missing key_cmp key_total entry_of key rows c.in-Err.field-0 gap))
    ∙ ap (λ t. adjustment t key) c.self.view_is

pub returns-in-Err-clause-sound : goal.returns-in-Err-clause-sound
returns-in-Err-clause-sound c = subst (λ t. IsSoundUndo t) c.self.view_is (sound (entries_of c.self.inside.rows.items) c.self.invariant.0)
