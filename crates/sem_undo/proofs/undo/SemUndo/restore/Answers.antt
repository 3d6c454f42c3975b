use Rattle.std.proofs.Common.{◌≡◌, ◌≤◌, vec_capacity, rules, List, sym, ap, subst, ◌∙◌}
use Rattle.std.specs.FinMap.{from_sorted, insert, put}
use Rattle.sem_undo.specs.declared.undo.UndoRow.{UndoRow}
use Rattle.sem_undo.specs.Undo.{key_cmp, key_of, IsKept, most_rows}
use Rattle.sem_undo.specs.Rows.{entries_of, AreRows}
use Rattle.sem_undo.proofs.Tables.{put-rows, insert-undo}
use Rattle.sem_undo.proofs.undo.SemUndo.restore.Goals.{After-put_row}
use Rattle.sem_undo.proofs.undo.SemUndo.restore.Goals as goal

added : (c : After-put_row) → entries_of c.put_row.new.rows.items ≡ put key_cmp (key_of c.args.row) c.args.row.adjustment (entries_of c.self.inside.rows.items)
added c = c.put_row.ensures.rows
    ∙ ap (λ (rows : List UndoRow). put key_cmp (key_of c.args.row) c.args.row.adjustment (entries_of rows)) (c.in_ok-reserve.ensures).items

pub invariant_of-self-2 : goal.invariant_of-self-2
invariant_of-self-2 c =
    let capacity : most_rows ≤ vec_capacity c.put_row.new.rows = search rules in
    let kept : IsKept c.args.row.adjustment = c.is_kept.ensures.0 c.if-not-is_kept.false in
    (subst AreRows (sym (added c)) (put-rows (key_of c.args.row) c.args.row.adjustment _ kept c.self.invariant.0), capacity)

pub returns-clause-added : goal.returns-clause-added
returns-clause-added c kept =
    let g = (goal.at.returns-clause-added c).After-put_row in
    ap (λ es. from_sorted {R = key_cmp} es) (added g)
    ∙ insert-undo (key_of c.args.row) c.args.row.adjustment (entries_of c.self.inside.rows.items) c.self.invariant.0
    ∙ ap (λ t. insert t (key_of c.args.row) c.args.row.adjustment) c.self.view_is
