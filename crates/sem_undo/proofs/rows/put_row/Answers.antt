use Rattle.std.proofs.Common.{refl, ap, subst, ◌∙◌}
use Rattle.std.specs.Prelude.{is_ok, if◌then◌else◌}
use Rattle.std.specs.List.{insert}
use Rattle.sem_undo.specs.Undo.{key_cmp, key_of, entry_of}
use Rattle.sem_undo.specs.Rows.{entries_of, IsAt, IsGap}
use Rattle.sem_undo.proofs.Sorted.{missing, set-put, insert-put}
use Rattle.sem_undo.proofs.Tables.{key_total}
use Rattle.sem_undo.proofs.rows.put_row.Goals as goal

pub unwrap-requires : goal.unwrap-requires
unwrap-requires c =
    let gap = subst (λ ys. IsGap key_cmp entry_of (key_of c.args.row) ys c.in-Err.place) c.deref.ensures.value c.in-Err.ensures.gap in
    c.insert.ensures.succeeds (c.requires.room (missing key_cmp key_total entry_of (key_of c.args.row) c.args.rows.now.items c.in-Err.place gap))

pub returns-in-Ok-clause-rows : goal.returns-in-Ok-clause-rows
returns-in-Ok-clause-rows c =
    let at = subst (λ ys. IsAt key_cmp entry_of (key_of c.args.row) ys c.in-Ok.place) c.deref.ensures.value c.in-Ok.ensures.at in
    set-put key_cmp key_total entry_of (key_of c.args.row) c.args.rows.now.items c.in-Ok.place at c.args.row c.args.row.adjustment refl

pub returns-in-Err-clause-rows : goal.returns-in-Err-clause-rows
returns-in-Err-clause-rows c =
    let gap = subst (λ ys. IsGap key_cmp entry_of (key_of c.args.row) ys c.in-Err.place) c.deref.ensures.value c.in-Err.ensures.gap in
    ap entries_of (c.insert.ensures.items
    ∙ ap (λ r. if is_ok r then insert c.args.rows.now.items c.in-Err.place c.args.row else c.args.rows.now.items) c.unwrap.ensures)
    ∙ insert-put key_cmp key_total entry_of (key_of c.args.row) c.args.rows.now.items c.in-Err.place gap c.args.row c.args.row.adjustment refl

pub returns-in-Err-clause-capacity : goal.returns-in-Err-clause-capacity
returns-in-Err-clause-capacity c =
    let gap = subst (λ ys. IsGap key_cmp entry_of (key_of c.args.row) ys c.in-Err.place) c.deref.ensures.value c.in-Err.ensures.gap in
    let room = c.requires.room (missing key_cmp key_total entry_of (key_of c.args.row) c.args.rows.now.items c.in-Err.place gap) in
    (c.insert.ensures.in_place room).1.0
