use Rattle.std.proofs.Common.{ap, subst, ◌∙◌}
use Rattle.sem_undo.specs.Undo.{key_cmp, entry_of}
use Rattle.sem_undo.specs.Rows.{entries_of, IsAt, IsGap}
use Rattle.sem_undo.proofs.Sorted.{remove-without, stays-without}
use Rattle.sem_undo.proofs.Tables.{key_total}
use Rattle.sem_undo.proofs.rows.remove_row.Goals as goal

pub returns-in-Ok-clause-rows : goal.returns-in-Ok-clause-rows
returns-in-Ok-clause-rows c =
    let at = subst (λ ys. IsAt key_cmp entry_of c.args.key ys c.in-Ok.place) c.deref.ensures.value c.in-Ok.ensures.at in
    ap entries_of c.remove.ensures.items
    ∙ remove-without key_cmp key_total entry_of c.args.key c.args.rows.now.items c.in-Ok.place at c.remove.result

pub returns-in-Err-clause-rows : goal.returns-in-Err-clause-rows
returns-in-Err-clause-rows c =
    let gap = subst (λ ys. IsGap key_cmp entry_of c.args.key ys c.in-Err.field-0) c.deref.ensures.value c.in-Err.ensures.gap in
    stays-without key_cmp key_total entry_of c.args.key c.args.rows.now.items c.in-Err.field-0 gap
