use Rattle.std.proofs.Common.{◌≤◌, sym, ap, subst, ◌∙◌}
use Rattle.std.specs.FinMap.{from_sorted}
use Rattle.sem_undo.specs.Undo.{Key, key_cmp, without_semaphore, most_rows}
use Rattle.sem_undo.specs.Rows.{entries_of, AreRows}
use Rattle.sem_undo.proofs.Tables.{where-rows, without-undo}
use Rattle.sem_undo.proofs.undo.SemUndo.clear.Goals as goal

pub invariant_of-self : goal.invariant_of-self
invariant_of-self c = (
  subst AreRows (sym c.remove_row.ensures.rows) (where-rows _ _ c.self.invariant.0),
  subst (λ n. most_rows ≤ n) (sym c.remove_row.ensures.capacity) c.self.invariant.1,
)

pub returns : goal.returns
returns c =
    let key : Key = (c.args.set.0, c.args.num) in
    ap (λ es. from_sorted {R = key_cmp} es) c.remove_row.ensures.rows
    ∙ without-undo key (entries_of c.self.inside.rows.items) c.self.invariant.0
    ∙ ap (λ t. without_semaphore c.args.set.0 c.args.num t) c.self.view_is
