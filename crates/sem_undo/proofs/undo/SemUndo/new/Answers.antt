use Rattle.std.proofs.Common.{◌≤◌, rules, vec_capacity, subst, sym}
use Rattle.sem_undo.specs.Undo.{most_rows}
use Rattle.sem_undo.specs.Rows.{AreRows, entries_of}
use Rattle.sem_undo.proofs.Tables.{empty-rows, no-rows}
use Rattle.sem_undo.proofs.undo.SemUndo.new.Goals as goal

pub returns : goal.returns
returns c = empty-rows c.in_ok-with_capacity.field-0.items (c.in_ok-with_capacity.ensures).items

pub invariant_of-result : goal.invariant_of-result
invariant_of-result c =
    let capacity : most_rows ≤ vec_capacity c.in_ok-with_capacity.field-0 = search rules in
    (subst (λ rows. AreRows (entries_of rows)) (sym (c.in_ok-with_capacity.ensures).items) no-rows, capacity)
