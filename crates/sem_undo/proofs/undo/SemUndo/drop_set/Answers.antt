use Rattle.std.proofs.Common.{◌≡◌, ◌≤◌, vec_capacity, not, ◌==◌, rules, sym, ap, subst, ◌∙◌}
use Rattle.std.specs.FinMap.{from_sorted}
use Rattle.std.specs.FinMap.Entries.{where_key}
use Rattle.std.proofs.lemmas.Fn.{filter_same}
use Rattle.sem_undo.specs.declared.undo.UndoRow.{UndoRow}
use Rattle.sem_undo.specs.Undo.{Key, key_cmp, entry_of, without_set, most_rows}
use Rattle.sem_undo.specs.Rows.{entries_of, AreRows}
use Rattle.sem_undo.proofs.Sorted.{filter-entries}
use Rattle.sem_undo.proofs.Tables.{where-rows, where-undo}
use Rattle.sem_undo.proofs.undo.SemUndo.drop_set.Goals as goal

left : (c : goal.After-retain) → entries_of c.retain.new.self.items ≡ where_key key_cmp (λ k. not (k.0 == c.args.set.0)) (entries_of c.self.inside.rows.items)
left c =
    ap entries_of (filter_same _ (λ (r : UndoRow). not (r.set.0 == c.args.set.0)) _ (λ x b f' k. search rules) _ _ c.retain.ensures.filtered)
    ∙ filter-entries key_cmp entry_of (λ (k : Key). not (k.0 == c.args.set.0)) c.self.inside.rows.items

pub invariant_of-self : goal.invariant_of-self
invariant_of-self c =
    let capacity : most_rows ≤ vec_capacity c.retain.new.self = search rules in
    (subst AreRows (sym (left c)) (where-rows (λ k. not (k.0 == c.args.set.0)) _ c.self.invariant.0), capacity)

pub returns : goal.returns
returns c =
    ap (λ es. from_sorted {R = key_cmp} es) (left c) ∙ where-undo (λ k. not (k.0 == c.args.set.0)) (entries_of c.self.inside.rows.items) c.self.invariant.0
    ∙ ap (λ t. without_set c.args.set.0 t) c.self.view_is
