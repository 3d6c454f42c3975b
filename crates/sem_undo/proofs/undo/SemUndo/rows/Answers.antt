use Rattle.std.proofs.Common.{map, sym, ap, subst, ◌∙◌}
use Rattle.std.specs.FinMap.{entries, entries-from_sorted}
use Rattle.sem_undo.specs.Undo.{IsSoundUndo, key_cmp, entry_of}
use Rattle.sem_undo.specs.Rows.{entries_of}
use Rattle.sem_undo.proofs.Tables.{sound}
use Rattle.sem_undo.proofs.undo.SemUndo.rows.Goals as goal

pub returns-clause-rows : goal.returns-clause-rows
returns-clause-rows c =
    ap (map entry_of) c.deref.ensures.value
    ∙ sym (entries-from_sorted key_cmp (entries_of c.self.inside.rows.items) c.self.invariant.0.rising) ∙ ap (λ t. entries t) c.self.view_is

pub returns-clause-sound : goal.returns-clause-sound
returns-clause-sound c = subst (λ t. IsSoundUndo t) c.self.view_is (sound (entries_of c.self.inside.rows.items) c.self.invariant.0)
