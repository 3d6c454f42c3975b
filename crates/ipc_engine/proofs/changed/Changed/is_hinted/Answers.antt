use Rattle.std.proofs.Common.{◌≡◌, true, sym, subst, ◌∙◌}
use Rattle.std.proofs.lemmas.Bool.{ltb-true}
use Rattle.std.proofs.lemmas.List.Folds.{list_any_at}
use Rattle.ipc_state.specs.declared.parked.Object.{Object}
use Rattle.ipc_state.specs.Opening.{is_on}
use Rattle.ipc_engine.proofs.changed.Changed.is_hinted.Goals as goal

pub returns-in-Some : goal.returns-in-Some
returns-in-Some c said =
    list_any_at (is_on c.args.object) c.args.self.now.marks.items c.args.self.now.hint c.in-Some.mark.now
    (rw c.deref.ensures.value at (ltb-true _ _ (sym c.in-Some.ensures.lookup.0)))
    (subst (λ (o : Object). is_on c.args.object o ≡ true) (rw c.deref.ensures.value at c.in-Some.ensures.lookup.1) (sym c.is_on.ensures ∙ said))
