use Rattle.std.proofs.Common.{List, refl, sym, ap, subst, ◌∙◌}
use Rattle.std.specs.List.{IsDistinct}
use Rattle.std.proofs.lemmas.List.Folds.{list_any_at, list_any_none}
use Rattle.std.proofs.lemmas.Map.Keys.{IsDistinct-push}
use Rattle.ipc_state.specs.declared.parked.Object.{Object}
use Rattle.ipc_state.specs.Opening.{is_on}
use Rattle.ipc_engine.specs.Changes.{is_marked}
use Rattle.ipc_engine.proofs.Marks.{is_on-laws, marked-push, marked-there}
use Rattle.ipc_engine.proofs.changed.Changed.mark.Goals as goal

pub returns-then-is_hinted-clause-marked : goal.returns-then-is_hinted-clause-marked
returns-then-is_hinted-clause-marked c o =
    marked-there c.args.self.now.marks.items c.args.object o (c.is_hinted.ensures c.if-is_hinted.true)

pub returns-in-Some-clause-marked : goal.returns-in-Some-clause-marked
returns-in-Some-clause-marked c o =
    let old = c.args.self.now.marks.items in
    marked-there old c.args.object o
    (list_any_at (is_on c.args.object) old c.in-Some.place c.args.object (rw c.deref.ensures.value at c.in-Some.ensures.within)
    (rw c.deref.ensures.value at (c.in-Some.ensures.found c.args.object)))

pub returns-in-None-clause-marked : goal.returns-in-None-clause-marked
returns-in-None-clause-marked c o =
    ap (λ (ms : List Object). is_marked ms o) c.push_reserved.ensures.items ∙ marked-push c.args.self.now.marks.items c.args.object o

pub invariant_of-self-in-None : goal.invariant_of-self-in-None
invariant_of-self-in-None c =
    let old = c.args.self.now.marks.items in
    record {
      once = subst (λ (ms : List Object). IsDistinct is_on ms) (sym c.push_reserved.ensures.items)
          (IsDistinct-push is_on-laws old c.args.object c.args.self.now.once
          (list_any_none (is_on c.args.object) old (rw c.deref.ensures.value at (c.in-None.ensures.none refl))));
    }
