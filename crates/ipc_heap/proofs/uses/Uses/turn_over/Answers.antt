-- From the top on there is nothing to turn over.
use Rattle.std.proofs.Common.{◌≡◌, ◌++◌, List, length, map, take, drop, sym, ap, subst, ◌∙◌, arith}
use Rattle.std.specs.Vec.{with_items}
use Rattle.std.proofs.lemmas.List.{length-map, with_items_is}
use Rattle.ipc_heap.specs.declared.uses.Use.{Use}
use Rattle.ipc_heap.specs.View.{turned}
use Rattle.ipc_heap.specs.Relations.Uses.{HasTop}
use Rattle.ipc_heap.proofs.Sectors.{top-turned, turned-top}
use Rattle.ipc_heap.proofs.uses.Uses.turn_over.Goals as goal
use Rattle.ipc_heap.proofs.uses.Uses.turn_over.Goals.{After-turn_first}

-- so all are turned over
all : (c : After-turn_first) → (with_items c.self.inside.uses c.turn_first.new.uses).items ≡ map turned c.self.inside.uses.items
all c =
    let uses : List Use = c.self.inside.uses.items in
    let now : c.turn_first.new.uses ≡ map turned uses =
    c.turn_first.ensures ∙ ap (λ (l : List Use). map turned (take c.self.inside.top l) ++ drop c.self.inside.top l) c.deref_mut.ensures.value
    ∙ top-turned uses c.self.inside.top c.self.invariant in
    with_items_is c.self.inside.uses c.turn_first.new.uses (omega (arith, ap length now, length-map uses turned, c.self.inside.uses.ok.0)) ∙ now

pub invariant_of-self : goal.invariant_of-self
invariant_of-self c =
    subst (λ (l : List Use). HasTop l c.self.inside.top) (sym (all (goal.at.invariant_of-self c).After-turn_first))
    (turned-top c.self.inside.uses.items c.self.inside.top c.self.invariant)

pub returns : goal.returns
returns c = all (goal.at.returns c).After-turn_first ∙ ap (λ (l : List Use). map turned l) c.self.view_is
