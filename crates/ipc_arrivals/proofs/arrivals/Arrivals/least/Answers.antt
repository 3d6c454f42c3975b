use Rattle.std.proofs.Common.{◌≤◌, All, Contains, ap, map, sym, ◌∙◌, subst}
use Rattle.std.proofs.lemmas.Option.{IfSome_then}
use Rattle.ipc_arrivals.specs.Arrivals.{Arrived}
use Rattle.ipc_arrivals.proofs.Kept.{all-values, ranks-values}
use Rattle.ipc_arrivals.proofs.arrivals.Arrivals.least.Goals as goal

pub returns-clause-least : goal.returns-clause-least
returns-clause-least g c =
    IfSome_then c.least.result c.least.ensures.least
    (λ x each. subst (λ (a : Arrived _). All (λ v. x ≤ g.T.Ranked.rank v) a.items) c.self.view_is
    (all-values g.T.Ranked.rank c.self.inside.slots c.self.inside.index.rows c.self.invariant.0 (λ n. x ≤ n) each))

pub returns-clause-found : goal.returns-clause-found
returns-clause-found g c =
    let same = sym (ranks-values g.T.Ranked.rank c.self.inside.slots c.self.inside.index.rows c.self.invariant.0)
    ∙ ap (λ (a : Arrived _). map g.T.Ranked.rank a.items) c.self.view_is in
    IfSome_then c.least.result c.least.ensures.found (λ x there. subst (λ ns. Contains ns x) same there)
