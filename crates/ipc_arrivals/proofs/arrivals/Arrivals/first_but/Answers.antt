use Rattle.std.proofs.Common.{◌==◌, ap, not, ◌∙◌}
use Rattle.std.specs.Prelude.{position}
use Rattle.ipc_arrivals.specs.Arrivals.{Arrived}
use Rattle.ipc_arrivals.proofs.Kept.{position-values}
use Rattle.ipc_arrivals.proofs.arrivals.Arrivals.first_but.Goals as goal

pub returns : goal.returns
returns g c =
    c.first_but.ensures
    ∙ position-values g.T.Ranked.rank c.self.inside.slots c.self.inside.index.rows c.self.invariant.0 (λ n. not (n == c.args.rank))
    ∙ ap (λ (a : Arrived _). position (λ v. not (g.T.Ranked.rank v == c.args.rank)) a.items) c.self.view_is
