use Rattle.std.proofs.Common.{ap, sym, ◌∙◌, length}
use Rattle.ipc_arrivals.specs.Arrivals.{Arrived}
use Rattle.ipc_arrivals.proofs.Kept.{length-values}
use Rattle.ipc_arrivals.proofs.arrivals.Arrivals.len.Goals as goal

pub returns : goal.returns
returns g c =
    c.len.ensures ∙ sym (length-values g.T.Ranked.rank c.self.inside.slots c.self.inside.index.rows c.self.invariant.0)
    ∙ ap (λ (a : Arrived _). length a.items) c.self.view_is
