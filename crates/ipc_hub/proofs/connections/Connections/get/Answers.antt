use Rattle.std.proofs.Common.{sym, ◌∙◌}
use Rattle.ipc_hub.proofs.Rows.{found-at, missing-at}
use Rattle.ipc_hub.proofs.connections.Connections.get.Goals as goal

pub returns-in_err-place : goal.returns-in_err-place
returns-in_err-place c =
    rw (c.from_residual.ensures, ← c.self.view_is)
    (sym (missing-at c.self.inside.items.items c.deref.result.now c.args.conn c.deref.ensures.value (sym c.place_from.ensures ∙ c.in_err-place.was)))

pub returns : goal.returns
returns c =
    rw (← c.self.view_is)
    (sym (found-at c.self.inside.items.items c.deref.result.now c.args.conn c.deref.ensures.value c.in_ok-place.place c.index.result.now
    (sym c.place_from.ensures ∙ c.in_ok-place.was) c.index.ensures))
