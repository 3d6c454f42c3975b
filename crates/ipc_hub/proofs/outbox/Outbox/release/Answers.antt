use Rattle.std.proofs.Common.{sym, ap, ◌∙◌, arith}
use Rattle.ipc_hub.specs.View.{Outgoing, kept}
use Rattle.ipc_hub.proofs.Buffers.{front-parts, front-rest, same-outgoing}
use Rattle.ipc_hub.proofs.outbox.Outbox.release.Goals as goal

pub returns : goal.returns
returns c =
    let xs = c.self.inside.buffer.items in
    let end = c.self.inside.end in
    same-outgoing _ _
    (sym (front-parts xs c.self.inside.released end c.self.invariant.0) ∙ ap kept c.self.view_is)
    (front-rest xs end (omega (arith, c.self.invariant.1, c.self.inside.buffer.ok.0)))
    (ap (λ (o : Outgoing). o.free) c.self.view_is)
