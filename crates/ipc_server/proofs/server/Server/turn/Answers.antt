use Rattle.std.proofs.Common.{◌∙◌, sym, ap}
use Rattle.ipc_hub.specs.View.{is_connected}
use Rattle.ipc_server.specs.Streams.{SparesBoth}
use Rattle.ipc_server.specs.View.{HaveConnections}
use Rattle.ipc_server.proofs.Going.{breaks-off, breaks-sent, such-weaker}
use Rattle.ipc_server.proofs.Standing.{serving-kept}
use Rattle.ipc_server.proofs.server.Server.turn.Goals as goal

pub returns-in-Err-clause-err : goal.returns-in-Err-clause-err
returns-in-Err-clause-err g c =
    let med = g.D.SectorDisk.medium in
    let counts = g.D.SectorDisk.counts in
    rw c.from.ensures (breaks-off med counts c.args.moment.0 c.args.self.now.hub c.put_out_all.new.hub c.in-Err.error
    (breaks-sent med counts c.args.moment.0 c.args.self.now.hub c.self-2.inside.hub c.put_out_all.new.hub c.in-Err.error
    c.put_out_all.ensures.sends.told
    (rw (c.wait.ensures.same, sym (ap (λ v. v.hub) c.self-2.view_is)) at c.in-Err.ensures.breaks) c.put_out_all.ensures.sends.sends))

pub invariant_of-self : goal.invariant_of-self
invariant_of-self g c =
    serving-kept c.self-2.inside.hub.hub c.put_out_all.new.hub.hub c.self-2.inside.clients c.put_out_all.new.clients c.put_out_all.ensures.numbers
    c.put_out_all.ensures.keeps c.self-2.invariant

pub returns-in-Err-clause-connected : goal.returns-in-Err-clause-connected
returns-in-Err-clause-connected g c = (
    serving-kept c.self-2.inside.hub.hub c.put_out_all.new.hub.hub c.self-2.inside.clients c.put_out_all.new.clients c.put_out_all.ensures.numbers
    c.put_out_all.ensures.keeps c.self-2.invariant).connected

pub returns-in-Err-clause-told : goal.returns-in-Err-clause-told
returns-in-Err-clause-told g c is number client there =
    let serves =
    serving-kept c.self-2.inside.hub.hub c.put_out_all.new.hub.hub c.self-2.inside.clients c.put_out_all.new.clients c.put_out_all.ensures.numbers
    c.put_out_all.ensures.keeps c.self-2.invariant in
    c.put_out_all.ensures.written c.self-2.invariant.connected.own number client (serves.within number client there) there

pub returns-clause-ok : goal.returns-clause-ok
returns-clause-ok g c = rw c.wait.ensures.same at c.in_default.ensures.goes

pub returns-clause-spares : goal.returns-clause-spares
returns-clause-spares g c =
    let old = c.args.self.now in
    let waited = c.wait.new.self in
    let next = c.go_round.new.self in
    let here : HaveConnections old.hub.hub old.clients =
    rw (ap (λ v. v.hub) c.self.view_is, ap (λ v. v.clients) c.self.view_is) at c.self.invariant.connected in
    such-weaker g.D.SectorDisk.medium c.args.moment.0 old.hub next.hub (SparesBoth waited.clients next.clients) (SparesBoth old.clients next.clients)
    (λ acts spares number was is. spares number
    (sym (c.wait.ensures.connected.same number) ∙ ap (λ h. is_connected h.hub number) c.wait.ensures.same ∙ here.same number ∙ was) is)
    (rw c.wait.ensures.same at c.in_default.ensures.spares)

pub returns-clause-failed : goal.returns-clause-failed
returns-clause-failed g c number bad = c.in_default.ensures.failed number (c.wait.ensures.failed number bad)
