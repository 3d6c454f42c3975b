use Rattle.std.proofs.Common.{◌≡◌, [], ◌∷◌, ap, refl, sym}
use Rattle.std.proofs.lemmas.Result.{err_from_is_err_and, on_ok_weaker, IfErr-weaker}
use Rattle.ipc_server.specs.Acts.Act.{Ticks}
use Rattle.ipc_hub.specs.Clients.{tick}
use Rattle.ipc_hub.specs.Relations.Matches.{Serves}
use Rattle.ipc_hub.specs.View.{numbers_of}
use Rattle.ipc_server.specs.Runs.{RunsCalls, RunsSuch}
use Rattle.ipc_server.specs.View.{HaveConnections}
use Rattle.ipc_server.specs.Streams.{OnlyJoins}
use Rattle.ipc_server.proofs.Going.{goes-both, goes-none, made-goes, made-one, goes-round, breaks-at, breaks-later, such-goes}
use Rattle.ipc_server.proofs.Standing.{keeps-none, serving-kept}
use Rattle.ipc_server.proofs.Streaming.{spares-round}
use Rattle.ipc_server.proofs.server.Server.go_round.Goals as goal

pub returns-in_err-tick-clause-breaks : goal.returns-in_err-tick-clause-breaks
returns-in_err-tick-clause-breaks g c =
    let q = err_from_is_err_and c.from_residual.result c.from_residual.ensures.1 in
    let med = g.D.SectorDisk.medium in
    rw (q.1, q.2) (breaks-at med g.D.SectorDisk.counts c.args.moment.0 c.args.self.now.hub c.args.self.now.hub c.tick.new.self _
    (goes-none med g.met.D.SectorDisk.only_now c.args.moment.0 c.args.self.now.hub)
    (rw (ap (λ v. v.hub) c.self.view_is) at c.in_err-tick.ensures.refused))

pub returns-clause-goes : goal.returns-clause-goes
returns-clause-goes g c =
    let med = g.D.SectorDisk.medium in
    let moment = c.args.moment.0 in
    on_ok_weaker c.serve_all-done.result (λ goes. goes-round med moment c.args.self.now.hub c.tick.new.self c.serve_all-done.new.hub
    (rw (ap (λ v. v.hub) c.self.view_is) at c.in_ok-tick.ensures.ok)
    (goes-both med moment c.tick.new.self c.self-2.inside.hub c.serve_all-done.new.hub
    (such-goes med moment c.tick.new.self c.self-2.inside.hub (OnlyJoins c.tick.new.self.hub c.self-2.inside.hub.hub)
    (rw (ap (λ v. v.hub) c.self-2.view_is) (c.admit-self-inside.ensures.goes moment))) goes))
    c.serve_all-done.ensures.goes

pub returns-clause-spares : goal.returns-clause-spares
returns-clause-spares g c =
    let med = g.D.SectorDisk.medium in
    let moment = c.args.moment.0 in
    let old = c.args.self.now in
    let hub = ap (λ v. v.hub) c.self.view_is in
    let ticks : Serves med old.hub c.tick.new.self (λ limits h. tick limits h moment) = rw hub at c.in_ok-tick.ensures.ok in
    let numbers : numbers_of c.tick.new.self.hub ≡ numbers_of old.hub.hub = rw hub at c.tick.ensures.numbers in
    let here : HaveConnections old.hub.hub old.clients = rw (hub, ap (λ v. v.clients) c.self.view_is) at c.self.invariant.connected in
    let joined : RunsSuch med moment c.tick.new.self c.self-2.inside.hub (OnlyJoins c.tick.new.self.hub c.self-2.inside.hub.hub) =
    rw (ap (λ v. v.hub) c.self-2.view_is) (c.admit-self-inside.ensures.goes moment) in
    on_ok_weaker c.serve_all-done.result (λ streams. spares-round med moment old.hub c.tick.new.self c.self-2.inside.hub c.serve_all-done.new.hub
    old.clients _ _ c.self-2.inside.clients c.serve_all-done.new.clients ticks numbers here joined streams)
    (c.serve_all-done.ensures.streams c.self-2.invariant)

pub returns-clause-parted : goal.returns-clause-parted
returns-clause-parted g c =
    let med = g.D.SectorDisk.medium in
    let moment = c.args.moment.0 in
    on_ok_weaker c.serve_all-done.result (λ parted. record {
      written = parted.0;
      goes = goes-round med moment c.args.self.now.hub c.tick.new.self parted.0 (rw (ap (λ v. v.hub) c.self.view_is) at c.in_ok-tick.ensures.ok)
          (goes-both med moment c.tick.new.self c.self-2.inside.hub parted.0
          (such-goes med moment c.tick.new.self c.self-2.inside.hub (OnlyJoins c.tick.new.self.hub c.self-2.inside.hub.hub)
          (rw (ap (λ v. v.hub) c.self-2.view_is) (c.admit-self-inside.ensures.goes moment))) parted.1);
      none_gone = parted.3;
      parts = parted.2;
    })
    (c.serve_all-done.ensures.parted c.self-2.invariant)

pub returns-clause-read : goal.returns-clause-read
returns-clause-read g c = c.serve_all-done.ensures.read c.self-2.invariant

pub returns-clause-written : goal.returns-clause-written
returns-clause-written g c = c.serve_all-done.ensures.written c.self-2.invariant

pub returns-clause-failed : goal.returns-clause-failed
returns-clause-failed g c =
    on_ok_weaker c.serve_all-done.result
    (λ failed number bad. failed number (rw (sym (ap (λ v. v.clients) c.self-2.view_is)) at c.admit-self-inside.ensures.failed number
    (rw (ap (λ v. v.clients) c.self.view_is) bad)))
    (c.serve_all-done.ensures.failed c.self-2.invariant)

pub invariant_of-self : goal.invariant_of-self
invariant_of-self g c =
    serving-kept c.self.inside.hub.hub c.tick.new.self.hub c.self.inside.clients c.self.inside.clients c.tick.ensures.numbers (keeps-none c.self.inside.clients)
    c.self.invariant

pub invariant_of-self-2 : goal.invariant_of-self-2
invariant_of-self-2 g c =
    serving-kept c.self.inside.hub.hub c.tick.new.self.hub c.self.inside.clients c.self.inside.clients c.tick.ensures.numbers (keeps-none c.self.inside.clients)
    c.self.invariant

pub returns-in_err-tick-clause-connected : goal.returns-in_err-tick-clause-connected
returns-in_err-tick-clause-connected g c = (
    serving-kept c.self.inside.hub.hub c.tick.new.self.hub c.self.inside.clients c.self.inside.clients c.tick.ensures.numbers (keeps-none c.self.inside.clients)
    c.self.invariant).connected

pub returns-clause-connected : goal.returns-clause-connected
returns-clause-connected g c = (c.serve_all-done.ensures.serving c.self-2.invariant).connected

pub returns-clause-breaks : goal.returns-clause-breaks
returns-clause-breaks g c =
    let med = g.D.SectorDisk.medium in
    let moment = c.args.moment.0 in
    -- time has passed, and new connections were taken
    let begun : RunsCalls med moment c.args.self.now.hub c.self-2.inside.hub =
    goes-both med moment c.args.self.now.hub c.tick.new.self c.self-2.inside.hub
    (made-goes med moment c.args.self.now.hub c.tick.new.self (Ticks moment ∷ [])
    (made-one med moment c.args.self.now.hub c.tick.new.self (Ticks moment) refl tt (λ h. refl)
    (rw (ap (λ v. v.hub) c.self.view_is) at c.in_ok-tick.ensures.ok)))
    (such-goes med moment c.tick.new.self c.self-2.inside.hub (OnlyJoins c.tick.new.self.hub c.self-2.inside.hub.hub)
    (rw (ap (λ v. v.hub) c.self-2.view_is) (c.admit-self-inside.ensures.goes moment))) in
    IfErr-weaker c.serve_all-done.result _ _
    (λ e. breaks-later med g.D.SectorDisk.counts moment c.args.self.now.hub c.self-2.inside.hub c.serve_all-done.new.hub e begun)
    c.serve_all-done.ensures.breaks
