use Rattle.std.proofs.Common.{◌≡◌, ◌-◌, List, ℕ, length, take, drop, ⊎_elim, ap, ◌∙◌, subst, arith}
use Rattle.std.proofs.lemmas.Bool.Decides.{nat_tests}
use Rattle.std.proofs.lemmas.List.{take_all, length-drop}
use Rattle.ipc_hub.specs.Relations.Invariant.{HubInvariant}
use Rattle.ipc_hub.specs.Relations.Requests.{RunsOut}
use Rattle.ipc_hub.specs.Relations.Rows.{stored_view}
use Rattle.ipc_hub.proofs.Feeding.{TakenIn, can-again, takes-fails, takes-once, takes-twice}
use Rattle.ipc_hub.proofs.hub.Hub.serve.Given.{Over}
use Rattle.ipc_hub.proofs.hub.Hub.serve.Goals.{After-take_in-taken, After-make_last}
use Rattle.ipc_hub.proofs.hub.Hub.serve.Goals as goal

-- the bytes that are taken first
first : (g : Over) (c : After-take_in-taken g) → TakenIn g.D.SectorDisk.medium c.args.self.now
    (stored_view c.take_in-taken.new.store c.take_in-taken.new.connections) c.args.conn c.args.piece.now c.args.moment.0 c.take_in-taken.result
first g c =
    let e = c.take_in-taken.ensures in
    subst (λ v. TakenIn g.D.SectorDisk.medium v (stored_view c.take_in-taken.new.store c.take_in-taken.new.connections) c.args.conn
    c.args.piece.now c.args.moment.0 c.take_in-taken.result) c.self.view_is (record {
      bytes = e.bytes;
      numbers = e.continues.numbers;
      within = e.within;
      whole = e.whole;
      starts = e.starts;
      dropped = e.dropped;
      adds = e.adds;
    })

pub returns-then-taken-piece : goal.returns-then-taken-piece
returns-then-taken-piece g c =
    takes-once g.D.SectorDisk.medium g.D.SectorDisk.counts c.args.self.now _ c.args.conn c.args.piece.now c.args.moment.0 c.take_in-taken.result
    c.requires.later c.requires.can (first g (goal.at.returns-then-taken-piece g c).After-take_in-taken)
    (λ none. grind (arith, nat_tests, c.if-taken-piece.true))

pub returns-then-not-has_no_frame : goal.returns-then-not-has_no_frame
returns-then-not-has_no_frame g c =
    takes-once g.D.SectorDisk.medium g.D.SectorDisk.counts c.args.self.now _ c.args.conn c.args.piece.now c.args.moment.0 c.take_in-taken.result
    c.requires.later c.requires.can (first g (goal.at.returns-then-not-has_no_frame g c).After-take_in-taken)
    (λ none. let never = c.has_no_frame.ensures.1 none in cc)

-- it keeps no frame, and bytes are left
out : (g : Over) (c : After-make_last g) → TakenIn g.D.SectorDisk.medium c.args.self.now
    (stored_view c.take_in-taken.new.store c.take_in-taken.new.connections) c.args.conn c.args.piece.now c.args.moment.0 c.take_in-taken.result
    → RunsOut c.args.self.now (stored_view c.take_in-taken.new.store c.take_in-taken.new.connections) c.args.conn c.args.moment.0 c.take_in-taken.result
out g c t =
    ⊎_elim (λ all. absurd (grind (arith, nat_tests, c.if-taken-piece.false, all))) (λ o. o)
    (t.whole (c.has_no_frame.ensures.0 c.if-not-has_no_frame.false))

pub returns-in-Err : goal.returns-in-Err
returns-in-Err g c =
    let t = first g (goal.at.returns-in-Err g c).After-take_in-taken in
    takes-fails g.D.SectorDisk.medium g.D.SectorDisk.counts c.args.self.now _ c.args.conn c.args.piece.now c.args.moment.0 c.take_in-taken.result
    c.requires.later c.requires.can t (out g (goal.at.returns-in-Err g c).After-make_last t) c.make_last.new.self c.in-Err.error c.in-Err.ensures.settles

pub take_in-more-requires : goal.take_in-more-requires
take_in-more-requires g c =
    let t = first g (goal.at.take_in-more-requires g c).After-take_in-taken in
    let settles = c.in_default.ensures.settles in
    rw c.self-2.view_is
    (can-again g.D.SectorDisk.medium g.D.SectorDisk.counts c.args.self.now _ c.args.conn c.args.piece.now c.args.moment.0 c.take_in-taken.result
    c.requires.later c.requires.can t (out g (goal.at.take_in-more-requires g c).After-make_last t) c.make_last.new.self settles c.in_default.ensures.lasts
    (subst (λ v. HubInvariant v.hub) c.self-2.view_is
    (c.self-2.invariant (ap (λ v. v.store.stopped) c.self-2.view_is ∙ settles.spends.running))))

pub returns : goal.returns
returns g c =
    let t = first g (goal.at.returns g c).After-take_in-taken in
    let e = c.take_in-more.ensures in
    let rest : List ℕ = take (length c.args.piece.now - c.take_in-taken.result) (drop c.take_in-taken.result c.args.piece.now) in
    let new = stored_view c.take_in-more.new.store c.take_in-more.new.connections in
    let whole : rest ≡ drop c.take_in-taken.result c.args.piece.now =
    take_all (length c.args.piece.now - c.take_in-taken.result) (drop c.take_in-taken.result c.args.piece.now)
    (omega (arith, length-drop c.take_in-taken.result c.args.piece.now)) in
    let u : TakenIn g.D.SectorDisk.medium (stored_view c.self-2.inside.store c.self-2.inside.connections) new c.args.conn rest c.args.moment.0
    c.take_in-more.result = record {
      bytes = e.bytes;
      numbers = e.continues.numbers;
      within = e.within;
      whole = e.whole;
      starts = e.starts;
      dropped = e.dropped;
      adds = e.adds;
    } in
    takes-twice g.D.SectorDisk.medium g.D.SectorDisk.counts c.args.self.now _ c.args.conn c.args.piece.now c.args.moment.0 c.take_in-taken.result
    c.requires.later c.requires.can t (out g (goal.at.returns g c).After-make_last t) c.make_last.new.self c.in_default.ensures.settles
    c.in_default.ensures.lasts new c.take_in-more.result (rw (whole, c.self-2.view_is) at u)
