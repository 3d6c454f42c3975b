use Rattle.std.proofs.Common.{◌≡◌, ◌<◌, ◌+◌, ◌-◌, length, take, drop, sym, ap, ◌∙◌, arith}
use Rattle.std.specs.Prelude.{Err}
use Rattle.std.proofs.lemmas.Bool.Decides.{nat_tests}
use Rattle.std.proofs.lemmas.Result.{err_from_is_err_and}
use Rattle.ipc_script.proofs.FedPieces.{fed_begun, fed_more, fed_all, fed_refused, fed_halted, all_taken, rest_length}
use Rattle.ipc_script.proofs.FaultCases.{fault-is, on-device}
use Rattle.ipc_script.specs.declared.fault.ScriptFault.TheVariants.{Device}
use Rattle.ipc_script.proofs.NumbersSpent.{spends-none, spends-both, spends-more, left-beyond, failed-beyond}
use Rattle.ipc_script.proofs.Lasting.{commits-after}
use Rattle.ipc_script.proofs.script.feed.Goals as goal

pub pieces-init : goal.pieces-init
pieces-init g c = record {
  honest = λ honest. honest;
  left = omega arith;
  spends = spends-none;
  committed = λ none. none;
  runs = λ limits r b. (
    omega arith,
    c.requires,
    fed_begun g.D.SectorDisk.medium limits r c.args.sender c.args.bytes.now c.args.hub.now g.met.D.SectorDisk.only_now
        c.args.opened.now _ b,
  );
}

pub returns-in_err-taken-clause-line : goal.returns-in_err-taken-clause-line
returns-in_err-taken-clause-line g c = λ limits r b.
    let q = err_from_is_err_and c.from_residual.result c.from_residual.ensures.1 in
    let p = c.pieces.invariant.runs limits r b in
    rw (q.1, q.2) (fed_refused g.D.SectorDisk.medium limits r c.args.sender c.args.bytes.now c.args.hub.now c.feed_some.new.hub
    c.pieces.hub c.pieces.opened c.pieces.rest.now _ _ _ p.2 p.1 c.in_err-taken.field-0.0 c.in_err-taken.ensures.err c.in_err-taken.ensures.unknown)

pub returns-then-is_empty-clause-line : goal.returns-then-is_empty-clause-line
returns-then-is_empty-clause-line g c = λ limits r b.
    let p = c.pieces.invariant.runs limits r b in
    let s = c.in_ok-taken.ensures.ok limits p.2.now p.2.at in
    let none : length (take (length c.pieces.rest.now - c.in_ok-taken.taken) (drop c.in_ok-taken.taken c.pieces.rest.now)) ≡ 0 =
    grind (arith, nat_tests, c.if-is_empty.ensures) in
    fed_all g.D.SectorDisk.medium limits r c.args.sender c.args.bytes.now c.args.hub.now c.pieces.hub c.pieces.opened c.pieces.rest.now _ _ p.2 p.1
    c.in_ok-taken.taken c.feed_some.new.hub c.feed_some.new.opened _ s (all_taken c.pieces.rest.now c.in_ok-taken.taken none)

pub pieces-preserved : goal.pieces-preserved
pieces-preserved g c = record {
  honest = λ honest. c.feed_some.ensures.honest (c.pieces.invariant.honest honest);
  left = omega (arith, c.pieces.invariant.left, rest_length c.pieces.rest.now c.in_ok-taken.taken);
  spends = λ has.
      let before = c.pieces.invariant.spends has in
      let here = left-beyond (4 + length c.pieces.rest.now) has before (omega (arith, c.pieces.invariant.left)) in
      spends-both _ before (c.in_ok-taken.ensures.spends here)
      (omega (arith, c.pieces.invariant.left, c.in_ok-taken.ensures.within, rest_length c.pieces.rest.now c.in_ok-taken.taken));
  committed = λ none. c.in_ok-taken.ensures.commits (c.pieces.invariant.committed none);
  runs = λ limits r b.
      let p = c.pieces.invariant.runs limits r b in
      let s = c.in_ok-taken.ensures.ok limits p.2.now p.2.at in
      let some = s.piece.takes_some p.1 in
      let left = rest_length c.pieces.rest.now c.in_ok-taken.taken in
      let more : 0 < length (take (length c.pieces.rest.now - c.in_ok-taken.taken) (drop c.in_ok-taken.taken c.pieces.rest.now)) =
      grind (arith, nat_tests, c.if-is_empty.ensures) in (
        omega (arith, p.0, some, left, more),
        more,
        fed_more g.D.SectorDisk.medium limits r c.args.sender c.args.bytes.now c.args.hub.now c.pieces.hub c.pieces.opened c.pieces.rest.now _ _ p.2 p.1
            c.in_ok-taken.taken c.feed_some.new.hub c.feed_some.new.opened _ s,
      );
}

pub returns-clause-line : goal.returns-clause-line
returns-clause-line g c = λ limits r b.
    let p = c.pieces.invariant.runs limits r b in
    absurd (omega (arith, p.0, p.1))

pub returns-in_err-taken-clause-costs : goal.returns-in_err-taken-clause-costs
returns-in_err-taken-clause-costs g c = λ has.
    let q = err_from_is_err_and c.from_residual.result c.from_residual.ensures.1 in
    let before = c.pieces.invariant.spends has in
    let here = left-beyond (4 + length c.pieces.rest.now) has before (omega (arith, c.pieces.invariant.left)) in
    rw (q.1, q.2) (failed-beyond c.in_err-taken.field-0.0 _ before (c.in_err-taken.ensures.disk here))

pub returns-then-is_empty-clause-costs : goal.returns-then-is_empty-clause-costs
returns-then-is_empty-clause-costs g c = λ has.
    let before = c.pieces.invariant.spends has in
    let here = left-beyond (4 + length c.pieces.rest.now) has before (omega (arith, c.pieces.invariant.left)) in
    spends-both _ before (c.in_ok-taken.ensures.spends here) (omega (arith, c.pieces.invariant.left, c.in_ok-taken.ensures.within))

pub returns-clause-costs : goal.returns-clause-costs
returns-clause-costs g c = λ has. spends-more _ (c.pieces.invariant.spends has) (omega (arith, c.pieces.invariant.left))

pub returns-in_err-taken-clause-commits : goal.returns-in_err-taken-clause-commits
returns-in_err-taken-clause-commits g c =
    let q = err_from_is_err_and c.from_residual.result c.from_residual.ensures.1 in
    rw (q.1, q.2) (commits-after c.args.hub.now.store c.pieces.hub.store c.feed_some.new.hub.store c.in_err-taken.field-0.0
    c.pieces.invariant.committed c.in_err-taken.ensures.commits)

pub returns-then-is_empty-clause-commits : goal.returns-then-is_empty-clause-commits
returns-then-is_empty-clause-commits g c = λ none. c.in_ok-taken.ensures.commits (c.pieces.invariant.committed none)

pub returns-in_err-taken-clause-halted : goal.returns-in_err-taken-clause-halted
returns-in_err-taken-clause-halted g c is has limits r b =
    let q = err_from_is_err_and c.from_residual.result c.from_residual.ensures.1 in
    let device : c.in_err-taken.field-0.0 ≡ Device = sym q.2 ∙ fault-is c.from_residual.result q.0 Device q.1 is in
    let p = c.pieces.invariant.runs limits r b in
    let here = left-beyond (4 + length c.pieces.rest.now) has (c.pieces.invariant.spends has) (omega (arith, c.pieces.invariant.left)) in
    fed_halted g.D.SectorDisk.medium limits r c.args.sender c.args.bytes.now c.args.hub.now c.feed_some.new.hub c.pieces.hub c.pieces.opened
    c.feed_some.new.opened c.pieces.rest.now _ _ _ p.2 (c.in_err-taken.ensures.halted (ap (λ e. Err e) device) here limits p.2.now p.2.at)
    (on-device _ _ _ c.in_err-taken.field-0.0 device c.in_err-taken.ensures.err).1
