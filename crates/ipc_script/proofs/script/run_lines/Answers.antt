use Rattle.std.proofs.Common.{◌≡◌, ◌+◌, [], inl, refl, length, Option, Some, Result, Ok, Err, sym, ap, subst, ◌∙◌, arith}
use Rattle.std.specs.Bool.{◌==◌}
use Rattle.std.specs.Prelude.{option_map, ⊤, ℕ, true}
use Rattle.std.proofs.KnownBytes.{Appends-nil}
use Rattle.std.proofs.lemmas.Bool.Decides.{nat_tests}
use Rattle.ipc_script.specs.declared.fault.ScriptFault.{ScriptFault}
use Rattle.ipc_script.specs.declared.fault.ScriptFault.TheVariants.{BadLine}
use Rattle.ipc_script.specs.declared.line.Line.{Line as LineForm}
use Rattle.ipc_script.specs.declared.line.Line.TheVariants as lines
use Rattle.ipc_script.specs.Line.{PlainLine, Stop, line_of, lines_of}
use Rattle.ipc_script.specs.Relations.Lines.{plain_line}
use Rattle.ipc_script.specs.Script.{Cut, Progress, WritesPart, line_done, text_done}
use Rattle.ipc_script.specs.ByLines.HasRunLines.{Line}
use Rattle.ipc_script.specs.Relations.Simulation.{text_of}
use Rattle.ipc_script.proofs.FaultCases.{by_fault}
use Rattle.ipc_script.proofs.ScriptLines.{run_begun, run_more, run_stopped, run_refused, run_broken, run_halted, run_ended, no_lines, may-here, may-beyond}
use Rattle.ipc_script.proofs.ScriptLines.{no-stop-here, no-stop-beyond, run_came, ends_after, as_left, Failed, failed, goes_on, stops_grown, stops_lasts}
use Rattle.ipc_hub.specs.Clients.{Clients}
use Rattle.ipc_script.specs.Relations.Lasts.{FailsWithin}
use Rattle.ipc_script.proofs.Lasting.{lasts-none, lasts-both, commits-after, committed-unless, ends-any, ends-by}
use Rattle.ipc_script.proofs.Stopping.{unless, lives-none, lives-more, lives-stop}
use Rattle.ipc_script.proofs.Halting.{halts-beyond, halts-none}
use Rattle.ipc_script.proofs.WrittenText.{part_none, grown_none}
use Rattle.ipc_script.proofs.LineLengths.{cost-fits}
use Rattle.ipc_script.proofs.NumbersSpent.{young-has, spends-none, spends-both, left-beyond, failed-beyond}
use Rattle.ipc_script.proofs.script.run_lines.Goals as goal

-- only a stop stands for one
only-stop : (line : LineForm) → (line ≡ lines.Stop → ⊥) → plain_line line ≡ Stop → ⊥
only-stop (lines.Open conn) not is = cc
only-stop (lines.Data moment conn hex) not is = cc
only-stop (lines.End moment conn) not is = cc
only-stop (lines.Tick moment) not is = cc
only-stop lines.Save not is = cc
only-stop lines.Stop not is = not refl

pub lines-init : goal.lines-init
lines-init g c = record {
  few = omega arith;
  may = λ may. may;
  left = omega arith;
  spends = λ has may. spends-none has;
  none = λ stops. stops;
  lasts = λ limits h matches none stops. lasts-none g.D.SectorDisk.medium g.met.D.SectorDisk.only_now c.args.hub.store;
  lives = λ limits h matches none may. lives-none g.D.SectorDisk.medium c.args.hub.store g.met.D.SectorDisk.only_now;
  committed = λ may waits. waits;
  runs = λ limits h matches none may. rw c.new-opened.ensures.items
      (run_begun limits h c.args.script.now g.D.SectorDisk.medium c.args.hub.store c.args.hub _ matches none refl);
}

pub returns-in_default-clause-runs : goal.returns-in_default-clause-runs
returns-in_default-clause-runs g c = λ limits h matches none may.
    let p = c.lines.invariant.runs limits h matches none may in
    run_refused limits h c.args.script.now g.D.SectorDisk.medium c.args.hub.store (c.lines.number + 1) c.lines.hub c.lines.opened.items c.lines.rest.now _ _ p
    c.first_line.result.0.now c.first_line.result.1.now c.first_line.ensures.lines (BadLine (c.lines.number + 1))
    (λ cut. ap (λ (o : Option PlainLine). text_done limits (c.lines.number + 1) p.now o cut) (sym c.line_of.ensures
    ∙ ap (option_map plain_line) c.in_default.is)) _ (Appends-nil _)

pub returns-in-Err-clause-runs : goal.returns-in-Err-clause-runs
returns-in-Err-clause-runs g c = λ limits h matches none may.
    let p = c.lines.invariant.runs limits h matches none may in
    let n = c.lines.number + 1 in
    by_fault _ _ _ _ _ _ c.in-Err.fault
    (λ _. run_broken limits h c.args.script.now g.D.SectorDisk.medium c.args.hub.store n c.lines.hub c.lines.opened.items c.lines.rest.now _ _ p
    c.first_line.result.0.now c.first_line.result.1.now c.first_line.ensures.lines [] _
    (part_none _ (text_of (text_done limits n p.now (line_of c.first_line.result.0.now) []))))
    (λ _. run_halted limits h c.args.script.now g.D.SectorDisk.medium c.args.hub.store n
    c.lines.hub c.lines.opened.items c.lines.rest.now _ _ p _ (grown_none _))
    (λ never. absurd never) c.in-Err.ensures.err

pub returns-in-Err-run_line-clause-runs : goal.returns-in-Err-run_line-clause-runs
returns-in-Err-run_line-clause-runs g c = λ limits h matches none may.
    let p = c.lines.invariant.runs limits h matches none may in
    let e = c.in-Err-run_line.fault in
    let n = c.lines.number + 1 in
    let line = plain_line c.in-Some.line in
    let is : (cut : Cut) → text_done limits n p.now (line_of c.first_line.result.0.now) cut ≡ line_done limits n p.now line cut = λ cut.
    ap (λ (o : Option PlainLine). text_done limits n p.now o cut) (sym c.line_of.ensures ∙ ap (option_map plain_line) c.in-Some.is) in
    let then = g.W.Write.contents c.lines.writer in
    by_fault _ _ _ _ _ _ e
    (λ part. run_broken limits h c.args.script.now g.D.SectorDisk.medium c.args.hub.store n c.lines.hub c.lines.opened.items c.lines.rest.now _ _ p
    c.first_line.result.0.now c.first_line.result.1.now c.first_line.ensures.lines part.1.0 _
    (subst (λ (r : Result Progress ScriptFault). WritesPart then (g.W.Write.contents c.run_line.new.writer) (text_of r)) (sym (is part.1.0)) part.1.1))
    (λ more. run_halted limits h c.args.script.now g.D.SectorDisk.medium c.args.hub.store n c.lines.hub c.lines.opened.items c.lines.rest.now _ _ p _
    more.1)
    (λ a. run_refused limits h c.args.script.now g.D.SectorDisk.medium c.args.hub.store n c.lines.hub c.lines.opened.items c.lines.rest.now _ _ p
    c.first_line.result.0.now c.first_line.result.1.now c.first_line.ensures.lines e (λ cut. is cut ∙ a.0 cut) _ a.1)
    (c.in-Err-run_line.ensures.line limits p.now p.at)

-- the device was opened again
pub lines-preserved-in-Ok : goal.lines-preserved-in-Ok
lines-preserved-in-Ok g c =
    let rest = c.lines.rest.now in
    let text = c.first_line.result.0.now in
    let beyond = c.first_line.result.1.now in
    let old = g.D.SectorDisk.medium c.lines.hub.store.disk in
    let stop : line_of text ≡ Some Stop = sym c.line_of.ensures ∙ ap (option_map plain_line) (c.in-Some.is ∙ ap Some c.in-Stop.is) in
    record {
      few = omega (arith, c.lines.invariant.few, c.first_line.ensures.shorter);
      may = λ may. may-beyond rest text beyond c.first_line.ensures.lines old (g.D.SectorDisk.medium c.in-Ok.next.store.disk)
          (c.lines.invariant.may may) c.in-Ok.ensures.honest;
      left = omega (arith, c.lines.invariant.left, c.first_line.ensures.shorter);
      spends = λ has may.
          let honest = may-here rest text beyond c.first_line.ensures.lines old (c.lines.invariant.may may) stop in
          let before = c.lines.invariant.spends has may in
          let here = left-beyond 3 has before (omega (arith, c.lines.invariant.left, c.first_line.ensures.shorter)) in
          spends-both _ before (c.in-Ok.ensures.spends honest here) (omega (arith, c.lines.invariant.left, c.first_line.ensures.shorter));
      none = λ stops. no-stop-beyond rest text beyond c.first_line.ensures.lines (c.lines.invariant.none stops);
      lasts = λ limits h matches none stops. absurd (no-stop-here rest text beyond c.first_line.ensures.lines (c.lines.invariant.none stops) stop);
      lives = λ limits h matches none may.
          let honest = may-here rest text beyond c.first_line.ensures.lines old (c.lines.invariant.may may) stop in
          let again = c.in-Ok.ensures.stops honest in
          lives-stop g.D.SectorDisk.medium c.args.hub.store g.met.D.SectorDisk.only_now c.lines.hub.store again.0 c.in-Ok.next.store
          (c.lines.invariant.lives limits h matches none may) ([], again.1) again.3;
      committed = λ may waits.
          let honest = may-here rest text beyond c.first_line.ensures.lines old (c.lines.invariant.may may) stop in
          (c.in-Ok.ensures.stops honest).3.opens.found.2.waits.count;
      runs = λ limits h matches none may.
          let p = c.lines.invariant.runs limits h matches none may in
          let honest = may-here rest text beyond c.first_line.ensures.lines old (c.lines.invariant.may may) stop in
          let again = c.in-Ok.ensures.stops honest in
          rw c.clear.ensures.items
          (run_stopped limits h c.args.script.now g.D.SectorDisk.medium c.args.hub.store (c.lines.number + 1)
          c.lines.hub c.lines.opened.items rest _ _ p text beyond c.first_line.ensures.lines stop
          c.in-Ok.next (c.in-Ok.ensures.ok limits p.now.hub p.at.run.matches honest) again.0 again.1
          (again.2 limits p.now.hub p.at.run.matches) again.3);
    }

-- the line was run, and the store takes its events
pub lines-preserved : goal.lines-preserved
lines-preserved g c = record {
  few = omega (arith, c.lines.invariant.few, c.first_line.ensures.shorter);
  may = λ may. may-beyond c.lines.rest.now c.first_line.result.0.now c.first_line.result.1.now c.first_line.ensures.lines
      (g.D.SectorDisk.medium c.lines.hub.store.disk) (g.D.SectorDisk.medium c.run_line.new.hub.store.disk)
      (c.lines.invariant.may may) c.in_default-run_line.ensures.honest;
  left = omega (arith, c.lines.invariant.left, c.first_line.ensures.shorter);
  spends = λ has may.
      let cost = cost-fits c.first_line.result.0.now (plain_line c.in-Some.line) (sym c.line_of.ensures ∙ ap (option_map plain_line) c.in-Some.is)
      c.first_line.ensures.parts c.first_line.ensures.shorter in
      let before = c.lines.invariant.spends has may in
      let here = left-beyond _ has before (omega (arith, c.lines.invariant.left, cost)) in
      spends-both _ before (c.in_default-run_line.ensures.costs here) (omega (arith, c.lines.invariant.left, c.first_line.ensures.shorter, cost));
  none = λ stops. no-stop-beyond c.lines.rest.now c.first_line.result.0.now c.first_line.result.1.now c.first_line.ensures.lines
      (c.lines.invariant.none stops);
  lasts = λ limits h matches none stops.
      let p = c.lines.invariant.runs limits h matches none (inl stops) in
      lasts-both g.D.SectorDisk.medium c.args.hub.store c.lines.hub.store c.run_line.new.hub.store
      (c.lines.invariant.lasts limits h matches none stops) (let took = (c.in_default-run_line.ensures.line limits p.now p.at).4 in (took.events, took.takes));
  lives = λ limits h matches none may.
      let p = c.lines.invariant.runs limits h matches none may in
      lives-more g.D.SectorDisk.medium c.args.hub.store c.lines.hub.store c.run_line.new.hub.store
      (c.lines.invariant.lives limits h matches none may) (let took = (c.in_default-run_line.ensures.line limits p.now p.at).4 in (took.events, took.takes));
  committed = λ may waits. c.in_default-run_line.ensures.commits (c.lines.invariant.committed may waits);
  runs = λ limits h matches none may.
      let p = c.lines.invariant.runs limits h matches none may in
      let n = c.lines.number + 1 in
      let s = c.in_default-run_line.ensures.line limits p.now p.at in
      let form = sym c.line_of.ensures ∙ ap (option_map plain_line) c.in-Some.is in
      let is = ap (λ (o : Option PlainLine). text_done limits n p.now o s.0) form ∙ s.2 in
      run_more limits h c.args.script.now g.D.SectorDisk.medium c.args.hub.store n c.lines.hub c.lines.opened.items c.lines.rest.now _ _ p
      c.first_line.result.0.now c.first_line.result.1.now c.first_line.ensures.lines s.0 s.1
      is c.run_line.new.hub c.run_line.new.opened.items _ s.3.0 s.3.1
      (Line n p.first c.first_line.result.0.now c.lines.hub.store c.run_line.new.hub.store p.now p.text s.0 s.1 p.lived
      (goes_on _ (plain_line c.in-Some.line) form s.5) is s.4 c.in_default-run_line.ensures.commits (λ young.
      let has = young-has c.args.hub.store c.args.script.now young c.requires in
      let cost = cost-fits c.first_line.result.0.now (plain_line c.in-Some.line) (sym c.line_of.ensures ∙ ap (option_map plain_line) c.in-Some.is)
      c.first_line.ensures.parts c.first_line.ensures.shorter in
      (c.in_default-run_line.ensures.costs (left-beyond _ has (c.lines.invariant.spends has may) (omega (arith, c.lines.invariant.left, cost)))).running));
}

none-left : (n : ℕ) → true ≡ (n == 0) → n ≡ 0
none-left n is = grind (arith, nat_tests, is)

pub returns-clause-runs : goal.returns-clause-runs
returns-clause-runs g c = λ limits h matches nobody may.
    let none : length c.lines.rest.now ≡ 0 = none-left _ c.lines-test.ensures in
    run_ended limits h c.args.script.now g.D.SectorDisk.medium c.args.hub.store (c.lines.number + 1) c.lines.hub c.lines.opened.items c.lines.rest.now
    _ _ (c.lines.invariant.runs limits h matches nobody may) (no_lines c.lines.rest.now none)

-- the device was not opened again
pub returns-in-Err-clause-disk : goal.returns-in-Err-clause-disk
returns-in-Err-clause-disk g c has may =
    let stop : line_of c.first_line.result.0.now ≡ Some Stop =
    sym c.line_of.ensures ∙ ap (option_map plain_line) (c.in-Some.is ∙ ap Some c.in-Stop.is) in
    let honest = may-here c.lines.rest.now c.first_line.result.0.now c.first_line.result.1.now c.first_line.ensures.lines
    (g.D.SectorDisk.medium c.lines.hub.store.disk) (c.lines.invariant.may may) stop in
    let before = c.lines.invariant.spends has may in
    failed-beyond c.in-Err.fault _ before
    (c.in-Err.ensures.disk honest (left-beyond 3 has before (omega (arith, c.lines.invariant.left, c.first_line.ensures.shorter))))

-- a line was not run
pub returns-in-Err-run_line-clause-disk : goal.returns-in-Err-run_line-clause-disk
returns-in-Err-run_line-clause-disk g c has may =
    let cost = cost-fits c.first_line.result.0.now (plain_line c.in-Some.line) (sym c.line_of.ensures ∙ ap (option_map plain_line) c.in-Some.is)
    c.first_line.ensures.parts c.first_line.ensures.shorter in
    let before = c.lines.invariant.spends has may in
    let here = left-beyond _ has before (omega (arith, c.lines.invariant.left, cost)) in
    rw (c.close-in-Err-run_line-2.ensures.disk, c.close-in-Err-run_line.ensures.store)
    (failed-beyond c.in-Err-run_line.fault _ before (c.in-Err-run_line.ensures.costs here))

-- what is left: of a text that is no line, of a line that was not run, and at the end
pub returns-in_default-clause-leaves : goal.returns-in_default-clause-leaves
returns-in_default-clause-leaves g c = λ limits h matches none may.
    let p = c.lines.invariant.runs limits h matches none may in
    let n = c.lines.number + 1 in
    let handed = c.close-in_default.ensures.disk ∙ ap (λ s. s.disk) c.close.ensures.store in
    record {
      closed = c.lines.hub.store;
      lives = c.lines.invariant.lives limits h matches none may;
      by_lines = ends_after limits h c.args.script.now g.D.SectorDisk.medium c.args.hub.store n c.lines.hub
          c.lines.opened.items c.lines.rest.now _ _ p c.lines.hub.store _ (Err (BadLine n)) (grown_none _) tt
          (as_left limits h c.args.script.now g.D.SectorDisk.medium c.args.hub.store n c.lines.hub c.lines.opened.items c.lines.rest.now _ _ p _
          c.lines.hub.store (Appends-nil _) refl (ap (λ s. s.machine.state) (sym c.close.ensures.store) ∙ c.close.ensures.state)) (λ is. cc);
      handed = handed;
      one = λ stops. (c.lines.invariant.lasts limits h matches none stops, handed);
      committed = c.lines.invariant.committed may;
      state = tt;
    }

-- a device that was not opened again
pub returns-in-Err-clause-leaves : goal.returns-in-Err-clause-leaves
returns-in-Err-clause-leaves g c = λ limits h matches none may.
    let rest = c.lines.rest.now in
    let text = c.first_line.result.0.now in
    let beyond = c.first_line.result.1.now in
    let stop : line_of text ≡ Some Stop = sym c.line_of.ensures ∙ ap (option_map plain_line) (c.in-Some.is ∙ ap Some c.in-Stop.is) in
    let honest = may-here rest text beyond c.first_line.ensures.lines (g.D.SectorDisk.medium c.lines.hub.store.disk) (c.lines.invariant.may may) stop in
    let left = c.in-Err.ensures.left honest in
    record {
      closed = left.0;
      lives = lives-more g.D.SectorDisk.medium c.args.hub.store c.lines.hub.store left.0 (c.lines.invariant.lives limits h matches none may)
          ([], left.1);
      by_lines = ends_after limits h c.args.script.now g.D.SectorDisk.medium c.args.hub.store (c.lines.number + 1) c.lines.hub
          c.lines.opened.items rest _ _ (c.lines.invariant.runs limits h matches none may) left.0 _ (Err c.in-Err.fault) (grown_none _) tt
          (ends-by ⊤ ⊤ ⊥ _ _ c.in-Err.fault (λ _. inl left.1) (λ _. inl left.1) (λ never. absurd never) c.in-Err.ensures.err)
          (λ is young. record {
            line = text;
            beyond = lines_of beyond;
            next = c.first_line.ensures.lines;
            form = Stop;
            is = stop;
            halts = halts-none limits _ Stop left.0.confirmed _ _ _ (c.lines.invariant.runs limits h matches none may).written;
          });
      handed = ends-by ⊤ ⊤ ⊥ _ _ c.in-Err.fault (λ _. left.2) (λ _. left.2) (λ never. absurd never) c.in-Err.ensures.err;
      one = λ stops. absurd (no-stop-here rest text beyond c.first_line.ensures.lines (c.lines.invariant.none stops) stop);
      committed = unless c.in-Err.fault _ _ (λ empty _. empty) left.3;
      state = tt;
    }

pub returns-in-Err-run_line-clause-leaves : goal.returns-in-Err-run_line-clause-leaves
returns-in-Err-run_line-clause-leaves g c = λ limits h matches none may.
    let p = c.lines.invariant.runs limits h matches none may in
    let med = g.D.SectorDisk.medium in
    let n = c.lines.number + 1 in
    let e = c.in-Err-run_line.fault in
    let form = plain_line c.in-Some.line in
    let is : line_of c.first_line.result.0.now ≡ Some form = sym c.line_of.ensures ∙ ap (option_map plain_line) c.in-Some.is in
    let closed = c.run_line.new.hub.store in
    let stops = c.in-Err-run_line.ensures.line limits p.now p.at in
    let lasts = stops_lasts med limits n p.now form c.lines.hub c.run_line.new.hub _ _ e stops g.met.D.SectorDisk.only_now in
    let handed = c.close-in-Err-run_line-2.ensures.disk ∙ ap (λ s. s.disk) c.close-in-Err-run_line.ensures.store in
    let broke : FailsWithin med limits n p.now form c.lines.hub.store closed → Failed limits h c.args.script.now med c.args.hub.store n c.lines.hub
    c.lines.opened.items c.lines.rest.now _ _ p closed =
    failed limits h c.args.script.now med c.args.hub.store n c.lines.hub c.lines.opened.items c.lines.rest.now _ _ p
    c.first_line.result.0.now c.first_line.result.1.now c.first_line.ensures.lines form is closed in
    record {
      closed = closed;
      lives = lives-more med c.args.hub.store c.lines.hub.store closed (c.lines.invariant.lives limits h matches none may) lasts;
      by_lines = ends_after limits h c.args.script.now med c.args.hub.store n c.lines.hub
          c.lines.opened.items c.lines.rest.now _ _ p closed _ (Err e) (stops_grown med limits n p.now form c.lines.hub c.run_line.new.hub _ _ e stops) tt
          (ends-by _ _ _ _ _ e (λ part. broke part.0) (λ more. broke more.0)
          (λ a. as_left limits h c.args.script.now med c.args.hub.store n c.lines.hub c.lines.opened.items c.lines.rest.now _ _ p _ closed a.1
          (ap (λ h. h.store) a.2) (ap (λ s. s.machine.state) (sym c.close-in-Err-run_line.ensures.store) ∙ c.close-in-Err-run_line.ensures.state
          ∙ ap (λ h. h.hub.state) a.2)) stops)
          (λ failed young.
          let cost = cost-fits c.first_line.result.0.now form is c.first_line.ensures.parts c.first_line.ensures.shorter in
          let before = c.lines.invariant.spends (young-has c.args.hub.store c.args.script.now young c.requires) may in
          let here = left-beyond _ (young-has c.args.hub.store c.args.script.now young c.requires) before
          (omega (arith, c.lines.invariant.left, cost)) in record {
            line = c.first_line.result.0.now;
            beyond = lines_of c.first_line.result.1.now;
            next = c.first_line.ensures.lines;
            form = form;
            is = is;
            halts = halts-beyond limits p.now form closed.confirmed p.text _ _ _ p.written
                (c.in-Err-run_line.ensures.halted failed here limits p.now p.at);
          });
      handed = ends-any _ _ e (inl handed) handed;
      one = λ none_stops. (
        lasts-both med c.args.hub.store c.lines.hub.store closed (c.lines.invariant.lasts limits h matches none none_stops) lasts,
        handed,
      );
      committed = committed-unless c.args.hub.store closed e
          (commits-after c.args.hub.store c.lines.hub.store closed e (c.lines.invariant.committed may) c.in-Err-run_line.ensures.commits);
      state = tt;
    }

pub returns-clause-leaves : goal.returns-clause-leaves
returns-clause-leaves g c = λ limits h matches none may.
    let p = c.lines.invariant.runs limits h matches none may in
    let n = c.lines.number + 1 in
    let handed = c.close-3.ensures.disk ∙ ap (λ s. s.disk) c.close-2.ensures.store in
    let empty : lines_of c.lines.rest.now ≡ [] = no_lines c.lines.rest.now (none-left _ c.lines-test.ensures) in
    let state = ap (λ s. s.machine.state) (sym c.close-2.ensures.store) ∙ c.close-2.ensures.state in
    record {
      closed = c.lines.hub.store;
      lives = c.lines.invariant.lives limits h matches none may;
      by_lines = ends_after limits h c.args.script.now g.D.SectorDisk.medium c.args.hub.store n c.lines.hub
          c.lines.opened.items c.lines.rest.now _ _ p c.lines.hub.store _ (Ok tt) (grown_none _) empty
          (as_left limits h c.args.script.now g.D.SectorDisk.medium c.args.hub.store n c.lines.hub c.lines.opened.items c.lines.rest.now _ _ p _
          c.lines.hub.store (Appends-nil _) refl state) (λ is. cc);
      handed = handed;
      one = λ stops. (c.lines.invariant.lasts limits h matches none stops, handed);
      committed = c.lines.invariant.committed may;
      state =
          let all = run_came limits h c.args.script.now g.D.SectorDisk.medium c.args.hub.store n c.lines.hub c.lines.opened.items c.lines.rest.now _ _ p
          empty in (
            all.0,
            all.1,
            state ∙ p.at.run.matches.hub.state ∙ ap (λ (k : Clients). k.state) (sym all.2),
            handed,
            λ young. (c.lines.invariant.spends (young-has c.args.hub.store c.args.script.now young c.requires) may).running,
          );
    }

-- a line that is no stop stands for none
pub run_line-requires : goal.run_line-requires
run_line-requires g c = only-stop c.in-Some.line c.in_default-line.not-Stop
