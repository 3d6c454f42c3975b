use Rattle.std.proofs.Common.{◌+◌, ◌<◌, length, get_or, refl, sym, ap, ◌∙◌, arith}
use Rattle.std.specs.List.{flat_map}
use Rattle.std.proofs.lemmas.Result.{err_from_is_err_and}
use Rattle.ipc_script.specs.Script.{conn_text}
use Rattle.ipc_script.proofs.FaultCases.{world_failed, world_only}
use Rattle.ipc_script.proofs.Halting.{can-report}
use Rattle.ipc_script.proofs.ReportText.{reported_begun, reported_more, reported_part, reported_all}
use Rattle.ipc_script.proofs.WrittenText.{grown_none, grown_more}
use Rattle.ipc_script.proofs.report.report_all.Goals as goal

pub loop-place-init : goal.loop-place-init
loop-place-init g c = record {
  store = refl;
  grows = grown_none _;
  reports = λ limits r i. reported_begun limits r c.args.hub.now.hub c.args.opened.now _ i.matches i.rising i.kept;
}

pub loop-place-preserved : goal.loop-place-preserved
loop-place-preserved g c = record {
  store = c.report_connection.ensures.store ∙ c.loop-place.invariant.store;
  grows = grown_more _ _ _ c.loop-place.invariant.grows c.report_connection.ensures.grows;
  reports = λ limits r i.
      let inside : c.loop-place.place < length c.loop-place.opened = omega arith in
      reported_more limits r c.loop-place.hub.hub c.loop-place.opened c.loop-place.place _ _ (c.loop-place.invariant.reports limits r i)
      i.whole (get_or c.loop-place.opened c.loop-place.place _) _ inside refl
      c.report_connection.new.hub.hub _ c.report_connection.new.connection (c.in_ok-report_connection.ensures.ok limits);
}

pub returns-in_err-report_connection-clause-says : goal.returns-in_err-report_connection-clause-says
returns-in_err-report_connection-clause-says g c limits r i =
    let inside : c.loop-place.place < length c.loop-place.opened = omega arith in
    reported_part limits r c.loop-place.hub.hub c.loop-place.opened c.loop-place.place _ _ (c.loop-place.invariant.reports limits r i)
    i.whole (get_or c.loop-place.opened c.loop-place.place _) _ inside refl _
    (λ s m u k. world_only _ c.in_err-report_connection.field-0.0 c.in_err-report_connection.ensures.err limits s m u k)

pub returns-in_err-report_connection-clause-err : goal.returns-in_err-report_connection-clause-err
returns-in_err-report_connection-clause-err g c =
    let q = err_from_is_err_and c.from_residual.result c.from_residual.ensures.1 in
    rw (q.1, q.2) (world_failed _ _ _ _ c.in_err-report_connection.field-0.0 (λ _. tt) c.in_err-report_connection.ensures.err)

pub returns-in_err-report_connection-clause-grows : goal.returns-in_err-report_connection-clause-grows
returns-in_err-report_connection-clause-grows g c = grown_more _ _ _ c.loop-place.invariant.grows c.report_connection.ensures.grows

pub returns-clause-ok : goal.returns-clause-ok
returns-clause-ok g c = λ limits r i all.
    let same = c.loop-place.invariant.store in
    reported_all limits r c.loop-place.hub.hub c.loop-place.opened c.loop-place.place _ _
    (c.loop-place.invariant.reports limits r (can-report limits c.args.hub.now c.args.opened.now r i all)) c.loop-place.hub.store
    (ap (λ s. s.confirmed) same ∙ all) (ap (λ s. s.confirmed + s.waiting) same ∙ i.matches.counts) (omega arith)

pub returns-clause-says : goal.returns-clause-says
returns-clause-says g c limits r i =
    let p = c.loop-place.invariant.reports limits r i in
    (p.text, flat_map (conn_text r) p.left, sym p.said, p.written)
