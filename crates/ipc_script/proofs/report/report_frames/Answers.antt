use Rattle.std.proofs.Common.{◌≡◌, ◌<◌, length, refl, arith, ◌∙◌}
use Rattle.std.proofs.lemmas.Bool.Decides.{nat_tests}
use Rattle.std.proofs.lemmas.Result.{err_from_is_err_and}
use Rattle.ipc_script.proofs.FaultCases.{world_failed}
use Rattle.ipc_script.proofs.WrittenText.{grown_none, grown_more}
use Rattle.ipc_script.proofs.FrameLines.{partly_begun, partly_none, partly_part, partly_more, partly_done}
use Rattle.ipc_script.proofs.report.report_frames.Goals as goal

pub frames-init : goal.frames-init
frames-init g c = record {
  store = refl;
  grows = grown_none _;
  partly = λ limits h matches untouched. partly_begun limits h c.args.conn c.args.hub.now.hub (g.W.Write.contents c.args.writer.now) matches untouched;
}

pub returns-in_err-line-clause-err : goal.returns-in_err-line-clause-err
returns-in_err-line-clause-err g c =
    let q = err_from_is_err_and c.from_residual.result c.from_residual.ensures.1 in
    rw (q.1, q.2) (world_failed _ _ _ _ c.in_err-line.field-0.0 (λ _ limits h s u.
    partly_none limits h c.args.conn c.frames.hub.hub _ _ c.output-output.result.now (c.frames.invariant.partly limits h s u) c.output-output.ensures.shown)
    c.in_err-line.ensures.err)

pub returns-in_err-write_all-clause-err : goal.returns-in_err-write_all-clause-err
returns-in_err-write_all-clause-err g c =
    let q = err_from_is_err_and c.from_residual-in_err-write_all.result c.from_residual-in_err-write_all.ensures.1 in
    let some : 0 < length c.output-output.result.now = omega (arith, c.first_frame-count.ensures.some, c.first_frame-count.ensures.within) in
    rw (q.1, q.2) (world_failed _ _ _ _ c.in_err-write_all.field-0.0 (λ part limits h s u.
    partly_part limits h c.args.conn c.frames.hub.hub _ _ c.output-output.result.now (c.frames.invariant.partly limits h s u) c.output-output.ensures.shown
    c.as_bytes.result.now c.first_frame-count.result some c.first_frame-count.ensures.frame (c.as_bytes.ensures.value ∙ c.in_ok-line.ensures.ok) _ part)
    c.in_err-write_all.ensures.err)

pub returns-in_err-write_all-clause-grows : goal.returns-in_err-write_all-clause-grows
returns-in_err-write_all-clause-grows g c = grown_more _ _ _ c.frames.invariant.grows c.write_all.ensures.grows

pub frames-preserved : goal.frames-preserved
frames-preserved g c = record {
  store = c.consume.ensures.store ∙ c.frames.invariant.store;
  grows = grown_more _ _ _ c.frames.invariant.grows c.write_all.ensures.grows;
  partly = λ limits h s u.
      let some : 0 < length c.output-output.result.now = omega (arith, c.first_frame-count.ensures.some, c.first_frame-count.ensures.within) in
      partly_more limits h c.args.conn c.frames.hub.hub _ _ c.output-output.result.now (c.frames.invariant.partly limits h s u) c.output-output.ensures.shown
      c.as_bytes.result.now c.first_frame-count.result some c.first_frame-count.ensures.frame (c.as_bytes.ensures.value ∙ c.in_ok-line.ensures.ok)
      c.consume.new.self.hub _ c.in_ok-write_all.ensures.ok c.consume.ensures.ok;
}

pub returns-clause-ok : goal.returns-clause-ok
returns-clause-ok g c = λ limits h s u.
    let none : length c.output.result.now ≡ 0 = grind (arith, nat_tests, c.frames-test.ensures) in
    partly_done limits h c.args.conn c.frames.hub.hub _ _ c.output.result.now (c.frames.invariant.partly limits h s u) c.output.ensures.shown none
