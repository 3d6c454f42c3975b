use Rattle.std.proofs.Common.{◌≡◌, ◌||◌, [], true, false, Bool, refl, sym, ap, ◌∙◌}
use Rattle.std.proofs.KnownBytes.{Appends-nil}
use Rattle.std.proofs.lemmas.Result.{err_from_is_err_and}
use Rattle.ipc_hub.specs.Clients.{accepted, ended_at}
use Rattle.ipc_script.specs.Relations.Report.{without_frames}
use Rattle.ipc_script.specs.declared.report.Opened.{Opened}
use Rattle.ipc_script.proofs.ConnectionText.{frames_part, reports_part, reports, reports_told}
use Rattle.ipc_script.proofs.FrameLines.{partly_begun, partly_done}
use Rattle.ipc_script.proofs.HubAndClients.{shows}
use Rattle.ipc_script.proofs.FaultCases.{world_failed}
use Rattle.ipc_script.proofs.WrittenText.{part_none, grown_more}
use Rattle.ipc_script.proofs.report.report_connection.Goals.{else-not-connection-via-then-not-connection+else-ended}
use Rattle.ipc_script.proofs.report.report_connection.Goals.{else-not-connection-via-else-not-connection}
use Rattle.ipc_script.proofs.report.report_connection.Goals as goal

or_false : (b : Bool) → b ≡ (b || false)
or_false true = refl
or_false false = refl

pub returns-then-is_silent-clause-ok : goal.returns-then-is_silent-clause-ok
returns-then-is_silent-clause-ok g c = λ limits r s u kept.
    let hub = c.args.hub.now.hub in
    let conn = c.args.connection.now.conn in
    let w = g.W.Write.contents c.args.writer.now in
    let silent = c.is_silent.ensures.0 c.if-is_silent.true in
    let frames = partly_done limits r.hub conn hub w w [] (partly_begun limits r.hub conn hub w s u)
    (λ _ confirmed h m. sym silent.1 ∙ (shows _ confirmed hub h conn m).0) refl in
    let ended : false ≡ ended_at (without_frames r.hub conn) conn =
    sym silent.2 ∙ (shows limits (accepted r.hub) hub (without_frames r.hub conn) conn frames.0).1 in
    reports limits r conn hub w w w c.args.connection.now.told false frames.0 frames.1 (ap (λ (o : Opened). o.told) kept) ended _
    (ap (λ (b : Bool). record { conn = conn; told = b }) (or_false c.args.connection.now.told)) (Appends-nil w)

pub returns-in_err-report_frames-clause-err : goal.returns-in_err-report_frames-clause-err
returns-in_err-report_frames-clause-err g c =
    let q = err_from_is_err_and c.from_residual.result c.from_residual.ensures.1 in
    rw (q.1, q.2) (world_failed _ _ _ _ c.in_err-report_frames.field-0.0
    (λ part limits r s u kept. frames_part r c.args.connection.now.conn _ _ (part limits r.hub s u)) c.in_err-report_frames.ensures.err)

pub returns-in_err-line-clause-err : goal.returns-in_err-line-clause-err
returns-in_err-line-clause-err g c =
    let q = err_from_is_err_and c.from_residual-in_err-line.result c.from_residual-in_err-line.ensures.1 in
    rw (q.1, q.2) (world_failed _ _ _ _ c.in_err-line.field-0.0 (λ _ limits r s u kept.
    let frames = c.in_ok-report_frames.ensures.ok limits r.hub s u in
    let told : false ≡ r.told c.args.connection.now.conn = sym c.if-not-connection.true ∙ ap (λ (o : Opened). o.told) kept in
    let ended : true ≡ ended_at (without_frames r.hub c.args.connection.now.conn) c.args.connection.now.conn =
    sym c.if-ended.true ∙ c.ended.ensures.server limits (accepted r.hub) _ frames.0 in
    reports_part limits r c.args.connection.now.conn c.report_frames.new.hub.hub _ _ _ false true frames.0 frames.1 told ended (part_none _ _))
    c.in_err-line.ensures.err)

pub returns-in_err-write_all-clause-err : goal.returns-in_err-write_all-clause-err
returns-in_err-write_all-clause-err g c =
    let q = err_from_is_err_and c.from_residual-in_err-write_all.result c.from_residual-in_err-write_all.ensures.1 in
    rw (q.1, q.2) (world_failed _ _ _ _ c.in_err-write_all.field-0.0 (λ part limits r s u kept.
    let frames = c.in_ok-report_frames.ensures.ok limits r.hub s u in
    let told : false ≡ r.told c.args.connection.now.conn = sym c.if-not-connection.true ∙ ap (λ (o : Opened). o.told) kept in
    let ended : true ≡ ended_at (without_frames r.hub c.args.connection.now.conn) c.args.connection.now.conn =
    sym c.if-ended.true ∙ c.ended.ensures.server limits (accepted r.hub) _ frames.0 in
    let line = c.as_bytes.ensures.value ∙ c.in_ok-line.ensures.ok in
    reports_part limits r c.args.connection.now.conn c.report_frames.new.hub.hub _ _ _ false true frames.0 frames.1 told ended (rw line at part))
    c.in_err-write_all.ensures.err)

pub returns-in_ok-write_all-clause-ok : goal.returns-in_ok-write_all-clause-ok
returns-in_ok-write_all-clause-ok g c = λ limits r s u kept.
    let frames = c.in_ok-report_frames.ensures.ok limits r.hub s u in
    let told : false ≡ r.told c.args.connection.now.conn = sym c.if-not-connection.true ∙ ap (λ (o : Opened). o.told) kept in
    let ended : true ≡ ended_at (without_frames r.hub c.args.connection.now.conn) c.args.connection.now.conn =
    sym c.if-ended.true ∙ c.ended.ensures.server limits (accepted r.hub) _ frames.0 in
    let line = c.as_bytes.ensures.value ∙ c.in_ok-line.ensures.ok in
    reports limits r c.args.connection.now.conn c.report_frames.new.hub.hub _ _ _ false true frames.0 frames.1 told ended _ refl
    (rw line at c.in_ok-write_all.ensures.ok)

pub returns-else-not-connection-clause-ok : goal.returns-else-not-connection-clause-ok
returns-else-not-connection-clause-ok g c = λ limits r s u kept.
    let frames = c.in_ok-report_frames.ensures.ok limits r.hub s u in
    elim c.else-not-connection.branch [
      | else-not-connection-via-then-not-connection+else-ended w ↦
          let told : false ≡ r.told c.args.connection.now.conn = sym w.if-not-connection.true ∙ ap (λ (o : Opened). o.told) kept in
          let ended : false ≡ ended_at (without_frames r.hub c.args.connection.now.conn) c.args.connection.now.conn =
          sym w.if-ended.false ∙ w.ended.ensures.server limits (accepted r.hub) _ frames.0 in
          reports limits r c.args.connection.now.conn c.report_frames.new.hub.hub _ _ _ false false frames.0 frames.1 told ended _
          (ap (λ (b : Bool). record { conn = c.args.connection.now.conn; told = b }) w.if-not-connection.true) (Appends-nil _)
      | else-not-connection-via-else-not-connection w ↦
          reports_told limits r c.args.connection.now.conn c.report_frames.new.hub.hub _ _ _ c.args.connection.now.told
          (ended_at (without_frames r.hub c.args.connection.now.conn) c.args.connection.now.conn) frames.0 frames.1 (ap (λ (o : Opened). o.told) kept) refl _
          refl w.if-not-connection.false refl
    ]

pub returns-in_err-write_all-clause-grows : goal.returns-in_err-write_all-clause-grows
returns-in_err-write_all-clause-grows g c = grown_more _ _ _ c.report_frames.ensures.grows c.write_all.ensures.grows

pub returns-in_ok-write_all-clause-grows : goal.returns-in_ok-write_all-clause-grows
returns-in_ok-write_all-clause-grows g c = grown_more _ _ _ c.report_frames.ensures.grows c.write_all.ensures.grows
