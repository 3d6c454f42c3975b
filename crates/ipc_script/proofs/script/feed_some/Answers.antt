use Rattle.std.proofs.Common.{◌≡◌, refl, sym, ap, ◌∙◌, inr, arith}
use Rattle.std.specs.Prelude.{Err}
use Rattle.std.proofs.KnownBytes.{Appends-nil}
use Rattle.std.proofs.lemmas.Result.{err_from_is_err_and}
use Rattle.ipc_store.specs.declared.fault.CommitError.TheVariants as commit
use Rattle.ipc_hub.specs.Relations.Faults.{RefusesFeed}
use Rattle.ipc_script.proofs.HubAndClients.{connected, is_known, is_unknown, is_its_fault, is_failed}
use Rattle.ipc_script.proofs.FedPieces.{feeds_some, feeds_part, feeds_halt, halted_now, halted_piece, piece_taken}
use Rattle.ipc_script.proofs.FaultCases.{by_fault, fault-is}
use Rattle.ipc_script.proofs.NumbersSpent.{left-beyond}
use Rattle.ipc_script.specs.declared.fault.ScriptFault.TheVariants.{Device}
use Rattle.ipc_script.specs.Relations.Faults.{of_serve_error}
use Rattle.ipc_script.proofs.Lasting.{commits-empty}
use Rattle.ipc_script.proofs.script.feed_some.Goals as goal

pub returns-in_err-report-in-Ok-clause-err : goal.returns-in_err-report-in-Ok-clause-err
returns-in_err-report-in-Ok-clause-err g c =
    let q = err_from_is_err_and c.from_residual.result c.from_residual.ensures.1 in
    let conn = c.args.sender.conn in
    let known = is_known c.args.hub.now conn c.feed.result _ c.in-Ok.is c.feed.ensures.stopped c.feed.ensures.unknown in
    rw (q.1, q.2) (by_fault _ _ _ _ _ _ c.in_err-report-in-Ok.field-0.0 (λ part limits r b.
    feeds_part g.D.SectorDisk.medium limits r c.args.sender c.args.bytes.now c.in-Ok.taken
    c.args.hub.now c.feed.new.self c.report.new.hub c.args.opened.now b c.in-Ok.ensures.ok c.in-Ok.ensures.starts known c.report.ensures.takes _ _ part)
    (λ none. (
      λ limits r b. inr (
        c.in-Ok.taken,
        piece_taken g.D.SectorDisk.medium limits r c.args.sender c.args.bytes.now c.in-Ok.taken
            c.args.hub.now c.feed.new.self c.report.new.hub c.args.opened.now b c.in-Ok.ensures.ok c.in-Ok.ensures.starts known c.report.ensures.takes,
      ),
      none,
    ))
    (λ never. absurd never) c.in_err-report-in-Ok.ensures.err)

pub returns-in_ok-report-in-Ok-clause-ok : goal.returns-in_ok-report-in-Ok-clause-ok
returns-in_ok-report-in-Ok-clause-ok g c = λ limits r b.
    let conn = c.args.sender.conn in
    feeds_some g.D.SectorDisk.medium limits r c.args.sender c.args.bytes.now c.in-Ok.taken
    c.args.hub.now c.feed.new.self c.report.new.hub c.args.opened.now b c.in-Ok.ensures.ok c.in-Ok.ensures.starts
    (is_known c.args.hub.now conn c.feed.result _ c.in-Ok.is c.feed.ensures.stopped c.feed.ensures.unknown) c.report.ensures.takes
    c.report.new.opened _ _ c.in_ok-report-in-Ok.ensures.ok

pub returns-in-Err-clause-err : goal.returns-in-Err-clause-err
returns-in-Err-clause-err g c =
    let w = Appends-nil (g.W.Write.contents c.args.writer.now) in
    let conn = c.args.sender.conn in
    let med = g.D.SectorDisk.medium in
    let counts = g.D.SectorDisk.counts in
    let hub = c.args.hub.now in
    let bytes = c.args.bytes.now in
    rw c.fault_of.ensures (is_its_fault (RefusesFeed med counts hub c.feed.new.self conn bytes c.args.sender.moment.0) _ _ _ _ c.in-Err.error
    c.args.sender.number (λ r. r.2)
    (λ h. (
      λ limits r b. halted_piece med g.met.D.SectorDisk.only_now counts limits r c.args.sender bytes hub c.feed.new.self c.args.opened.now b
          commit.Device h,
      w,
    ))
    (λ h. (
      λ limits r b. halted_piece med g.met.D.SectorDisk.only_now counts limits r c.args.sender bytes hub c.feed.new.self c.args.opened.now b
          commit.Stopped h,
      w,
    )) w c.in-Err.ensures.refused)

pub returns-in-Err-clause-unknown : goal.returns-in-Err-clause-unknown
returns-in-Err-clause-unknown g c =
    let hub = c.args.hub.now in
    rw c.fault_of.ensures (is_unknown (RefusesFeed g.D.SectorDisk.medium g.D.SectorDisk.counts hub c.feed.new.self c.args.sender.conn c.args.bytes.now
    c.args.sender.moment.0) _ c.in-Err.error c.args.sender.number
    (λ none limits r b. sym (connected limits hub.store.confirmed hub.hub r.hub c.args.sender.conn b.run.matches.hub) ∙ none.1)
    c.in-Err.ensures.refused)

pub returns-in_err-report-in-Ok-clause-commits : goal.returns-in_err-report-in-Ok-clause-commits
returns-in_err-report-in-Ok-clause-commits g c =
    let q = err_from_is_err_and c.from_residual.result c.from_residual.ensures.1 in
    rw (q.1, q.2) (commits-empty c.args.hub.now.store c.report.new.hub.store c.in_err-report-in-Ok.field-0.0 c.in_err-report-in-Ok.ensures.empties)

pub returns-in_ok-report-in-Ok-clause-commits : goal.returns-in_ok-report-in-Ok-clause-commits
returns-in_ok-report-in-Ok-clause-commits g c = λ _. c.in_ok-report-in-Ok.ensures.empties

-- what was fed is not written, or nothing is fed
pub returns-in_err-report-in-Ok-clause-halted : goal.returns-in_err-report-in-Ok-clause-halted
returns-in_err-report-in-Ok-clause-halted g c is has limits r b =
    let q = err_from_is_err_and c.from_residual.result c.from_residual.ensures.1 in
    let device : c.in_err-report-in-Ok.field-0.0 ≡ Device = sym q.2 ∙ fault-is c.from_residual.result q.0 Device q.1 is in
    let conn = c.args.sender.conn in
    let left = left-beyond 1 has c.in-Ok.ensures.spends (omega (arith, c.in-Ok.ensures.within)) in
    feeds_halt g.D.SectorDisk.medium limits r c.args.sender c.args.bytes.now c.in-Ok.taken
    c.args.hub.now c.feed.new.self c.report.new.hub c.args.opened.now b c.in-Ok.ensures.ok c.in-Ok.ensures.starts
    (is_known c.args.hub.now conn c.feed.result _ c.in-Ok.is c.feed.ensures.stopped c.feed.ensures.unknown) c.report.ensures.takes
    c.report.new.opened (c.in_err-report-in-Ok.ensures.halted (ap (λ e. Err e) device) left)

pub returns-in-Err-clause-halted : goal.returns-in-Err-clause-halted
returns-in-Err-clause-halted g c is has limits r b =
    let device : of_serve_error c.in-Err.error c.args.sender.number ≡ Device = sym c.fault_of.ensures ∙ fault-is _ _ Device refl is in
    let now = halted_now g.D.SectorDisk.medium g.met.D.SectorDisk.only_now g.D.SectorDisk.counts limits r c.args.sender c.args.bytes.now c.args.hub.now
    c.feed.new.self c.args.opened.now b _ has in
    is_failed (RefusesFeed g.D.SectorDisk.medium g.D.SectorDisk.counts c.args.hub.now c.feed.new.self c.args.sender.conn c.args.bytes.now
    c.args.sender.moment.0) _ c.in-Err.error c.args.sender.number device (now commit.Device) (now commit.Stopped) c.in-Err.ensures.refused
