use Rattle.std.proofs.Common.{◌≡◌, ◌*◌, ℕ, true, false, List, length, refl, sym, ap, ◌∙◌, inl, arith}
use Rattle.std.specs.Prelude.{◌≢◌, Ok, Err}
use Rattle.std.proofs.KnownBytes.{Appends-nil}
use Rattle.std.proofs.lemmas.Result.{err_from_is_err_and}
use Rattle.ipc_hub.specs.Clients.{tick}
use Rattle.ipc_script.specs.declared.report.Opened.{Opened}
use Rattle.ipc_script.specs.Relations.Lines.{hex_bytes, plain_line}
use Rattle.ipc_script.specs.Line.{PlainLine, Open, End, Tick, Save, Stop}
use Rattle.ipc_limits.specs.declared.limits.Limits.{Limits}
use Rattle.ipc_script.specs.declared.fault.ScriptFault.TheVariants.{Device, InUse, NoMemory, Unknown}
use Rattle.ipc_script.specs.Script.{Cut, Run, first_part, is_open, line_done, opened, report}
use Rattle.ipc_script.specs.Relations.Lasts.{LastsAs}
use Rattle.ipc_script.specs.Relations.Simulation.{SimulatesLine}
use Rattle.ipc_script.specs.Relations.Matches.{HaltsAt, RunMatches, RunMatchesBetween}
use Rattle.ipc_script.specs.Relations.Numbers.{HasNumbers}
use Rattle.ipc_script.proofs.UnchangedHeads.{heads_tick, steady}
use Rattle.ipc_script.proofs.HexBytes.{hex_nonempty}
use Rattle.ipc_script.proofs.LineForms.{written_back, still_matches, line_unwritten, line_reported, line_refused}
use Rattle.ipc_script.proofs.LineForms.{open_done, open_refused, end_done, end_refused}
use Rattle.ipc_script.proofs.script.serve_line.Goals.{in-Open+in_ok-open-in-Open, in-End+in_ok-close-in-End, in-Tick+in-Ok, in-Save+in-Ok-save}
use Rattle.ipc_script.proofs.Lasting.{lasts-as-none, lasts-as-come, takes-same, takes-halted, commits-all}
use Rattle.ipc_script.proofs.FaultCases.{device-then, fault-is}
use Rattle.ipc_script.proofs.Halting.{halted-at, halts-fails, matches-failed}
use Rattle.ipc_script.proofs.NumbersSpent.{goes-on, left-beyond}
use Rattle.ipc_script.proofs.WrittenText.{grown_none}
use Rattle.ipc_script.specs.Halting.{IsBegun}
use Rattle.ipc_script.specs.Halting.IsBegun.{None as none_begun, Opens as open_begun, Ends as end_begun, Ticks as tick_begun}
use Rattle.ipc_store.proofs.CallerLemmas.{Takes-none}
use Rattle.ipc_script.proofs.script.serve_line.Goals as goal

pub returns-in_err-open-in-Open-clause-line : goal.returns-in_err-open-in-Open-clause-line
returns-in_err-open-in-Open-clause-line g c = λ limits r b.
    let q = err_from_is_err_and c.from_residual.result c.from_residual.ensures.1 in
    rw (q.1, q.2, c.in-Open.is) (line_refused g.D.SectorDisk.medium limits c.args.number r c.args.hub.now c.open.new.hub
    (g.W.Write.contents c.args.writer.now) (Open c.in-Open.conn) c.in_err-open-in-Open.field-0.0 (InUse c.args.number)
    ((limits : Limits) (r : Run) → RunMatchesBetween limits c.args.hub.now c.args.opened.now.items r → is_open r c.in-Open.conn ≡ true)
    (takes-same g.D.SectorDisk.medium g.met.D.SectorDisk.only_now c.args.hub.now.store _ c.open.ensures.store)
    c.in_err-open-in-Open.ensures.err c.in_err-open-in-Open.ensures.in_use (λ u. open_refused limits c.args.number r c.in-Open.conn (u limits r b)))

pub returns-in_err-bytes-in-Data-clause-line : goal.returns-in_err-bytes-in-Data-clause-line
returns-in_err-bytes-in-Data-clause-line g c = λ limits r b.
    let q = err_from_is_err_and c.from_residual-in_err-bytes-in-Data.result c.from_residual-in_err-bytes-in-Data.ensures.1 in
    rw (q.1, q.2) (
      inl (Takes-none g.D.SectorDisk.medium g.met.D.SectorDisk.only_now c.args.hub.now.store),
      line_unwritten limits c.args.number r (plain_line c.args.line) (g.W.Write.contents c.args.writer.now),
    )

pub feed-requires : goal.feed-requires
feed-requires g c =
    let bytes : c.deref.result.now ≡ hex_bytes c.in-Data.hex = c.deref.ensures.value ∙ c.in_ok-bytes-in-Data.ensures in
    rw bytes (hex_nonempty c.in-Data.hex.digits.now c.in-Data.hex.well_formed)

pub returns-in-Data-clause-line : goal.returns-in-Data-clause-line
returns-in-Data-clause-line g c = λ limits r b.
    let back =
    written_back c.args.opened.now.len c.feed.new.opened c.args.opened.now.items c.args.opened.now.ok.0 (c.feed.auto.opened
    ∙ ap (λ (xs : List Opened). length xs) c.deref_mut.ensures.value) in
    let bytes : c.deref.result.now ≡ hex_bytes c.in-Data.hex = c.deref.ensures.value ∙ c.in_ok-bytes-in-Data.ensures in
    let runs = c.feed.ensures.line limits r (rw (← c.deref_mut.ensures.value) at b) in
    rw (back, c.in-Data.is) (rw bytes at runs)

pub returns-in_err-close-in-End-clause-line : goal.returns-in_err-close-in-End-clause-line
returns-in_err-close-in-End-clause-line g c = λ limits r b.
    let q = err_from_is_err_and c.from_residual-in_err-close-in-End.result c.from_residual-in_err-close-in-End.ensures.1 in
    rw (q.1, q.2, c.in-End.is)
    (line_refused g.D.SectorDisk.medium limits c.args.number r c.args.hub.now c.close.new.hub (g.W.Write.contents c.args.writer.now)
    (End c.in-End.moment c.in-End.conn) c.in_err-close-in-End.field-0.0 (Unknown c.args.number)
    ((limits : Limits) (r : Run) → RunMatchesBetween limits c.args.hub.now c.args.opened.now.items r → is_open r c.in-End.conn ≡ false)
    c.in_err-close-in-End.ensures.takes c.in_err-close-in-End.ensures.err c.in_err-close-in-End.ensures.unknown
    (λ u. end_refused limits c.args.number r c.in-End.moment c.in-End.conn (u limits r b)))

-- the disk failed before anything was done
pub returns-in-Err-clause-line : goal.returns-in-Err-clause-line
returns-in-Err-clause-line g c = λ limits r b. (
  inl (takes-halted g.D.SectorDisk.medium g.met.D.SectorDisk.only_now g.D.SectorDisk.counts c.args.hub.now c.tick.new.self c.in-Err.field-0
      c.in-Err.ensures.refused),
  grown_none _,
)

pub returns-in-Err-save-clause-line : goal.returns-in-Err-save-clause-line
returns-in-Err-save-clause-line g c = λ limits r b. (inl c.save.ensures.takes, grown_none _)

pub returns-clause-line : goal.returns-clause-line
returns-clause-line g c = λ limits r b.
    let back =
    written_back c.match-line.opened.len c.report.new.opened c.match-line.opened.items c.match-line.opened.ok.0 (c.report.auto.opened
    ∙ ap (λ (xs : List Opened). length xs) c.deref_mut-2.ensures.value) in
    let hub = c.match-line.hub in
    let items = c.match-line.opened.items in
    let med = g.D.SectorDisk.medium in
    let old = c.args.hub.now in
    let at : (now : Run) → RunMatches limits hub items now → RunMatches limits hub c.deref_mut-2.result.now now =
    λ now i. (rw (← c.deref_mut-2.ensures.value) at i) in
    let reported : (line : PlainLine) (now : Run) → RunMatches limits hub items now
    → ((cut : Cut) → line_done limits c.args.number r line cut ≡ Ok (report now)) → LastsAs med r.hub now.hub old.store hub.store
    → line ≢ Stop → first_part 0 line ≡ line
    → SimulatesLine med limits c.args.number r line old c.report.new.hub c.report.new.opened (g.W.Write.contents c.args.writer.now)
    (g.W.Write.contents c.report.new.writer) c.report.result =
    λ line now i done took goes whole. line_reported med limits c.args.number r old hub c.report.new.hub _ _ line c.deref_mut-2.result.now
    c.report.new.opened c.report.new.opened c.report.result c.report.ensures.ok c.report.ensures.err refl now (at now i) done took
    c.report.ensures.takes goes whole in
    rw back (elim c.match-line.branch [
      | in-Open+in_ok-open-in-Open w ↦
          let o = w.in_ok-open-in-Open.ensures.ok limits r b in
          rw w.in-Open.is (reported (Open w.in-Open.conn) (opened r w.in-Open.conn) (rw (← w.hub-is, ← w.opened-is) at o.1)
          (open_done limits c.args.number r w.in-Open.conn o.0)
          (rw w.hub-is (lasts-as-none med r.hub (opened r w.in-Open.conn).hub old.store _ refl
          (takes-same med g.met.D.SectorDisk.only_now old.store _ w.open.ensures.store))) (λ is. cc) refl)
      | in-End+in_ok-close-in-End w ↦
          let o = w.in_ok-close-in-End.ensures.ok limits r b in
          rw w.in-End.is (reported (End w.in-End.moment w.in-End.conn) _ (rw (← w.hub-is, ← w.opened-is) at o.1)
          (end_done limits c.args.number r w.in-End.moment w.in-End.conn o.0) (rw w.hub-is o.2) (λ is. cc) refl)
      | in-Tick+in-Ok w ↦
          let come = w.in-Ok.ensures.ok limits r.hub b.run.matches in
          let i = steady limits old w.tick.new.self c.args.opened.now.items r (tick limits r.hub w.in-Tick.moment) b.run
          (heads_tick limits 0 w.in-Tick.moment r.hub) come.matches in
          rw w.in-Tick.is (reported (Tick w.in-Tick.moment) _ (rw (← w.hub-is, ← w.opened-is) at i) (λ cut. refl)
          (rw w.hub-is (lasts-as-come med limits r.hub (tick limits r.hub w.in-Tick.moment) old w.tick.new.self come)) (λ is. cc) refl)
      | in-Save+in-Ok-save w ↦
          let i = still_matches limits old w.save.new.self c.args.opened.now.items r (w.in-Ok-save.ensures.ok limits r.hub) b.run in
          rw w.in-Save.is (reported Save r (rw (← w.hub-is, ← w.opened-is) at i) (λ cut. refl)
          (rw w.hub-is (lasts-as-none med r.hub r.hub old.store _ refl w.save.ensures.takes)) (λ is. cc) refl)
    ])

pub returns-clause-commits : goal.returns-clause-commits
returns-clause-commits g c = commits-all c.args.hub.now.store c.report.new.hub.store c.report.result c.report.ensures.empties

-- ---- where the disk has failed

pub returns-in_err-open-in-Open-clause-halted : goal.returns-in_err-open-in-Open-clause-halted
returns-in_err-open-in-Open-clause-halted g c is has limits r b =
    let q = err_from_is_err_and c.from_residual.result c.from_residual.ensures.1 in
    let device : c.in_err-open-in-Open.field-0.0 ≡ Device = sym q.2 ∙ fault-is c.from_residual.result q.0 Device q.1 is in
    absurd (c.in_err-open-in-Open.ensures.goes (goes-on _ c.args.hub.now has) (ap (λ e. Err e) device))

pub returns-in_err-bytes-in-Data-clause-halted : goal.returns-in_err-bytes-in-Data-clause-halted
returns-in_err-bytes-in-Data-clause-halted g c is has limits r b =
    let q = err_from_is_err_and c.from_residual-in_err-bytes-in-Data.result c.from_residual-in_err-bytes-in-Data.ensures.1 in
    let device : NoMemory ≡ Device = sym q.2 ∙ fault-is c.from_residual-in_err-bytes-in-Data.result q.0 Device q.1 is in
    cc

pub returns-in-Data-clause-halted : goal.returns-in-Data-clause-halted
returns-in-Data-clause-halted g c is has limits r b =
    let back =
    written_back c.args.opened.now.len c.feed.new.opened c.args.opened.now.items c.args.opened.now.ok.0 (c.feed.auto.opened
    ∙ ap (λ (xs : List Opened). length xs) c.deref_mut.ensures.value) in
    let bytes : c.deref.result.now ≡ hex_bytes c.in-Data.hex = c.deref.ensures.value ∙ c.in_ok-bytes-in-Data.ensures in
    let all = rw c.in-Data.is at has in
    let few : HasNumbers (5 * length c.deref.result.now) c.args.hub.now.store = record {
      running = all.running;
      left = omega (arith, all.left, ap (λ (bs : List ℕ). length bs) bytes);
    } in
    let halts = c.feed.ensures.halted is few limits r (rw (← c.deref_mut.ensures.value) at b) in
    rw (back, c.in-Data.is) (rw bytes at halts)

pub returns-in_err-close-in-End-clause-halted : goal.returns-in_err-close-in-End-clause-halted
returns-in_err-close-in-End-clause-halted g c is has limits r b =
    let q = err_from_is_err_and c.from_residual-in_err-close-in-End.result c.from_residual-in_err-close-in-End.ensures.1 in
    let device : c.in_err-close-in-End.field-0.0 ≡ Device =
    sym q.2 ∙ fault-is c.from_residual-in_err-close-in-End.result q.0 Device q.1 is in
    let few : HasNumbers 3 c.args.hub.now.store = record { running = has.running; left = omega (arith, has.left) } in
    halted-at limits r (plain_line c.args.line) c.close.new.hub c.close.new.opened.items _ _ r (Appends-nil _) (none_begun _)
    (c.in_err-close-in-End.ensures.halted (ap (λ e. Err e) device) few limits r b.run)

pub returns-in-Err-clause-halted : goal.returns-in-Err-clause-halted
returns-in-Err-clause-halted g c is has limits r b =
    halted-at limits r (plain_line c.args.line) c.tick.new.self c.args.opened.now.items _ _ r (Appends-nil _) (none_begun _)
    (matches-failed g.D.SectorDisk.medium limits c.args.hub.now c.tick.new.self c.args.opened.now.items r
    (halts-fails g.D.SectorDisk.medium g.D.SectorDisk.counts _ c.args.hub.now c.tick.new.self has c.in-Err.field-0 c.in-Err.ensures.refused) b.run)

pub returns-in-Err-save-clause-halted : goal.returns-in-Err-save-clause-halted
returns-in-Err-save-clause-halted g c is has limits r b =
    halted-at limits r (plain_line c.args.line) c.save.new.self c.args.opened.now.items _ _ r (Appends-nil _) (none_begun _)
    (matches-failed g.D.SectorDisk.medium limits c.args.hub.now c.save.new.self c.args.opened.now.items r
    (halts-fails g.D.SectorDisk.medium g.D.SectorDisk.counts _ c.args.hub.now c.save.new.self has c.in-Err-save.field-0 c.in-Err-save.ensures.refused) b.run)

-- what was done is not written
pub returns-clause-halted : goal.returns-clause-halted
returns-clause-halted g c is has limits r b =
    let back =
    written_back c.match-line.opened.len c.report.new.opened c.match-line.opened.items c.match-line.opened.ok.0 (c.report.auto.opened
    ∙ ap (λ (xs : List Opened). length xs) c.deref_mut-2.ensures.value) in
    let hub = c.match-line.hub in
    let items = c.match-line.opened.items in
    let none = device-then _ _ _ c.report.result is c.report.ensures.err in
    let halted : (line : PlainLine) (now : Run) → RunMatches limits hub items now → HasNumbers 1 hub.store → IsBegun limits r 0 line now
    → HaltsAt limits r line c.report.new.hub c.report.new.opened (g.W.Write.contents c.args.writer.now) (g.W.Write.contents c.report.new.writer) =
    λ line now i few begun. halted-at limits r line c.report.new.hub c.report.new.opened _ _ now none begun
    (c.report.ensures.halted is few limits now (rw (← c.deref_mut-2.ensures.value) at i)) in
    rw back (elim c.match-line.branch [
      | in-Open+in_ok-open-in-Open w ↦
          let few : HasNumbers 1 w.open.new.hub.store = rw w.open.ensures.store (record { running = has.running; left = omega (arith, has.left) }) in
          rw w.in-Open.is (halted (Open w.in-Open.conn) (opened r w.in-Open.conn)
          (rw (← w.hub-is, ← w.opened-is) at (w.in_ok-open-in-Open.ensures.ok limits r b).1) (rw w.hub-is few) (open_begun w.in-Open.conn))
      | in-End+in_ok-close-in-End w ↦
          let some : HasNumbers 3 c.args.hub.now.store = record { running = has.running; left = omega (arith, has.left) } in
          let all : HasNumbers 4 c.args.hub.now.store = record { running = has.running; left = omega (arith, has.left) } in
          let few = left-beyond 1 all (w.in_ok-close-in-End.ensures.costs some) (omega arith) in
          rw w.in-End.is (halted (End w.in-End.moment w.in-End.conn) _
          (rw (← w.hub-is, ← w.opened-is) at (w.in_ok-close-in-End.ensures.ok limits r b).1) (rw w.hub-is few)
          (end_begun w.in-End.moment w.in-End.conn))
      | in-Tick+in-Ok w ↦
          let all : HasNumbers 4 c.args.hub.now.store = record { running = has.running; left = omega (arith, has.left) } in
          let few = left-beyond 1 all w.in-Ok.ensures.spends (omega arith) in
          let come = w.in-Ok.ensures.ok limits r.hub b.run.matches in
          let i = steady limits c.args.hub.now w.tick.new.self c.args.opened.now.items r (tick limits r.hub w.in-Tick.moment) b.run
          (heads_tick limits 0 w.in-Tick.moment r.hub) come.matches in
          rw w.in-Tick.is (halted (Tick w.in-Tick.moment) _ (rw (← w.hub-is, ← w.opened-is) at i) (rw w.hub-is few) (tick_begun w.in-Tick.moment))
      | in-Save+in-Ok-save w ↦
          let all : HasNumbers 4 c.args.hub.now.store = record { running = has.running; left = omega (arith, has.left) } in
          let few = left-beyond 1 all w.in-Ok-save.ensures.spends (omega arith) in
          let i = still_matches limits c.args.hub.now w.save.new.self c.args.opened.now.items r (w.in-Ok-save.ensures.ok limits r.hub) b.run in
          rw w.in-Save.is (halted Save r (rw (← w.hub-is, ← w.opened-is) at i) (rw w.hub-is few) (none_begun Save))
    ])
