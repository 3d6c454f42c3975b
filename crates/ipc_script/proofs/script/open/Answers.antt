use Rattle.std.proofs.Common.{◌≡◌, ℕ, true, false, List, refl, sym, ap, subst, ◌∙◌, inl, inr, rules}
use Rattle.std.specs.Prelude.{nat_lt, Err}
use Rattle.std.specs.List.{insert, prefix_len}
use Rattle.ipc_hub.specs.View.{HasStopped, is_connected}
use Rattle.ipc_script.specs.declared.report.Opened.{Opened}
use Rattle.ipc_script.specs.Script.{opened}
use Rattle.ipc_script.specs.Relations.Matches.{RunMatches}
use Rattle.ipc_base.proofs.CallerLemmas.{test_cases as test}
use Rattle.ipc_script.proofs.HubAndClients.{connected}
use Rattle.ipc_script.proofs.OpenConnections.{open_in}
use Rattle.ipc_script.proofs.script.open.Goals as goal

pub returns-clause-ok : goal.returns-clause-ok
returns-clause-ok g c limits r b =
    let os = c.args.opened.now.items in
    let one : Opened = record { conn = c.args.conn; told = false } in
    let running : ¬ HasStopped c.args.hub.now = λ has. let bad = c.in-Ok.ensures.stopped.1 has in cc in
    let new : is_connected c.args.hub.now.hub c.args.conn ≡ false =
    elim (test (is_connected c.args.hub.now.hub c.args.conn)) [ inl t ↦ let bad = c.in-Ok.ensures.in_use.1 (running, t) in cc | inr f ↦ f ] in
    let kept : c.reserve.new.self.items ≡ os = c.reserve.ensures.items in
    let seen : c.deref.result.now ≡ os = c.deref.ensures.value ∙ kept in
    let place : c.place_for-place.result ≡ prefix_len (λ o. nat_lt o.conn c.args.conn) os = c.place_for-place.ensures.ok
    ∙ ap (prefix_len (λ (o : Opened). nat_lt o.conn c.args.conn)) seen in
    let put : c.insert.new.self.items ≡ insert c.reserve.new.self.items c.place_for-place.result one = search rules in
    let items : c.insert.new.self.items ≡ insert os (prefix_len (λ o. nat_lt o.conn c.args.conn) os) one =
    put ∙ ap (λ (xs : List Opened). insert xs c.place_for-place.result one) kept ∙ ap (λ (k : ℕ). insert os k one) place in
    let done = open_in limits c.args.hub.now c.connect.new.self os r c.args.conn c.ranges.conn.fits b new c.in-Ok.ensures.ok c.in-Ok.ensures.store in
    (done.0, subst (λ (xs : List Opened). RunMatches limits c.connect.new.self xs (opened r c.args.conn)) (sym items) done.1)

pub returns-in-Err-InUse-clause-err : goal.returns-in-Err-InUse-clause-err
returns-in-Err-InUse-clause-err g c = (refl, c.in-Err-InUse.ensures.err)

pub returns-in-Err-InUse-clause-in_use : goal.returns-in-Err-InUse-clause-in_use
returns-in-Err-InUse-clause-in_use g c limits r b =
    let there : is_connected c.args.hub.now.hub c.args.conn ≡ true = (c.connect.ensures.in_use.0 (search rules)).1 in
    sym (connected limits c.args.hub.now.store.confirmed c.args.hub.now.hub r.hub c.args.conn b.run.matches.hub) ∙ there

pub returns-in-Err-Stopped-clause-goes : goal.returns-in-Err-Stopped-clause-goes
returns-in-Err-Stopped-clause-goes g c running is = running (c.in-Err-Stopped.ensures.stopped.0 (ap (λ e. Err e) c.in-Err-Stopped.field-0-is))
