use Rattle.std.proofs.Common.{◌≡◌, ◌∙◌}
use Rattle.std.specs.Prelude.{Result, Ok, Err, ⊤, OnOk, IfErr}
use Rattle.ipc_script.specs.declared.fault.ScriptFault.{ScriptFault}
use Rattle.ipc_script.specs.declared.fault.ScriptFault.TheVariants.{Device}
use Rattle.ipc_script.specs.Relations.Faults.{ByFault, WorldFailed}
use Rattle.ipc_script.proofs.FaultCases.{world_failed}
use Rattle.ipc_script.proofs.Halting.{can-report, halts-fails, matches-failed}
use Rattle.ipc_script.proofs.LineForms.{still_matches}
use Rattle.std.proofs.Common.{[], sym, subst}
use Rattle.ipc_store.specs.Histories.{Takes}
use Rattle.ipc_store.specs.View.{StoreView}
use Rattle.ipc_script.proofs.report.report.Goals as goal

on_ok : {P Q : Type 0} (result : Result ⊤ ScriptFault) → (P → Q) → OnOk result P → OnOk result Q
on_ok (Ok u) f p = f p
on_ok (Err e) f p = p

if_err : (P Q B : Type 0) (result : Result ⊤ ScriptFault) → (P → Q) → IfErr result (λ e. WorldFailed e P) → IfErr result (λ e. ByFault e Q B ⊥)
if_err P Q B (Ok u) f p = p
if_err P Q B (Err e) f p = world_failed P Q B ⊥ e f p

pub returns-in-Ok-clause-ok : goal.returns-in-Ok-clause-ok
returns-in-Ok-clause-ok g c =
    on_ok c.report_all.result
    (λ done limits r i. done limits r (still_matches limits c.args.hub.now c.release.new.self c.args.opened.now r (c.in-Ok.ensures.ok limits r.hub) i)
    (c.in-Ok.ensures.confirmed ∙ i.matches.counts)) c.report_all.ensures.ok

pub returns-in-Ok-clause-err : goal.returns-in-Ok-clause-err
returns-in-Ok-clause-err g c =
    if_err _ _ _ c.report_all.result
    (λ _ limits r i. c.report_all.ensures.says limits r (can-report limits c.release.new.self c.args.opened.now r
    (still_matches limits c.args.hub.now c.release.new.self c.args.opened.now r (c.in-Ok.ensures.ok limits r.hub) i)
    (c.in-Ok.ensures.confirmed ∙ i.matches.counts))) c.report_all.ensures.err

not-device : (W : Type 0) (result : Result ⊤ ScriptFault) → IfErr result (λ e. WorldFailed e W) → result ≡ Err Device → ⊥
not-device W (Ok u) fault is = cc
not-device W (Err e) fault is = let same : e ≡ Device = cc in absurd (subst (λ (f : ScriptFault). WorldFailed f W) same fault)

-- the writer has failed, and not the disk
pub returns-in-Ok-clause-halted : goal.returns-in-Ok-clause-halted
returns-in-Ok-clause-halted g c is = absurd (not-device _ c.report_all.result c.report_all.ensures.err is)

pub returns-in-Err-clause-halted : goal.returns-in-Err-clause-halted
returns-in-Err-clause-halted g c is has limits r i =
    matches-failed g.D.SectorDisk.medium limits c.args.hub.now c.release.new.self c.args.opened.now r
    (halts-fails g.D.SectorDisk.medium g.D.SectorDisk.counts 1 c.args.hub.now c.release.new.self has c.in-Err.field-0 c.in-Err.ensures.refused) i

pub returns-in-Ok-clause-takes : goal.returns-in-Ok-clause-takes
returns-in-Ok-clause-takes g c =
    subst (λ (s : StoreView g.row.D.Denot). Takes g.D.SectorDisk.medium c.args.hub.now.store [] s) (sym c.report_all.ensures.store) c.release.ensures.takes
