use Rattle.std.proofs.Common.{◌≡◌, ◌<◌, rules, true, false, length, map, ◌∙◌, take_all, arith}
use Rattle.std.specs.Prelude.{⊤, Result, Ok, Err, OnOk, IfErr}
use Rattle.std.specs.Result.{is_err}
use Rattle.std.proofs.lemmas.Result.{err_from_is_err_and}
use Rattle.ipc_engine.specs.Listing.{plain_row, rows_of}
use Rattle.ipc_script.specs.declared.fault.ScriptFault.{ScriptFault}
use Rattle.ipc_script.specs.Relations.Faults.{WorldFailed}
use Rattle.ipc_script.proofs.DumpText.{lines-plain, listed_some, listed_part, listed_more}
use Rattle.ipc_script.proofs.FaultCases.{world_only}
use Rattle.ipc_script.proofs.listing.list_objects.Goals as goal

-- what holds of a call that failed, and of one that did not
of_err : {P : Type 0} (result : Result ⊤ ScriptFault) → true ≡ is_err result → IfErr result (λ e. WorldFailed e P) → P
of_err (Ok u) is w = cc
of_err (Err e) is w = world_only _ e w

of_ok : {P : Type 0} (result : Result ⊤ ScriptFault) → false ≡ is_err result → OnOk result P → P
of_ok (Ok u) is p = p
of_ok (Err e) is p = cc

pub returns-in_err-line-clause-err : goal.returns-in_err-line-clause-err
returns-in_err-line-clause-err g c =
    let q = err_from_is_err_and c.from_residual-in_err-line.result c.from_residual-in_err-line.ensures.1 in
    let rows = c.deref-row-items.result.now in
    let same : map plain_row rows ≡ rows_of c.args.engine.now.state = search rules in
    rw (q.1, ← same, ← lines-plain rows) (listed_some rows c.loop-row.row-index _ _ c.loop-row.invariant)

pub returns-then-is_err-clause-err : goal.returns-then-is_err-clause-err
returns-then-is_err-clause-err g c =
    let rows = c.deref-row-items.result.now in
    let inside : c.loop-row.row-index < length rows = omega arith in
    let same : map plain_row rows ≡ rows_of c.args.engine.now.state = search rules in
    let part = of_err c.write_all.result c.if-is_err.ensures.value c.write_all.ensures.err in
    rw (← same, ← lines-plain rows) (listed_part rows c.loop-row.row-index _ inside _ _ _ c.loop-row.invariant
    (rw (c.as_bytes.ensures.value ∙ c.in_ok-line.ensures) at part))

pub loop-row-preserved : goal.loop-row-preserved
loop-row-preserved g c =
    let rows = c.deref-row-items.result.now in
    let inside : c.loop-row.row-index < length rows = omega arith in
    let line = of_ok c.write_all.result c.if-is_err.ensures.value c.write_all.ensures.ok in
    listed_more rows c.loop-row.row-index _ inside _ _ _ c.loop-row.invariant
    (rw (c.as_bytes.ensures.value ∙ c.in_ok-line.ensures) at line)

pub returns-clause-ok : goal.returns-clause-ok
returns-clause-ok g c =
    let rows = c.deref-row-items.result.now in
    let same : map plain_row rows ≡ rows_of c.args.engine.now.state = search rules in
    rw (← same, ← lines-plain rows) (rw (take_all c.loop-row.row-index rows (omega arith)) at c.loop-row.invariant)
