use Rattle.std.proofs.Common.{◌≡◌, ◌∙◌, ◌<◌, Bool, true, false, List, ℕ, Some, length, ap, sym, subst, rules}
use Rattle.std.specs.Prelude.{Ok, Err, slice_get}
use Rattle.ipc_base.specs.declared.errno.Errno.TheVariants.{ENOSPC}
use Rattle.sysv_sem.specs.declared.operation.Trial.{Trial}
use Rattle.sysv_sem.specs.declared.operation.Trial.TheVariants as trial
use Rattle.ipc_state.specs.Keyed.{KeyedEntry}
use Rattle.ipc_state.specs.Finish.{Attempt, Halt, refuse, ◌>>◌}
use Rattle.ipc_state.specs.Steps.{attempted, plain_halt, seen}
use Rattle.sysv_sem.specs.Set.{Set}
use Rattle.sysv_calls.specs.Seen.{shown}
use Rattle.sysv_calls.specs.Semop.{held_by, notes_too_many, operations_of, performable, stopped_by}
use Rattle.sysv_calls.proofs.Stopping.{meeting, passes-of, performable-of, settled, settled-by, stops-at, unless_too_many, unperformable-of}
use Rattle.sysv_calls.proofs.semop.ready_to_operate.Goals.{After-try_on}
use Rattle.sysv_calls.proofs.semop.ready_to_operate.Goals as goal

-- unless it would note too much
abbrev left : (c : After-try_on) → Attempt (Unit {0}) → Attempt (Unit {0})
left c a =
    unless_too_many c.args.state.now.limits c.args.state.now.state c.args.cred c.args.pid.0 c.args.again c.args.id.0
    (operations_of c.args.operations.now.bytes.items) a

-- what becomes of the list, by what it meets
comes : (c : After-try_on) (t : Trial) → c.try_on.result ≡ t
    → left c (settled (operations_of c.args.operations.now.bytes.items) t)
    ≡ seen (λ (found : KeyedEntry Set × List ℕ). tt) (performable c.args.state.now.limits c.args.state.now.state c.args.cred c.args.pid.0 c.args.again
    c.args.id.0 (operations_of c.args.operations.now.bytes.items))
comes c t is =
    ap (λ (u : Trial). left c (settled (operations_of c.args.operations.now.bytes.items) u)) (sym is ∙ c.try_on.ensures)
    ∙ performable-of c.args.state.now.limits c.args.state.now.state c.args.cred c.args.pid.0 c.args.again c.args.id.0
    (operations_of c.args.operations.now.bytes.items) c.in_ok-set.set.now (ap shown (sym c.in_ok-set.was) ∙ c.operable.ensures.tests)

pub returns-in_err-set-clause-tests : goal.returns-in_err-set-clause-tests
returns-in_err-set-clause-tests c =
    let h = c.in_err-set.field-0.0 in
    let from : c.from_residual.result ≡ Err h = search rules in
    ap attempted from
    ∙ unperformable-of c.args.state.now.limits c.args.state.now.state c.args.cred c.args.pid.0 c.args.again c.args.id.0
    (operations_of c.args.operations.now.bytes.items) (plain_halt h) (ap shown (sym c.in_err-set.was) ∙ c.operable.ensures.tests)

pub returns-then-lacks_its_last-clause-tests : goal.returns-then-lacks_its_last-clause-tests
returns-then-lacks_its_last-clause-tests c =
    let ops = operations_of c.args.operations.now.bytes.items in
    let l = c.args.state.now.limits in
    let s = c.args.state.now.state in
    let met = meeting l s c.args.cred c.args.pid.0 c.args.again c.args.id.0 ops c.in_ok-set.set.now in
    let lacks = c.lacks_its_last.ensures c.if-lacks_its_last.true (held_by s c.args.pid.0 c.args.id.0) in
    sym (ap (unless_too_many l s c.args.cred c.args.pid.0 c.args.again c.args.id.0 ops) (settled-by ops met lacks))
    ∙ performable-of l s c.args.cred c.args.pid.0 c.args.again c.args.id.0 ops c.in_ok-set.set.now
    (ap shown (sym c.in_ok-set.was) ∙ c.operable.ensures.tests)

pub operation_at-requires : goal.operation_at-requires
operation_at-requires c =
    subst (λ (l : List ℕ). c.in-Blocks.at < length (operations_of l)) (sym c.lend.ensures)
    (stops-at c.args.state.now.limits c.args.state.now.state c.args.cred c.args.pid.0 c.args.again c.args.id.0
    (operations_of c.args.operations.now.bytes.items) c.in_ok-set.set.now c.in-Blocks.at (sym c.try_on.ensures ∙ c.in-Blocks.is))

pub notes_too_many-requires : goal.notes_too_many-requires
notes_too_many-requires c =
    passes-of c.args.state.now.limits c.args.state.now.state c.args.cred c.args.pid.0 c.args.again c.args.id.0
    (operations_of c.args.operations.now.bytes.items) c.in_ok-set.set.now (sym c.try_on.ensures ∙ c.in-Done.is)

-- a list that passes, by whether it notes too much
judged : (c : After-try_on) (b : Bool) → notes_too_many c.args.state.now.limits c.args.state.now.state c.args.pid.0 c.args.id.0
    (operations_of c.args.operations.now.bytes.items) ≡ b → c.try_on.result ≡ trial.Done
    → (let r : Attempt (Unit {0}) = refuse ENOSPC b >> Ok tt in r)
    ≡ seen (λ (found : KeyedEntry Set × List ℕ). tt) (performable c.args.state.now.limits c.args.state.now.state c.args.cred c.args.pid.0 c.args.again
    c.args.id.0 (operations_of c.args.operations.now.bytes.items))
judged c b is passes = ap (λ (d : Bool). let r : Attempt (Unit {0}) = refuse ENOSPC d >> Ok tt in r) (sym is) ∙ comes c trial.Done passes

pub returns-then-notes_too_many-clause-tests : goal.returns-then-notes_too_many-clause-tests
returns-then-notes_too_many-clause-tests c =
    judged (goal.at.returns-then-notes_too_many-clause-tests c).After-try_on true (sym c.notes_too_many.ensures ∙ c.if-notes_too_many.true) c.in-Done.is

pub returns-else-notes_too_many-clause-tests : goal.returns-else-notes_too_many-clause-tests
returns-else-notes_too_many-clause-tests c =
    judged (goal.at.returns-else-notes_too_many-clause-tests c).After-try_on false (sym c.notes_too_many.ensures ∙ c.if-notes_too_many.false) c.in-Done.is

pub returns-in-Blocks-clause-tests : goal.returns-in-Blocks-clause-tests
returns-in-Blocks-clause-tests c =
    let at = c.in-Blocks.at in
    let one : slice_get (operations_of c.args.operations.now.bytes.items) at ≡ Some c.operation_at.result =
    subst (λ (l : List ℕ). slice_get (operations_of l) at ≡ Some c.operation_at.result) c.lend.ensures c.operation_at.ensures in
    ap (λ (h : Halt). Err h) (c.stopped_by.ensures ∙ ap stopped_by (sym one))
    ∙ comes (goal.at.returns-in-Blocks-clause-tests c).After-try_on (trial.Blocks at) c.in-Blocks.is

pub returns-in-Fails-clause-tests : goal.returns-in-Fails-clause-tests
returns-in-Fails-clause-tests c =
    comes (goal.at.returns-in-Fails-clause-tests c).After-try_on (trial.Fails c.in-Fails.errno) c.in-Fails.is
