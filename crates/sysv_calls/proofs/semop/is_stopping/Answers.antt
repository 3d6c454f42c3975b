use Rattle.std.proofs.Common.{◌≡◌, ◌∙◌, ◌<◌, List, ℕ, Some, length, ap, sym, subst, true}
use Rattle.std.specs.Prelude.{Ok, Err, slice_get}
use Rattle.ipc_base.specs.declared.identity.Cred.{Cred}
use Rattle.sysv_sem.specs.declared.operation.Operation.{Operation}
use Rattle.sysv_sem.specs.declared.operation.Trial.{Trial}
use Rattle.sysv_sem.specs.declared.operation.Trial.TheVariants as trial
use Rattle.ipc_state.specs.Finish.{Attempt}
use Rattle.ipc_state.specs.State.{cred_of}
use Rattle.ipc_state.specs.Steps.{attempted, plain_halt}
use Rattle.sysv_calls.specs.Semop.{is_of, operations_of, stopping, tried_list}
use Rattle.sysv_calls.proofs.Stopping.{Tested, met, stopper, stops, stops-within}
use Rattle.sysv_calls.proofs.semop.is_stopping.Goals.{After-try_operations, In-Ok-Blocks}
use Rattle.sysv_calls.proofs.semop.is_stopping.Goals as goal

abbrev operations : After-try_operations → List Operation
operations c = operations_of c.args.operations.now.bytes.items

abbrev tried : After-try_operations → Cred → Tested
tried c cred = tried_list c.args.state.now.limits c.args.state.now.state cred c.args.pid.0 true c.args.id.0 (operations c)

abbrev now : After-try_operations → Tested
now c = tried c (cred_of c.args.state.now.state c.args.pid.0)

-- what the tests came to, as this process
meets : (c : After-try_operations) (a : Attempt Trial) → attempted c.try_operations.result ≡ a → a ≡ met (now c)
meets c a is = sym is ∙ c.try_operations.ensures.tests ∙ ap (λ (cred : Cred). met (tried c cred)) c.cred_of-cred.ensures

-- and so what stops the list
comes : (c : After-try_operations) (a : Attempt Trial) → attempted c.try_operations.result ≡ a
    → is_of c.args.zero c.args.num (stopper (operations c) a) ≡ is_of c.args.zero c.args.num (stopping (operations c) (now c))
comes c a is = ap (is_of c.args.zero c.args.num) (ap (stopper (operations c)) (meets c a is) ∙ stops (operations c) (now c))

inside : (c : After-try_operations) (at : ℕ) → attempted c.try_operations.result ≡ Ok (trial.Blocks at) → at < length (operations c)
inside c at is =
    stops-within c.args.state.now.limits c.args.state.now.state (cred_of c.args.state.now.state c.args.pid.0) c.args.pid.0 true c.args.id.0
    (operations c) at (sym (meets c (Ok (trial.Blocks at)) is))

blocks : (c : In-Ok-Blocks) → attempted c.try_operations.result ≡ Ok (trial.Blocks c.in-Ok-Blocks.at)
blocks c = ap attempted c.in-Ok-Blocks.is ∙ ap (λ (t : Trial). Ok t) c.in-Ok-Blocks.field-0-is

pub operation_at-requires : goal.operation_at-requires
operation_at-requires c =
    let g = goal.at.operation_at-requires c in
    subst (λ (l : List ℕ). c.in-Ok-Blocks.at < length (operations_of l)) (sym c.lend.ensures)
    (inside g.After-try_operations c.in-Ok-Blocks.at (blocks g.In-Ok-Blocks))

pub returns-in-Ok-Blocks : goal.returns-in-Ok-Blocks
returns-in-Ok-Blocks c =
    let g = goal.at.returns-in-Ok-Blocks c in
    let t = g.After-try_operations in
    let at = c.in-Ok-Blocks.at in
    let one : slice_get (operations t) at ≡ Some c.operation_at.result =
    subst (λ (l : List ℕ). slice_get (operations_of l) at ≡ Some c.operation_at.result) c.lend.ensures c.operation_at.ensures in
    c.is_of.ensures ∙ ap (is_of c.args.zero c.args.num) (sym one) ∙ comes t (Ok (trial.Blocks at)) (blocks g.In-Ok-Blocks)

pub returns-in-Ok-Done : goal.returns-in-Ok-Done
returns-in-Ok-Done c =
    comes (goal.at.returns-in-Ok-Done c).After-try_operations (Ok trial.Done)
    (ap attempted c.in-Ok-Done.is ∙ ap (λ (t : Trial). Ok t) c.in-Ok-Done.field-0-is)

pub returns-in-Ok-Fails : goal.returns-in-Ok-Fails
returns-in-Ok-Fails c =
    comes (goal.at.returns-in-Ok-Fails c).After-try_operations (Ok (trial.Fails c.in-Ok-Fails.field-0-0))
    (ap attempted c.in-Ok-Fails.is ∙ ap (λ (t : Trial). Ok t) c.in-Ok-Fails.field-0-is)

pub returns-in-Err : goal.returns-in-Err
returns-in-Err c = comes (goal.at.returns-in-Err c).After-try_operations (Err (plain_halt c.in-Err.field-0)) (ap attempted c.in-Err.is)
