use Rattle.std.proofs.Common.{◌≡◌, ◌∙◌, ap, sym, rules}
use Rattle.std.specs.Prelude.{Ok, Err}
use Rattle.sysv_sem.specs.declared.operation.Trial.{Trial}
use Rattle.ipc_state.specs.Steps.{attempted, plain_halt}
use Rattle.sysv_calls.specs.Seen.{shown}
use Rattle.sysv_calls.specs.Semop.{operations_of}
use Rattle.sysv_calls.proofs.Stopping.{tried-of, untried-of}
use Rattle.sysv_calls.proofs.semop.try_operations.Goals as goal

pub returns-in_err-set : goal.returns-in_err-set
returns-in_err-set c =
    let h = c.in_err-set.field-0.0 in
    let from : c.from_residual.result ≡ Err h = search rules in
    let ops = operations_of c.args.operations.now.bytes.items in
    record {
      tests = ap attempted from
          ∙ sym (untried-of c.args.state.now.limits c.args.state.now.state c.args.cred c.args.pid.0 c.args.again c.args.id.0 ops (plain_halt h)
          (ap shown (sym c.in_err-set.was) ∙ c.operable.ensures.tests));
    }

pub returns : goal.returns
returns c =
    let ops = operations_of c.args.operations.now.bytes.items in
    record {
      tests = ap (λ (t : Trial). Ok t) c.try_on.ensures
          ∙ sym (tried-of c.args.state.now.limits c.args.state.now.state c.args.cred c.args.pid.0 c.args.again c.args.id.0 ops c.in_ok-set.set.now
          (ap shown (sym c.in_ok-set.was) ∙ c.operable.ensures.tests));
    }
