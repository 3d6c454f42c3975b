use Rattle.std.proofs.Common.{◌≡◌, ℕ, true, ◌++◌, map, refl, ap, ◌∙◌, sym}
use Rattle.ipc_wait.specs.Waits.{is_due}
use Rattle.ipc_state.specs.Finish.{refused}
use Rattle.ipc_state.specs.Waiting.{PlainWaiting, deadline_of}
use Rattle.ipc_engine.specs.Step.{replied}
use Rattle.ipc_engine.specs.View.{plain_outcome}
use Rattle.ipc_engine.proofs.Doing.{does-as}
use Rattle.ipc_engine.proofs.Expiring.{joined}
use Rattle.ipc_engine.proofs.Asked.{late-idle}
use Rattle.ipc_engine.proofs.asking.join.Goals as goal

pub returns-then-is_due-clause-does : goal.returns-then-is_due-clause-does
returns-then-is_due-clause-does c =
    let s = c.args.state.now.state in
    let request = c.args.parked in
    let w : PlainWaiting = record { pid = record { 0 = c.args.pid.0 }; on = c.awaited.result; deadline = c.deadline.result; call = request } in
    let late : is_due (record { 0 = s.clock }) w ≡ true =
    ap (λ (n : ℕ). is_due (record { 0 = n }) w) (sym c.clock-now.ensures) ∙ (sym c.is_due.ensures ∙ c.if-is_due.true) in
    let until = c.deadline.ensures ∙ ap (λ (n : ℕ). deadline_of n request.kind) c.clock-now.ensures in
    let same = joined s c.args.pid.0 request c.awaited.result c.deadline.result true c.awaited.ensures.on until late in
    let old = map plain_outcome c.args.outcomes.now.items in
    does-as (sym same) (record {
      state = refl;
      outcomes = c.refuse.ensures.outcomes s
          ∙ (λ i. old ++ (replied c.args.pid.0 (c.serial-serial.ensures i) (refused s (c.expiry-errno.ensures i))).outcomes);
      capacity = c.refuse.ensures.capacity;
    })

pub returns-then-is_due-clause-idle : goal.returns-then-is_due-clause-idle
returns-then-is_due-clause-idle c =
    let s = c.args.state.now.state in
    let request = c.args.parked in
    let w : PlainWaiting = record { pid = record { 0 = c.args.pid.0 }; on = c.awaited.result; deadline = c.deadline.result; call = request } in
    let late : is_due (record { 0 = s.clock }) w ≡ true =
    ap (λ (n : ℕ). is_due (record { 0 = n }) w) (sym c.clock-now.ensures) ∙ (sym c.is_due.ensures ∙ c.if-is_due.true) in
    let until = c.deadline.ensures ∙ ap (λ (n : ℕ). deadline_of n request.kind) c.clock-now.ensures in
    late-idle s c.args.pid.0 request c.awaited.result c.deadline.result true c.awaited.ensures.on until late
