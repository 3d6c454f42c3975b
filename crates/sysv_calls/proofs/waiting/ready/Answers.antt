use Rattle.std.proofs.Common.{◌≡◌, ℕ, List, subst, sym, rules}
use Rattle.std.specs.Prelude.{Ok, Err}
use Rattle.ipc_state.specs.Keyed.{KeyedEntry}
use Rattle.ipc_state.specs.declared.parked.ParkedSysv.{ParkedSysv}
use Rattle.ipc_state.specs.Steps.{plain_halt}
use Rattle.sysv_msg.specs.Queue.{Queue}
use Rattle.sysv_sem.specs.Set.{Set}
use Rattle.sysv_calls.specs.Msg.{sendable}
use Rattle.sysv_calls.specs.Seen.{place_in}
use Rattle.sysv_calls.specs.Semop.{operations_of, performable}
use Rattle.sysv_calls.proofs.Reaching.{ok-seen, other-seen}
use Rattle.sysv_calls.proofs.waiting.ready.Goals as goal

pub returns-in_err-ready_to_send-in-Msgsnd-clause-tests : goal.returns-in_err-ready_to_send-in-Msgsnd-clause-tests
returns-in_err-ready_to_send-in-Msgsnd-clause-tests c =
    let s = c.args.state.now in
    let m = c.in-Msgsnd.message in
    let h = c.in_err-ready_to_send-in-Msgsnd.field-0.0 in
    let from : c.from_residual.result ≡ Err h = search rules in
    rw from (subst (λ (w : ParkedSysv). Err (plain_halt h) ≡ place_in s.limits s.state c.args.cred c.args.pid.0 c.args.again w) (sym c.in-Msgsnd.is)
    (other-seen (λ (e : KeyedEntry Queue). tt) (λ (e : KeyedEntry Queue). 0)
    (sendable s.limits s.state c.args.cred c.args.again c.in-Msgsnd.id.0 c.in-Msgsnd.flags.0 m.mtype m.text.items) (plain_halt h)
    c.in_err-ready_to_send-in-Msgsnd.ensures.tests))

pub returns-in_err-ready_to_operate-in-Semop-clause-tests : goal.returns-in_err-ready_to_operate-in-Semop-clause-tests
returns-in_err-ready_to_operate-in-Semop-clause-tests c =
    let s = c.args.state.now in
    let h = c.in_err-ready_to_operate-in-Semop.field-0.0 in
    let from : c.from_residual-in_err-ready_to_operate-in-Semop.result ≡ Err h = search rules in
    rw from (subst (λ (w : ParkedSysv). Err (plain_halt h) ≡ place_in s.limits s.state c.args.cred c.args.pid.0 c.args.again w) (sym c.in-Semop.is)
    (other-seen (λ (found : KeyedEntry Set × List ℕ). tt) (λ (found : KeyedEntry Set × List ℕ). 0)
    (performable s.limits s.state c.args.cred c.args.pid.0 c.args.again c.in-Semop.id.0 (operations_of c.in-Semop.operations.bytes.items)) (plain_halt h)
    c.in_err-ready_to_operate-in-Semop.ensures.tests))

pub returns-in_ok-ready_to_operate-in-Semop-clause-tests : goal.returns-in_ok-ready_to_operate-in-Semop-clause-tests
returns-in_ok-ready_to_operate-in-Semop-clause-tests c =
    let s = c.args.state.now in
    subst (λ (w : ParkedSysv). Ok 0 ≡ place_in s.limits s.state c.args.cred c.args.pid.0 c.args.again w) (sym c.in-Semop.is)
    (ok-seen (λ (found : KeyedEntry Set × List ℕ). tt)
    (performable s.limits s.state c.args.cred c.args.pid.0 c.args.again c.in-Semop.id.0 (operations_of c.in-Semop.operations.bytes.items)) tt 0
    c.in_ok-ready_to_operate-in-Semop.ensures.tests)
