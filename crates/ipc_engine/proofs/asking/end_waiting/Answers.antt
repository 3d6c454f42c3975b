use Rattle.std.proofs.Common.{◌≡◌, ◌≤◌, List, [], ◌∷◌, map, length, append-nil, sym, ap, ◌∙◌, Some, arith, length-append}
use Rattle.ipc_base.specs.declared.errno.Errno.TheVariants.{EINTR}
use Rattle.ipc_base.specs.declared.identity.Pid.{Pid}
use Rattle.ipc_wire.specs.declared.reply.Body.TheVariants.{Empty}
use Rattle.ipc_wait.proofs.CallerLemmas.{filter-none}
use Rattle.ipc_wait.specs.Waits.{waiting_call_of, is_of}
use Rattle.ipc_state.specs.Held.{Held}
use Rattle.ipc_state.specs.State.{State, without_waiting}
use Rattle.ipc_state.specs.Waiting.{PlainWaiting}
use Rattle.ipc_engine.specs.Step.{Step, interrupted}
use Rattle.ipc_engine.specs.View.{plain_outcome}
use Rattle.ipc_engine.proofs.Buffers.{pushed}
use Rattle.ipc_engine.proofs.Doing.{does-as}
use Rattle.ipc_engine.proofs.asking.end_waiting.Goals as goal

some : (s : List PlainWaiting) (w : PlainWaiting) (p : Pid) → waiting_call_of p s ≡ Some w → 1 ≤ length s
some [] w p is = cc
some (v ∷ vs) w p is = omega arith

pub returns-in_default-clause-does : goal.returns-in_default-clause-does
returns-in_default-clause-does c =
    let h = c.args.state.now in
    let s = h.state in
    let none = sym c.leave_wait.ensures.call ∙ c.in_default.is in
    let same = ap (λ (ws : List PlainWaiting). let t : State = record s { wait = ws } in t) (filter-none (is_of c.args.pid) s.wait none) in
    does-as (ap (interrupted s c.args.pid.0) (sym none)) (record {
      state = c.leave_wait.ensures.held ∙ ap (λ (t : State). let n : Held = record h { state = t } in n) same;
      outcomes = sym (append-nil (map plain_outcome c.args.outcomes.now.items));
      capacity = omega arith;
    })

pub returns-clause-does : goal.returns-clause-does
returns-clause-does c =
    let s = c.args.state.now.state in
    let is = sym c.leave_wait.ensures.call ∙ c.in-Some.is in
    let reply = ap (λ (t : Step). t.outcomes) (c.reply_to.ensures.reply (without_waiting s c.args.pid.0)) in
    let serial = ap (λ (n : _). record { pid = c.args.pid.0; serial = n; errno = Some EINTR; body = Empty } ∷ []) c.serial.ensures in
    does-as (ap (interrupted s c.args.pid.0) (sym is)) (record {
      state = c.leave_wait.ensures.held;
      outcomes = pushed c.args.outcomes.now.items c.push.new.outcomes.items c.reply_to.result _ c.push.ensures.items (reply ∙ serial);
      capacity = c.push.ensures.capacity;
    })

pub returns-clause-few : goal.returns-clause-few
returns-clause-few c =
    let s = c.args.state.now.state in
    let is = sym c.leave_wait.ensures.call ∙ c.in-Some.is in
    omega (arith, some s.wait _ c.args.pid is, ap length c.push.ensures.items, length-append c.args.outcomes.now.items (c.reply_to.result ∷ []))
