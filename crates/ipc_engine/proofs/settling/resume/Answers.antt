use Rattle.std.proofs.Common.{◌≡◌, Some, true, map, sym, ap, subst, ◌∙◌, append-nil, arith}
use Rattle.std.specs.Prelude.{find}
use Rattle.ipc_base.specs.declared.identity.Pid.{Pid}
use Rattle.ipc_state.specs.Finish.{finish_firing}
use Rattle.ipc_state.specs.Held.{Held}
use Rattle.ipc_state.specs.Sound.{HasSoundParts}
use Rattle.ipc_state.specs.State.{is_process}
use Rattle.ipc_state.specs.Waiting.{PlainWaiting}
use Rattle.ipc_state.proofs.CallerLemmas.{without_waiting-sound}
use Rattle.sysv_calls.specs.Concern.{change_of}
use Rattle.ipc_engine.specs.Step.{can_resume}
use Rattle.ipc_engine.specs.View.{plain_outcome}
use Rattle.ipc_engine.proofs.Buffers.{finish-state, held-still}
use Rattle.ipc_engine.proofs.Doing.{does-as}
use Rattle.ipc_engine.proofs.Lists.{found-all}
use Rattle.ipc_engine.proofs.Resumes.{left-is, left-some, resumed-finishes, resumed-waits}
use Rattle.ipc_engine.proofs.settling.resume.Goals.{After-change_of-change}
use Rattle.ipc_engine.proofs.settling.resume.Goals as goal

pub returns-in_default-clause-does : goal.returns-in_default-clause-does
returns-in_default-clause-does c w also =
    let s = c.args.state.now in
    absurd (left-some s.limits s.state c.args.pid c.requires.first.0 c.leave_wait.result c.requires.parts c.requires.first.1 c.requires.first.2
    c.leave_wait.ensures.call c.in_default.is)

pub returns-in_default-clause-change : goal.returns-in_default-clause-change
returns-in_default-clause-change c w also =
    let s = c.args.state.now in
    absurd (left-some s.limits s.state c.args.pid c.requires.first.0 c.leave_wait.result c.requires.parts c.requires.first.1 c.requires.first.2
    c.leave_wait.ensures.call c.in_default.is)

-- what has left the list changes what the call changes that was found
changes : (c : After-change_of-change) (w : PlainWaiting)
    → find (can_resume c.args.state.now.limits c.args.state.now.state) c.args.state.now.state.wait ≡ Some w
    → c.change_of-change.result ≡ change_of w.call.kind
changes c w also =
    let s = c.args.state.now in
    let first = c.requires.first in
    let its = left-is s.limits s.state c.args.pid first.0 c.in-Some.waiting c.leave_wait.result c.requires.parts first.1 first.2 c.leave_wait.ensures.call
    c.in-Some.is in
    let both : Some first.0 ≡ Some w = sym first.1 ∙ also in
    let one : first.0 ≡ w = cc in
    c.change_of-change.ensures ∙ ap change_of c.lend.ensures.kind ∙ ap (λ (u : PlainWaiting). change_of u.call.kind) (its ∙ one)

pub returns-in-Finishes-clause-change : goal.returns-in-Finishes-clause-change
returns-in-Finishes-clause-change c w also = changes (goal.at.returns-in-Finishes-clause-change c).After-change_of-change w also

pub returns-in-Waits-clause-change : goal.returns-in-Waits-clause-change
returns-in-Waits-clause-change c w also = changes (goal.at.returns-in-Waits-clause-change c).After-change_of-change w also

pub try_kept-requires-clause-sound : goal.try_kept-requires-clause-sound
try_kept-requires-clause-sound c =
    let s = c.args.state.now in
    subst (λ (h : Held). HasSoundParts h.limits h.state) (sym c.leave_wait.ensures.held)
    (without_waiting-sound s.limits s.state c.args.pid.0 c.requires.parts)

pub try_kept-requires-clause-process : goal.try_kept-requires-clause-process
try_kept-requires-clause-process c =
    let s = c.args.state.now in
    let first = c.requires.first.0 in
    let there : is_process s.state first.pid.0 ≡ true =
    found-all (can_resume s.limits s.state)
    (λ (w : PlainWaiting). is_process s.state w.pid.0 ≡ true) s.state.wait first c.requires.linked c.requires.first.1 in
    ap (λ (h : Held). is_process h.state c.args.pid.0) c.leave_wait.ensures.held ∙ (ap (λ (p : Pid). is_process s.state p.0) (sym c.requires.first.2) ∙ there)

pub returns-in-Finishes-clause-does : goal.returns-in-Finishes-clause-does
returns-in-Finishes-clause-does c w also =
    let s = c.args.state.now in
    let first = c.requires.first in
    let v = c.in-Some.waiting in
    let its = left-is s.limits s.state c.args.pid first.0 v c.leave_wait.result c.requires.parts first.1 first.2 c.leave_wait.ensures.call c.in-Some.is in
    let now = c.try_kept.new.state in
    let f = finish_firing now.state c.in-Finishes.answer c.in-Finishes.fired in
    let is = resumed-finishes s.limits s.state c.leave_wait.new.self.state c.leave_wait.new.self.limits c.args.pid c.serial-serial.result first.0 v w
    c.requires.parts first.1 its first.2
    c.serial-serial.ensures (ap (λ (h : Held). h.limits) c.leave_wait.ensures.held)
    (ap (λ (h : Held). h.state) c.leave_wait.ensures.held) also f c.in-Finishes.ensures.finish in
    does-as (sym is) (record {
      state = held-still s c.leave_wait.new.self now _ _ c.leave_wait.ensures.held c.try_kept.ensures.held
          (sym (finish-state now.state c.in-Finishes.answer c.in-Finishes.fired));
      outcomes = c.push_reply.ensures.outcomes now.state;
      capacity = c.push_reply.ensures.capacity;
    })

pub returns-in-Waits-clause-does : goal.returns-in-Waits-clause-does
returns-in-Waits-clause-does c w also =
    let s = c.args.state.now in
    let first = c.requires.first in
    let v = c.in-Some.waiting in
    let its = left-is s.limits s.state c.args.pid first.0 v c.leave_wait.result c.requires.parts first.1 first.2 c.leave_wait.ensures.call c.in-Some.is in
    let is = resumed-waits s.limits s.state c.leave_wait.new.self.state c.leave_wait.new.self.limits c.args.pid c.serial-serial.result first.0 v w
    c.requires.parts first.1 its first.2
    c.serial-serial.ensures (ap (λ (h : Held). h.limits) c.leave_wait.ensures.held)
    (ap (λ (h : Held). h.state) c.leave_wait.ensures.held) also c.in-Waits.ensures.finish in
    does-as (sym is) (record {
      state = held-still s c.leave_wait.new.self c.try_kept.new.state _ _ c.leave_wait.ensures.held c.try_kept.ensures.held
          (ap (λ (h : Held). h.state) c.in-Waits.ensures.kept.1);
      outcomes = sym (append-nil (map plain_outcome c.args.outcomes.now.items));
      capacity = omega arith;
    })
