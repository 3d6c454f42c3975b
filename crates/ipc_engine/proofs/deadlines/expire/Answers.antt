use Rattle.std.proofs.Common.{◌++◌, List, map, refl, sym, ap, ◌∙◌, append-nil, arith}
use Rattle.std.proofs.lemmas.List.{length-map}
use Rattle.ipc_wait.proofs.CallerLemmas.{none-due}
use Rattle.ipc_state.specs.Held.{Held}
use Rattle.ipc_state.specs.State.{State}
use Rattle.ipc_state.specs.Waiting.{PlainWaiting}
use Rattle.ipc_engine.specs.Step.{expired}
use Rattle.ipc_engine.specs.View.{plain_outcome}
use Rattle.ipc_engine.proofs.Buffers.{held-still, with_state}
use Rattle.ipc_engine.proofs.Expiring.{Expires, expires}
use Rattle.ipc_engine.proofs.deadlines.expire.Goals.{After-end_late}
use Rattle.ipc_engine.proofs.deadlines.expire.Goals as goal

-- a call has left, and is answered
one : (c : After-end_late) → Expires c.loop-waiting.state.state c.leave_due.new.self.state (map plain_outcome c.loop-waiting.outcomes.items)
    (map plain_outcome c.end_late.new.outcomes.items)
one c =
    let l = c.loop-waiting in
    expires l.state.state c.leave_due.new.self.state (map plain_outcome l.outcomes.items) (map plain_outcome c.end_late.new.outcomes.items)
    c.in-Some.waiting l.invariant.pids c.in-Some.ensures.first c.in-Some.ensures.call
    (ap (λ (h : Held). h.state) c.in-Some.ensures.held) c.end_late.ensures.outcomes

pub loop-waiting-smaller : goal.loop-waiting-smaller
loop-waiting-smaller c = (one (goal.at.loop-waiting-smaller c).After-end_late).fewer

pub loop-waiting-preserved : goal.loop-waiting-preserved
loop-waiting-preserved c =
    let l = c.loop-waiting in
    let now = one (goal.at.loop-waiting-preserved c).After-end_late in
    record {
      pids = now.pids;
      places = omega (
        arith,
        now.room,
        l.invariant.places,
        length-map l.outcomes.items plain_outcome,
        length-map c.end_late.new.outcomes.items plain_outcome,
        c.end_late.ensures.capacity,
      );
      state = now.state ∙ l.invariant.state;
      outcomes = now.outcomes ∙ l.invariant.outcomes;
      held = held-still c.args.state.now l.state c.leave_due.new.self _ _ l.invariant.held
          (c.in-Some.ensures.held ∙ sym (ap (λ (h : Held). with_state l.state h.state) c.in-Some.ensures.held)) refl;
      capacity = omega (arith, l.invariant.capacity, c.end_late.ensures.capacity);
    }

pub returns-clause-state : goal.returns-clause-state
returns-clause-state c =
    let l = c.loop-waiting in
    let none = c.in_default.ensures.none in
    let all = none-due (record { 0 = l.state.state.clock }) l.state.state.wait none.0 in
    none.1 ∙ (l.invariant.held ∙ ap (with_state c.args.state.now)
    (ap (λ (ws : List PlainWaiting). let t : State = record l.state.state { wait = ws } in t) (sym all) ∙ l.invariant.state))

pub returns-clause-outcomes : goal.returns-clause-outcomes
returns-clause-outcomes c =
    let l = c.loop-waiting in
    let none = c.in_default.ensures.none in
    sym (append-nil (map plain_outcome l.outcomes.items)) ∙ (ap (λ (ws : List PlainWaiting). map plain_outcome l.outcomes.items ++ map expired ws) (sym none.0)
    ∙ l.invariant.outcomes)
