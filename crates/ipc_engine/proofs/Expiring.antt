-- Calls leave whose deadline has come, one after another, as the program takes them out.
use Rattle.std.proofs.Common.{◌≡◌, ℕ, ◌+◌, ◌<◌, ◌≤◌, Bool, true, List, [], ◌∷◌, ◌++◌, length, length-append, append_assoc, map, Option, Some}
use Rattle.std.proofs.Common.{sym, ap, subst, ◌∙◌, arith, if◌then◌else◌}
use Rattle.std.specs.Prelude.{All}
use Rattle.std.proofs.lemmas.List.Elements.{All-head}
use Rattle.ipc_base.specs.declared.identity.Moment.{Moment}
use Rattle.ipc_wait.specs.Waits.{waiting_call_of, is_due, is_of, without, HaveDistinctPids}
use Rattle.ipc_wait.proofs.CallerLemmas.{due-leaves, found-in, without-distinct}
use Rattle.ipc_wire.specs.Request.{PlainRequest}
use Rattle.ipc_state.specs.declared.parked.Awaited.{Awaited}
use Rattle.ipc_state.specs.Finish.{refused}
use Rattle.ipc_state.specs.State.{State, due_calls, with_waiting, without_due, without_waiting}
use Rattle.ipc_state.specs.Waiting.{PlainWaiting, awaited_by, deadline_of, expiry}
use Rattle.ipc_engine.specs.Event.{PlainOutcome}
use Rattle.ipc_engine.specs.Step.{expired, joins, replied, silent, waiting_on}
use Rattle.ipc_engine.proofs.Lists.{all-pass}

-- one less is left, and what is still to be done comes to the same
pub record Expires (s t : State) (old new : List PlainOutcome) : Type 0 where
  pub pids : HaveDistinctPids t.wait
  pub room : length new + length t.wait ≤ length old + length s.wait
  pub fewer : length t.wait < length s.wait
  pub state : without_due t ≡ without_due s
  pub outcomes : new ++ map expired (due_calls t) ≡ old ++ map expired (due_calls s)

pub expires : (s t : State) (old new : List PlainOutcome) (w : PlainWaiting) → HaveDistinctPids s.wait → due_calls s ≡ w ∷ due_calls t
    → waiting_call_of w.pid s.wait ≡ Some w → t ≡ without_waiting s w.pid.0 → new ≡ old ++ expired w ∷ [] → Expires s t old new
expires s t old new w distinct first here is said =
    let now : Moment = record { 0 = s.clock } in
    let due : is_due now w ≡ true = All-head (λ (v : PlainWaiting). is_due now v ≡ true) w (due_calls t)
    (subst (λ (ws : List PlainWaiting). All (λ (v : PlainWaiting). is_due now v ≡ true) ws) first (all-pass (is_due now) s.wait)) in
    let left : t.wait ≡ without w.pid s.wait = ap (λ (u : State). u.wait) is in
    let one = (found-in (is_of w.pid) s.wait w distinct here).fewer in
    record {
      pids = subst HaveDistinctPids (sym left) (without-distinct w.pid s.wait distinct);
      room = omega (arith, ap length said, length-append old (expired w ∷ []), ap length left, one);
      fewer = omega (arith, ap length left, one);
      state = ap without_due is ∙ ap (λ (ws : List PlainWaiting). let u : State = record s { wait = ws } in u) (due-leaves now s.wait w distinct here due);
      outcomes = ap (λ (os : List PlainOutcome). os ++ map expired (due_calls t)) said
          ∙ (append_assoc old (expired w ∷ []) (map expired (due_calls t)) ∙ ap (λ (ws : List PlainWaiting). old ++ map expired ws) (sym first));
    }

-- a call that cannot go on, by what the program finds of it
pub joined : (s : State) (pid : ℕ) (request : PlainRequest) (on : Awaited) (deadline : Option Moment) (late : Bool) → awaited_by request.kind ≡ Some on
    → deadline ≡ deadline_of s.clock request.kind
    → is_due (record { 0 = s.clock }) (record { pid = record { 0 = pid }; on = on; deadline = deadline; call = request }) ≡ late
    → joins s pid request (awaited_by request.kind)
    ≡ (if late then replied pid request.serial (refused s (expiry request.kind)) else silent (with_waiting s (waiting_on s pid request on)))
joined s pid request on deadline late awaits until is =
    let w : Option Moment → PlainWaiting = (λ d. record { pid = record { 0 = pid }; on = on; deadline = d; call = request }) in
    let now : Moment = record { 0 = s.clock } in
    ap (joins s pid request) awaits
    ∙ ap (λ (b : Bool). if b then replied pid request.serial (refused s (expiry request.kind)) else silent (with_waiting s (waiting_on s pid request on)))
    (ap (λ (d : Option Moment). is_due now (w d)) (sym until) ∙ is)
