-- No call waits on whose deadline has come, after any event, whatever the state was before it.
use Rattle.std.proofs.Common.{◌≡◌, ℕ, zero, suc, true, false, not, List, max, Option, Some, None, sym, ap, subst, ◌∙◌}
use Rattle.std.specs.Prelude.{All, find, get_or}
use Rattle.std.proofs.lemmas.List.Elements.{All-nil, All-filter, All-push}
use Rattle.ipc_limits.specs.declared.limits.Limits.{Limits}
use Rattle.ipc_base.proofs.CallerLemmas.{choice}
use Rattle.ipc_wait.specs.Waits.{waiting_call_of, is_of, is_due}
use Rattle.ipc_wire.specs.Request.{PlainKind, PlainRequest, Hello, Interrupt as Interrupts, Sysv, Posix}
use Rattle.ipc_state.specs.declared.parked.Awaited.{Awaited}
use Rattle.ipc_state.specs.Finish.{Tried, Finishes, Waits, IfFinishes}
use Rattle.ipc_state.specs.State.{State, has_all_processes, is_waiting, exit, with_waiting, without_waiting}
use Rattle.ipc_state.specs.Waiting.{PlainWaiting, awaited_by}
use Rattle.ipc_engine.specs.Event.{PlainEvent, Connect, Call, Interrupt, Tick, Exit, Restart}
use Rattle.ipc_engine.specs.Settling.{touched_by}
use Rattle.ipc_engine.specs.Sound.{NoneIsDue}
use Rattle.ipc_engine.specs.Step.{Step, step, due, waiting_on, asked, called, replied_or_joined, joins, answered, resumed, resumed_first}
use Rattle.ipc_engine.specs.Step.{interrupted, settle, settle_within, can_resume, tried}
use Rattle.ipc_engine.proofs.Lists.{none-left}
use Rattle.ipc_engine.proofs.Settled.{left-free}
use Rattle.ipc_engine.proofs.Tries.{HasEnded, tried-ended}

abbrev pub IsEarly : State → PlainWaiting → Type 0
IsEarly s w = is_due (record { 0 = s.clock }) w ≡ false

-- others with the same calls and clock
same-early : (s t : State) → t.wait ≡ s.wait → t.clock ≡ s.clock → NoneIsDue s → NoneIsDue t
same-early s t wait clock h =
    subst (λ (ws : List PlainWaiting). All (IsEarly t) ws) (sym wait)
    (λ k d i. ap (λ (n : ℕ). is_due (record { 0 = n }) (get_or s.wait k d)) clock ∙ h k d i)

left-early : (s : State) (pid : ℕ) → NoneIsDue s → NoneIsDue (without_waiting s pid)
left-early s pid h = All-filter (λ (w : PlainWaiting). not (is_of (record { 0 = pid }) w)) (IsEarly s) s.wait h

module _ (limits : Limits) where
  due-early : (s : State) (moment : ℕ) → NoneIsDue (due moment s).state
  due-early s moment = none-left (is_due (record { 0 = max s.clock moment })) s.wait

  resumed-early : (s : State) (w : PlainWaiting) → NoneIsDue s → NoneIsDue (resumed limits s w).state
  resumed-early s w h =
      by_tried (tried limits (without_waiting s w.pid.0) w.pid.0 true w.call.kind)
      (tried-ended limits (without_waiting s w.pid.0) w.pid.0 true w.call.kind (left-free s w))
    where
      by_tried : (t : Tried) → IfFinishes (HasEnded limits (without_waiting s w.pid.0) w.pid.0 (touched_by (without_waiting s w.pid.0) w.pid.0 w.call.kind)) t
          → NoneIsDue (answered w (without_waiting s w.pid.0) t).state
      by_tried (Finishes f) ended = same-early (without_waiting s w.pid.0) f.state ended.good.wait ended.good.clock (left-early s w.pid.0 h)
      by_tried Waits ended = left-early s w.pid.0 h

  settled-early : (n : ℕ) (s : State) → NoneIsDue s → NoneIsDue (settle_within limits n s).state
  unfolding settle_within
  settled-early zero s h = h
  settled-early (suc n) s h = by_first (find (can_resume limits s) s.wait) (λ w. settled-early n (resumed limits s w).state (resumed-early s w h))
    where
      by_first : (r : Option PlainWaiting) → ((w : PlainWaiting) → NoneIsDue (settle_within limits n (resumed limits s w).state).state)
          → NoneIsDue (resumed_first limits s r (settle_within limits n)).state
      by_first None rest = h
      by_first (Some w) rest = rest w

  settle-early : (s : State) → NoneIsDue s → NoneIsDue (settle limits s).state
  unfolding settle
  settle-early s h = settled-early _ s h

  joins-early : (s : State) (pid : ℕ) (request : PlainRequest) (on : Option Awaited) → NoneIsDue s → NoneIsDue (joins s pid request on).state
  joins-early s pid request None h = h
  joins-early s pid request (Some on) h =
      choice (λ (t : Step). NoneIsDue t.state) (is_due (record { 0 = s.clock }) (waiting_on s pid request on)) _ _ (λ _. h)
      (λ early. All-push (IsEarly (with_waiting s (waiting_on s pid request on))) s.wait (waiting_on s pid request on) h early)

  replied_or_joined-early : (s : State) (pid : ℕ) (request : PlainRequest) (t : Tried) → NoneIsDue s
      → IfFinishes (HasEnded limits s pid (touched_by s pid request.kind)) t
      → NoneIsDue (replied_or_joined limits pid request s t).state
  replied_or_joined-early s pid request (Finishes f) h ended = settle-early f.state (same-early s f.state ended.good.wait ended.good.clock h)
  replied_or_joined-early s pid request Waits h ended = joins-early s pid request (awaited_by request.kind) h

  called-early : (s : State) (pid : ℕ) (request : PlainRequest) → NoneIsDue s → NoneIsDue (called limits pid request s).state
  called-early s pid request h =
      choice (λ (t : Step). NoneIsDue t.state) (is_waiting s pid) _ _ (λ _. h)
      (λ free. replied_or_joined-early s pid request (tried limits s pid false request.kind) h (tried-ended limits s pid false request.kind free))

  interrupted-early : (s : State) (pid : ℕ) (r : Option PlainWaiting) → NoneIsDue s → NoneIsDue (interrupted s pid r).state
  interrupted-early s pid None h = h
  interrupted-early s pid (Some w) h = left-early s pid h

  asked-early : (s : State) (pid : ℕ) (request : PlainRequest) (kind : PlainKind) → NoneIsDue s → NoneIsDue (asked limits pid request kind s).state
  asked-early s pid request (Hello cred) h = h
  asked-early s pid request Interrupts h = interrupted-early s pid (waiting_call_of (record { 0 = pid }) s.wait) h
  asked-early s pid request (Sysv call) h = called-early s pid request h
  asked-early s pid request (Posix call) h = called-early s pid request h

  pub step-early : (s : State) (e : PlainEvent) → NoneIsDue (step limits s e).state
  step-early s (Connect cred serial moment) =
      choice (λ (t : Step). NoneIsDue t.state) (has_all_processes limits (due moment s).state) _ _ (λ _. due-early s moment) (λ _. due-early s moment)
  step-early s (Call pid request moment) = asked-early (due moment s).state pid request request.kind (due-early s moment)
  step-early s (Interrupt pid serial moment) =
      interrupted-early (due moment s).state pid (waiting_call_of (record { 0 = pid }) (due moment s).state.wait) (due-early s moment)
  step-early s (Tick moment) = due-early s moment
  step-early s (Exit pid moment) = settle-early (exit (due moment s).state pid) (left-early (due moment s).state pid (due-early s moment))
  step-early s Restart = All-nil _
