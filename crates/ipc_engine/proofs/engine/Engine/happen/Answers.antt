use Rattle.std.proofs.Common.{◌≡◌, ◌<◌, ◌≤◌, ◌*◌, ℕ, false, ◌++◌, List, map, vec_capacity, refl, sym, subst, ap, ◌∙◌, arith, rules}
use Rattle.std.specs.Prelude.{Some, max, Bool, not, length, ◌==◌, vec_len}
use Rattle.ipc_limits.specs.declared.limits.Limits.{Limits}
use Rattle.std.specs.Global.{Vec}
use Rattle.ipc_limits.specs.Limits.{ArePassed, longest_body}
use Rattle.ipc_wire.specs.View.{plain_request}
use Rattle.ipc_state.specs.Held.{Held, Ready, left}
use Rattle.ipc_state.specs.Held.Ready.{Nothing}
use Rattle.ipc_state.specs.Spare.{room_of}
use Rattle.ipc_state.specs.declared.parked.Object.{Object}
use Rattle.ipc_state.specs.State.{State, at_moment, due_calls, exit, is_waiting}
use Rattle.ipc_state.specs.Touching.{IsSameIn, changes_by_exit}
use Rattle.ipc_engine.specs.declared.event.Outcome.{Outcome}
use Rattle.ipc_engine.specs.Buffer.{HasBuffer}
use Rattle.ipc_engine.specs.Changes.{HasMarked, IsTracked, changes, changes_by_call, most_objects}
use Rattle.ipc_engine.specs.Event.{PlainEvent, PlainOutcome, Connect, Call, Interrupt, Tick, Exit, Restart}
use Rattle.ipc_engine.specs.Idle.{asks_idle, has_none}
use Rattle.ipc_engine.specs.Reserved.{IsReserved}
use Rattle.ipc_engine.specs.Sound.{IsSound}
use Rattle.ipc_engine.specs.Step.{Step, asked, connect, due, interrupt, most_replies, settle, step}
use Rattle.ipc_engine.specs.View.{plain_outcome}
use Rattle.ipc_engine.proofs.Buffers.{buffer-pushed, buffer-spare, after-sound, after-fits, pushed}
use Rattle.ipc_engine.proofs.Marks.{none-marked}
use Rattle.ipc_engine.proofs.Tracking.{step-same, tracked-on}
use Rattle.ipc_engine.proofs.Asked.{always-idle, exit-never, hello-refused, idle-as, none-said, restart-never}
use Rattle.ipc_engine.proofs.engine.Engine.happen.Goals.{After-advance-in-Call, After-ask-idle, After-leave}
use Rattle.ipc_engine.proofs.engine.Engine.happen.Goals as goal

-- what the machine keeps over an event, after which nothing is reserved
keeps : (before after : Held) (t : State) (capacity marks : ℕ) (spare : Vec ℕ) (os : List Outcome) → after ≡ left before t
    → most_replies before.limits ≤ capacity
    → IsSound after.limits after.state → ArePassed before.limits → HasBuffer after.limits spare os → before.limits.processes ≤ before.waits
    → 2 * most_objects before.limits < marks
    → (most_replies after.limits ≤ capacity) × IsSound after.limits after.state × ArePassed after.limits × HasBuffer after.limits spare os
    × (after.limits.processes ≤ after.waits) × (after.ready ≡ Nothing) × (2 * most_objects after.limits < marks)
keeps before after t capacity marks spare os is places sound passed buffer waits room = (
  subst (λ (h : Held). most_replies h.limits ≤ capacity) (sym is) places,
  sound,
  subst (λ (h : Held). ArePassed h.limits) (sym is) passed,
  buffer,
  subst (λ (h : Held). h.limits.processes ≤ h.waits) (sym is) waits,
  ap (λ (h : Held). h.ready) is,
  subst (λ (h : Held). 2 * most_objects h.limits < marks) (sym is) room,
)

-- a moment has come
abbrev came : ℕ → Held → Held
came moment h = record h { state = (due moment h.state).state }

-- where nothing is ready, another state is all that differs
nothing-ready : (h : Held) (t : State) → h.ready ≡ Nothing → (let n : Held = record h { state = t } in n) ≡ left h t
nothing-ready h t is = ap (λ (r : Ready). let n : Held = record h { state = t; ready = r } in n) is

pub returns-in_ok-reserve_hello-in-Connect-clause-sound : goal.returns-in_ok-reserve_hello-in-Connect-clause-sound
returns-in_ok-reserve_hello-in-Connect-clause-sound c =
    let old = c.self.inside.state in
    let new = c.connect-outcome.new.state in
    after-sound old.limits new.limits old.state new.state (Connect c.in-Connect.cred c.in-Connect.serial c.in-Connect.moment.0) (search rules)
    (search rules) c.self.invariant.1 tt tt

pub returns-in_ok-reserve_hello-in-Connect-clause-fits : goal.returns-in_ok-reserve_hello-in-Connect-clause-fits
returns-in_ok-reserve_hello-in-Connect-clause-fits c =
    let old = c.self.inside.state in
    let cred = c.in-Connect.cred in
    let serial = c.in-Connect.serial in
    let moment = c.in-Connect.moment.0 in
    let own = (connect old.limits cred serial (due moment old.state).state).outcomes in
    let reserved = c.in_ok-reserve_hello-in-Connect.ensures.ok in
    let begun = c.advance.ensures.state ∙ ap (came moment) reserved in
    let replied_or_joined : map plain_outcome c.push.new.outcomes.items ≡ (due moment old.state).outcomes ++ own =
    pushed c.advance.new.outcomes.items c.push.new.outcomes.items c.connect-outcome.result own c.push.ensures.items
    (ap (λ (t : Step). t.outcomes) c.connect-outcome.ensures.step ∙ (λ i. (connect (begun i).limits cred serial (begun i).state).outcomes))
    ∙ ap (λ (xs : List PlainOutcome). xs ++ own) (c.advance.ensures.outcomes ∙ ap (λ (h : Held). (due moment h.state).outcomes) reserved) in
    after-fits old.limits c.connect-outcome.new.state.limits old.state (map plain_outcome c.push.new.outcomes.items) (Connect cred serial moment)
    (search rules) replied_or_joined c.self.invariant.1

pub invariant_of-self-in-Connect : goal.invariant_of-self-in-Connect
invariant_of-self-in-Connect c =
    let old = c.self.inside.state in
    let new = c.connect-outcome.new.state in
    let same : new.limits ≡ old.limits = search rules in
    let begun = c.advance.ensures.state ∙ ap (came c.in-Connect.moment.0) c.in_ok-reserve_hello-in-Connect.ensures.ok in
    let held = c.connect-outcome.ensures.held ∙ ap (λ (h : Held). left h new.state) begun in
    keeps old new new.state (vec_capacity c.push.new.outcomes)
    (vec_capacity c.self.inside.changed.marks) c.connect-outcome.new.spare c.push.new.outcomes.items held (search rules)
    (after-sound old.limits new.limits old.state new.state (Connect c.in-Connect.cred c.in-Connect.serial c.in-Connect.moment.0) same (search rules)
    c.self.invariant.1 tt tt)
    c.self.invariant.2
    (buffer-pushed old.limits new.limits c.connect-outcome.new.spare (room_of c.connect-outcome.result.body) c.push.new.outcomes.items same
    (subst (λ (h : Held). longest_body h.limits ≤ max (vec_capacity c.connect-outcome.new.spare) (room_of c.connect-outcome.result.body)) begun
    c.connect-outcome.ensures.buffer) (omega (arith, c.push.ensures.room)))
    c.self.invariant.4 c.self.invariant.6

-- the moment has come, and what was reserved is ready still
begun : (c : After-advance-in-Call) → c.advance-in-Call.new.state ≡ came c.in-Call.moment.0 (record c.self.inside.state { ready = c.prepare.new.state.ready })
begun c = c.advance-in-Call.ensures.state ∙ ap (came c.in-Call.moment.0) c.prepare.ensures.held

pub ask-idle-requires-clause-reserved : goal.ask-idle-requires-clause-reserved
ask-idle-requires-clause-reserved c =
    subst (λ (h : Held). IsReserved (is_waiting h.state c.in-Call.pid.0) h.ready (plain_request c.in-Call.request) c.in_ok-kept-in-Call.kept)
    (sym (begun (goal.at.ask-idle-requires-clause-reserved c).After-advance-in-Call)) c.in_ok-kept-in-Call.ensures.ok

pub returns-in_ok-kept-in-Call-clause-sound : goal.returns-in_ok-kept-in-Call-clause-sound
returns-in_ok-kept-in-Call-clause-sound c =
    let old = c.self.inside.state in
    let new = c.ask-idle.new.state in
    after-sound old.limits new.limits old.state new.state (Call c.in-Call.pid.0 (plain_request c.in-Call.request) c.in-Call.moment.0) (search rules)
    (search rules) c.self.invariant.1 (search rules) c.in-Call.request.frame

pub returns-in_ok-kept-in-Call-clause-fits : goal.returns-in_ok-kept-in-Call-clause-fits
returns-in_ok-kept-in-Call-clause-fits c =
    let old = c.self.inside.state in
    let event = Call c.in-Call.pid.0 (plain_request c.in-Call.request) c.in-Call.moment.0 in
    after-fits old.limits c.ask-idle.new.state.limits old.state (map plain_outcome c.ask-idle.new.outcomes.items) event (search rules) (search rules)
    c.self.invariant.1

pub invariant_of-self-in-Call : goal.invariant_of-self-in-Call
invariant_of-self-in-Call c =
    let old = c.self.inside.state in
    let pid = c.in-Call.pid.0 in
    let request = plain_request c.in-Call.request in
    let new = c.ask-idle.new.state in
    let same : new.limits ≡ old.limits = search rules in
    let mid = begun (goal.at.invariant_of-self-in-Call c).After-advance-in-Call in
    let held = c.ask-idle.ensures.does.state ∙ (λ i. left (mid i) (asked (mid i).limits pid request request.kind (mid i).state).state) in
    keeps old new _ (vec_capacity c.ask-idle.new.outcomes) (vec_capacity c.ask-idle.new.changed.marks) c.ask-idle.new.spare c.ask-idle.new.outcomes.items
    held (search rules)
    (after-sound old.limits new.limits old.state new.state (Call c.in-Call.pid.0 (plain_request c.in-Call.request) c.in-Call.moment.0) same (search rules)
    c.self.invariant.1 (search rules) c.in-Call.request.frame)
    c.self.invariant.2
    (subst (λ (h : Held). HasBuffer h.limits c.ask-idle.new.spare c.ask-idle.new.outcomes.items) (sym c.ask-idle.ensures.does.state) c.ask-idle.ensures.buffer)
    c.self.invariant.4 (omega (arith, c.self.invariant.6, c.ask-idle.ensures.room))

pub returns-in-Interrupt-clause-sound : goal.returns-in-Interrupt-clause-sound
returns-in-Interrupt-clause-sound c =
    let old = c.self.inside.state in
    let new = c.interrupt-idle.new.state in
    after-sound old.limits new.limits old.state new.state (Interrupt c.in-Interrupt.pid.0 c.in-Interrupt.serial c.in-Interrupt.moment.0) (search rules)
    (search rules) c.self.invariant.1 (search rules) tt

pub returns-in-Interrupt-clause-fits : goal.returns-in-Interrupt-clause-fits
returns-in-Interrupt-clause-fits c =
    let old = c.self.inside.state in
    let event = Interrupt c.in-Interrupt.pid.0 c.in-Interrupt.serial c.in-Interrupt.moment.0 in
    after-fits old.limits c.interrupt-idle.new.state.limits old.state (map plain_outcome c.interrupt-idle.new.outcomes.items) event (search rules)
    (search rules) c.self.invariant.1

pub invariant_of-self-in-Interrupt : goal.invariant_of-self-in-Interrupt
invariant_of-self-in-Interrupt c =
    let old = c.self.inside.state in
    let new = c.interrupt-idle.new.state in
    let same : new.limits ≡ old.limits = search rules in
    let pid = c.in-Interrupt.pid.0 in
    let step : Held → Held = λ h. record h { state = (interrupt pid c.in-Interrupt.serial h.state).state } in
    let held = c.interrupt-idle.ensures.does.state ∙ (ap step c.advance-in-Interrupt.ensures.state ∙ nothing-ready old _ c.self.invariant.5) in
    keeps old new _ (vec_capacity c.interrupt-idle.new.outcomes)
    (vec_capacity c.self.inside.changed.marks) c.advance-in-Interrupt.new.spare c.interrupt-idle.new.outcomes.items held (search rules)
    (after-sound old.limits new.limits old.state new.state (Interrupt c.in-Interrupt.pid.0 c.in-Interrupt.serial c.in-Interrupt.moment.0) same (search rules)
    c.self.invariant.1 (search rules) tt)
    c.self.invariant.2
    (buffer-spare old.limits new.limits c.self.inside.spare c.advance-in-Interrupt.new.spare c.self.inside.outcomes.items c.interrupt-idle.new.outcomes.items
    same c.self.invariant.3 c.advance-in-Interrupt.ensures.buffer)
    c.self.invariant.4 c.self.invariant.6

pub returns-in-Tick-clause-fits : goal.returns-in-Tick-clause-fits
returns-in-Tick-clause-fits c =
    let old = c.self.inside.state in
    after-fits old.limits c.advance-in-Tick.new.state.limits old.state (map plain_outcome c.advance-in-Tick.new.outcomes.items) (Tick c.in-Tick.moment.0)
    (search rules) (search rules) c.self.invariant.1

pub returns-in-Exit-clause-sound : goal.returns-in-Exit-clause-sound
returns-in-Exit-clause-sound c =
    let old = c.self.inside.state in
    let new = c.leave.new.state in
    after-sound old.limits new.limits old.state new.state (Exit c.in-Exit.pid.0 c.in-Exit.moment.0) (search rules) (search rules) c.self.invariant.1
    (search rules) tt

pub returns-in-Exit-clause-fits : goal.returns-in-Exit-clause-fits
returns-in-Exit-clause-fits c =
    let old = c.self.inside.state in
    after-fits old.limits c.leave.new.state.limits old.state (map plain_outcome c.leave.new.outcomes.items) (Exit c.in-Exit.pid.0 c.in-Exit.moment.0)
    (search rules) (search rules) c.self.invariant.1

pub invariant_of-self-in-Exit : goal.invariant_of-self-in-Exit
invariant_of-self-in-Exit c =
    let old = c.self.inside.state in
    let new = c.leave.new.state in
    let same : new.limits ≡ old.limits = search rules in
    let mid = c.advance-in-Exit.ensures.state in
    let held = c.leave.ensures.does.state ∙ (λ i. left (mid i) (settle (mid i).limits (exit (mid i).state c.in-Exit.pid.0)).state) in
    keeps old new _ (vec_capacity c.leave.new.outcomes)
    (vec_capacity c.leave.new.changed.marks) c.advance-in-Exit.new.spare c.leave.new.outcomes.items held (search rules)
    (after-sound old.limits new.limits old.state new.state (Exit c.in-Exit.pid.0 c.in-Exit.moment.0) same (search rules) c.self.invariant.1 (search rules) tt)
    c.self.invariant.2
    (buffer-spare old.limits new.limits c.self.inside.spare c.advance-in-Exit.new.spare c.self.inside.outcomes.items c.leave.new.outcomes.items same
    c.self.invariant.3 c.advance-in-Exit.ensures.buffer)
    c.self.invariant.4 (omega (arith, c.self.invariant.6, c.leave.ensures.room))

pub returns-in-Restart-clause-sound : goal.returns-in-Restart-clause-sound
returns-in-Restart-clause-sound c =
    let old = c.self.inside.state in
    let new = c.restart.new.self in
    after-sound old.limits new.limits old.state new.state Restart (search rules) (search rules) c.self.invariant.1 tt tt

pub invariant_of-self-in-Restart : goal.invariant_of-self-in-Restart
invariant_of-self-in-Restart c =
    let old = c.self.inside.state in
    let new = c.restart.new.self in
    let same : new.limits ≡ old.limits = search rules in
    keeps old new _ (vec_capacity c.take_back.new.outcomes)
    (vec_capacity c.mark_leaving.new.self.marks) c.take_back.new.spare c.take_back.new.outcomes.items c.restart.ensures (search rules)
    (after-sound old.limits new.limits old.state new.state Restart same (search rules) c.self.invariant.1 tt tt) c.self.invariant.2
    (buffer-spare old.limits new.limits c.self.inside.spare c.take_back.new.spare c.self.inside.outcomes.items c.take_back.new.outcomes.items same
    c.self.invariant.3 c.take_back.ensures.room)
    c.self.invariant.4 (omega (arith, c.self.invariant.6, c.mark_leaving.ensures.capacity))

-- ---- what has changed

-- an event that changes nothing marks nothing
still : (limits : Limits) (s u base : State) (e : PlainEvent) (marks : List Object) → IsSound limits s → u ≡ (step limits s e).state
    → ((o : Object) → changes limits s e o ≡ false) → IsTracked marks base s → IsTracked marks base u
still limits s u base e marks h is none =
    tracked-on s u base (changes limits s e) marks marks (none-marked s (changes limits s e) marks none)
    (λ o off. subst (λ (t : State). IsSameIn o s t) (sym is) (step-same limits s e h o off))

pub returns-in_ok-reserve_hello-in-Connect-clause-tracked : goal.returns-in_ok-reserve_hello-in-Connect-clause-tracked
returns-in_ok-reserve_hello-in-Connect-clause-tracked c =
    rw (sym c.self.view_is) (λ base.
    let old = c.self.inside.state in
    still old.limits old.state c.connect-outcome.new.state.state base (Connect c.in-Connect.cred c.in-Connect.serial c.in-Connect.moment.0)
    c.self.inside.changed.marks.items c.self.invariant.1 (search rules) (λ o. refl))

pub returns-in-Interrupt-clause-tracked : goal.returns-in-Interrupt-clause-tracked
returns-in-Interrupt-clause-tracked c =
    rw (sym c.self.view_is) (λ base.
    let old = c.self.inside.state in
    still old.limits old.state c.interrupt-idle.new.state.state base (Interrupt c.in-Interrupt.pid.0 c.in-Interrupt.serial c.in-Interrupt.moment.0)
    c.self.inside.changed.marks.items c.self.invariant.1 (search rules) (λ o. refl))

pub returns-in-Tick-clause-tracked : goal.returns-in-Tick-clause-tracked
returns-in-Tick-clause-tracked c =
    rw (sym c.self.view_is) (λ base.
    let old = c.self.inside.state in
    still old.limits old.state c.advance-in-Tick.new.state.state base (Tick c.in-Tick.moment.0) c.self.inside.changed.marks.items c.self.invariant.1
    (search rules) (λ o. refl))

-- what a call has marked
call-marked : (c : After-ask-idle)
    (mid : c.advance-in-Call.new.state ≡ came c.in-Call.moment.0 (record c.self.inside.state { ready = c.prepare.new.state.ready }))
    → HasMarked (due c.in-Call.moment.0 c.self.inside.state.state).state
    (changes c.self.inside.state.limits c.self.inside.state.state (Call c.in-Call.pid.0 (plain_request c.in-Call.request) c.in-Call.moment.0))
    c.self.inside.changed.marks.items c.ask-idle.new.changed.marks.items
call-marked c mid =
    subst (λ (h : Held). HasMarked h.state (changes_by_call h.limits h.state c.in-Call.pid.0 (plain_request c.in-Call.request).kind)
    c.self.inside.changed.marks.items c.ask-idle.new.changed.marks.items) mid c.ask-idle.ensures.marked

pub returns-in_ok-kept-in-Call-clause-tracked : goal.returns-in_ok-kept-in-Call-clause-tracked
returns-in_ok-kept-in-Call-clause-tracked c =
    rw (sym c.self.view_is) (λ base.
    let old = c.self.inside.state in
    let event = Call c.in-Call.pid.0 (plain_request c.in-Call.request) c.in-Call.moment.0 in
    let is : c.ask-idle.new.state.state ≡ (step old.limits old.state event).state = search rules in
    tracked-on (due c.in-Call.moment.0 old.state).state c.ask-idle.new.state.state base (changes old.limits old.state event) c.self.inside.changed.marks.items
    c.ask-idle.new.changed.marks.items (call-marked (goal.at.returns-in_ok-kept-in-Call-clause-tracked c).After-ask-idle
    (begun (goal.at.returns-in_ok-kept-in-Call-clause-tracked c).After-advance-in-Call))
    (λ o off. subst (λ (t : State). IsSameIn o old.state t) (sym is) (step-same old.limits old.state event c.self.invariant.1 o off)))

pub returns-in_ok-kept-in-Call-clause-only : goal.returns-in_ok-kept-in-Call-clause-only
returns-in_ok-kept-in-Call-clause-only c = rw (sym c.self.view_is, c.in-Call.is) (call-marked
    (goal.at.returns-in_ok-kept-in-Call-clause-only c).After-ask-idle (begun (goal.at.returns-in_ok-kept-in-Call-clause-only c).After-advance-in-Call)).only

-- what an exit has marked
exit-marked : (c : After-leave)
    → HasMarked (due c.in-Exit.moment.0 c.self.inside.state.state).state
    (changes c.self.inside.state.limits c.self.inside.state.state (Exit c.in-Exit.pid.0 c.in-Exit.moment.0))
    c.self.inside.changed.marks.items c.leave.new.changed.marks.items
exit-marked c =
    subst (λ (h : Held). HasMarked h.state (changes_by_exit (Some c.in-Exit.pid.0) h.state) c.self.inside.changed.marks.items c.leave.new.changed.marks.items)
    c.advance-in-Exit.ensures.state c.leave.ensures.marked

pub returns-in-Exit-clause-tracked : goal.returns-in-Exit-clause-tracked
returns-in-Exit-clause-tracked c =
    rw (sym c.self.view_is) (λ base.
    let old = c.self.inside.state in
    let event = Exit c.in-Exit.pid.0 c.in-Exit.moment.0 in
    let is : c.leave.new.state.state ≡ (step old.limits old.state event).state = search rules in
    tracked-on (due c.in-Exit.moment.0 old.state).state c.leave.new.state.state base (changes old.limits old.state event) c.self.inside.changed.marks.items
    c.leave.new.changed.marks.items (exit-marked (goal.at.returns-in-Exit-clause-tracked c).After-leave)
    (λ o off. subst (λ (t : State). IsSameIn o old.state t) (sym is) (step-same old.limits old.state event c.self.invariant.1 o off)))

pub returns-in-Exit-clause-only : goal.returns-in-Exit-clause-only
returns-in-Exit-clause-only c = rw (sym c.self.view_is, c.in-Exit.is) (exit-marked (goal.at.returns-in-Exit-clause-only c).After-leave).only

pub returns-in-Restart-clause-tracked : goal.returns-in-Restart-clause-tracked
returns-in-Restart-clause-tracked c =
    rw (sym c.self.view_is) (λ base.
    let old = c.self.inside.state in
    let is : c.restart.new.self.state ≡ (step old.limits old.state Restart).state = search rules in
    tracked-on old.state c.restart.new.self.state base (changes old.limits old.state Restart) c.self.inside.changed.marks.items
    c.mark_leaving.new.self.marks.items c.mark_leaving.ensures.marked
    (λ o off. subst (λ (t : State). IsSameIn o old.state t) (sym is) (step-same old.limits old.state Restart c.self.invariant.1 o off)))

pub returns-in-Restart-clause-only : goal.returns-in-Restart-clause-only
returns-in-Restart-clause-only c = rw (sym c.self.view_is, c.in-Restart.is) c.mark_leaving.ensures.marked.only

pub returns-in_err-reserve_hello-in-Connect-clause-tracked : goal.returns-in_err-reserve_hello-in-Connect-clause-tracked
returns-in_err-reserve_hello-in-Connect-clause-tracked c =
    let same : c.reserve_hello.new.state.state ≡ c.self.inside.state.state = search rules in
    rw (sym c.self.view_is) (λ base is. subst (λ (s : State). IsTracked c.self.inside.changed.marks.items base s) (sym same) is)

pub returns-in_err-kept-in-Call-clause-tracked : goal.returns-in_err-kept-in-Call-clause-tracked
returns-in_err-kept-in-Call-clause-tracked c =
    let same : c.prepare.new.state.state ≡ c.self.inside.state.state = search rules in
    rw (sym c.self.view_is) (λ base is. subst (λ (s : State). IsTracked c.self.inside.changed.marks.items base s) (sym same) is)

-- ---- whether the event is idle

-- nobody was answered at the moment, if no deadline came
quiet : (h : Held) (s : State) (moment : ℕ) (os : Vec Outcome) (empty : Bool) → h.state ≡ s
    → map plain_outcome os.items ≡ (due moment h.state).outcomes → vec_len os ≡ length os.items → empty ≡ (vec_len os == 0)
    → empty ≡ has_none (due_calls (at_moment s moment))
quiet h s moment os empty same said len is =
    is
    ∙ (ap (λ (n : ℕ). n == 0) len
    ∙ none-said os.items (due_calls (at_moment s moment)) (said ∙ ap (λ (t : State). (due moment t).outcomes) same))

pub returns-in_ok-reserve_hello-in-Connect-clause-idle : goal.returns-in_ok-reserve_hello-in-Connect-clause-idle
returns-in_ok-reserve_hello-in-Connect-clause-idle c =
    let old = c.self.inside.state in
    let moment = c.in-Connect.moment.0 in
    let event = Connect c.in-Connect.cred c.in-Connect.serial moment in
    let reserved = c.in_ok-reserve_hello-in-Connect.ensures.ok in
    let begun = c.advance.ensures.state ∙ ap (came moment) reserved in
    rw (sym c.self.view_is, c.in-Connect.is) (idle-as old.limits old.state event c.is_empty-nobody.result
    (quiet c.reserve_hello.new.state old.state moment c.advance.new.outcomes c.is_empty-nobody.result (ap (λ (h : Held). h.state) reserved)
    c.advance.ensures.outcomes (search rules) c.is_empty-nobody.ensures) c.is_some-refused.result
    (c.is_some-refused.ensures
    ∙ hello-refused old.limits c.in-Connect.cred c.in-Connect.serial (due moment old.state).state c.connect-outcome.new.state.state c.connect-outcome.result
    (c.connect-outcome.ensures.step ∙ (λ i. connect (begun i).limits c.in-Connect.cred c.in-Connect.serial (begun i).state))))

pub returns-in_ok-kept-in-Call-clause-idle : goal.returns-in_ok-kept-in-Call-clause-idle
returns-in_ok-kept-in-Call-clause-idle c =
    let old = c.self.inside.state in
    let moment = c.in-Call.moment.0 in
    let request = plain_request c.in-Call.request in
    let event = Call c.in-Call.pid.0 request moment in
    let mid = begun (goal.at.returns-in_ok-kept-in-Call-clause-idle c).After-advance-in-Call in
    rw (sym c.self.view_is, c.in-Call.is) (idle-as old.limits old.state event c.is_empty-nobody-in-Call.result
    (quiet c.prepare.new.state old.state moment c.advance-in-Call.new.outcomes c.is_empty-nobody-in-Call.result
    (ap (λ (h : Held). h.state) c.prepare.ensures.held) c.advance-in-Call.ensures.outcomes (search rules) c.is_empty-nobody-in-Call.ensures) c.ask-idle.result
    (c.ask-idle.ensures.idle ∙ (λ i. asks_idle (mid i).limits (mid i).state c.in-Call.pid.0 request request.kind)))

pub returns-in-Interrupt-clause-idle : goal.returns-in-Interrupt-clause-idle
returns-in-Interrupt-clause-idle c =
    let old = c.self.inside.state in
    let moment = c.in-Interrupt.moment.0 in
    let event = Interrupt c.in-Interrupt.pid.0 c.in-Interrupt.serial moment in
    rw (sym c.self.view_is, c.in-Interrupt.is) (idle-as old.limits old.state event c.is_empty-nobody-in-Interrupt.result
    (quiet old old.state moment c.advance-in-Interrupt.new.outcomes c.is_empty-nobody-in-Interrupt.result refl
    c.advance-in-Interrupt.ensures.outcomes (search rules) c.is_empty-nobody-in-Interrupt.ensures) c.interrupt-idle.result
    (c.interrupt-idle.ensures.idle ∙ ap (λ (h : Held). not (is_waiting h.state c.in-Interrupt.pid.0)) c.advance-in-Interrupt.ensures.state))

pub returns-in-Tick-clause-idle : goal.returns-in-Tick-clause-idle
returns-in-Tick-clause-idle c =
    let old = c.self.inside.state in
    let moment = c.in-Tick.moment.0 in
    rw (sym c.self.view_is, c.in-Tick.is) (always-idle old.limits old.state (Tick moment) c.is_empty.result
    (quiet old old.state moment c.advance-in-Tick.new.outcomes c.is_empty.result refl c.advance-in-Tick.ensures.outcomes (search rules)
    c.is_empty.ensures) refl)

pub returns-in-Exit-clause-idle : goal.returns-in-Exit-clause-idle
returns-in-Exit-clause-idle c =
    let old = c.self.inside.state in
    rw (sym c.self.view_is, c.in-Exit.is) (exit-never old.limits old.state c.in-Exit.pid.0 c.in-Exit.moment.0)

pub returns-in-Restart-clause-idle : goal.returns-in-Restart-clause-idle
returns-in-Restart-clause-idle c =
    rw (sym c.self.view_is, c.in-Restart.is) (restart-never c.self.inside.state.limits c.self.inside.state.state)
