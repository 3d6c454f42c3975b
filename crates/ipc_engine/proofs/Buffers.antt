-- The replies of an event, and the buffer for bodies, which is there again after each step.
use Rattle.std.proofs.Common.{◌≡◌, ◌≤◌, ℕ, List, [], ◌∷◌, ◌++◌, map, max, vec_capacity, refl, sym, subst, ap, ◌∙◌, arith}
use Rattle.std.proofs.lemmas.List.{map-append}
use Rattle.std.specs.Prelude.{All, Option, Result, Ok, Err}
use Rattle.std.specs.Global.{Vec}
use Rattle.ipc_base.specs.declared.errno.Errno.{Errno}
use Rattle.ipc_wire.specs.declared.reply.Body.{Body}
use Rattle.posix_mq.specs.declared.queue.Registration.{Registration}
use Rattle.ipc_state.specs.Finish.{finish_firing}
use Rattle.ipc_state.specs.Held.{Held}
use Rattle.ipc_state.specs.State.{State}
use Rattle.ipc_engine.specs.declared.event.Outcome.{Outcome}
use Rattle.ipc_engine.specs.Buffer.{room_in, HasBuffer}
use Rattle.ipc_engine.specs.Engine.{IsForProcess, HasRequest}
use Rattle.ipc_engine.specs.Sound.{IsSound}
use Rattle.ipc_engine.specs.Step.{step}
use Rattle.ipc_engine.proofs.Soundness.{step-sound, step-fits}
use Rattle.ipc_limits.specs.declared.limits.Limits.{Limits}
use Rattle.ipc_limits.specs.Limits.{longest_body}
use Rattle.ipc_state.specs.Sound.{FitsBody}
use Rattle.ipc_engine.specs.Event.{PlainEvent, PlainOutcome}
use Rattle.ipc_engine.specs.View.{plain_outcome}

pub room_in-append : (os us : List Outcome) → room_in (os ++ us) ≡ max (room_in os) (room_in us)
room_in-append [] us = omega arith
room_in-append (o ∷ os) us = omega (arith, room_in-append os us)

-- a reply more
pub pushed : (old new : List Outcome) (o : Outcome) (xs : List PlainOutcome) → new ≡ old ++ o ∷ [] → plain_outcome o ∷ [] ≡ xs
    → map plain_outcome new ≡ map plain_outcome old ++ xs
pushed old new o xs is as_said =
    ap (map plain_outcome) is ∙ (map-append plain_outcome old (o ∷ []) ∙ ap (λ (ys : List PlainOutcome). map plain_outcome old ++ ys) as_said)

-- an answer leaves the state that it was made of
pub finish-state : (s : State) (r : Result (Body (Vec ℕ)) Errno) (fired : Option Registration) → (finish_firing s r fired).state ≡ s
finish-state s (Ok body) fired = refl
finish-state s (Err e) fired = refl

-- an answer leaves those that wait as they were, if what it is made of does
pub waits-kept : (t s : State) (r : Result (Body (Vec ℕ)) Errno) (fired : Option Registration) → (finish_firing t r fired).state.wait ≡ s.wait
    → t.wait ≡ s.wait
waits-kept t s r fired same = ap (λ (u : State). u.wait) (sym (finish-state t r fired)) ∙ same

-- another state, and all else is as it was
abbrev pub with_state : Held → State → Held
with_state h s = record h { state = s }

-- two steps leave all but the state
pub held-still : (old mid new : Held) (t u : State) → mid ≡ with_state old t → new ≡ with_state mid new.state → new.state ≡ u → new ≡ with_state old u
held-still old mid new t u one two is = two ∙ (ap (λ (h : Held). with_state h new.state) one ∙ ap (with_state old) is)

-- the buffer that was taken back is there whatever stands in the replies
pub buffer-spare : (limits now : Limits) (old new : Vec ℕ) (os us : List Outcome) → now ≡ limits → HasBuffer limits old os
    → max (vec_capacity old) (room_in os) ≤ vec_capacity new → HasBuffer now new us
buffer-spare limits now old new os us same has back = subst (λ (l : Limits). HasBuffer l new us) (sym same) (omega (arith, has, back))

-- the buffer is left, or stands in the reply that was added last
pub buffer-pushed : (limits now : Limits) (spare : Vec ℕ) (room : ℕ) (us : List Outcome) → now ≡ limits → longest_body limits ≤ max (vec_capacity spare) room
    → room ≤ room_in us → HasBuffer now spare us
buffer-pushed limits now spare room us same has within = subst (λ (l : Limits). HasBuffer l spare us) (sym same) (omega (arith, has, within))

-- a step leaves a sound state, told of what is known to be equal
pub after-sound : (limits now : Limits) (s t : State) (e : PlainEvent) → now ≡ limits → t ≡ (step limits s e).state → IsSound limits s
    → IsForProcess s e → HasRequest e
    → IsSound now t
after-sound limits now s t e same is h process request =
    subst (λ (l : Limits). IsSound l t) (sym same) (subst (λ (u : State). IsSound limits u) (sym is) (step-sound limits s e h process request))

pub after-fits : (limits now : Limits) (s : State) (os : List PlainOutcome) (e : PlainEvent) → now ≡ limits → os ≡ (step limits s e).outcomes
    → IsSound limits s → All (λ (o : PlainOutcome). FitsBody now o.body) os
after-fits limits now s os e same is h =
    subst (λ (l : Limits). All (λ (o : PlainOutcome). FitsBody l o.body) os) (sym same)
    (subst (λ (us : List PlainOutcome). All (λ (o : PlainOutcome). FitsBody limits o.body) us) (sym is) (step-fits limits s e h))
