-- What the server leaves of an event that it does not accept.
use Rattle.std.proofs.Common.{◌≡◌, ℕ, Bool, true, false, not, sym, subst, ap, ◌∙◌}
use Rattle.std.specs.Prelude.{◌&&◌, if◌then◌else◌}
use Rattle.ipc_limits.specs.declared.limits.Limits.{Limits}
use Rattle.ipc_limits.specs.Limits.{has_rules_of_three}
use Rattle.ipc_state.specs.Held.{Held}
use Rattle.ipc_state.specs.State.{State}
use Rattle.ipc_engine.specs.Event.{PlainEvent}
use Rattle.ipc_engine.specs.Idle.{answer, is_accepted, is_idle}
use Rattle.ipc_engine.specs.Sound.{IsSound}
use Rattle.ipc_engine.specs.Step.{step}
use Rattle.ipc_engine.proofs.Idle.{idle-if-refused, idle-state}

-- the state is as it was before the event
pub record IsTurnedBack (limits : Limits) (s : State) (e : PlainEvent) (h : Held) : Type 0 where
  pub same : h.limits ≡ limits
  pub state : h.state ≡ (answer limits s e).state
  pub sound : IsSound h.limits h.state

-- after the step of an idle event, under the rules of version 3, the clock goes back
module _ (limits : Limits) (s : State) (e : PlainEvent) (h : Held) (three idle : Bool) (same : h.limits ≡ limits) (is : h.state ≡ (step limits s e).state)
    (rules : three ≡ has_rules_of_three h.limits) (was : idle ≡ is_idle limits s e) (clock : ℕ) (at : clock ≡ s.clock) (sound : IsSound limits s)
    (on : (three && idle) ≡ true) where
  refused : false ≡ is_accepted limits s e
  refused = sym (ap not on) ∙ (λ i. not ((rules ∙ ap has_rules_of_three same) i && was i))

  back : (let t : State = record h.state { clock = clock } in t) ≡ s
  back = (λ i. let t : State = record (is i) { clock = at i } in t) ∙ idle-state limits s e sound (idle-if-refused limits s e (sym refused)).1

  pub turned-back : (k : Held) → k ≡ (let n : Held = record h { state = (let t : State = record h.state { clock = clock } in t) } in n)
      → IsTurnedBack limits s e k
  turned-back k turns =
      let now : k.limits ≡ limits = ap (λ (n : Held). n.limits) turns ∙ same in
      let stays : k.state ≡ s = ap (λ (n : Held). n.state) turns ∙ back in
      record {
        same = now;
        state = stays ∙ ap (λ (b : Bool). if b then (step limits s e).state else s) refused;
        sound = subst (λ (l : Limits). IsSound l k.state) (sym now) (subst (λ (t : State). IsSound limits t) (sym stays) sound);
      }
