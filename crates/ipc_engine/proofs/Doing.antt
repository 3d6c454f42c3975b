-- What one function has done, as a part of what another does.
use Rattle.std.proofs.Common.{◌≡◌, ◌≤◌, ◌++◌, ◌∙◌, List, map, vec_capacity, append-nil, append_assoc, arith, refl, sym, ap, subst}
use Rattle.std.specs.Global.{Vec}
use Rattle.ipc_state.specs.Held.{Held}
use Rattle.ipc_state.specs.State.{State}
use Rattle.ipc_engine.specs.Does.{Does}
use Rattle.ipc_engine.specs.Event.{PlainOutcome}
use Rattle.ipc_engine.specs.Step.{Step, after, silent}
use Rattle.ipc_engine.specs.View.{plain_outcome}
use Rattle.ipc_engine.specs.declared.event.Outcome.{Outcome}
use Rattle.ipc_engine.proofs.Buffers.{with_state}

pub does-nothing : {old : Held} {before : Vec Outcome} → Does (silent old.state) old old before before
does-nothing {before} = record { state = refl; outcomes = sym (append-nil (map plain_outcome before.items)); capacity = omega arith }

module _ {new : Held} {before last : Vec Outcome} where
  -- a step that is another
  pub does-as : {step next : Step} {old : Held} → step ≡ next → Does step old new before last → Does next old new before last
  does-as {old} is does = subst (λ (t : Step). Does t old new before last) is does

  -- a step from what differs by the state alone
  pub does-from : (step : Held → Step) {mid old : Held} {s : State} → mid ≡ with_state old s → Does (step mid) mid new before last
      → Does (step (with_state old s)) old new before last
  does-from step is does =
      let there = subst (λ (h : Held). Does (step h) h new before last) is does in
      record { state = there.state; outcomes = there.outcomes; capacity = there.capacity }

  -- replies that went before it
  pub does-after : (own : List PlainOutcome) {step : Step} {old : Held} {between : Vec Outcome} → map plain_outcome between.items
      ≡ map plain_outcome before.items ++ own
      → vec_capacity before ≤ vec_capacity between → Does step old new between last
      → Does (record { state = step.state; outcomes = own ++ step.outcomes }) old new before last
  does-after own {step} pushed places does = record {
    state = does.state;
    outcomes = does.outcomes ∙ (ap (λ (xs : List PlainOutcome). xs ++ step.outcomes) pushed
        ∙ append_assoc (map plain_outcome before.items) own step.outcomes);
    capacity = omega (arith, places, does.capacity);
  }

  -- one step, and what comes after it
  pub does-then : (next : State → Step) {one : Step} {old mid : Held} {between : Vec Outcome} → Does one old mid before between
      → Does (next mid.state) mid new between last → Does (after one next) old new before last
  does-then next {between} first then =
      let there = subst (λ (h : Held). Does (next h.state) h new between last) first.state then in
      let all = does-after _ first.outcomes first.capacity there in
      record { state = all.state; outcomes = all.outcomes; capacity = all.capacity }
