use Rattle.std.proofs.Common.{◌≡◌, List, [], ◌∷◌, ◌++◌, refl, sym, ap, ◌∙◌, append_assoc}
use Rattle.ipc_limits.specs.declared.limits.Limits.{Limits}
use Rattle.ipc_state.specs.State.{State}
use Rattle.ipc_engine.specs.Event.{PlainEvent, PlainOutcome}
use Rattle.ipc_engine.specs.Step.{step, run}
use Rattle.ipc_engine.proofs.CallerLemmas.{run-parts}
use Rattle.ipc_engine.proofs.laws.run_of_parts.Goals as goal

outcomes_of_parts : (limits : Limits) (s : State) (before after : List PlainEvent)
    → (run limits s (before ++ after)).outcomes ≡ (run limits s before).outcomes ++ (run limits (run limits s before).state after).outcomes
outcomes_of_parts limits s [] after = refl
outcomes_of_parts limits s (e ∷ before) after =
    ap (λ (os : List PlainOutcome). (step limits s e).outcomes ++ os) (outcomes_of_parts limits (step limits s e).state before after)
    ∙ sym (append_assoc (step limits s e).outcomes _ _)

pub returns-clause-state : goal.returns-clause-state
returns-clause-state c limits s before after = run-parts limits s before after

pub returns-clause-outcomes : goal.returns-clause-outcomes
returns-clause-outcomes c limits s before after = outcomes_of_parts limits s before after
