use Rattle.std.proofs.Common.{◌≡◌, ◌++◌, map, length, sym, subst, ap, ◌∙◌, arith}
use Rattle.std.proofs.lemmas.List.{length-map}
use Rattle.ipc_base.specs.declared.identity.Moment.{Moment}
use Rattle.ipc_wait.specs.Waits.{calls_due}
use Rattle.ipc_wait.proofs.CallerLemmas.{due-or-left}
use Rattle.ipc_state.specs.Held.{Held}
use Rattle.ipc_state.specs.State.{due_calls, without_due}
use Rattle.ipc_engine.specs.Sound.{IsSound}
use Rattle.ipc_engine.specs.Step.{due, expired}
use Rattle.ipc_engine.specs.View.{plain_outcome}
use Rattle.ipc_engine.proofs.Soundness.{due-sound}
use Rattle.ipc_engine.proofs.deadlines.advance.Goals.{After-expire}
use Rattle.ipc_engine.proofs.deadlines.advance.Goals as goal

-- what the moment leaves
held : (c : After-expire) → c.expire.new.state ≡ record c.args.state.now { state = (due c.args.moment.0 c.args.state.now.state).state }
held c = c.expire.ensures.state ∙ ap (λ (h : Held). let n : Held = record h { state = without_due h.state } in n) c.set_moment.ensures

pub returns-clause-sound : goal.returns-clause-sound
returns-clause-sound c =
    let s = c.args.state.now in
    subst (λ (h : Held). IsSound h.limits h.state) (sym (held c)) (due-sound s.limits s.state c.args.moment.0 c.requires.sound)

pub returns-clause-few : goal.returns-clause-few
returns-clause-few c =
    let s = c.args.state.now in
    let now : Moment = record { 0 = (due c.args.moment.0 s.state).state.clock } in
    let replied_or_joined : map plain_outcome c.expire.new.outcomes.items ≡ map expired (calls_due now s.state.wait) =
    c.expire.ensures.outcomes ∙ (λ i. map plain_outcome (c.take_back.ensures.gone i) ++ map expired (due_calls (c.set_moment.ensures i).state)) in
    omega (
      arith,
      ap length replied_or_joined,
      length-map c.expire.new.outcomes.items plain_outcome,
      length-map (calls_due now s.state.wait) expired,
      due-or-left now s.state.wait,
      ap (λ (h : Held). length h.state.wait) (held c),
      c.requires.sound.parts.wait.few,
      ap (λ (h : Held). h.limits.processes) (held c),
    )
