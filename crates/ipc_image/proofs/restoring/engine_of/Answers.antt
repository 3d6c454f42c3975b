-- Objects of a sound state make that state and no other.
use Rattle.std.proofs.Common.{◌≡◌, Result, Ok, Err, sym, subst, ◌∙◌}
use Rattle.std.specs.Prelude.{IfOk, nat_eq}
use Rattle.std.specs.List.{IsDistinct}
use Rattle.ipc_limits.specs.declared.limits.Limits.{Limits}
use Rattle.ipc_base.specs.Objects.{PlainObjects}
use Rattle.ipc_base.specs.Table.{keys_of}
use Rattle.ipc_engine.specs.declared.fault.StateFault.{StateFault}
use Rattle.ipc_engine.specs.Sound.{IsSound}
use Rattle.ipc_state.specs.State.{State}
use Rattle.ipc_image.specs.declared.format.Format.{Format}
use Rattle.ipc_image.specs.Saved.{saved_in, HasAllPlaces, HasKindsOf, StandForStateIn}
use Rattle.ipc_image.proofs.Attaching.{rising-distinct}
use Rattle.ipc_image.proofs.restoring.engine_of.Goals as goal

pub returns-clause-damaged : goal.returns-clause-damaged
returns-clause-damaged c is s stands =
    let same : s ≡ c.restore.new.state.state = c.in_ok-restore.ensures.once s stands.places stands.kinds stands.are in
    c.from_state.ensures.unsound is
    (subst (λ (l : Limits). IsSound l c.restore.new.state.state) (sym (c.in_ok-restore.ensures.limits ∙ c.new-state.ensures.limits))
    (subst (IsSound c.args.limits) same stands.sound))

-- a machine that has the state, which is sound
stand : {E : Type 0} (state_in : E → State) (limits_in : E → Limits) (form : Format) (limits : Limits) (t : State) (objects : PlainObjects)
    (r : Result E StateFault)
    → IfOk r (λ e. state_in e ≡ t) → IfOk r (λ e. limits_in e ≡ limits) → IfOk r (λ e. IsSound (limits_in e) (state_in e))
    → (IsDistinct nat_eq (keys_of t.undo) → HasAllPlaces t) → HasKindsOf form t → objects ≡ saved_in form t
    → IfOk r (λ e. StandForStateIn form limits (state_in e) objects)
stand state_in limits_in form limits t objects (Ok e) is under sound places kinds are =
    let one : IsSound limits t = subst (IsSound limits) is (subst (λ (l : Limits). IsSound l (state_in e)) under sound) in
    let apart : IsDistinct nat_eq (keys_of t.undo) =
    subst (IsDistinct nat_eq) (sym one.parts.undo.pids)
    (rising-distinct 1 (keys_of t.processes.entries) t.processes.next one.parts.processes.numbered.numbers) in
    let all : StandForStateIn form limits t objects = record { sound = one; places = places apart; kinds = kinds; are = are } in
    subst (λ (s : State). StandForStateIn form limits s objects) (sym is) all
stand state_in limits_in form limits t objects (Err e) is under sound places kinds are = tt

pub returns-clause-stands : goal.returns-clause-stands
returns-clause-stands c =
    let made = c.in_ok-restore.ensures.ok in
    let under = c.in_ok-restore.ensures.limits ∙ c.new-state.ensures.limits in
    stand (λ e. e.state) (λ e. e.limits) c.args.form c.args.limits c.restore.new.state.state c.args.objects.now c.from_state.result c.from_state.ensures.state
    (subst (λ (l : Limits). IfOk c.from_state.result (λ e. e.limits ≡ l)) under c.from_state.ensures.limits) c.from_state.ensures.sound made.0
    c.in_ok-restore.ensures.kinds made.1
