use Rattle.std.proofs.Common.{◌≡◌, ◌<◌, ◌≤◌, ◌*◌, true, map, vec_capacity, sym, subst, ap, ◌∙◌, rules}
use Rattle.ipc_limits.specs.Limits.{ArePassed, has_rules_of_three}
use Rattle.ipc_state.specs.Held.{Held}
use Rattle.ipc_state.specs.Held.Ready.{Nothing}
use Rattle.ipc_engine.specs.Buffer.{HasBuffer}
use Rattle.ipc_engine.specs.Changes.{IsTracked, is_marked, most_objects}
use Rattle.ipc_engine.specs.Engine.{Machine}
use Rattle.ipc_engine.specs.Sound.{IsSound}
use Rattle.ipc_engine.specs.Step.{most_replies, step}
use Rattle.ipc_engine.specs.View.{plain_event, plain_outcome}
use Rattle.ipc_engine.proofs.Answering.{IsTurnedBack, turned-back}
use Rattle.ipc_engine.proofs.Buffers.{after-fits}
use Rattle.ipc_engine.proofs.engine.Engine.answer.Goals.{After-turn_back}
use Rattle.ipc_engine.proofs.engine.Engine.answer.Goals as goal

-- an idle event has been answered: the machine is where it was
turned : (c : After-turn_back) → IsTurnedBack c.args.self.now.limits c.args.self.now.state (plain_event c.args.event) c.turn_back.new.self
turned c =
    let m : Machine = c.args.self.now in
    let now : Held = c.self-2.inside.state in
    let same : now.limits ≡ m.limits = search rules in
    let is : now.state ≡ (step m.limits m.state (plain_event c.args.event)).state = search rules in
    let three : c.has_rules_of_three-may_be_idle.result ≡ has_rules_of_three now.limits = search rules in
    let clock : c.clock-clock.result.0 ≡ m.state.clock = c.clock-clock.ensures ∙ ap (λ (x : Machine). x.state.clock) c.self.view_is in
    let sound : IsSound m.limits m.state = search rules in
    turned-back m.limits m.state (plain_event c.args.event) now c.has_rules_of_three-may_be_idle.result c.in_ok-idle.idle same is three
    c.in_ok-idle.ensures.idle c.clock-clock.result.0 clock sound c.if-may_be_idle-idle.true c.turn_back.new.self c.turn_back.ensures

pub invariant_of-self : goal.invariant_of-self
invariant_of-self c =
    let os = c.self-2.inside.outcomes in
    let spare = c.self-2.inside.spare in
    let marks = c.self-2.inside.changed.marks in
    let inv = c.self-2.invariant in
    let at = turned (goal.at.invariant_of-self c).After-turn_back in
    subst (λ (h : Held). (most_replies h.limits ≤ vec_capacity os) × IsSound h.limits h.state × ArePassed h.limits × HasBuffer h.limits spare os.items
    × (h.limits.processes ≤ h.waits) × (h.ready ≡ Nothing) × (2 * most_objects h.limits < vec_capacity marks))
    (sym c.turn_back.ensures)
    (inv.0, subst (λ (h : Held). IsSound h.limits h.state) c.turn_back.ensures at.sound, inv.2, inv.3, inv.4, inv.5, inv.6)

pub returns-then-may_be_idle-idle-clause-state : goal.returns-then-may_be_idle-idle-clause-state
returns-then-may_be_idle-idle-clause-state c = (turned (goal.at.returns-then-may_be_idle-idle-clause-state c).After-turn_back).state

pub returns-then-may_be_idle-idle-clause-sound : goal.returns-then-may_be_idle-idle-clause-sound
returns-then-may_be_idle-idle-clause-sound c = (turned (goal.at.returns-then-may_be_idle-idle-clause-sound c).After-turn_back).sound

pub returns-then-may_be_idle-idle-clause-fits : goal.returns-then-may_be_idle-idle-clause-fits
returns-then-may_be_idle-idle-clause-fits c =
    let m : Machine = c.args.self.now in
    after-fits m.limits c.turn_back.new.self.limits m.state (map plain_outcome c.self-2.inside.outcomes.items) (plain_event c.args.event)
    (turned (goal.at.returns-then-may_be_idle-idle-clause-fits c).After-turn_back).same (search rules) (search rules)

pub returns-then-may_be_idle-idle-clause-tracked : goal.returns-then-may_be_idle-idle-clause-tracked
returns-then-may_be_idle-idle-clause-tracked c = λ base is.
    subst (λ (h : Held). IsTracked c.self-2.inside.changed.marks.items base h.state) (sym c.turn_back.ensures)
    (subst (λ (x : Machine). IsTracked x.changed base x.state) (sym c.self-2.view_is) (c.happen.ensures.tracked base is))

pub returns-then-may_be_idle-idle-clause-only : goal.returns-then-may_be_idle-idle-clause-only
returns-then-may_be_idle-idle-clause-only c = λ o on.
    c.in_ok-idle.ensures.only o (subst (λ (x : Machine). is_marked x.changed o ≡ true) c.self-2.view_is on)
