use Rattle.std.proofs.Common.{◌≡◌, ◌<◌, ◌≤◌, ◌*◌, vec_capacity, refl, sym, subst, ap, ◌∙◌, arith, rules}
use Rattle.ipc_limits.specs.declared.limits.Limits.{Limits}
use Rattle.ipc_limits.specs.Limits.{ArePassed, longest_body}
use Rattle.ipc_state.specs.Held.{Held}
use Rattle.ipc_state.specs.Held.Ready.{Nothing}
use Rattle.ipc_engine.specs.Buffer.{HasBuffer}
use Rattle.ipc_engine.specs.Changes.{most_objects}
use Rattle.ipc_engine.specs.Sound.{IsSound}
use Rattle.ipc_engine.specs.Step.{most_replies}
use Rattle.ipc_engine.proofs.engine.Engine.of.Goals.{After-reserve_waits}
use Rattle.ipc_engine.proofs.engine.Engine.of.Goals as goal

-- what was reserved is given back, and there are places for calls that wait
held : (c : After-reserve_waits) → c.reserve_waits.new.self ≡ record c.args.state { ready = Nothing; waits = c.reserve_waits.new.self.waits }
held c = c.reserve_waits.ensures.held ∙ ap (λ (h : Held). let n : Held = record h { waits = c.reserve_waits.new.self.waits } in n) c.release.ensures

pub invariant_of-result : goal.invariant_of-result
invariant_of-result c =
    let old = c.args.state.limits in
    let os = c.in_ok-outcomes.outcomes in
    let spare = c.in_ok-spare.spare in
    let room : most_replies old ≤ vec_capacity os =
    omega (arith, c.in_ok-outcomes.ensures.exact, c.most_replies.ensures, ap (λ (l : Limits). l.processes) c.limits.ensures.limits) in
    let passed : ArePassed old = search rules in
    let buffer : HasBuffer old spare os.items = omega (arith, c.in_ok-spare.ensures, ap longest_body c.limits-2.ensures.limits) in
    let waits : old.processes ≤ c.reserve_waits.new.self.waits =
    omega (arith, c.in_ok-reserve_waits.ensures.ok, ap (λ (h : Held). h.limits.processes) c.release.ensures) in
    let marks = c.in_ok-changed.changed.marks in
    let more : 2 * most_objects old < vec_capacity marks = omega (arith, c.in_ok-changed.ensures.room, ap most_objects c.limits-3.ensures.limits) in
    subst (λ (h : Held). (most_replies h.limits ≤ vec_capacity os) × IsSound h.limits h.state × ArePassed h.limits × HasBuffer h.limits spare os.items
    × (h.limits.processes ≤ h.waits) × (h.ready ≡ Nothing) × (2 * most_objects h.limits < vec_capacity marks))
    (sym (held (goal.at.invariant_of-result c).After-reserve_waits))
    (room, c.requires, passed, buffer, waits, refl, more)

pub returns-clause-sound : goal.returns-clause-sound
returns-clause-sound c =
    subst (λ (h : Held). IsSound h.limits h.state) (sym (held (goal.at.returns-clause-sound c).After-reserve_waits)) c.requires
