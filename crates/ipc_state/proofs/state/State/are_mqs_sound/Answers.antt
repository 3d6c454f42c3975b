use Rattle.std.proofs.Common.{subst, []}
use Rattle.std.specs.Bool.{Decides}
use Rattle.std.specs.Str.{bytes_eq}
use Rattle.ipc_keys.specs.declared.check.NameKind.TheVariants as names
use Rattle.ipc_state.specs.declared.parked.ObjectKind.TheVariants as kinds
use Rattle.ipc_state.specs.Held.{Held}
use Rattle.ipc_state.specs.Named.{is_named_so}
use Rattle.ipc_state.specs.Opening.{stays}
use Rattle.ipc_state.specs.Sound.{AreHeld, IsSoundMq}
use Rattle.ipc_state.proofs.state.State.are_mqs_sound.Goals.{After-are_held}
use Rattle.ipc_state.proofs.state.State.are_mqs_sound.Goals as goal

told : (c : After-are_held) → Decides c.are_held.result
    (let s = c.args.self.now in AreHeld bytes_eq [] s.limits.queues (IsSoundMq s.limits) (is_named_so names.Mq)
    (stays (kinds.Named names.Mq) s.state.processes.entries) s.state.mq)
told c =
    subst (λ (m : Held). Decides c.are_held.result (AreHeld bytes_eq [] m.limits.queues (IsSoundMq m.limits) (is_named_so names.Mq)
    (stays (kinds.Named names.Mq) m.state.processes.entries) m.state.mq))
    c.self.view_is c.are_held.ensures

pub returns-then-are_held : goal.returns-then-are_held
returns-then-are_held c =
    let held = (told ((goal.at.returns-then-are_held c).After-are_held)).0 c.if-are_held.true in
    (λ yes. record { held = held; together = c.are_mqs_sound_together.ensures.0 yes }, λ h. c.are_mqs_sound_together.ensures.1 h.together)

pub returns-else-are_held : goal.returns-else-are_held
returns-else-are_held c = (λ yes. let no = c.if-are_held.false in cc, λ h. (told ((goal.at.returns-else-are_held c).After-are_held)).1 h.held)
