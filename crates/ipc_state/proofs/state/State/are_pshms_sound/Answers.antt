use Rattle.std.proofs.Common.{◌≤◌, subst, []}
use Rattle.std.specs.Bool.{Decides}
use Rattle.std.specs.Str.{bytes_eq}
use Rattle.std.specs.Prelude.{⊤}
use Rattle.ipc_keys.specs.declared.check.NameKind.TheVariants as names
use Rattle.ipc_state.specs.declared.parked.ObjectKind.TheVariants as kinds
use Rattle.ipc_state.specs.Held.{Held}
use Rattle.ipc_state.specs.Named.{is_named_so}
use Rattle.ipc_state.specs.Opening.{stays}
use Rattle.ipc_state.specs.Sound.{AreHeld, segment_bytes}
use Rattle.ipc_state.proofs.state.State.are_pshms_sound.Goals.{After-are_held}
use Rattle.ipc_state.proofs.state.State.are_pshms_sound.Goals as goal

told : (c : After-are_held) → Decides c.are_held.result
    (let s = c.args.self.now in AreHeld bytes_eq [] s.limits.segments (λ x. ⊤) (is_named_so names.Pshm)
    (stays (kinds.Named names.Pshm) s.state.processes.entries) s.state.pshm)
told c =
    subst (λ (m : Held). Decides c.are_held.result (AreHeld bytes_eq [] m.limits.segments (λ x. ⊤) (is_named_so names.Pshm)
    (stays (kinds.Named names.Pshm) m.state.processes.entries) m.state.pshm))
    c.self.view_is c.are_held.ensures

pub returns-then-are_held : goal.returns-then-are_held
returns-then-are_held c =
    let held = (told ((goal.at.returns-then-are_held c).After-are_held)).0 c.if-are_held.true in
    let bytes = subst (λ (m : Held). Decides c.count_at_most.result (segment_bytes m.state.pshm ≤ m.limits.segment_bytes)) c.self.view_is
    c.count_at_most.ensures in
    (λ yes. record { held = held; together = bytes.0 yes }, λ h. bytes.1 h.together)

pub returns-else-are_held : goal.returns-else-are_held
returns-else-are_held c = (λ yes. let no = c.if-are_held.false in cc, λ h. (told ((goal.at.returns-else-are_held c).After-are_held)).1 h.held)
