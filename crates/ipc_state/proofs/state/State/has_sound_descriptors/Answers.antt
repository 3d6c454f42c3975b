use Rattle.std.proofs.Common.{◌≡◌, true, ℕ, map, sym, subst}
use Rattle.std.specs.Prelude.{All, Bool}
use Rattle.std.specs.Bool.{Decides}
use Rattle.ipc_base.specs.Table.{keys_of, IsRising}
use Rattle.ipc_state.specs.declared.descriptors.Descriptor.{Descriptor}
use Rattle.ipc_state.specs.Descriptors.{Table, descriptor_row}
use Rattle.ipc_state.specs.Held.{Held}
use Rattle.ipc_state.specs.State.{objects_in}
use Rattle.ipc_state.specs.Opening.{is_sound_descriptor}
use Rattle.ipc_state.proofs.SoundMqs.{all-tests}
use Rattle.ipc_state.proofs.state.State.has_sound_descriptors.Goals as goal

pub returns-then-rise : goal.returns-then-rise
returns-then-rise c =
    let mqs = objects_in c.args.self.now.state in
    let table = c.args.item.now.value.descriptors in
    let rising = subst (λ (m : Held). IsRising 0 (keys_of table) m.limits.descriptors) c.self.view_is (c.rise.ensures.0 c.if-rise.true) in
    let told = subst (λ (t : Table). Decides c.are_open.result (All (λ (d : ℕ × Descriptor). is_sound_descriptor mqs d.1 ≡ true) t)) c.rows.ensures
    (subst (λ (b : Bool). Decides b (All (λ (d : ℕ × Descriptor). is_sound_descriptor mqs d.1 ≡ true) (map descriptor_row c.rows.result.now)))
    (sym c.are_open.ensures) (all-tests (λ (d : ℕ × Descriptor). is_sound_descriptor mqs d.1) descriptor_row c.rows.result.now)) in
    (λ yes. record { numbers = rising; each = told.0 yes }, λ h. told.1 h.each)
