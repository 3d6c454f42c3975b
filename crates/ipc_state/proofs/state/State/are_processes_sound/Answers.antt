use Rattle.std.proofs.Common.{ℕ, map, sym, ap, subst, ◌∙◌}
use Rattle.std.specs.Prelude.{All}
use Rattle.std.proofs.lemmas.List.Elements.{All-map}
use Rattle.ipc_state.specs.declared.processes.Process.{Process}
use Rattle.ipc_state.specs.Held.{Held}
use Rattle.ipc_state.specs.Numbered.{AreNumbered}
use Rattle.ipc_state.specs.State.{objects_in}
use Rattle.ipc_state.specs.Sound.{AreSoundDescriptors}
use Rattle.ipc_state.specs.Tables.{item_row}
use Rattle.ipc_state.proofs.EntryKeys.{All-seen}
use Rattle.ipc_state.proofs.state.State.are_processes_sound.Goals as goal

pub returns-then-are_numbered : goal.returns-then-are_numbered
returns-then-are_numbered c =
    let P : ℕ × Process → Type 0 = λ p. AreSoundDescriptors c.args.self.now.limits (objects_in c.args.self.now.state) p.1.descriptors in
    let is = ap (map item_row) c.items.ensures ∙ ap (λ (m : Held). m.state.processes.entries) c.self.view_is in
    let items = c.items.result.now in
    let numbered = subst (λ (m : Held). AreNumbered m.limits.processes m.state.processes) c.self.view_is (c.are_numbered.ensures.0 c.if-are_numbered.true) in (
      λ yes. record { numbered = numbered; descriptors = subst (All P) is (All-map P item_row items (c.have_sound_descriptors.ensures.0 yes)) },
      λ h. c.have_sound_descriptors.ensures.1 (All-seen P item_row items (subst (All P) (sym is) h.descriptors)),
    )
