use Rattle.std.proofs.Common.{◌≡◌, None, sym, ap, ◌∙◌}
use Rattle.std.specs.Prelude.{option_map, option_copied, nat_eq}
use Rattle.ipc_base.specs.Table.{value_at}
use Rattle.sem_undo.specs.Undo.{Undo}
use Rattle.sysv_sem.specs.Set.{Set}
use Rattle.ipc_state.specs.declared.numbered.Item.{Item}
use Rattle.ipc_state.specs.Held.{Held}
use Rattle.ipc_state.specs.Keyed.{Keyed}
use Rattle.ipc_state.proofs.Adjusting.{none-undone}
use Rattle.ipc_state.proofs.state.State.add_adjustments_of.Goals as goal

pub returns-in_default : goal.returns-in_default
returns-in_default c =
    let old = c.args.self.now in
    let none : value_at nat_eq old.state.undo c.args.pid.0 ≡ None =
    ap (λ (m : Held). value_at nat_eq m.state.undo c.args.pid.0) (sym c.self.view_is)
    ∙ sym (sym (ap (λ r. option_map (λ (e : Item Undo). e.value) (option_copied r)) c.in_default.is) ∙ c.get.ensures) in
    ap (λ (m : Keyed Set). record old { state = record old.state { semset = m } }) (sym (none-undone old.state.semset c.args.pid.0 old.state.undo none))
