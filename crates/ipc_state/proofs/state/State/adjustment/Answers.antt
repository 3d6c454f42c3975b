use Rattle.std.proofs.Common.{◌≡◌, Option, None, pos, ℤ, sym, ap, ◌∙◌}
use Rattle.std.specs.Prelude.{option_map, option_copied, nat_eq, unwrap_or}
use Rattle.std.specs.FinMap as fin
use Rattle.std.specs.FinMap.{get-empty}
use Rattle.ipc_base.specs.Table.{value_at}
use Rattle.sem_undo.specs.Undo.{Undo, adjustment, key_cmp}
use Rattle.ipc_state.specs.declared.numbered.Item.{Item}
use Rattle.ipc_state.specs.Held.{Held}
use Rattle.ipc_state.proofs.state.State.adjustment.Goals as goal

pub returns-in-None : goal.returns-in-None
returns-in-None c =
    let old = c.args.self.now.state in
    let none : value_at nat_eq old.undo c.args.pid.0 ≡ None =
    ap (λ (m : Held). value_at nat_eq m.state.undo c.args.pid.0) (sym c.self.view_is)
    ∙ sym (sym (ap (λ r. option_map (λ (e : Item Undo). e.value) (option_copied r)) c.in-None.is) ∙ c.get.ensures) in
    sym (ap (λ r. adjustment (unwrap_or r fin.empty) (c.args.set.0, c.args.num)) none
    ∙ ap (λ (a : Option ℤ). unwrap_or a (pos 0)) (get-empty key_cmp (c.args.set.0, c.args.num)))
