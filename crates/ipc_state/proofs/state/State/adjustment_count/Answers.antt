use Rattle.std.proofs.Common.{◌≡◌, ℕ, Option, Some, None, ℤ, sym, ap, subst, ◌∙◌}
use Rattle.std.specs.Prelude.{option_map, option_copied, nat_eq, unwrap_or}
use Rattle.std.specs.FinMap as fin
use Rattle.std.specs.FinMap.{len-empty}
use Rattle.ipc_base.specs.Table.{value_at}
use Rattle.sem_undo.specs.Undo.{Undo, IsSoundUndo, key_cmp}
use Rattle.sem_undo.proofs.CallerLemmas.{empty-sound}
use Rattle.ipc_state.specs.declared.numbered.Item.{Item}
use Rattle.ipc_state.specs.Held.{Held}
use Rattle.ipc_state.proofs.state.State.adjustment_count.Goals.{In-None}
use Rattle.ipc_state.proofs.state.State.adjustment_count.Goals as goal

none : (c : In-None) → value_at nat_eq c.args.self.now.state.undo c.args.pid.0 ≡ None
none c =
    ap (λ (m : Held). value_at nat_eq m.state.undo c.args.pid.0) (sym c.self.view_is)
    ∙ sym (sym (ap (λ r. option_map (λ (e : Item Undo). e.value) (option_copied r)) c.in-None.is) ∙ c.get.ensures)

pub returns-in-None-clause-count : goal.returns-in-None-clause-count
returns-in-None-clause-count c =
    let gone = none (goal.at.returns-in-None-clause-count c).In-None in
    sym (ap (λ (r : Option Undo). fin.len (unwrap_or r fin.empty)) gone ∙ len-empty key_cmp ℤ)

pub returns-in-None-clause-sound : goal.returns-in-None-clause-sound
returns-in-None-clause-sound c =
    subst (λ (r : Option Undo). IsSoundUndo (unwrap_or r fin.empty)) (sym (none (goal.at.returns-in-None-clause-sound c).In-None)) empty-sound

pub returns-in-Some-clause-sound : goal.returns-in-Some-clause-sound
returns-in-Some-clause-sound c =
    let here : value_at nat_eq c.args.self.now.state.undo c.args.pid.0 ≡ Some c.in-Some.item.now.value =
    ap (λ (m : Held). value_at nat_eq m.state.undo c.args.pid.0) (sym c.self.view_is)
    ∙ (sym c.get.ensures ∙ ap (λ r. option_map (λ (e : Item Undo). e.value) (option_copied r)) c.in-Some.is) in
    subst (λ (r : Option Undo). IsSoundUndo (unwrap_or r fin.empty)) (sym here) c.count_of.ensures.sound
