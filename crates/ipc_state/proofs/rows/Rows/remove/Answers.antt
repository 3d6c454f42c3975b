use Rattle.std.proofs.Common.{◌≡◌, ◌^◌, ℕ, List, None, map, sym, ap, subst, ◌∙◌}
use Rattle.std.specs.Prelude.{nat_eq}
use Rattle.std.specs.Global.{Vec}
use Rattle.ipc_base.specs.Table.{keys_of, without, IsRising}
use Rattle.ipc_base.proofs.CallerLemmas.{remove_at_place, rising-without, without_nowhere}
use Rattle.ipc_state.specs.declared.numbered.Item.{Item}
use Rattle.ipc_state.specs.Rows.{item_row}
use Rattle.ipc_state.proofs.Places.{place_of}
use Rattle.ipc_state.proofs.rows.Rows.remove.Goals.{After-drop-remove}
use Rattle.ipc_state.proofs.rows.Rows.remove.Goals as goal

left : (g : _) (c : After-drop-remove g) → map item_row c.remove.new.self.items ≡ without nat_eq (map item_row c.self.inside.items.items) c.args.number
left g c =
    let xs = c.self.inside.items.items in
    let found = ap (λ (v : Vec (Item _)). place_of v.items c.args.number) c.self.view_is ∙ (sym c.place.ensures ∙ c.in-Some.is) in
    ap (map item_row) c.remove.ensures.items ∙ remove_at_place item_row nat_eq c.args.number xs c.in-Some.place c.remove.result found

pub invariant_of-self : goal.invariant_of-self
invariant_of-self g c rises =
    subst (λ (ks : List ℕ). IsRising 0 ks (2 ^ 32)) (sym (ap keys_of (left g c)))
    (rising-without 0 (map item_row c.self.inside.items.items) (2 ^ 32) c.args.number (c.self.invariant rises))

pub returns-in-Some : goal.returns-in-Some
returns-in-Some g c = left g c ∙ ap (λ (v : Vec (Item _)). without nat_eq (map item_row v.items) c.args.number) c.self.view_is

pub returns-in_default : goal.returns-in_default
returns-in_default g c =
    let xs = c.args.self.now.items in
    let nowhere : place_of xs c.args.number ≡ None = sym c.place.ensures ∙ c.in_default.is in
    sym (without_nowhere item_row nat_eq c.args.number xs nowhere)
