use Rattle.std.proofs.Common.{◌≡◌, Some, None, sym, ap, ◌∙◌, subst}
use Rattle.std.specs.Prelude.{nat_eq, map}
use Rattle.std.specs.Global.{Vec}
use Rattle.ipc_base.specs.Table.{value_at}
use Rattle.ipc_base.proofs.CallerLemmas.{value_at_place, value_nowhere}
use Rattle.ipc_state.specs.declared.numbered.Item.{Item}
use Rattle.ipc_state.specs.Rows.{item_row}
use Rattle.ipc_state.proofs.Places.{place_of}
use Rattle.ipc_state.proofs.rows.Rows.get.Goals as goal

pub returns-in_err-place : goal.returns-in_err-place
returns-in_err-place g c =
    let nowhere : place_of c.args.self.now.items c.args.number ≡ None = sym c.place.ensures ∙ c.in_err-place.was in
    rw c.from_residual.ensures (sym (value_nowhere item_row nat_eq c.args.number c.args.self.now.items nowhere))

pub returns : goal.returns
returns g c =
    let found : place_of c.args.self.now.items c.args.number ≡ Some c.in_ok-place.place = sym c.place.ensures ∙ c.in_ok-place.was in
    let xs = c.self.inside.items.items in
    let there = subst (λ (v : Vec (Item _)). place_of v.items c.args.number ≡ Some c.in_ok-place.place) (sym c.self.view_is) found in
    sym (value_at_place item_row nat_eq c.args.number xs c.in_ok-place.place c.index.result.now there c.index.ensures)
    ∙ ap (λ (v : Vec (Item _)). value_at nat_eq (map item_row v.items) c.args.number) c.self.view_is
