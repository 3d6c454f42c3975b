use Rattle.std.proofs.Common.{◌≡◌, ◌^◌, ℕ, List, Some, None, refl, sym, ap, subst, ◌∙◌}
use Rattle.std.specs.Prelude.{nat_eq, map}
use Rattle.std.specs.Global.{Vec}
use Rattle.std.specs.Vec.{with_item}
use Rattle.ipc_base.specs.Table.{keys_of, value_at, IsRising}
use Rattle.ipc_base.proofs.CallerLemmas.{value_at_place, value_nowhere, set_at_place, keys_of-with_value}
use Rattle.ipc_state.specs.declared.numbered.Item.{Item}
use Rattle.ipc_state.specs.LendsRow.{HasPutRow}
use Rattle.ipc_state.specs.Rows.{has_room, item_row}
use Rattle.ipc_state.proofs.Places.{place_of, with-none}
use Rattle.ipc_state.proofs.rows.Rows.get_mut.Goals as goal

pub returns-in_err-place : goal.returns-in_err-place
returns-in_err-place g c =
    let xs = c.self.inside.items.items in
    let n = c.args.number in
    let nowhere : place_of xs n ≡ None = sym c.place.ensures ∙ c.in_err-place.was in
    let none : value_at nat_eq (map item_row xs) n ≡ None = value_nowhere item_row nat_eq n xs nowhere in
    rw c.from_residual.ensures (
      (
        refl,
        λ w. subst (λ (v : Vec (Item _)). HasPutRow v n w c.self.inside.items) c.self.view_is
            (record { rows = sym (with-none (map item_row xs) n w none); room = refl }),
        c.self.view_is,
      ),
      record { writes_back = tt; value = sym none ∙ ap (λ (v : Vec (Item _)). value_at nat_eq (map item_row v.items) n) c.self.view_is },
    )

pub invariant_of-self-lent : goal.invariant_of-self-lent
invariant_of-self-lent g c w rises =
    let xs = c.self.inside.items.items in
    let n = c.args.number in
    let place = c.in_ok-place.place in
    let item = c.index_mut-item.result.now in
    let found : place_of xs n ≡ Some place = sym c.place.ensures ∙ c.in_ok-place.was in
    let put = set_at_place item_row nat_eq n xs place item (record item { value = w }) found c.index_mut-item.ensures.value (refl {a = item.number}) in
    subst (λ (ks : List ℕ). IsRising 0 ks (2 ^ 32)) (sym (ap keys_of put)) (rw keys_of-with_value (c.self.invariant rises))

pub returns : goal.returns
returns g c =
    let old = c.self.inside.items in
    let n = c.args.number in
    let place = c.in_ok-place.place in
    let item = c.index_mut-item.result.now in
    let is = c.index_mut-item.ensures.value in
    let found : place_of old.items n ≡ Some place = sym c.place.ensures ∙ c.in_ok-place.was in (
      (
        refl,
        λ w. subst (λ (v : Vec (Item _)). HasPutRow v n w (with_item old place (record item { value = w }))) c.self.view_is (record {
          rows = set_at_place item_row nat_eq n old.items place item (record item { value = w }) found is (refl {a = item.number});
          room = refl {a = has_room old};
        }),
        refl,
      ),
      record {
        writes_back = tt;
        value = sym (value_at_place item_row nat_eq n old.items place item found is)
            ∙ ap (λ (v : Vec (Item _)). value_at nat_eq (map item_row v.items) n) c.self.view_is;
      },
    )
