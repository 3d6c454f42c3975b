use Rattle.std.proofs.Common.{◌^◌, ℕ, List, refl, sym, ap, subst, ◌∙◌}
use Rattle.std.specs.Prelude.{nat_eq}
use Rattle.ipc_base.specs.Table.{keys_of, IsRising}
use Rattle.ipc_base.proofs.CallerLemmas.{set_at_place, keys_of-with_value}
use Rattle.ipc_hub.specs.Relations.Rows.{row}
use Rattle.ipc_hub.proofs.Rows.{found-first, found-at, missing-at, same-changed}
use Rattle.ipc_hub.proofs.connections.Connections.get_mut.Goals as goal

pub returns-in_err-place : goal.returns-in_err-place
returns-in_err-place c =
    let none = missing-at c.self.inside.items.items c.deref.result.now c.args.conn c.deref.ensures.value (sym c.place_from.ensures ∙ c.in_err-place.was) in
    rw c.from_residual.ensures (
      (refl, λ w. rw (← c.self.view_is) (same-changed (λ _. w) _ c.args.conn (sym none)), c.self.view_is),
      record { writes_back = tt; found = rw (← c.self.view_is) (sym none) },
    )

pub invariant_of-self-lent : goal.invariant_of-self-lent
invariant_of-self-lent c w =
    let items = c.self.inside.items.items in
    let was = c.index_mut-connection.result.now in
    let found = found-first items c.deref.result.now c.args.conn c.deref.ensures.value c.in_ok-place.place (sym c.place_from.ensures ∙ c.in_ok-place.was) in
    let put = set_at_place row nat_eq c.args.conn items c.in_ok-place.place was (record was { session = w }) found c.index_mut-connection.ensures.value
    (refl {a = was.number}) in
    subst (λ (ks : List ℕ). IsRising 0 ks (2 ^ 32)) (sym (ap keys_of put)) (rw keys_of-with_value c.self.invariant)

pub returns : goal.returns
returns c =
    let items = c.self.inside.items.items in
    let was = c.index_mut-connection.result.now in
    let is = sym c.place_from.ensures ∙ c.in_ok-place.was in
    let found = found-at items c.deref.result.now c.args.conn c.deref.ensures.value c.in_ok-place.place was is c.index_mut-connection.ensures.value in (
      (
        refl,
        λ w. rw (← c.self.view_is, found) (set_at_place row nat_eq c.args.conn items c.in_ok-place.place was (record was { session = w })
            (found-first items c.deref.result.now c.args.conn c.deref.ensures.value c.in_ok-place.place is) c.index_mut-connection.ensures.value
            (refl {a = was.number})),
        refl,
      ),
      record { writes_back = tt; found = rw (← c.self.view_is) (sym found) },
    )
