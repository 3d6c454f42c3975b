use Rattle.std.proofs.Common.{◌≡◌, ◌^◌, ◌+◌, ◌++◌, ◌∷◌, [], ℕ, List, map, sym, ap, subst, ◌∙◌, arith}
use Rattle.std.specs.Prelude.{IsTrue, ◌↔◌}
use Rattle.std.proofs.lemmas.List.{map-append}
use Rattle.ipc_base.specs.Table.{keys_of, IsRising}
use Rattle.ipc_base.proofs.CallerLemmas.{rising-push, rising-weaker}
use Rattle.ipc_state.specs.declared.numbered.Item.{Item}
use Rattle.ipc_state.specs.Rows.{item_row}
use Rattle.ipc_state.proofs.rows.Rows.push.Goals.{then-self, else-self}
use Rattle.ipc_state.proofs.rows.Rows.push.Goals as goal

pub invariant_of-self : goal.invariant_of-self
invariant_of-self g c rises = elim c.if-self.branch [
  | then-self w ↦
      let xs = c.self.inside.items.items in
      let n = c.args.number in
      let new : Item _ = record { number = n; value = c.args.value } in
      let value = w.deref.ensures.value in
      let ends = subst (λ (ys : List (Item _)). IsRising 0 (keys_of (map item_row ys)) (2 ^ 32)
      → (IsTrue w.ends_below-self-inside.result ↔ IsRising 0 (keys_of (map item_row ys)) n)) value w.ends_below-self-inside.ensures in
      let below : IsRising 0 (keys_of (map item_row xs)) n = (ends (c.self.invariant w.if-self.true)).0 (sym w.self-is ∙ rises) in
      let last : keys_of (map item_row (xs ++ new ∷ [])) ≡ keys_of (map item_row xs) ++ n ∷ [] =
      ap keys_of (map-append item_row xs (new ∷ [])) ∙ map-append (λ (e : ℕ × _). e.0) (map item_row xs) (item_row new ∷ []) in
      subst (λ (ys : List (Item _)). IsRising 0 (keys_of (map item_row ys)) (2 ^ 32)) (sym c.push_reserved.ensures.items)
      (subst (λ (ks : List ℕ). IsRising 0 ks (2 ^ 32)) (sym last)
      (rising-weaker 0 (keys_of (map item_row xs) ++ n ∷ []) (n + 1) (2 ^ 32) (omega (arith, c.ranges.number.fits))
      (rising-push 0 (keys_of (map item_row xs)) n below)))
  | else-self w ↦ let no = w.self-is in cc
]
