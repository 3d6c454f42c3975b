use Rattle.std.proofs.Common.{◌≡◌, ◌-◌, ◌<◌, ◌^◌, ℕ, List, Some, get_or, length, map, ap, sym, ◌∙◌, arith}
use Rattle.std.specs.Prelude.{nat_eq, position}
use Rattle.ipc_base.specs.Table.{keys_of, IsRising}
use Rattle.ipc_base.proofs.CallerLemmas.{first-at, nowhere-at, passed-over}
use Rattle.ipc_state.specs.declared.numbered.Item.{Item}
use Rattle.ipc_state.specs.Rows.{item_row}
use Rattle.ipc_state.proofs.rows.place_of.Goals as goal

-- an item is found where it stands
found : {T : Type 0} (xs : List (Item T)) (place n : ℕ) (was : Item T) → IsRising 0 (keys_of (map item_row xs)) (2 ^ 32) → place < length xs
    → was ≡ get_or xs place was → was.number ≡ n → Some place ≡ position (λ (e : Item T). nat_eq e.number n) xs
found xs place n was rising inside is number =
    sym (ap (λ (m : ℕ). position (λ (e : Item _). nat_eq e.number m) xs) (sym number) ∙ first-at item_row xs place (2 ^ 32) was rising inside is)

pub returns-then-items-hint : goal.returns-then-items-hint
returns-then-items-hint g c =
    let number = ap (λ (e : Item _). e.number) c.index-items-hint.is ∙ c.if-items-hint.true in
    found c.args.items.now c.args.hint c.args.number c.index-items-hint.result c.requires c.if-hint-items.true c.index-items-hint.is number

pub returns-then-items-near : goal.returns-then-items-near
returns-then-items-near g c =
    let place = c.min-near.result - 1 in
    let inside : place < length c.args.items.now = omega (arith, c.min-near.ensures, c.if-near-gt0.true) in
    let number = ap (λ (e : Item _). e.number) c.index-items-near.is ∙ c.if-items-near.true in
    found c.args.items.now place c.args.number c.index-items-near.result c.requires inside c.index-items-near.is number

pub returns-then-place-items : goal.returns-then-place-items
returns-then-place-items g c =
    sym (nowhere-at item_row c.args.items.now c.place_for-place.result c.args.number c.place_for-place.ensures.below
    (λ k d past within. absurd (omega (arith, past, within, c.if-place-items.true))))

pub returns-then-item-number : goal.returns-then-item-number
returns-then-item-number g c =
    let xs = c.args.items.now in
    let place = c.place_for-place.result in
    let found = c.place_for-place.ensures in
    let was = c.index-items-place.result in
    let inside : place < length xs = omega (arith, found.within, c.if-place-items.false) in
    let here : c.args.number < was.number = omega
    (arith, found.rest place was (omega arith) inside, c.if-item-number.true, ap (λ (e : Item _). e.number) c.index-items-place.is) in
    sym (passed-over item_row xs place c.args.number (2 ^ 32) was c.requires c.index-items-place.is found.below here)

pub returns : goal.returns
returns g c =
    let place = c.place_for-place.result in
    let inside : place < length c.args.items.now = omega (arith, c.place_for-place.ensures.within, c.if-place-items.false) in
    found c.args.items.now place c.args.number c.index-items-place.result c.requires inside c.index-items-place.is c.if-item-number.false
