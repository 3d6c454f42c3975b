-- A loop over items with numbers that changes each value.
use Rattle.std.proofs.Common.{◌≡◌, ℕ, zero, suc, ◌<◌, ◌≤◌, ◌^◌, List, [], ◌∷◌, length, map, get_or, refl, sym, ap, subst, ◌∙◌, arith}
use Rattle.std.proofs.lemmas.List.{length-map, with_items_is}
use Rattle.std.specs.Global.{Vec}
use Rattle.std.specs.Vec.{with_items}
use Rattle.ipc_base.specs.Table.{keys_of, seen_as, IsRising}
use Rattle.ipc_base.proofs.CallerLemmas.{keys-map}
use Rattle.ipc_state.specs.declared.numbered.Item.{Item}
use Rattle.ipc_state.specs.Tables.{item_row}

-- it has changed the first ones, and those to come are as they were
pub record SeenUpTo {X : Type 0} (f : X → X) (i : ℕ) (initial now : List (Item X)) : Type 0 where
  pub count : length now ≡ length initial
  pub done : (k : ℕ) (d : Item X) → k < i → item_row (get_or now k d) ≡ ((get_or initial k d).number, f (get_or initial k d).value)
  pub rest : (k : ℕ) (d : Item X) → i ≤ k → get_or now k d ≡ get_or initial k d

rows-seen : {X : Type 0} (f : X → X) (old new : List (Item X)) → length new ≡ length old
    → ((k : ℕ) (d : Item X) → k < length old → item_row (get_or new k d) ≡ ((get_or old k d).number, f (get_or old k d).value))
    → map item_row new ≡ seen_as f (map item_row old)
rows-seen f [] [] count each = refl
rows-seen f [] (n ∷ new) count each = absurd (omega (arith, count))
rows-seen f (o ∷ old) [] count each = absurd (omega (arith, count))
rows-seen {X} f (o ∷ old) (n ∷ new) count each =
    ap (λ (e : ℕ × X). e ∷ map item_row new) (each 0 o (omega arith))
    ∙ ap (λ (es : List (ℕ × X)). (o.number, f o.value) ∷ es)
    (rows-seen f old new (omega (arith, count)) (λ k d within. each (suc k) d (omega (arith, within))))

pub seen-all : {X : Type 0} (f : X → X) (i : ℕ) (initial now : List (Item X)) → SeenUpTo f i initial now → length initial ≤ i
    → map item_row now ≡ seen_as f (map item_row initial)
seen-all f i initial now seen all = rows-seen f initial now seen.count (λ k d within. seen.done k d (omega (arith, within, all)))

same-long : {X : Type 0} (f : X → X) (xs ys : List (Item X)) → map item_row xs ≡ seen_as f (map item_row ys) → length xs ≡ length ys
same-long {X} f xs ys same =
    omega (
      arith,
      length-map xs item_row,
      length-map ys item_row,
      length-map (map item_row ys) (λ (e : ℕ × X). let g : ℕ × X = (e.0, f e.1) in g),
      ap length same,
    )

-- what is written back has the numbers that were there, so they rise if they did
pub rises-after : {X : Type 0} (f : X → X) (old : Vec (Item X)) (lent new : List (Item X)) → lent ≡ old.items
    → map item_row new ≡ seen_as f (map item_row lent) → IsRising 0 (keys_of (map item_row old.items)) (2 ^ 32)
    → IsRising 0 (keys_of (map item_row (with_items old new).items)) (2 ^ 32)
rises-after f old lent new same seen rising =
    let long : length new ≡ length old.items = same-long f new lent seen ∙ ap length same in
    let put : (with_items old new).items ≡ new = with_items_is old new (omega (arith, long)) in
    let keys = ap (λ (es : List (Item _)). keys_of (map item_row es)) put ∙ (ap keys_of seen
    ∙ (ap (λ (es : List (Item _)). keys_of (seen_as f (map item_row es))) same ∙ keys-map f (map item_row old.items))) in
    subst (λ (ks : List ℕ). IsRising 0 ks (2 ^ 32)) (sym keys) rising

-- ---- two tables with the same numbers

pub same-numbers : {X Y : Type 0} (xs : List (Item X)) (ys : List (Item Y)) → length xs ≡ length ys
    → ((k : ℕ) (d : Item X) (e : Item Y) → k < length xs → (get_or xs k d).number ≡ (get_or ys k e).number)
    → keys_of (map item_row xs) ≡ keys_of (map item_row ys)
same-numbers [] [] count each = refl
same-numbers [] (y ∷ ys) count each = absurd (omega (arith, count))
same-numbers (x ∷ xs) [] count each = absurd (omega (arith, count))
same-numbers (x ∷ xs) (y ∷ ys) count each =
    λ i. each 0 x y (omega arith) i ∷ same-numbers xs ys (omega (arith, count)) (λ k d e within. each (suc k) d e (omega (arith, within))) i

pub numbers-at : {X Y : Type 0} (xs : List (Item X)) (ys : List (Item Y)) → keys_of (map item_row xs) ≡ keys_of (map item_row ys)
    → (k : ℕ) (d : Item X) (e : Item Y) → k < length xs → (get_or xs k d).number ≡ (get_or ys k e).number
numbers-at [] ys same k d e within = absurd (omega (arith, within))
numbers-at (x ∷ xs) [] same k d e within = cc
numbers-at (x ∷ xs) (y ∷ ys) same zero d e within = cc
numbers-at (x ∷ xs) (y ∷ ys) same (suc k) d e within =
    let rest : keys_of (map item_row xs) ≡ keys_of (map item_row ys) = cc in numbers-at xs ys rest k d e (omega (arith, within))

pub same-count : {X Y : Type 0} (xs : List (Item X)) (ys : List (Item Y)) → keys_of (map item_row xs) ≡ keys_of (map item_row ys) → length xs ≡ length ys
same-count [] [] same = refl
same-count [] (y ∷ ys) same = cc
same-count (x ∷ xs) [] same = cc
same-count (x ∷ xs) (y ∷ ys) same =
    let rest : keys_of (map item_row xs) ≡ keys_of (map item_row ys) = cc in ap suc (same-count xs ys rest)
