-- Positions and removals in a list that was mapped.
use Rattle.std.proofs.Common.{◌≡◌, ℕ, ◌<◌, Bool, true, false, not, cond, nat_lt, List, length, get_or, Some, None, refl, arith}
use Rattle.std.specs.List.{position, prefix_len}
use Rattle.std.proofs.lemmas.List.Sums.{prefix_len_passes}
use Rattle.std.proofs.lemmas.Bool.Decides.{nat_tests}

not_some : (b : Bool) (n : ℕ) → cond b (Some n) None ≡ None → b ≡ false
not_some true n h = cc
not_some false n h = refl

is_false : (b : Bool) → not b ≡ true → b ≡ false
is_false true h = cc
is_false false h = refl

-- without a position, no element passes
pub position-None : {X : Type 0} (p : X → Bool) (xs : List X) (k : ℕ) (d : X) → position p xs ≡ None → k < length xs → p (get_or xs k d) ≡ false
position-None p xs k d none h =
    let long : nat_lt (prefix_len (λ x. not (p x)) xs) (length xs) ≡ false = not_some _ _ none in
    let before : k < prefix_len (λ x. not (p x)) xs = grind (arith, nat_tests) in
    is_false (p (get_or xs k d)) (prefix_len_passes (λ x. not (p x)) xs k d before)
