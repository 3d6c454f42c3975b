-- Numbers in a row, of which one goes.
use Rattle.std.proofs.Common.{ℕ, List, [], ◌∷◌, cond}
use Rattle.std.specs.Prelude.{nat_eq}

abbrev pub gone : ℕ → List ℕ → List ℕ
gone n [] = []
gone n (m ∷ ms) = cond (nat_eq m n) ms (m ∷ gone n ms)
