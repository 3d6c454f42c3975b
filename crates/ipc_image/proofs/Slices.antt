-- What a test says of two slices of bytes.
use Rattle.std.proofs.Common.{◌≡◌, ℕ, Bool, true, false, eqb, List, sym, ◌∙◌, refl}
use Rattle.std.specs.Prelude.{not}
use Rattle.std.specs.Cmp.Lexicographic.{pointwise}
use Rattle.std.proofs.lemmas.Bool.Decides.{Decides-eqb}
use Rattle.std.proofs.lemmas.Slice.Eq.{slice_eq-Decides}

-- lists that a test found different
pub differ : (xs ys : List ℕ) (other : Bool) → other ≡ not (pointwise eqb xs ys) → other ≡ true → xs ≡ ys → ⊥
differ xs ys other tested is same =
    let equal : pointwise eqb xs ys ≡ true = (slice_eq-Decides Decides-eqb xs ys (pointwise eqb xs ys) refl).1 same in
    cc

-- lists that a test found equal
pub agree : (xs ys : List ℕ) (other : Bool) → other ≡ not (pointwise eqb xs ys) → other ≡ false → xs ≡ ys
agree xs ys other tested is = (slice_eq-Decides Decides-eqb xs ys (pointwise eqb xs ys) refl).0 (by_test (pointwise eqb xs ys) (sym tested ∙ is))
  where
    by_test : (b : Bool) → not b ≡ false → b ≡ true
    by_test true e = refl
    by_test false e = cc
