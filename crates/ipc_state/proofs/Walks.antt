-- A test of each element of a list, one after another.
use Rattle.std.proofs.Common.{◌≡◌, ◌+◌, ℕ, Bool, true, false, List, take, get_or, Some, ap, sym, ◌∙◌}
use Rattle.std.specs.Prelude.{slice_get, ◌&&◌}
use Rattle.std.specs.List.{list_all}
use Rattle.std.proofs.lemmas.List.Folds.{list_all_at, list_all_more}
use Rattle.std.proofs.lemmas.Option.{get_or_from_slice_get, slice_get_within}

module _ {X : Type 0} (p : X → Bool) (xs : List X) (at : ℕ) (x : X) (here : slice_get xs at ≡ Some x) where
  -- the one at this place passes too
  pub one_more : list_all p (take at xs) ≡ true → p x ≡ true → list_all p (take (at + 1) xs) ≡ true
  one_more before passes =
      list_all_more p xs at x (slice_get_within xs at x here) ∙ ap (λ b. b && p (get_or xs at x)) before
      ∙ ap p (get_or_from_slice_get xs at x x here) ∙ passes

  -- it does not, so not all do
  pub not_all : p x ≡ false → false ≡ list_all p xs
  not_all fails = sym (list_all_at p xs at x (slice_get_within xs at x here) (ap p (get_or_from_slice_get xs at x x here) ∙ fails))
