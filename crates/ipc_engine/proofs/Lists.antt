-- What a search in a list finds.
use Rattle.std.proofs.Common.{◌≡◌, ℕ, suc, ◌<◌, get_or, take, drop, sym, Bool, true, false, not, cond, filter, List, [], ◌∷◌}
use Rattle.std.proofs.Common.{◌++◌, length, Some, None, refl, subst, ap, ◌∙◌}
use Rattle.std.specs.Prelude.{All, find}
use Rattle.std.proofs.lemmas.List.{take-append-drop}
use Rattle.std.proofs.Math.Seq.{drop-cons}
use Rattle.std.proofs.lemmas.List.Elements.{All-nil, All-cons, All-head, All-tail}

module _ {X : Type 0} (test : X → Bool) where
  -- what holds of each holds of what is found
  pub found-all : (P : X → Type 0) (xs : List X) (x : X) → All P xs → find test xs ≡ Some x → P x
  found-all P [] x all is = cc
  found-all P (y ∷ ys) x all is = by_test (test y) is (found-all P ys x (All-tail P y ys all))
    where
      by_test : (b : Bool) → cond b (Some y) (find test ys) ≡ Some x → (find test ys ≡ Some x → P x) → P x
      by_test true is rest = let same : y ≡ x = cc in subst P same (All-head P y ys all)
      by_test false is rest = rest is

  -- it passes
  pub found-passes : (xs : List X) (x : X) → find test xs ≡ Some x → test x ≡ true
  found-passes [] x is = cc
  found-passes (y ∷ ys) x is = by_test (test y) refl is (found-passes ys x)
    where
      by_test : (b : Bool) → test y ≡ b → cond b (Some y) (find test ys) ≡ Some x → (find test ys ≡ Some x → test x ≡ true) → test x ≡ true
      by_test true passes is rest = let same : y ≡ x = cc in subst (λ (z : X). test z ≡ true) same passes
      by_test false passes is rest = rest is

  -- nothing is found where none passes, and only there
  pub nothing-passes : (xs : List X) → find test xs ≡ None → All (λ x. test x ≡ false) xs
  nothing-passes [] is = All-nil (λ x. test x ≡ false)
  nothing-passes (y ∷ ys) is = by_test (test y) refl is (nothing-passes ys)
    where
      by_test : (b : Bool) → test y ≡ b → cond b (Some y) (find test ys) ≡ None → (find test ys ≡ None → All (λ x. test x ≡ false) ys)
          → All (λ x. test x ≡ false) (y ∷ ys)
      by_test true passes is rest = cc
      by_test false passes is rest = All-cons (λ x. test x ≡ false) y ys passes (rest is)

  pub nothing-found : (xs : List X) → All (λ x. test x ≡ false) xs → find test xs ≡ None
  nothing-found [] all = refl
  nothing-found (y ∷ ys) all =
      rw (All-head (λ x. test x ≡ false) y ys all) (nothing-found ys (All-tail (λ x. test x ≡ false) y ys all))

-- each of those that pass does
pub all-pass : {X : Type 0} (test : X → Bool) (xs : List X) → All (λ x. test x ≡ true) (filter test xs)
all-pass test [] = All-nil _
all-pass {X = X} test (x ∷ xs) = by_test (test x) refl (all-pass test xs)
  where
    by_test : (b : Bool) → test x ≡ b → All (λ (y : X). test y ≡ true) (filter test xs)
        → All (λ (y : X). test y ≡ true) (cond b (x ∷ filter test xs) (filter test xs))
    by_test true is rest = All-cons (λ (y : X). test y ≡ true) x _ is rest
    by_test false is rest = rest

-- of what is left without those that pass, none passes
pub none-left : {X : Type 0} (test : X → Bool) (xs : List X) → All (λ x. test x ≡ false) (filter (λ x. not (test x)) xs)
none-left test [] = All-nil _
none-left {X = X} test (x ∷ xs) = by_test (test x) refl (none-left test xs)
  where
    by_test : (b : Bool) → test x ≡ b → All (λ (y : X). test y ≡ false) (filter (λ y. not (test y)) xs)
        → All (λ (y : X). test y ≡ false) (cond (not b) (x ∷ filter (λ y. not (test y)) xs) (filter (λ y. not (test y)) xs))
    by_test true is rest = rest
    by_test false is rest = All-cons (λ (y : X). test y ≡ false) x _ is rest

-- the first that passes is found
pub found-here : {X : Type 0} (test : X → Bool) (before later : List X) (x : X) → All (λ y. test y ≡ false) before → test x ≡ true
    → find test (before ++ x ∷ later) ≡ Some x
found-here test [] later x none passes = ap (λ b. cond b (Some x) (find test later)) passes
found-here test (y ∷ ys) later x none passes =
    let no = All-head (λ z. test z ≡ false) y ys none in
    ap (λ b. cond b (Some y) (find test (ys ++ x ∷ later))) no ∙ found-here test ys later x (All-tail (λ z. test z ≡ false) y ys none) passes

-- two tests that tell the same of each find the same
pub same-found : {X : Type 0} (test other : X → Bool) (xs : List X) → All (λ x. test x ≡ other x) xs → find test xs ≡ find other xs
same-found test other [] all = refl
same-found test other (y ∷ ys) all =
    let same = All-head (λ x. test x ≡ other x) y ys all in
    let rest = same-found test other ys (All-tail (λ x. test x ≡ other x) y ys all) in
    (λ i. cond (same i) (Some y) (rest i))

-- what is at a place is found, if it passes and none before it does
pub found-at : {X : Type 0} (test : X → Bool) (xs : List X) (k : ℕ) (x : X) → k < length xs → x ≡ get_or xs k x
    → All (λ y. test y ≡ false) (take k xs) → test x ≡ true
    → find test xs ≡ Some x
found-at {X = X} test xs k x inside is none passes =
    let parts : take k xs ++ x ∷ drop (suc k) xs ≡ xs = ap (λ (y : X). take k xs ++ y ∷ drop (suc k) xs) is
    ∙ (ap (λ (ys : List X). take k xs ++ ys) (sym (drop-cons xs k x inside)) ∙ take-append-drop k xs) in
    ap (find test) (sym parts) ∙ found-here test (take k xs) (drop (suc k) xs) x none passes
