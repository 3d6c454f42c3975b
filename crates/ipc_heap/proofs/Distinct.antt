-- Numbers of which none is there twice.
use Rattle.std.proofs.Common.{◌≡◌, ◌≢◌, ◌⊎◌, inl, inr, ⊎_elim, ℕ, zero, suc, ◌-◌, ◌<◌, ◌≤◌}
use Rattle.std.proofs.Common.{false, List, [], ◌∷◌, ◌++◌, length, get_or, refl, sym, ◌∙◌, subst, arith}
use Rattle.std.specs.Prelude.{All, Contains, nat_eq}
use Rattle.std.specs.Cmp.{nat_eq_equiv}
use Rattle.std.specs.List.{IsDistinct, range_with_len}
use Rattle.std.proofs.lemmas.Bool.Decides.{nat_tests, Decides-eqb}
use Rattle.std.proofs.lemmas.List.Elements.{All-contains, All-from_recursion, recursion_from_All, Contains-append_cases}
use Rattle.std.proofs.lemmas.List.Elements.{Contains-append_left, Contains-append_right, Contains-push, Contains-push_cases}
use Rattle.std.proofs.lemmas.List.FromFn.{length-range_with_len, get_or-range_with_len}
use Rattle.std.proofs.lemmas.Map.Keys.{IsDistinct-head, IsDistinct-tail, IsDistinct-cons}
use Rattle.std.proofs.lemmas.Map.Made.{length-le_from_is_member, is_member-Decides}
use Rattle.ipc_disk.specs.declared.range.Range.{Range}
use Rattle.ipc_disk.specs.Range.{IsInside}

pub in-none : (x : ℕ) → Contains [] x → ⊥
in-none x (k, less, is) = omega (arith, less)

pub in-first : (x : ℕ) (xs : List ℕ) → Contains (x ∷ xs) x
in-first x xs = (0, omega arith, refl)

pub in-rest : (y x : ℕ) (xs : List ℕ) → Contains xs x → Contains (y ∷ xs) x
in-rest y x xs = Contains-append_right (y ∷ []) xs x

pub in-cases : (y x : ℕ) (xs : List ℕ) → Contains (y ∷ xs) x → (y ≡ x) ⊎ Contains xs x
in-cases y x xs (zero, less, is) = inl is
in-cases y x xs (suc k, less, is) = inr (k, omega (arith, less), is)

pub apart-cons : (x : ℕ) (xs : List ℕ) → IsDistinct nat_eq (x ∷ xs) → Contains xs x → ⊥
apart-cons x xs distinct there =
    let head : nat_eq x x ≡ false =
    All-contains (λ y. nat_eq x y ≡ false) xs x (All-from_recursion (λ y. nat_eq x y ≡ false) xs (IsDistinct-head nat_eq x xs distinct)) there in
    grind (arith, nat_tests, head)

pub distinct-cons : (x : ℕ) (xs : List ℕ) → (Contains xs x → ⊥) → IsDistinct nat_eq xs → IsDistinct nat_eq (x ∷ xs)
distinct-cons x xs apart distinct =
    IsDistinct-cons nat_eq x xs (recursion_from_All (λ y. nat_eq x y ≡ false) xs
    (λ k d less. let other : x ≢ get_or xs k d =
    λ same. apart (subst (Contains xs) (sym same) (Contains-at xs k d less)) in grind (arith, nat_tests, other))) distinct
  where
    Contains-at : (ys : List ℕ) (k d : ℕ) → k < length ys → Contains ys (get_or ys k d)
    Contains-at [] k d less = absurd (omega arith)
    Contains-at (y ∷ ys) zero d less = in-first y ys
    Contains-at (y ∷ ys) (suc k) d less = in-rest y (get_or ys k d) ys (Contains-at ys k d (omega (arith, less)))

pub distinct-left : (xs ys : List ℕ) → IsDistinct nat_eq (xs ++ ys) → IsDistinct nat_eq xs
unfolding IsDistinct
distinct-left [] ys distinct = tt
distinct-left (x ∷ xs) ys distinct =
    distinct-cons x xs (λ there. apart-cons x (xs ++ ys) distinct (Contains-append_left xs ys x there))
    (distinct-left xs ys (IsDistinct-tail nat_eq x (xs ++ ys) distinct))

pub distinct-right : (xs ys : List ℕ) → IsDistinct nat_eq (xs ++ ys) → IsDistinct nat_eq ys
distinct-right [] ys distinct = distinct
distinct-right (x ∷ xs) ys distinct = distinct-right xs ys (IsDistinct-tail nat_eq x (xs ++ ys) distinct)

pub distinct-apart : (xs ys : List ℕ) → IsDistinct nat_eq (xs ++ ys) → (x : ℕ) → Contains xs x → Contains ys x → ⊥
distinct-apart [] ys distinct x there also = in-none x there
distinct-apart (y ∷ xs) ys distinct x there also = ⊎_elim
    (λ same. apart-cons y (xs ++ ys) distinct (subst (Contains (xs ++ ys)) (sym same) (Contains-append_right xs ys x also)))
    (λ rest. distinct-apart xs ys (IsDistinct-tail nat_eq y (xs ++ ys) distinct) x rest also)
    (in-cases y x xs there)

pub distinct-append : (xs ys : List ℕ) → IsDistinct nat_eq xs → IsDistinct nat_eq ys → ((x : ℕ) → Contains xs x → Contains ys x → ⊥)
    → IsDistinct nat_eq (xs ++ ys)
distinct-append [] ys first second apart = second
distinct-append (x ∷ xs) ys first second apart =
    distinct-cons x (xs ++ ys)
    (λ there. ⊎_elim (apart-cons x xs first) (apart x (in-first x xs)) (Contains-append_cases xs ys x there))
    (distinct-append xs ys (IsDistinct-tail nat_eq x xs first) second (λ y there. apart y (in-rest x y xs there)))

-- there are no more of them in a range than it has
pub length-inside : (range : Range) (xs : List ℕ) → All (IsInside range) xs → IsDistinct nat_eq xs → length xs ≤ range.count
length-inside range xs inside distinct =
    let all : List ℕ = range_with_len range.first range.count in
    let fits = length-le_from_is_member nat_eq_equiv xs all distinct (λ q here.
    let is = All-contains (IsInside range) xs q inside ((is_member-Decides Decides-eqb xs q).0 here) in
    (is_member-Decides Decides-eqb all q).1 (
      q - range.first,
      omega (arith, length-range_with_len range.first range.count, is),
      get_or-range_with_len range.first range.count (q - range.first) q (omega (arith, is)) ∙ omega (arith, is),
    )) in
    omega (arith, fits, length-range_with_len range.first range.count)

-- one number more among others
pub insert-cases : (before after : List ℕ) (s x : ℕ) → Contains ((before ++ s ∷ []) ++ after) x → Contains (before ++ after) x ⊎ (s ≡ x)
insert-cases before after s x there = ⊎_elim
    (λ first. ⊎_elim (λ old. inl (Contains-append_left before after x old)) inr (Contains-push_cases before s x first))
    (λ second. inl (Contains-append_right before after x second))
    (Contains-append_cases (before ++ s ∷ []) after x there)

pub insert-keeps : (before after : List ℕ) (s x : ℕ) → Contains (before ++ after) x ⊎ (s ≡ x) → Contains ((before ++ s ∷ []) ++ after) x
insert-keeps before after s x (inl old) = ⊎_elim
    (λ first. Contains-append_left (before ++ s ∷ []) after x (Contains-append_left before (s ∷ []) x first))
    (λ second. Contains-append_right (before ++ s ∷ []) after x second)
    (Contains-append_cases before after x old)
insert-keeps before after s x (inr same) =
    subst (Contains ((before ++ s ∷ []) ++ after)) same (Contains-append_left (before ++ s ∷ []) after s (Contains-push before s))

pub distinct-insert : (before after : List ℕ) (s : ℕ) → IsDistinct nat_eq (before ++ after) → (Contains (before ++ after) s → ⊥)
    → IsDistinct nat_eq ((before ++ s ∷ []) ++ after)
distinct-insert [] after s distinct apart = distinct-cons s after apart distinct
distinct-insert (x ∷ before) after s distinct apart =
    distinct-cons x ((before ++ s ∷ []) ++ after)
    (λ there. ⊎_elim (apart-cons x (before ++ after) distinct)
    (λ same. apart (subst (Contains (x ∷ (before ++ after))) (sym same) (in-first x (before ++ after))))
    (insert-cases before after s x there))
    (distinct-insert before after s (IsDistinct-tail nat_eq x (before ++ after) distinct) (λ there. apart (in-rest x s (before ++ after) there)))
