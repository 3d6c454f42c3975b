-- Lists of things in saved objects: one of them by its place, and how many bytes or adjustments the first ones have.
use Rattle.std.proofs.Common.{◌≡◌, ℕ, zero, suc, ◌+◌, ◌*◌, ◌<◌, ◌≤◌, List, [], ◌∷◌, ◌++◌}
use Rattle.std.proofs.Common.{length, map, take, drop, get_or, Some, refl, ap, sym, subst, ◌∙◌, arith}
use Rattle.std.specs.Prelude.{All, option_map}
use Rattle.std.proofs.lemmas.List.{append-nil, length-append, flat_map_more, take_more, take-append-drop}
use Rattle.std.proofs.lemmas.List.Concat.{flat_map-cons}
use Rattle.std.proofs.lemmas.List.Elements.{All-get_or, All-head, All-tail}
use Rattle.std.proofs.lemmas.Grind.{flat_map-append}
use Rattle.std.proofs.lemmas.Option.{get_or_from_slice_get, slice_get_within, slice_get_read, slice_get-map, slice_get-get_or}
use Rattle.std.proofs.Math.Nat.{mul-zero, mul-suc, suc-mul}
use Rattle.std.specs.List.{flat_map, slice_get}
use Rattle.ipc_base.specs.declared.objects.Mark.{Mark}
use Rattle.ipc_base.specs.Objects.{PlainObjects}
use Rattle.ipc_image.specs.SavedParts.{MarkAt, Stands}

-- one of them as a value of the definitions
pub row-at : {A X : Type 0} (row : A → X) (ys : List A) (i : ℕ) (a : A) → i < length ys → a ≡ get_or ys i a
    → slice_get (map row ys) i ≡ Some (row a)
row-at row ys i a within is = slice_get-map row ys i ∙ ap (option_map row) (slice_get_read ys (length ys) i a refl within is)

-- what holds of each holds of it
pub each-at : {X : Type 0} (P : X → Type 0) (xs : List X) (i : ℕ) (x : X) → All P xs → slice_get xs i ≡ Some x → P x
each-at P xs i x each is = subst P (get_or_from_slice_get xs i x x is) (All-get_or P xs i x (slice_get_within xs i x is) each)

-- the one at a place of a table
pub table-at : {A X : Type 0} (row : A → X) (ys : List A) (i : ℕ) (d : A) → i < length ys → slice_get (map row ys) i ≡ Some (row (get_or ys i d))
table-at row ys i d within = slice_get-map row ys i ∙ ap (option_map row) (slice_get-get_or ys i d within)

-- what is a mark of each is one at each place
pub mark-each : {X : Type 0} (IsMark : X → Mark → Type 0) (next : ℕ → Mark → Type 0) (m : Mark) → ((x : X) → IsMark x m) → ((at : ℕ) → next at m)
    → (xs : List X) (at : ℕ) → MarkAt IsMark next xs at m
mark-each IsMark next m each after [] at = after at
mark-each IsMark next m each after (x ∷ xs) zero = each x
mark-each IsMark next m each after (x ∷ xs) (suc at) = mark-each IsMark next m each after xs at

-- an object of a kind, at its place among those of the kind and what follows them
module _ {X : Type 0} (object : X → ℕ × List ℕ) (IsMark : X → Mark → Type 0) (next : ℕ → Mark → Type 0) where
  pub here : (xs : List X) (more : PlainObjects) (at : ℕ) (x : X) → slice_get xs at ≡ Some x
      → Stands (map object xs ++ more) (MarkAt IsMark next xs) at (object x) (IsMark x)
  here [] more at x is = absurd cc
  here (y ∷ xs) more zero x is =
      let same : y ≡ x = cc in
      subst (λ (z : X). Stands (map object (y ∷ xs) ++ more) (MarkAt IsMark next (y ∷ xs)) 0 (object z) (IsMark z)) same
      (record { object = refl; marks = λ m. (λ h. h, λ h. h) })
  here (y ∷ xs) more (suc at) x is = let h = here xs more at x is in record { object = h.object; marks = h.marks }

  pub here-last : (xs : List X) (at : ℕ) (x : X) → slice_get xs at ≡ Some x → Stands (map object xs) (MarkAt IsMark next xs) at (object x) (IsMark x)
  here-last xs at x is =
      subst (λ (l : PlainObjects). Stands l (MarkAt IsMark next xs) at (object x) (IsMark x)) (append-nil (map object xs)) (here xs [] at x is)

  pub past : (xs : List X) (more : PlainObjects) (at j : ℕ) (o : ℕ × List ℕ) (IsOfIt : Mark → Type 0) → at ≡ length xs + j → Stands more next j o IsOfIt
      → Stands (map object xs ++ more) (MarkAt IsMark next xs) at o IsOfIt
  past [] more at j o IsOfIt is h = let same : j ≡ at = omega (arith, is) in subst (λ (n : ℕ). Stands more next n o IsOfIt) same h
  past (y ∷ xs) more zero j o IsOfIt is h = absurd (omega (arith, is))
  past (y ∷ xs) more (suc at) j o IsOfIt is h =
      let r = past xs more at j o IsOfIt (omega (arith, is)) h in
      record { object = r.object; marks = r.marks }

module _ {X Y : Type 0} (bytes_of : X → List Y) (xs : List X) (k : ℕ) where
  -- one more
  pub first-next : (x : X) → slice_get xs k ≡ Some x
      → length (flat_map bytes_of (take (k + 1) xs)) ≡ length (flat_map bytes_of (take k xs)) + length (bytes_of x)
  first-next x is =
      let next : flat_map bytes_of (take (k + 1) xs) ≡ flat_map bytes_of (take k xs) ++ bytes_of x =
      ap (flat_map bytes_of) (take_more xs k x (slice_get_within xs k x is) ∙ ap (λ y. take k xs ++ y ∷ []) (get_or_from_slice_get xs k x x is))
      ∙ sym (flat_map_more bytes_of [] (take k xs) x) in
      ap length next ∙ length-append (flat_map bytes_of (take k xs)) (bytes_of x)

  -- no more than all
  pub first-fit : length (flat_map bytes_of (take k xs)) ≤ length (flat_map bytes_of xs)
  first-fit =
      let others : List Y = flat_map bytes_of (drop k xs) in
      let all = ap length (sym (flat_map-append bytes_of (take k xs) (drop k xs)) ∙ ap (flat_map bytes_of) (take-append-drop k xs)) in
      omega (arith, all, length-append (flat_map bytes_of (take k xs)) others)

-- a list of things that have as many each
pub length-each : {X : Type 0} (bytes_of : X → List ℕ) (n : ℕ) → ((x : X) → length (bytes_of x) ≡ n) → (xs : List X)
    → length (flat_map bytes_of xs) ≡ n * length xs
length-each bytes_of n each [] = sym (mul-zero n)
length-each bytes_of n each (x ∷ xs) =
    ap length (flat_map-cons bytes_of x xs) ∙ length-append (bytes_of x) (flat_map bytes_of xs)
    ∙ omega (arith, each x, length-each bytes_of n each xs, mul-suc n (length xs))

-- and of things that have no more than so many
pub length-most : {X : Type 0} (bytes_of : X → List ℕ) (n : ℕ) (xs : List X) → All (λ x. length (bytes_of x) ≤ n) xs
    → length (flat_map bytes_of xs) ≤ length xs * n
length-most bytes_of n [] each = omega arith
length-most bytes_of n (x ∷ xs) each =
    omega (
      arith,
      ap length (flat_map-cons bytes_of x xs),
      length-append (bytes_of x) (flat_map bytes_of xs),
      All-head (λ y. length (bytes_of y) ≤ n) x xs each,
      length-most bytes_of n xs (All-tail (λ y. length (bytes_of y) ≤ n) x xs each),
      suc-mul (length xs) n,
    )

same_told : {Y : Type 0} (y z : Y) → Some y ≡ Some z → y ≡ z
same_told y z same = cc

-- the one at a place, and what is told of it
pub told-at : {X Y : Type 0} (f : X → Y) (xs : List X) (at : ℕ) (y : Y) → at < length xs → option_map f (slice_get xs at) ≡ Some y
    → (x : X) × (slice_get xs at ≡ Some x) × (y ≡ f x)
told-at f [] at y within told = absurd (omega (arith, within))
told-at f (x ∷ xs) at y within told =
    let here = slice_get-get_or (x ∷ xs) at x within in
    (get_or (x ∷ xs) at x, here, same_told _ _ (sym told ∙ ap (option_map f) here))
