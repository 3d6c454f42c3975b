-- Objects of a kind, read one after another; and that they are known by their bytes.
use Rattle.std.proofs.Common.{◌≡◌, ◌≢◌, ◌<◌, ◌^◌, ◌+◌, ℕ, zero, suc, List, [], ◌∷◌, ◌++◌, drop, map, Option, Some, None, refl, sym, ap, subst, ◌∙◌, ◌≤◌, arith}
use Rattle.std.specs.Prelude.{All, option_map, slice_get}
use Rattle.std.proofs.Math.Seq.{drop-cons}
use Rattle.std.proofs.lemmas.List.{append_assoc, map-append}
use Rattle.std.proofs.lemmas.List.Elements.{All-head, All-tail}
use Rattle.std.proofs.lemmas.Option.{get_or_from_slice_get, slice_get_within}
use Rattle.ipc_base.specs.Objects.{PlainObjects}
use Rattle.ipc_image.specs.Kind.{object_in, FitsIn, IsOther}

-- an object by its two parts
pub both_parts : (o : Option (ℕ × List ℕ)) (n : ℕ) (b : List ℕ) → option_map (λ p. p.0) o ≡ Some n → option_map (λ p. p.1) o ≡ Some b
    → o ≡ Some (n, b)
both_parts None n b first second = absurd cc
both_parts (Some p) n b first second =
    let one : p.0 ≡ n = cc in
    let two : p.1 ≡ b = cc in
    ap (λ (m : ℕ). let r : Option (ℕ × List ℕ) = Some (m, p.1) in r) one ∙ ap (λ (l : List ℕ). let r : Option (ℕ × List ℕ) = Some (n, l) in r) two

-- the object at a place, and those after it
pub object_at : (objects : PlainObjects) (i : ℕ) (o : ℕ × List ℕ) → slice_get objects i ≡ Some o → drop i objects ≡ o ∷ drop (i + 1) objects
object_at objects i o is =
    drop-cons objects i o (slice_get_within objects i o is)
    ∙ (ap (λ (p : ℕ × List ℕ). p ∷ drop (suc i) objects) (get_or_from_slice_get objects i o o is)
    ∙ (let next : suc i ≡ i + 1 = omega arith in ap (λ (n : ℕ). o ∷ drop n objects) next))

-- an object whose number is not of the kind
pub other-at : (objects : PlainObjects) (i first n : ℕ) → option_map (λ p. p.0) (slice_get objects i) ≡ Some n
    → ((id : ℕ) → id < 2 ^ 32 → n ≢ first + id) → IsOther first (drop i objects)
other-at [] zero first n is never = tt
other-at [] (suc i) first n is never = tt
other-at (o ∷ objects) zero first n is never = λ id few same. never id few (let number : o.0 ≡ n = cc in sym number ∙ same)
other-at (o ∷ objects) (suc i) first n is never = other-at objects i first n is never

module _ {X : Type 0} (first : ℕ) (bytes_of : X → List ℕ) (Fits : X → Type 0) where
  abbrev object : ℕ × X → ℕ × List ℕ
  object = object_in first bytes_of

  -- one more was read
  pub one-more : (xs : List (ℕ × X)) (x : ℕ × X) (all rest : PlainObjects) (n : ℕ) (b : List ℕ) → all ≡ map object xs ++ (n, b) ∷ rest
      → n ≡ first + x.0 → b ≡ bytes_of x.1 → all ≡ map object (xs ++ x ∷ []) ++ rest
  one-more xs x all rest n b so_far number bytes =
      let row : (n, b) ≡ object x = ap (λ (m : ℕ). (m, b)) number ∙ ap (λ (l : List ℕ). (first + x.0, l)) bytes in
      so_far ∙ ap (λ (o : ℕ × List ℕ). map object xs ++ o ∷ rest) row ∙ sym (append_assoc (map object xs) (object x ∷ []) rest)
      ∙ ap (λ (l : PlainObjects). l ++ rest) (sym (map-append object xs (x ∷ [])))

  -- what is left after the first of the objects of some things: those of the others, and what follows them
  pub left-over : (xs ys : List (ℕ × X)) (left rest : PlainObjects) → All (FitsIn Fits) xs → All (FitsIn Fits) ys → IsOther first rest
      → map object xs ++ left ≡ map object ys ++ rest → (zs : List (ℕ × X)) × All (FitsIn Fits) zs × (left ≡ map object zs ++ rest)
  left-over [] ys left rest fit also other same = (ys, also, same)
  left-over (x ∷ xs) [] left [] fit also other same = absurd cc
  left-over (x ∷ xs) [] left (o ∷ rest) fit also other same =
      let head : object x ≡ o = cc in
      absurd (other x.0 (All-head (FitsIn Fits) x xs fit).0 (sym (ap (λ (p : ℕ × List ℕ). p.0) head)))
  left-over (x ∷ xs) (y ∷ ys) left rest fit also other same =
      let tail : map object xs ++ left ≡ map object ys ++ rest = cc in
      left-over xs ys left rest (All-tail (FitsIn Fits) x xs fit) (All-tail (FitsIn Fits) y ys also) other tail

  -- none of the kind is left
  pub none-left : (zs : List (ℕ × X)) (left rest : PlainObjects) → All (FitsIn Fits) zs → IsOther first left → left ≡ map object zs ++ rest → left ≡ rest
  none-left [] left rest fit other same = same
  none-left (z ∷ zs) [] rest fit other same = absurd cc
  none-left (z ∷ zs) (o ∷ left) rest fit other same =
      let head : o ≡ object z = cc in
      absurd (other z.0 (All-head (FitsIn Fits) z zs fit).0 (ap (λ (p : ℕ × List ℕ). p.0) head))

  -- one of the kind that cannot be read
  pub not-read : (zs : List (ℕ × X)) (n id : ℕ) (b : List ℕ) (more rest : PlainObjects) → All (FitsIn Fits) zs → IsOther first rest → id < 2 ^ 32
      → n ≡ first + id → (n, b) ∷ more ≡ map object zs ++ rest → ((x : X) → Fits x → b ≢ bytes_of x) → ⊥
  not-read [] n id b more [] fit other few number same never = cc
  not-read [] n id b more (o ∷ rest) fit other few number same never =
      let head : n ≡ o.0 = cc in
      other id few (sym head ∙ number)
  not-read (z ∷ zs) n id b more rest fit other few number same never =
      let head : (n, b) ≡ object z = cc in
      never z.1 (All-head (FitsIn Fits) z zs fit).1 (ap (λ (p : ℕ × List ℕ). p.1) head)

  -- two lists of things with the same objects, whatever objects of other kinds follow
  pub objects_one : ((x y : X) → Fits x → Fits y → bytes_of x ≡ bytes_of y → x ≡ y) → (xs ys : List (ℕ × X)) (more others : PlainObjects)
      → All (FitsIn Fits) xs → All (FitsIn Fits) ys → IsOther first more → IsOther first others → map object xs ++ more ≡ map object ys ++ others
      → (xs ≡ ys) × (more ≡ others)
  objects_one one [] ys more others fit also other another same = by_list ys also same
    where
      by_list : (ys : List (ℕ × X)) → All (FitsIn Fits) ys → more ≡ map object ys ++ others → ([] ≡ ys) × (more ≡ others)
      by_list [] also same = (refl, same)
      by_list (y ∷ ys) also same = absurd (subst (IsOther first) same other y.0 (All-head (FitsIn Fits) y ys also).0 refl)
  objects_one one (x ∷ xs) [] more others fit also other another same =
      absurd (subst (IsOther first) (sym same) another x.0 (All-head (FitsIn Fits) x xs fit).0 refl)
  objects_one one (x ∷ xs) (y ∷ ys) more others fit also other another same =
      let head : object x ≡ object y = cc in
      let id : x.0 ≡ y.0 = omega (arith, ap (λ (p : ℕ × List ℕ). p.0) head) in
      let thing =
      one x.1 y.1 (All-head (FitsIn Fits) x xs fit).1 (All-head (FitsIn Fits) y ys also).1 (ap (λ (p : ℕ × List ℕ). p.1) head) in
      let tail : map object xs ++ more ≡ map object ys ++ others = cc in
      let rest = objects_one one xs ys more others (All-tail (FitsIn Fits) x xs fit) (All-tail (FitsIn Fits) y ys also) other another tail in
      (ap (λ (n : ℕ). (n, x.1) ∷ xs) id ∙ ap (λ (z : X). (y.0, z) ∷ xs) thing ∙ ap (λ (l : List (ℕ × X)). y ∷ l) rest.0, rest.1)

-- the objects of a later kind are of another one
pub later-kind : {X : Type 0} (first next : ℕ) (bytes_of : X → List ℕ) (xs : List (ℕ × X)) → first + 2 ^ 32 ≤ next
    → IsOther first (map (object_in next bytes_of) xs)
later-kind first next bytes_of [] le = tt
later-kind first next bytes_of (x ∷ xs) le = λ id few same. omega (arith, le, few, same)

-- and so with others after them
pub later-both : {X : Type 0} (first next : ℕ) (bytes_of : X → List ℕ) (xs : List (ℕ × X)) (more : PlainObjects) → first + 2 ^ 32 ≤ next → IsOther first more
    → IsOther first (map (object_in next bytes_of) xs ++ more)
later-both first next bytes_of [] more le other = other
later-both first next bytes_of (x ∷ xs) more le other = λ id few same. omega (arith, le, few, same)
