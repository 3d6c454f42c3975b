-- The objects of a heap as they are read, one after another.
use Rattle.std.proofs.Common.{◌≡◌, inl, inr, ℕ, zero, suc, ◌+◌, ◌-◌, ◌*◌, ◌^◌, ◌<◌, List, [], ◌∷◌, ◌++◌, length, get_or, map, take}
use Rattle.std.proofs.Common.{drop, min, replicate, Option, Some, None, refl, sym, ap, subst, ◌∙◌, arith}
use Rattle.std.specs.Prelude.{Result, Ok, Err, IsErr, IsErrOf, nat_eq, is_some, option_map, slice_get}
use Rattle.std.proofs.lemmas.List.{length-map, length-take, length-drop, map-append, take_at, take_more}
use Rattle.std.proofs.lemmas.Option.{get_or_from_slice_get, slice_get-map, slice_get_within}
use Rattle.ipc_base.specs.Objects.{PlainObjects, window}
use Rattle.ipc_base.specs.Table.{IsRising, keys_of, seen_as, value_at}
use Rattle.ipc_base.proofs.CallerLemmas.{at-map, keys-map, test_cases}
use Rattle.ipc_heap.specs.Heap.{Placed}
use Rattle.ipc_checkpoint.proofs.Keeping.{seen-at}
use Rattle.ipc_checkpoint.proofs.Tables.{rising-at}

-- whatever is seen of objects, they have the same numbers
pub seen-known : {X Y : Type 0} (see : Placed → X) (other : Placed → Y) (ps : List Placed) (n : ℕ)
    → is_some (value_at nat_eq (map {B = ℕ × X} (λ p. (p.number, see p)) ps) n) ≡ is_some (value_at nat_eq (map {B = ℕ × Y} (λ p. (p.number, other p)) ps) n)
seen-known see other [] n = refl
seen-known see other (p ∷ ps) n = elim (test_cases (nat_eq p.number n)) [
  | inl on ↦ rw on refl
  | inr off ↦ rw off (seen-known see other ps n)
]

-- the bytes of an object of which the length is known
length-of : (r : Option (List ℕ)) (len : ℕ) → option_map (λ bytes. length bytes) r ≡ Some len → (b : List ℕ) × (r ≡ Some b) × (length b ≡ len)
length-of None len is = cc
length-of (Some b) len is = (b, refl, cc)

pub bytes-of : (objects : PlainObjects) (sizes : List (ℕ × ℕ)) (n len : ℕ) → sizes ≡ seen_as (λ bytes. length bytes) objects
    → value_at nat_eq sizes n ≡ Some len → (b : List ℕ) × (value_at nat_eq objects n ≡ Some b) × (length b ≡ len)
bytes-of objects sizes n len are is =
    length-of (value_at nat_eq objects n) len
    (sym (at-map (λ (bytes : List ℕ). length bytes) objects n) ∙ ap (λ (t : List (ℕ × ℕ)). value_at nat_eq t n) (sym are) ∙ is)

-- a call that went well has not failed
pub not_failed : {T E : Type 0} (r : Result T E) (x : T) → r ≡ Ok x → IsErr r → ⊥
not_failed (Ok y) x is bad = cc
not_failed (Err e) x is bad = cc

pub not_failed_as : {T E : Type 0} (r : Result T E) (x : T) (e : E) → r ≡ Ok x → IsErrOf r e → ⊥
not_failed_as (Ok y) x e is bad = cc
not_failed_as (Err d) x e is bad = cc

-- the numbers alone
pub keys-seen : {X : Type 0} (see : Placed → X) (ps : List Placed) → keys_of (map {B = ℕ × X} (λ p. (p.number, see p)) ps) ≡ map (λ p. p.number) ps
keys-seen see [] = refl
keys-seen see (p ∷ ps) = ap (λ (ks : List ℕ). p.number ∷ ks) (keys-seen see ps)

-- ---- an object, 512 bytes after another

take-plus : (p q r : ℕ) (b : List ℕ) → r ≡ p + q → take p b ++ take q (drop p b) ≡ take r b
take-plus zero q r b is = let same : q ≡ r = omega (arith, is) in ap (λ (n : ℕ). take n b) same
take-plus (suc p) zero zero [] is = refl
take-plus (suc p) zero (suc r) [] is = refl
take-plus (suc p) (suc q) zero [] is = refl
take-plus (suc p) (suc q) (suc r) [] is = refl
take-plus (suc p) q zero (x ∷ b) is = absurd (omega (arith, is))
take-plus (suc p) q (suc r) (x ∷ b) is = ap (λ (l : List ℕ). x ∷ l) (take-plus p q r b (omega (arith, is)))

pub piece-more : (b window-bytes bytes : List ℕ) (k count : ℕ) → bytes ≡ take (512 * k) b → window-bytes ≡ window (512 * k) b
    → count ≡ min (length b - 512 * k) 512 → bytes ++ take count window-bytes ≡ take (512 * (k + 1)) b
piece-more b window-bytes bytes k count so_far is few =
    let piece : List ℕ = take 512 (drop (512 * k) b) in
    let long : length piece ≡ count = omega (arith, length-take 512 (drop (512 * k) b), length-drop (512 * k) b, few) in
    ap (λ (l : List ℕ). l ++ take count window-bytes) so_far
    ∙ ap (λ (l : List ℕ). take (512 * k) b ++ take count l) is
    ∙ ap (λ (l : List ℕ). take (512 * k) b ++ l) (take_at piece (replicate (512 - length piece) 0) count long)
    ∙ take-plus (512 * k) 512 (512 * (k + 1)) b (omega arith)

-- ---- one object after another

-- the numbers of the first objects are below that of the next
rising-take : {X : Type 0} (low : ℕ) (es : List (ℕ × X)) (high i : ℕ) (d : ℕ × X) → IsRising low (keys_of es) high → i < length es
    → IsRising low (keys_of (take i es)) (get_or es i d).0
rising-take low [] high i d rising less = absurd (omega (arith, less))
rising-take low (e ∷ es) high zero d rising less = rising.0
rising-take low (e ∷ es) high (suc i) d rising less = (rising.0, rising-take (e.0 + 1) es high i d rising.1 (omega (arith, less)))

module _ (sizes : List (ℕ × ℕ)) (rising : IsRising 0 (keys_of sizes) (2 ^ 64)) (objects : PlainObjects) (i number len : ℕ)
    (so_far : seen_as (λ bytes. length bytes) objects ≡ take i sizes) (at : slice_get sizes i ≡ Some (number, len)) where
  there : i < length sizes
  there = slice_get_within sizes i (number, len) at

  entry : get_or sizes i (0, 0) ≡ (number, len)
  entry = get_or_from_slice_get sizes i (number, len) (0, 0) at

  pub size-at : value_at nat_eq sizes number ≡ Some len
  size-at =
      ap (λ (e : ℕ × ℕ). value_at nat_eq sizes e.0) (sym entry) ∙ rising-at 0 sizes (2 ^ 64) i (0, 0) rising there ∙ ap (λ (e : ℕ × ℕ). Some e.1) entry

  pub number-next : IsRising 0 (keys_of objects) number
  number-next =
      subst (λ (ks : List ℕ). IsRising 0 ks number) (ap keys_of (sym so_far) ∙ keys-map (λ (bytes : List ℕ). length bytes) objects)
      (subst (λ (e : ℕ × ℕ). IsRising 0 (keys_of (take i sizes)) e.0) entry (rising-take 0 sizes (2 ^ 64) i (0, 0) rising there))

  pub count-now : length objects ≡ i
  count-now =
      let size : ℕ × List ℕ → ℕ × ℕ = λ o. (o.0, length o.1) in
      omega (arith, there, length-map objects size, ap length so_far, length-take i sizes)

  module _ (bytes : List ℕ) (long : length bytes ≡ len) where
    pub sizes-more : seen_as (λ bytes. length bytes) (objects ++ (number, bytes) ∷ []) ≡ take (i + 1) sizes
    sizes-more =
        map-append (λ (o : ℕ × List ℕ). (o.0, length o.1)) objects ((number, bytes) ∷ [])
        ∙ ap (λ (l : List (ℕ × ℕ)). l ++ (number, length bytes) ∷ []) so_far
        ∙ ap (λ (e : ℕ × ℕ). take i sizes ++ e ∷ []) (ap (λ (n : ℕ). (number, n)) long ∙ sym entry)
        ∙ sym (take_more sizes i (0, 0) there)

    pub objects-more : (all : PlainObjects) → sizes ≡ seen_as (λ bytes. length bytes) all → objects ≡ take i all
        → value_at nat_eq all number ≡ Some bytes → objects ++ (number, bytes) ∷ [] ≡ take (i + 1) all
    objects-more all are firsts found =
        let f : ℕ × List ℕ → ℕ × ℕ = λ o. (o.0, length o.1) in
        let seen = seen-at f all i (0, []) (number, len) (sym (slice_get-map f all i) ∙ ap (λ (t : List (ℕ × ℕ)). slice_get t i) (sym are) ∙ at) in
        let key : (get_or all i (0, [])).0 ≡ number = ap (λ (e : ℕ × ℕ). e.0) seen.1 in
        let up : IsRising 0 (keys_of all) (2 ^ 64) =
        subst (λ (ks : List ℕ). IsRising 0 ks (2 ^ 64)) (ap keys_of are ∙ keys-map (λ (b : List ℕ). length b) all) rising in
        let same : Some (get_or all i (0, [])).1 ≡ Some bytes =
        sym (rising-at 0 all (2 ^ 64) i (0, []) up seen.0) ∙ ap (value_at nat_eq all) key ∙ found in
        let value : (get_or all i (0, [])).1 ≡ bytes = cc in
        let one : get_or all i (0, []) ≡ (number, bytes) =
        ap (λ (n : ℕ). (n, (get_or all i (0, [])).1)) key ∙ ap (λ (b : List ℕ). (number, b)) value in
        ap (λ (l : PlainObjects). l ++ (number, bytes) ∷ []) firsts ∙ ap (λ (e : ℕ × List ℕ). take i all ++ e ∷ []) (sym one)
        ∙ sym (take_more all i (0, []) seen.0)
