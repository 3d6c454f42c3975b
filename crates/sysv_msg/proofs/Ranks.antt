-- Ranks stand for types: two are the same, or the one is below the other, just as the types are.
use Rattle.std.proofs.Common.{◌≡◌, ◌≢◌, ◌==◌, ℕ, ◌<◌, ◌≤◌, ℤ, pos, negsuc, ◌≤ℤ◌, FitsSigned, w64, true, false, List, []}
use Rattle.std.proofs.Common.{◌∷◌, length, map, get_or, refl, ap, sym, ◌∙◌, inl, inr, subst, arith, All, Contains, Some, None}
use Rattle.std.specs.Prelude.{position, nat_lt, slice_get, if◌then◌else◌}
use Rattle.std.specs.List.Sorted.{IsNonDecreasing, IsPermutation}
use Rattle.std.specs.Ordering.{int_eq}
use Rattle.std.proofs.lemmas.Bool.{cases_eq, cases_lt, eq-eqb, ne_eqb}
use Rattle.std.proofs.lemmas.Bool.Decides.{nat_tests}
use Rattle.std.proofs.lemmas.Int.{ints}
use Rattle.std.proofs.lemmas.List.{get_or-map, length-map}
use Rattle.std.proofs.lemmas.List.Elements.{All-cons, All-nil}
use Rattle.std.proofs.lemmas.List.Sorted.{All-permutation, IsPermutation-map}
use Rattle.std.proofs.lemmas.Option.{get_or_from_slice_get, none-some, slice_get-get_or, slice_get_past, slice_get_within}
use Rattle.sysv_msg.specs.Queue.{plain}
use Rattle.sysv_msg.specs.declared.message.Message.{Message}
use Rattle.sysv_msg.specs.Ranks.{DoNotFall, rank_of}
use Rattle.ipc_arrivals.proofs.CallerLemmas.{position_same}

pub one_type : (a b : ℤ) → FitsSigned w64 a → FitsSigned w64 b → rank_of a ≡ rank_of b → a ≡ b
one_type (pos n) (pos m) fa fb same = ap pos (omega (arith, same))
one_type (pos n) (negsuc m) fa fb same = absurd (omega (arith, same))
one_type (negsuc n) (pos m) fa fb same = absurd (omega (arith, same))
one_type (negsuc n) (negsuc m) fa fb same = ap negsuc (omega (arith, same, fa, fb))

pub ranks_rise : (a b : ℤ) → a ≤ℤ b → rank_of a ≤ rank_of b
ranks_rise (pos n) (pos m) le = omega (arith, ints, le)
ranks_rise (pos n) (negsuc m) le = absurd (omega (arith, ints, le))
ranks_rise (negsuc n) (pos m) le = omega arith
ranks_rise (negsuc n) (negsuc m) le = omega (arith, ints, le)

same_type : (a b : ℤ) → a ≡ b → int_eq a b ≡ true
same_type a b same = grind (arith, ints)

pub other_type : (a b : ℤ) → a ≢ b → int_eq a b ≡ false
other_type a b other = grind (arith, ints)

-- one test for another
pub rank_tests : (a b : ℤ) → FitsSigned w64 a → FitsSigned w64 b → (rank_of a == rank_of b) ≡ int_eq a b
rank_tests a b fa fb =
    elim (cases_eq (rank_of a) (rank_of b)) [
      | inl same ↦ eq-eqb (rank_of a) (rank_of b) same ∙ sym (same_type a b (one_type a b fa fb same))
      | inr other ↦ ne_eqb (rank_of a) (rank_of b) other ∙ sym (other_type a b (λ same. other (ap rank_of same)))
    ]

pub position_of_type : (ms : List Message) (t : ℤ) → FitsSigned w64 t
    → position (λ m. rank_of m.mtype == rank_of t) ms ≡ position (λ m. int_eq m.mtype t) ms
position_of_type ms t fits =
    position_same (λ m. rank_of m.mtype == rank_of t) (λ m. int_eq m.mtype t) ms (λ k d h. rank_tests (get_or ms k d).mtype t (get_or ms k d).typed fits)

pub position_of_all : (ms : List Message) → length ms ≢ 0 → position (λ m. true) ms ≡ Some 0
position_of_all [] some = absurd (some refl)
position_of_all (m ∷ ms) some =
    let inside : nat_lt 0 (length (m ∷ ms)) ≡ true = grind (arith, nat_tests) in
    ap (λ b. if b then Some 0 else None) inside

-- the type of a rank that is among those of the messages is among their types
pub type_found : (ms : List Message) (r : ℕ) (t : ℤ) → FitsSigned w64 t → rank_of t ≡ r → Contains (map (λ m. rank_of m.mtype) ms) r
    → Contains (map (λ m. m.mtype) ms) t
type_found [] r t fits is there = absurd (omega (arith, there.1))
type_found (m ∷ ms) r t fits is there =
    let all = m ∷ ms in
    let inside : there.0 < length all = omega (arith, there.1, length-map all (λ m. rank_of m.mtype)) in
    let found : Message = get_or all there.0 m in
    let same : rank_of found.mtype ≡ rank_of t = sym (get_or-map (λ m. rank_of m.mtype) all there.0 m r inside) ∙ there.2 ∙ sym is in (
      there.0,
      omega (arith, inside, length-map all (λ m. m.mtype)),
      get_or-map (λ m. m.mtype) all there.0 m t inside ∙ one_type found.mtype t found.typed fits same,
    )

-- types that do not fall have ranks that do not
pub ranks_up : (types : List ℤ) → DoNotFall types → IsNonDecreasing (map rank_of types)
ranks_up types up i j d le lt =
    let inside : j < length types = omega (arith, lt, length-map types rank_of) in
    omega (
      arith,
      get_or-map rank_of types i (pos 0) d (omega (arith, le, inside)),
      get_or-map rank_of types j (pos 0) d inside,
      ranks_rise (get_or types i (pos 0)) (get_or types j (pos 0)) (up i j (pos 0) le inside),
    )

types_of : (ms : List Message) → map (λ m. m.mtype) (map plain ms) ≡ map (λ m. m.mtype) ms
types_of [] = refl
types_of (m ∷ ms) = ap (λ ts. m.mtype ∷ ts) (types_of ms)

ranks_of : (ms : List Message) → map rank_of (map (λ m. m.mtype) ms) ≡ map (λ m. rank_of m.mtype) ms
ranks_of [] = refl
ranks_of (m ∷ ms) = ap (λ ns. rank_of m.mtype ∷ ns) (ranks_of ms)

typed : (ms : List Message) → All (FitsSigned w64) (map (λ m. m.mtype) ms)
typed [] = All-nil (FitsSigned w64)
typed (m ∷ ms) = All-cons (FitsSigned w64) m.mtype (map (λ m. m.mtype) ms) m.typed (typed ms)

module _ (ms : List Message) (types : List ℤ) (same : IsPermutation (map (λ m. m.mtype) (map plain ms)) types) where
  own : IsPermutation (map (λ m. m.mtype) ms) types
  own = subst (λ ts. IsPermutation ts types) (types_of ms) same

  pub ranks_same : IsPermutation (map (λ m. rank_of m.mtype) ms) (map rank_of types)
  ranks_same = subst (λ ns. IsPermutation ns (map rank_of types)) (ranks_of ms) (IsPermutation-map rank_of (map (λ m. m.mtype) ms) types own)

  -- the type at a place, by its rank
  pub type_at : (at r : ℕ) (t : ℤ) → FitsSigned w64 t → rank_of t ≡ r → Some r ≡ slice_get (map rank_of types) at → Some t ≡ slice_get types at
  type_at at r t fits is found =
      let inside : at < length types = omega (arith, slice_get_within (map rank_of types) at r (sym found), length-map types rank_of) in
      let there : ℤ = get_or types at (pos 0) in
      let e : rank_of there ≡ r = sym (get_or-map rank_of types at (pos 0) 0 inside) ∙ get_or_from_slice_get (map rank_of types) at r 0 (sym found) in
      let fit = All-permutation (FitsSigned w64) (map (λ m. m.mtype) ms) types own (typed ms) at (pos 0) inside in
      ap Some (one_type t there fits fit (is ∙ sym e)) ∙ sym (slice_get-get_or types at (pos 0) inside)

  pub no_type_at : (at : ℕ) → None ≡ slice_get (map rank_of types) at → None ≡ slice_get types at
  no_type_at at none =
      elim (cases_lt at (length types)) [
        | inl inside ↦ absurd (none-some (get_or (map rank_of types) at 0)
            (none ∙ slice_get-get_or (map rank_of types) at 0 (omega (arith, inside, length-map types rank_of))))
        | inr past ↦ sym (slice_get_past types at past)
      ]
