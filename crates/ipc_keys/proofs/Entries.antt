-- What a change of the map at a stored key says of a key that stands for it.
use Rattle.std.proofs.Common.{◌≡◌, ℕ, ◌<◌, Bool, true, List, slice_get, Option, Some, None, IfSome, refl, sym, ap, subst, ◌∙◌, arith, inl, inr}
use Rattle.std.specs.Map.{keys_of, lookup, KeepsOthers}
use Rattle.std.specs.Option.{option_map}
use Rattle.std.specs.Cmp.{IsEquivalence}
use Rattle.std.proofs.lemmas.List.Quantifiers.{position-Some}
use Rattle.std.proofs.lemmas.Option.{slice_get_cases, get_or_from_slice_get, slice_get-map}
use Rattle.indexmap.specs.IndexMap.{IndexMap, index_of_by, index_map_len, with_value_at, IsUnique, Updates}
use Rattle.indexmap.proofs.CallerLemmas.{updates-with_value_at}
use Rattle.ipc_keys.specs.Directory.{Puts}

pub Puts-itself : {K : Type 0} (eq : K → K → Bool) (test : K → Bool) (es : List (K × ℕ)) (w : Option ℕ) → lookup test es ≡ w → Puts eq test es es w
unfolding KeepsOthers
Puts-itself eq test es w e = (e, λ other sound apart. refl)

module _ {K S : Type 0} (eq : K → K → Bool) (test : K → Bool) (sound : (x y : K) → test x ≡ true → test y ≡ eq x y) where
  pub Puts-Updates : (m n : IndexMap K ℕ S) (k : K) (w : Option ℕ) → test k ≡ true → Updates eq m n k w → Puts eq test m.entries n.entries w
  Puts-Updates m n k w t u =
      let same : test ≡ eq k = λ i y. sound k y t i in
      subst (λ f. Puts eq f m.entries n.entries w) (sym same) (u.1, u.3)

  -- the key at the place that was found passes
  passes_at : (m : IndexMap K ℕ S) (i : ℕ) (e : K × ℕ) → index_of_by test m ≡ Some i → slice_get m.entries i ≡ Some e → test e.0 ≡ true
  passes_at m i e at is =
      let key : slice_get (keys_of m.entries) i ≡ Some e.0 = slice_get-map (λ p. p.0) m.entries i ∙ ap (option_map (λ p. p.0)) is in
      let passes : test _ ≡ true = (position-Some test (keys_of m.entries) i e.0 at).1 in
      subst (λ k. test k ≡ true) (get_or_from_slice_get (keys_of m.entries) i e.0 e.0 key) passes

  pub Puts-removed : (m n : IndexMap K ℕ S) (i : ℕ) (removed : Option (K × ℕ)) (e : K × ℕ) → index_of_by test m ≡ Some i
      → removed ≡ slice_get m.entries i → removed ≡ Some e → IfSome removed (λ p. Updates eq m n p.0 None)
      → Puts eq test m.entries n.entries None
  Puts-removed m n i removed e at is some updates =
      Puts-Updates m n e.0 None (passes_at m i e at (sym is ∙ some)) (subst (λ r. IfSome r (λ p. Updates eq m n p.0 None)) some updates)

  pub Puts-written : IsEquivalence eq → (m : IndexMap K ℕ S) (i w : ℕ) → index_of_by test m ≡ Some i → i < index_map_len m
      → IsUnique eq m → Puts eq test m.entries (with_value_at m i w).entries (Some w)
  Puts-written laws m i w at within unique =
      elim (slice_get_cases m.entries i).1 [
        | inl h ↦ Puts-Updates m (with_value_at m i w) h.0.0 (Some w) (passes_at m i h.0 at h.2)
            (updates-with_value_at m i w laws unique h.0.0 h.0.1 h.2)
        | inr h ↦ absurd (omega (arith, h.0))
      ]
