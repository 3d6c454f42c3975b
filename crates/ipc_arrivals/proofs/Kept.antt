-- The values in the slots that rows name: one for each row, of its rank.
use Rattle.std.proofs.Common.{◌≡◌, ◌≢◌, ℕ, suc, ◌+◌, ◌<◌, ◌≤◌, Bool, List, [], ◌∷◌, ◌++◌, length, map, get_or, refl, ap, sym, ◌∙◌, inl, inr, subst, arith, All}
use Rattle.std.specs.Prelude.{IsSome, None, Option, Some, filter_map, option_map, position, slice_get}
use Rattle.std.specs.List.{cons_option, remove}
use Rattle.std.proofs.lemmas.Bool.{cases_lt}
use Rattle.std.proofs.lemmas.List.{get_or-map, get_or_append_left, get_or_default, length-append, length-map}
use Rattle.std.proofs.lemmas.List.Edits.{get_or-remove_above, get_or-remove_below, length-remove}
use Rattle.std.proofs.lemmas.List.Elements.{filter_map-append}
use Rattle.std.proofs.lemmas.Option.{none-some, slice_get-get_or, slice_get-map}
use Rattle.std.proofs.Math.Seq.{get_or-append_seam}
use Rattle.slab.specs.Slab.{Slab, Updates, get, slab_len}
use Rattle.ipc_arrivals.specs.Arrivals.{AreKept, Row, values_at}
use Rattle.ipc_arrivals.proofs.CallerLemmas.{map-remove, position-seen}

module _ {T : Type 0} where
  -- each row gives a value
  abbrev IsFull : (Row → Option T) → List Row → Type 0
  IsFull g rows = (k : ℕ) (d : Row) → k < length rows → g (get_or rows k d) ≢ None

  some_all : (g : Row → Option T) (rows : List Row) → IsFull g rows → map Some (filter_map g rows) ≡ map g rows
  some_all g [] full = refl
  some_all g (r ∷ rows) full = first (g r) refl (some_all g rows (λ k d lt. full (suc k) d (omega (arith, lt))))
    where
      first : (o : Option T) → g r ≡ o → map Some (filter_map g rows) ≡ map g rows → map Some (filter_map g (r ∷ rows)) ≡ map g (r ∷ rows)
      first None is rest = absurd (full 0 r (omega arith) is)
      first (Some v) is rest =
          ap (λ o. map Some (cons_option o (filter_map g rows))) is ∙ ap (λ os. Some v ∷ os) rest ∙ ap (λ o. o ∷ map g rows) (sym is)

  no_none : (xs : List T) → filter_map (λ o. o) (map Some xs) ≡ xs
  no_none [] = refl
  no_none (x ∷ xs) = ap (λ ys. x ∷ ys) (no_none xs)

  -- lists of which each value is told alike are one
  one_list : (xs ys : List T) → map Some xs ≡ map Some ys → xs ≡ ys
  one_list xs ys same = sym (no_none xs) ∙ ap (filter_map (λ o. o)) same ∙ no_none ys

  same_values : (g h : Row → Option T) (rows : List Row) → ((k : ℕ) (d : Row) → k < length rows → g (get_or rows k d) ≡ h (get_or rows k d))
      → filter_map g rows ≡ filter_map h rows
  same_values g h [] same = refl
  same_values g h (r ∷ rows) same =
      ap (λ o. cons_option o (filter_map g rows)) (same 0 r (omega arith))
      ∙ ap (cons_option (h r)) (same_values g h rows (λ k d lt. same (suc k) d (omega (arith, lt))))

  ranked : (rank : T → ℕ) (o : Option T) (n : ℕ) → option_map rank o ≡ Some n → o ≢ None
  ranked rank None n is none = none-some n is
  ranked rank (Some v) n is none = none-some v (sym none)

  module _ (rank : T → ℕ) (slots : Slab T) (rows : List Row) (kept : AreKept rank slots rows) where
    abbrev at : Row → Option T
    at row = get slots row.slot

    full : IsFull at rows
    full k d lt = ranked rank (at (get_or rows k d)) (get_or rows k d).rank (kept.there k d lt)

    some_if : (o : Option T) → o ≢ None → IsSome o
    some_if None some = absurd (some refl)
    some_if (Some v) some = refl

    -- the slot of a row has a value
    pub holds-value : (k : ℕ) (d : Row) → k < length rows → IsSome (get slots (get_or rows k d).slot)
    holds-value k d lt = some_if (get slots (get_or rows k d).slot) (full k d lt)

    -- a slot that is free is of no row
    pub vacant : (slot : ℕ) → get slots slot ≡ None → (k : ℕ) (d : Row) → k < length rows → (get_or rows k d).slot ≢ slot
    vacant slot free k d lt same = full k d lt (ap (get slots) same ∙ free)

    pub length-values : length (values_at slots rows) ≡ length rows
    length-values = sym (length-map (values_at slots rows) Some) ∙ ap length (some_all at rows full) ∙ length-map rows at

    -- the value of a row
    pub value-at : (k : ℕ) (d : Row) → k < length rows → slice_get (values_at slots rows) k ≡ get slots (get_or rows k d).slot
    value-at k d lt =
        told (slice_get (values_at slots rows) k) (get slots (get_or rows k d).slot)
        (sym (slice_get-map Some (values_at slots rows) k) ∙ ap (λ os. slice_get os k) (some_all at rows full) ∙ slice_get-map at rows k
        ∙ ap (option_map at) (slice_get-get_or rows k d lt))
      where
        told : (o p : Option T) → option_map Some o ≡ Some p → o ≡ p
        told None p is = absurd (none-some p is)
        told (Some v) p is = cc

    ranks_by : (rs : List Row) → ((k : ℕ) (d : Row) → k < length rs → option_map rank (at (get_or rs k d)) ≡ Some (get_or rs k d).rank)
        → map rank (filter_map at rs) ≡ map (λ row. row.rank) rs
    ranks_by [] there = refl
    ranks_by (r ∷ rs) there = first (at r) refl (there 0 r (omega arith)) (ranks_by rs (λ k d lt. there (suc k) d (omega (arith, lt))))
      where
        first : (o : Option T) → at r ≡ o → option_map rank (at r) ≡ Some r.rank → map rank (filter_map at rs) ≡ map (λ row. row.rank) rs
            → map rank (filter_map at (r ∷ rs)) ≡ map (λ row. row.rank) (r ∷ rs)
        first None is known rest = absurd (none-some r.rank (ap (option_map rank) (sym is) ∙ known))
        first (Some v) is known rest =
            let same : Some (rank v) ≡ Some r.rank = ap (option_map rank) (sym is) ∙ known in
            let e : rank v ≡ r.rank = grind (arith, same) in
            ap (λ o. map rank (cons_option o (filter_map at rs))) is ∙ ap (λ ns. rank v ∷ ns) rest ∙ ap (λ n. n ∷ map (λ row. row.rank) rs) e

    -- the ranks of the values are those of the rows
    pub ranks-values : map rank (values_at slots rows) ≡ map (λ row. row.rank) rows
    ranks-values = ranks_by rows kept.there

    -- values are found as their rows are
    pub position-values : (p : ℕ → Bool) → position (λ row. p row.rank) rows ≡ position (λ v. p (rank v)) (values_at slots rows)
    position-values p =
        sym (position-seen p (λ row. row.rank) rows) ∙ ap (position p) (sym ranks-values) ∙ position-seen p rank (values_at slots rows)

    -- what holds of each row's rank holds of each value's
    pub all-values : (P : ℕ → Type 0) → All (λ row. P row.rank) rows → All (λ v. P (rank v)) (values_at slots rows)
    all-values P each k d lt =
        let row : Row = record { rank = 0; slot = 0 } in
        let inside : k < length rows = omega (arith, lt, length-values) in
        let same = sym (get_or-map rank (values_at slots rows) k d (rank d) lt) ∙ ap (λ ns. get_or ns k (rank d)) ranks-values
        ∙ get_or-map (λ r. r.rank) rows k row (rank d) inside in
        subst P (sym same) (each k row inside)

    -- a value more, in a slot that was free
    module _ (more : Slab T) (v : T) (slot : ℕ) (free : get slots slot ≡ None) (put : Updates slots more slot (Some v))
        (one : slab_len more ≡ slab_len slots + 1) where
      abbrev row : Row
      row = record { rank = rank v; slot = slot }

      pub values-push : values_at more (rows ++ row ∷ []) ≡ values_at slots rows ++ v ∷ []
      values-push =
          filter_map-append (λ r. get more r.slot) rows (row ∷ [])
          ∙ ap (λ vs. vs ++ filter_map (λ r. get more r.slot) (row ∷ []))
          (same_values (λ r. get more r.slot) at rows (λ k d lt. put.others _ (vacant slot free k d lt)))
          ∙ ap (λ o. values_at slots rows ++ cons_option o []) put.changed

      pub kept-push : AreKept rank more (rows ++ row ∷ [])
      kept-push =
          record {
            there = λ k d lt. elim (cases_lt k (length rows)) as
                (λ _. option_map rank (get more (get_or (rows ++ row ∷ []) k d).slot) ≡ Some (get_or (rows ++ row ∷ []) k d).rank) [
                  | inl old ↦ rw (get_or_append_left rows (row ∷ []) d k old)
                      (ap (option_map rank) (put.others _ (vacant slot free k d old)) ∙ kept.there k d old)
                  | inr new ↦ rw (at_end k new lt, get_or-append_seam rows row [] d) (ap (option_map rank) put.changed)
                ];
            apart = λ i j d less lt. elim (cases_lt j (length rows)) as (λ _. (get_or (rows ++ row ∷ []) i d).slot ≢ (get_or (rows ++ row ∷ []) j d).slot) [
              | inl old ↦ rw (get_or_append_left rows (row ∷ []) d j old, get_or_append_left rows (row ∷ []) d i (omega (arith, less, old)))
                  (kept.apart i j d less old)
              | inr new ↦
                  let before : i < length rows = omega (arith, less, at_end j new lt) in
                  rw (at_end j new lt, get_or-append_seam rows row [] d, get_or_append_left rows (row ∷ []) d i before) (vacant slot free i d before)
            ];
            count = omega (arith, one, kept.count, length-append rows (row ∷ []));
          }
        where
          at_end : (k : ℕ) → length rows ≤ k → k < length (rows ++ row ∷ []) → k ≡ length rows
          at_end k from lt = omega (arith, from, lt, length-append rows (row ∷ []))

    -- a value less, whose slot is free
    module _ (fewer : Slab T) (i : ℕ) (d : Row) (within : i < length rows) (out : Updates slots fewer (get_or rows i d).slot None)
        (one : slab_len fewer + 1 ≡ slab_len slots) where
      -- another row is of another slot
      other : (k : ℕ) (e : Row) → k < length (remove rows i) → (get_or (remove rows i) k e).slot ≢ (get_or rows i d).slot
      other k e lt same =
          let long = length-remove rows i within in
          elim (cases_lt k i) [
            | inl before ↦ kept.apart k i e before within
                (ap (λ r. r.slot) (sym (get_or-remove_below rows i e k before within)) ∙ same ∙ ap (λ r. r.slot) (get_or_default rows i d e within))
            | inr after ↦ kept.apart i (k + 1) e (omega (arith, after)) (omega (arith, lt, long))
                (ap (λ r. r.slot) (get_or_default rows i e d within) ∙ sym same ∙ ap (λ r. r.slot) (get_or-remove_above rows i e k after within))
          ]

      pub values-remove : values_at fewer (remove rows i) ≡ remove (values_at slots rows) i
      values-remove =
          same_values (λ r. get fewer r.slot) at (remove rows i) (λ k e lt. out.others _ (other k e lt))
          ∙ one_list (values_at slots (remove rows i)) (remove (values_at slots rows) i)
          (some_all at (remove rows i) (λ k e lt. full_less k e lt) ∙ map-remove at rows i ∙ ap (λ os. remove os i) (sym (some_all at rows full))
          ∙ sym (map-remove Some (values_at slots rows) i))
        where
          full_less : IsFull at (remove rows i)
          full_less k e lt =
              let long = length-remove rows i within in
              elim (cases_lt k i) [
                | inl before ↦ rw (get_or-remove_below rows i e k before within) (full k e (omega (arith, before, within)))
                | inr after ↦ rw (get_or-remove_above rows i e k after within) (full (k + 1) e (omega (arith, lt, long)))
              ]

      pub kept-remove : AreKept rank fewer (remove rows i)
      kept-remove =
          record {
            there = λ k e lt. elim (cases_lt k i) as
                (λ _. option_map rank (get fewer (get_or (remove rows i) k e).slot) ≡ Some (get_or (remove rows i) k e).rank) [
                  | inl before ↦ ap (option_map rank) (out.others _ (other k e lt))
                      ∙ rw (get_or-remove_below rows i e k before within) (kept.there k e (omega (arith, before, within)))
                  | inr after ↦ ap (option_map rank) (out.others _ (other k e lt))
                      ∙ rw (get_or-remove_above rows i e k after within) (kept.there (k + 1) e (omega (arith, lt, length-remove rows i within)))
                ];
            apart = λ a b e less lt. apart_less a b e less lt;
            count = omega (arith, one, kept.count, length-remove rows i within);
          }
        where
          apart_less : (a b : ℕ) (e : Row) → a < b → b < length (remove rows i) → (get_or (remove rows i) a e).slot ≢ (get_or (remove rows i) b e).slot
          apart_less a b e less lt =
              let long = length-remove rows i within in
              elim (cases_lt b i) [
                | inl b_before ↦ rw (get_or-remove_below rows i e b b_before within, get_or-remove_below rows i e a (omega (arith, less, b_before)) within)
                    (kept.apart a b e less (omega (arith, b_before, within)))
                | inr b_after ↦ elim (cases_lt a i) [
                  | inl a_before ↦ rw (get_or-remove_above rows i e b b_after within, get_or-remove_below rows i e a a_before within)
                      (kept.apart a (b + 1) e (omega (arith, less)) (omega (arith, lt, long)))
                  | inr a_after ↦ rw (get_or-remove_above rows i e b b_after within, get_or-remove_above rows i e a a_after within)
                      (kept.apart (a + 1) (b + 1) e (omega (arith, less)) (omega (arith, lt, long)))
                ]
              ]
