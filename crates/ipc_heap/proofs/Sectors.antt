-- Sectors that are noted, sector by sector: which are, and how many are free.
use Rattle.std.proofs.Common.{◌≡◌, ◌≢◌, ◌⊎◌, ◌↔◌, inl, inr, ⊎_elim, ℕ, zero, suc, ◌+◌, ◌-◌, ◌<◌, ◌≤◌, Bool, true, false, not, ◌||◌, cond, List, [], ◌∷◌, ◌++◌}
use Rattle.std.proofs.Common.{length, get_or, set, take, drop, map, refl, sym, ap, subst, ◌∙◌, arith}
use Rattle.std.specs.Prelude.{All, Contains, nat_eq, slice_get, count_by}
use Rattle.std.specs.List.{IsDistinct}
use Rattle.std.proofs.lemmas.Bool.{cases_eq, both_ways, false_from_ne_true}
use Rattle.std.proofs.lemmas.Option.{slice_get_within, get_or_from_slice_get, slice_get-get_or}
use Rattle.std.proofs.lemmas.List.{length-set, length-map, length_push, map-set, get_or-set_same, get_or-set_other, get_or-map}
use Rattle.std.proofs.lemmas.List.Elements.{All-nil, All-head, All-tail, All-push}
use Rattle.std.proofs.lemmas.List.Elements.{Contains-append_left, Contains-push, Contains-push_cases}
use Rattle.std.proofs.lemmas.List.Sums.{sum_by-set, sum_by-cons}
use Rattle.std.proofs.lemmas.Map.Keys.{IsDistinct-tail}
use Rattle.ipc_heap.specs.declared.uses.Use.{Use}
pub use Rattle.ipc_heap.proofs.Distinct.{in-none, in-first, in-rest, in-cases, apart-cons}
pub use Rattle.ipc_heap.proofs.Distinct.{distinct-cons, distinct-left, distinct-right, distinct-apart, distinct-append}
use Rattle.ipc_heap.specs.View.{is_free, turned}
use Rattle.ipc_heap.specs.Relations.Uses.{HasTop, IsTaken, AreTaken, AreGiven, WasFree, next_bits, saved_bits}

-- what holds of one place of a list of notes, after one of them is changed
bit-set : (bits : List Bool) (i j : ℕ) (b : Bool) → i < length bits
    → (i ≡ j) × (get_or (set bits j b) i false ≡ b) ⊎ (i ≢ j) × (get_or (set bits j b) i false ≡ get_or bits i false)
bit-set bits i j b less = ⊎_elim
    (λ same. inl (same, ap (λ (k : ℕ). get_or (set bits k b) i false) (sym same) ∙ get_or-set_same bits i b false less))
    (λ other. inr (other, get_or-set_other bits j i b false other))
    (cases_eq i j)

-- none is counted
pub count-none : (p : Use → Bool) (uses : List Use) → All (λ u. p u ≡ false) uses → count_by p uses ≡ 0
count-none p [] none = refl
count-none p (u ∷ uses) none =
    let first : ◌≡◌ {A = ℕ} (cond (p u) 1 0) 0 = let count : Bool → ℕ = λ b. cond b 1 0 in ap count (All-head (λ v. p v ≡ false) u uses none) in
    omega (arith, sum_by-cons (λ (v : Use). cond (p v) 1 0) u uses, first, count-none p uses (All-tail (λ v. p v ≡ false) u uses none))

-- ---- one sector is noted otherwise

free-parts : (a b : Bool) → not (a || b) ≡ true → (a ≡ false) × (b ≡ false)
free-parts true b is = cc
free-parts false true is = cc
free-parts false false is = (refl, refl)

free-from : (a b : Bool) → a ≡ false → b ≡ false → not (a || b) ≡ true
free-from a b first second = rw first (rw second refl)

-- the notes of one kind stay if the one that is written is the same
bits-kept : (f : Use → Bool) (uses : List Use) (j : ℕ) (u d : Use) → f u ≡ f (get_or uses j d) → map f (set uses j u) ≡ map f uses
bits-kept f [] j u d same = refl
bits-kept f (x ∷ xs) zero u d same = ap (λ (b : Bool). b ∷ map f xs) same
bits-kept f (x ∷ xs) (suc j) u d same = ap (λ (l : List Bool). f x ∷ l) (bits-kept f xs j u d same)

module _ (first : ℕ) (old mid new : List Use) (sectors : List ℕ) where
  -- one sector more is given back
  pub given-push : (s : ℕ) (d : Use) → AreGiven first old sectors mid → first ≤ s → s < first + length old
      → new ≡ set mid (s - first) (record { saved = (get_or mid (s - first) d).saved; next = false }) → AreGiven first old (sectors ++ s ∷ []) new
  given-push s d given low high is =
      let j : ℕ = s - first in
      let u : Use = record { saved = (get_or mid j d).saved; next = false } in
      let bits : next_bits new ≡ set (next_bits mid) j false = ap next_bits is ∙ map-set (λ (v : Use). v.next) mid j u in
      let within : j < length mid = omega (arith, given.long, low, high) in
      record {
        long = ap length is ∙ length-set mid j u ∙ given.long;
        saved = ap saved_bits is ∙ bits-kept (λ (v : Use). v.saved) mid j u d refl ∙ given.saved;
        next = λ i less. by_place i less bits (bit-set (next_bits mid) i j false (omega (arith, less, given.long, length-map mid (λ (v : Use). v.next))));
        more =
            let count = sum_by-set (λ (v : Use). cond (is_free v) 1 0) mid j u d within in
            omega (arith, given.more, count, ap (count_by is_free) is, fewer (get_or mid j d).saved (get_or mid j d).next);
      }
    where
      fewer : (a b : Bool) → cond (not (a || b)) 1 0 ≤ cond (not (a || false)) 1 0
      fewer true b = omega arith
      fewer false true = omega arith
      fewer false false = omega arith

      by_place : (i : ℕ) → i < length old → next_bits new ≡ set (next_bits mid) (s - first) false
          → (i ≡ s - first) × (get_or (set (next_bits mid) (s - first) false) i false ≡ false)
          ⊎ (i ≢ s - first) × (get_or (set (next_bits mid) (s - first) false) i false ≡ get_or (next_bits mid) i false)
          → (get_or (next_bits new) i false ≡ true) ↔ ((get_or (next_bits old) i false ≡ true) × (Contains (sectors ++ s ∷ []) (first + i) → ⊥))
      by_place i less bits (inl (same, off)) =
          let here : s ≡ first + i = omega (arith, low, same) in (
            λ on. absurd (both_ways (get_or (next_bits new) i false) (ap (λ (l : List Bool). get_or l i false) bits ∙ off) on),
            λ on. absurd (on.1 (subst (Contains (sectors ++ s ∷ [])) here (Contains-push sectors s))),
          )
      by_place i less bits (inr (other, kept)) =
          let was : get_or (next_bits new) i false ≡ get_or (next_bits mid) i false = ap (λ (l : List Bool). get_or l i false) bits ∙ kept in
          let so_far = given.next i less in (
            λ on. let before = so_far.0 (sym was ∙ on) in
                (before.0, λ there. ⊎_elim before.1 (λ same. other (omega (arith, same, low))) (Contains-push_cases sectors s (first + i) there)),
            λ on. was ∙ so_far.1 (on.0, λ there. on.1 (Contains-append_left sectors (s ∷ []) (first + i) there)),
          )

-- ---- from the top on nothing is used

-- the top is as it was if what is noted from there on is free
pub top-set : (uses : List Use) (top j : ℕ) (u : Use) → HasTop uses top → (top ≤ j → j < length uses → is_free u ≡ true) → HasTop (set uses j u) top
top-set uses top j u has free = record {
  within = omega (arith, has.within, length-set uses j u);
  unused = λ k d low high.
      let less : k < length uses = omega (arith, high, length-set uses j u) in
      ⊎_elim
      (λ same. ap (λ (n : ℕ). is_free (get_or (set uses n u) k d)) (sym same) ∙ ap is_free (get_or-set_same uses k u d less)
      ∙ free (omega (arith, low, same)) (omega (arith, less, same)))
      (λ other. ap is_free (get_or-set_other uses j k u d other) ∙ has.unused k d low less)
      (cases_eq k j);
}

-- what is given back there was free
pub top-given : (uses : List Use) (top j : ℕ) (d : Use) → HasTop uses top
    → HasTop (set uses j (record { saved = (get_or uses j d).saved; next = false })) top
top-given uses top j d has =
    let was : Use = get_or uses j d in
    top-set uses top j (record { saved = was.saved; next = false }) has
    (λ low less. free-from was.saved false (free-parts was.saved was.next (has.unused j d low less)).0 refl)

-- turning over changes nothing there
turned-free : (u : Use) → is_free u ≡ true → u ≡ turned u
turned-free u free =
    let parts = free-parts u.saved u.next free in
    ap (λ (b : Bool). record { saved = b; next = u.next }) (parts.0 ∙ sym parts.1)

turned-front : (uses : List Use) (top : ℕ) → ((k : ℕ) (d : Use) → top ≤ k → k < length uses → is_free (get_or uses k d) ≡ true)
    → map turned (take top uses) ++ drop top uses ≡ map turned uses
turned-front [] zero free = refl
turned-front [] (suc top) free = refl
turned-front (u ∷ uses) zero free =
    ap (λ (v : Use). v ∷ uses) (turned-free u (free 0 u (omega arith) (omega arith)))
    ∙ ap (λ (l : List Use). turned u ∷ l) (turned-front uses zero (λ k d low less. free (suc k) d (omega arith) (omega (arith, less))))
turned-front (u ∷ uses) (suc top) free =
    ap (λ (l : List Use). turned u ∷ l) (turned-front uses top (λ k d low less. free (suc k) d (omega (arith, low)) (omega (arith, less))))

module _ (uses : List Use) (top : ℕ) (has : HasTop uses top) where
  pub top-turned : map turned (take top uses) ++ drop top uses ≡ map turned uses
  top-turned = turned-front uses top has.unused

  pub turned-top : HasTop (map turned uses) top
  turned-top = record {
    within = omega (arith, has.within, length-map uses turned);
    unused = λ k d low high.
        let less : k < length uses = omega (arith, high, length-map uses turned) in
        let u : Use = get_or uses k d in
        let free = has.unused k d low less in
        ap is_free (get_or-map turned uses k d d less) ∙ ap is_free (sym (turned-free u free)) ∙ free;
  }

pub distinct-none : IsDistinct nat_eq []
unfolding IsDistinct
distinct-none = tt

pub taken-none : (first : ℕ) (uses : List Use) → AreTaken first uses [] uses
taken-none first uses = record {
  long = refl;
  once = distinct-none;
  were_free = All-nil (WasFree first uses);
  saved = refl;
  next = λ i less. (inl, λ on. ⊎_elim (λ was. was) (λ there. absurd (in-none (first + i) there)) on);
  left = omega arith;
}

module _ (first : ℕ) (old mid new : List Use) (sectors : List ℕ) (taken : AreTaken first old sectors mid) (i : ℕ) (one : IsTaken mid i new) where
  within-mid : i < length mid
  within-mid = slice_get_within mid i one.was one.there

  at-mid : (d : Use) → get_or mid i d ≡ one.was
  at-mid d = get_or_from_slice_get mid i one.was d one.there

  bit-mid : get_or (next_bits mid) i false ≡ false
  bit-mid =
      get_or-map (λ (u : Use). u.next) mid i one.was false within-mid ∙ ap (λ (u : Use). u.next) (at-mid one.was)
      ∙ (free-parts one.was.saved one.was.next one.free).1

  bit-old : get_or (next_bits old) i false ≡ false
  bit-old =
      false_from_ne_true _ (λ on. both_ways (get_or (next_bits mid) i false) bit-mid ((taken.next i (omega (arith, within-mid, taken.long))).1 (inl on)))

  -- it was free as they were
  was_free : WasFree first old (first + i)
  was_free =
      let place : (first + i) - first ≡ i = omega arith in
      let less : i < length old = omega (arith, within-mid, taken.long) in
      let u : Use = get_or old i one.was in
      let saved : u.saved ≡ false =
      sym (get_or-map (λ (v : Use). v.saved) old i one.was false less) ∙ ap (λ (l : List Bool). get_or l i false) (sym taken.saved)
      ∙ get_or-map (λ (v : Use). v.saved) mid i one.was false within-mid ∙ ap (λ (v : Use). v.saved) (at-mid one.was)
      ∙ (free-parts one.was.saved one.was.next one.free).0 in
      let next : u.next ≡ false = sym (get_or-map (λ (v : Use). v.next) old i one.was false less) ∙ bit-old in
      (omega arith, u, ap (slice_get old) place ∙ slice_get-get_or old i one.was less, free-from u.saved u.next saved next)

  bits-new : next_bits new ≡ set (next_bits mid) i true
  bits-new = ap next_bits one.now ∙ map-set (λ (v : Use). v.next) mid i (record { saved = one.was.saved; next = true })

  by_place : (k : ℕ) → k < length old → (k ≡ i) × (get_or (set (next_bits mid) i true) k false ≡ true)
      ⊎ (k ≢ i) × (get_or (set (next_bits mid) i true) k false ≡ get_or (next_bits mid) k false)
      → (get_or (next_bits new) k false ≡ true) ↔ ((get_or (next_bits old) k false ≡ true) ⊎ Contains (sectors ++ (first + i) ∷ []) (first + k))
  by_place k less (inl (same, on)) = (
    λ is. inr (subst (λ (n : ℕ). Contains (sectors ++ (first + i) ∷ []) (first + n)) (sym same) (Contains-push sectors (first + i))),
    λ is. ap (λ (l : List Bool). get_or l k false) bits-new ∙ on,
  )
  by_place k less (inr (other, kept)) =
      let was : get_or (next_bits new) k false ≡ get_or (next_bits mid) k false = ap (λ (l : List Bool). get_or l k false) bits-new ∙ kept in (
        λ is. ⊎_elim inl (λ there. inr (Contains-append_left sectors ((first + i) ∷ []) (first + k) there)) ((taken.next k less).0 (sym was ∙ is)),
        λ is. was ∙ (taken.next k less).1 (⊎_elim inl (λ there. ⊎_elim inr (λ same. absurd (other (omega (arith, same))))
            (Contains-push_cases sectors (first + i) (first + k) there)) is),
      )

  -- one sector more is taken
  pub taken-push : AreTaken first old (sectors ++ (first + i) ∷ []) new
  taken-push =
      let u : Use = record { saved = one.was.saved; next = true } in
      record {
        long = ap length one.now ∙ length-set mid i u ∙ taken.long;
        once = distinct-append sectors ((first + i) ∷ []) taken.once (distinct-cons (first + i) [] (in-none (first + i)) distinct-none)
            (λ x there also. ⊎_elim
            (λ same. both_ways (get_or (next_bits mid) i false) bit-mid
            ((taken.next i (omega (arith, within-mid, taken.long))).1 (inr (subst (Contains sectors) (sym same) there))))
            (in-none x) (in-cases (first + i) x [] also));
        were_free = All-push (WasFree first old) sectors (first + i) taken.were_free was_free;
        saved = ap saved_bits one.now ∙ bits-kept (λ (v : Use). v.saved) mid i u one.was (ap (λ (v : Use). v.saved) (sym (at-mid one.was))) ∙ taken.saved;
        next = λ k less. by_place k less (bit-set (next_bits mid) k i true (omega (arith, less, taken.long, length-map mid (λ (v : Use). v.next))));
        left =
            let count = sum_by-set (λ (v : Use). cond (is_free v) 1 0) mid i u one.was within-mid in
            omega (arith, taken.left, count, ap (count_by is_free) one.now, counted-was, counted-now one.was.saved, length_push sectors (first + i));
      }
    where
      counted-was : ◌≡◌ {A = ℕ} (cond (is_free (get_or mid i one.was)) 1 0) 1
      counted-was =
          let count : Bool → ℕ = λ b. cond b 1 0 in
          ap (λ (v : Use). count (is_free v)) (at-mid one.was) ∙ ap count one.free

      counted-now : (b : Bool) → ◌≡◌ {A = ℕ} (cond (not (b || true)) 1 0) 0
      counted-now true = refl
      counted-now false = refl

-- ---- how many are noted

-- of each sector of a range, whether it is one of these
abbrev pub AreNoted : ℕ → List Bool → List ℕ → Type 0
AreNoted first bits sectors = (i : ℕ) → i < length bits → (get_or bits i false ≡ true) ↔ Contains sectors (first + i)

off-all : (bits : List Bool) → ((i : ℕ) → i < length bits → get_or bits i false ≡ false) → count_by not bits ≡ length bits
off-all [] off = refl
off-all (b ∷ bits) off =
    let first : ◌≡◌ {A = ℕ} (cond (not b) 1 0) 1 = let count : Bool → ℕ = λ c. cond (not c) 1 0 in ap count (off 0 (omega arith)) in
    omega (arith, sum_by-cons (λ (c : Bool). cond (not c) 1 0) b bits, first, off-all bits (λ i less. off (suc i) (omega (arith, less))))

-- those that are not noted, and those that are
pub noted-count : (first : ℕ) (bits : List Bool) (sectors : List ℕ) → IsDistinct nat_eq sectors
    → ((s : ℕ) → Contains sectors s → (first ≤ s) × (s < first + length bits)) → AreNoted first bits sectors
    → count_by not bits + length sectors ≡ length bits
noted-count first bits [] once inside noted =
    omega (arith, off-all bits (λ i less. false_from_ne_true (get_or bits i false) (λ on. in-none (first + i) ((noted i less).0 on))))
noted-count first bits (s ∷ sectors) once inside noted =
    let here = inside s (in-first s sectors) in
    let j : ℕ = s - first in
    let place : first + j ≡ s = omega (arith, here) in
    let within : j < length bits = omega (arith, here) in
    let on : get_or bits j false ≡ true = (noted j within).1 (subst (Contains (s ∷ sectors)) (sym place) (in-first s sectors)) in
    let counted : ◌≡◌ {A = ℕ} (cond (not (get_or bits j false)) 1 0) 0 = let count : Bool → ℕ = λ c. cond (not c) 1 0 in ap count on in
    let count = sum_by-set (λ (c : Bool). cond (not c) 1 0) bits j false false within in
    let less_bits : List Bool = set bits j false in
    let rest = noted-count first less_bits sectors (IsDistinct-tail nat_eq s sectors once)
    (λ t there. let range = inside t (in-rest s t sectors there) in (range.0, omega (arith, range.1, length-set bits j false)))
    (λ i less. let low = omega_length i less in one_less i low (bit-set bits i j false low)) in
    omega (arith, rest, count, counted, length-set bits j false)
  where
    omega_length : (i : ℕ) → i < length (set bits (s - first) false) → i < length bits
    omega_length i less = omega (arith, less, length-set bits (s - first) false)

    one_less : (i : ℕ) → i < length bits → (i ≡ s - first) × (get_or (set bits (s - first) false) i false ≡ false)
        ⊎ (i ≢ s - first) × (get_or (set bits (s - first) false) i false ≡ get_or bits i false)
        → (get_or (set bits (s - first) false) i false ≡ true) ↔ Contains sectors (first + i)
    one_less i less (inl (same, off)) =
        let range = inside s (in-first s sectors) in
        let at : s ≡ first + i = omega (arith, range, same) in (
          λ on. absurd (both_ways (get_or (set bits (s - first) false) i false) off on),
          λ there. absurd (apart-cons s sectors once (subst (Contains sectors) (sym at) there)),
        )
    one_less i less (inr (other, kept)) = (
      λ on. ⊎_elim (λ same. absurd (other (omega (arith, same)))) (λ there. there) (in-cases s (first + i) sectors ((noted i less).0 (sym kept ∙ on))),
      λ there. kept ∙ (noted i less).1 (in-rest s (first + i) sectors there),
    )

-- what is free is not noted for what will be saved next
pub free-below : (uses : List Use) → count_by is_free uses ≤ count_by not (next_bits uses)
free-below [] = omega arith
free-below (u ∷ uses) =
    omega (
      arith,
      sum_by-cons (λ (v : Use). cond (is_free v) 1 0) u uses,
      sum_by-cons (λ (c : Bool). cond (not c) 1 0) u.next (next_bits uses),
      fewer u.saved u.next,
      free-below uses,
    )
  where
    fewer : (a b : Bool) → cond (not (a || b)) 1 0 ≤ cond (not b) 1 0
    fewer true b = omega arith
    fewer false b = omega arith

-- what is noted for what will be saved next is noted for what is saved
pub free-saved : (uses : List Use) → ((i : ℕ) → i < length uses → get_or (next_bits uses) i false ≡ true → get_or (saved_bits uses) i false ≡ true)
    → count_by is_free uses ≡ count_by not (saved_bits uses)
free-saved [] each = refl
free-saved (u ∷ uses) each =
    omega (
      arith,
      sum_by-cons (λ (v : Use). cond (is_free v) 1 0) u uses,
      sum_by-cons (λ (c : Bool). cond (not c) 1 0) u.saved (saved_bits uses),
      same u.saved u.next (each 0 (omega arith)),
      free-saved uses (λ i less. each (suc i) (omega (arith, less))),
    )
  where
    same : (a b : Bool) → (b ≡ true → a ≡ true) → ◌≡◌ {A = ℕ} (cond (not (a || b)) 1 0) (cond (not a) 1 0)
    same true b on = refl
    same false true on = let never : ◌≡◌ {A = Bool} false true = on refl in cc
    same false false on = refl
