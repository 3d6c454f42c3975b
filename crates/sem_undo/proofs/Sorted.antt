-- A list in memory whose keys rise by a total order: what an edit at a place makes of its entries.
use Rattle.std.proofs.Common.{◌≡◌, ◌≢◌, ℕ, zero, suc, ◌+◌, ◌<◌, ◌≤◌, arith, Bool, true, false, not, ◌&&◌, cond, T, List, [], ◌∷◌, ◌++◌, map, length}
use Rattle.std.proofs.Common.{get_or}
use Rattle.std.proofs.Common.{take, drop, set, drop-cons, Some, None, inl, inr, refl, sym, ap, subst, ◌∙◌, true≢false}
use Rattle.std.specs.Prelude.{All, filter}
use Rattle.std.specs.List.{insert, remove}
use Rattle.std.specs.List.Sorted.{IsPartitionedBy, IsPartitionPoint}
use Rattle.std.specs.Cmp.{IsTotalOrder, tied_itself}
use Rattle.std.specs.Ordering.{is_lt, is_eq, eq_by_cmp, ordering_reverse}
use Rattle.std.specs.declared.cmp.Ordering.{Ordering}
use Rattle.std.specs.declared.cmp.Ordering.TheVariants.{Less, Equal, Greater}
use Rattle.std.specs.FinMap.{find, put, is_sorted}
use Rattle.std.specs.FinMap.Entries.{where_key, below_all, by_order}
use Rattle.std.proofs.lemmas.Bool.{cases_order}
use Rattle.std.proofs.lemmas.List.{map-append, set_split, take-append-drop, length-take, get_or-take, get_or-drop, length-drop}
use Rattle.std.proofs.lemmas.List.Elements.{All-nil, All-cons, All-head, All-tail, All-map}
use Rattle.sem_undo.specs.Rows.{IsAt, IsGap}

left : (a b : Bool) → T (a && b) → T a
left true b h = tt
left false b h = h

right : (a b : Bool) → T (a && b) → T b
right true b h = h
right false b h = absurd h

less : (r : Ordering) → T (is_lt r) → r ≡ Less
less Less h = refl
less Equal h = absurd h
less Greater h = absurd h

greater : (r : Ordering) → is_lt r ≡ false → r ≢ Equal → r ≡ Greater
greater Less e ne = absurd (true≢false e)
greater Equal e ne = absurd (ne refl)
greater Greater e ne = refl

pub is_less : (r : Ordering) → is_lt r ≡ true → r ≡ Less
is_less r e = less r (subst T (sym e) tt)

-- whether a key is another
abbrev other_by : {K : Type 0} → (K → K → Ordering) → K → K → Bool
other_by R k x = not (eq_by_cmp R k x)

module _ {K X : Type 0} (R : K → K → Ordering) (o : IsTotalOrder R) where
  abbrev Above : K → K × X → Type 0
  Above k e = R k e.0 ≡ Greater

  abbrev Below : K → K × X → Type 0
  Below k e = R k e.0 ≡ Less

  -- ---- a key between two lists

  put-at : (k : K) (v w : X) (front back : List (K × X)) → All (Above k) front → put R k v (front ++ (k, w) ∷ back) ≡ front ++ (k, v) ∷ back
  put-at k v w [] back h = ap (λ r. by_order r ((k, v) ∷ (k, w) ∷ back) ((k, v) ∷ back) ((k, w) ∷ put R k v back)) (tied_itself o k)
  put-at k v w (e ∷ front) back h =
      let es = front ++ (k, w) ∷ back in
      ap (λ r. by_order r ((k, v) ∷ e ∷ es) ((e.0, v) ∷ es) (e ∷ put R k v es)) (All-head (Above k) e front h)
      ∙ ap (λ zs. e ∷ zs) (put-at k v w front back (All-tail (Above k) e front h))

  put-gap : (k : K) (v : X) (front back : List (K × X)) → All (Above k) front → All (Below k) back → put R k v (front ++ back) ≡ front ++ (k, v) ∷ back
  put-gap k v [] [] h g = refl
  put-gap k v [] (e ∷ back) h g = ap (λ r. by_order r ((k, v) ∷ e ∷ back) ((e.0, v) ∷ back) (e ∷ put R k v back)) (All-head (Below k) e back g)
  put-gap k v (e ∷ front) back h g =
      let es = front ++ back in
      ap (λ r. by_order r ((k, v) ∷ e ∷ es) ((e.0, v) ∷ es) (e ∷ put R k v es)) (All-head (Above k) e front h)
      ∙ ap (λ zs. e ∷ zs) (put-gap k v front back (All-tail (Above k) e front h) g)

  -- one more after all others
  pub push-put : (k : K) (v : X) (es : List (K × X)) → All (λ e. is_lt (R e.0 k) ≡ true) es → es ++ (k, v) ∷ [] ≡ put R k v es
  push-put k v [] h = refl
  push-put k v (e ∷ es) h =
      ap (λ zs. e ∷ zs) (push-put k v es (All-tail (λ e. is_lt (R e.0 k) ≡ true) e es h))
      ∙ sym (ap (λ r. by_order r ((k, v) ∷ e ∷ es) ((e.0, v) ∷ es) (e ∷ put R k v es))
      (o.antisymm k e.0 ∙ ap ordering_reverse (is_less _ (All-head (λ e. is_lt (R e.0 k) ≡ true) e es h))))

  find-above : (k : K) (front back : List (K × X)) → All (Above k) front → find R k (front ++ back) ≡ find R k back
  find-above k [] back h = refl
  find-above k (e ∷ front) back h =
      ap (λ r. cond (is_eq r) (Some e.1) (find R k (front ++ back))) (All-head (Above k) e front h)
      ∙ find-above k front back (All-tail (Above k) e front h)

  pub find-below : (k : K) (es : List (K × X)) → All (Below k) es → find R k es ≡ None
  find-below k [] h = refl
  find-below k (e ∷ es) h =
      ap (λ r. cond (is_eq r) (Some e.1) (find R k es)) (All-head (Below k) e es h) ∙ find-below k es (All-tail (Below k) e es h)

  find-here : (k : K) (w : X) (es : List (K × X)) → find R k ((k, w) ∷ es) ≡ Some w
  find-here k w es = ap (λ r. cond (is_eq r) (Some w) (find R k es)) (tied_itself o k)

  without-above : (k : K) (front back : List (K × X)) → All (Above k) front → where_key R (other_by R k) (front ++ back)
      ≡ front ++ where_key R (other_by R k) back
  without-above k [] back h = refl
  without-above k (e ∷ front) back h =
      let rest = where_key R (other_by R k) (front ++ back) in
      ap (λ r. cond (not (is_eq r)) (e ∷ rest) rest) (All-head (Above k) e front h)
      ∙ ap (λ zs. e ∷ zs) (without-above k front back (All-tail (Above k) e front h))

  without-below : (k : K) (es : List (K × X)) → All (Below k) es → where_key R (other_by R k) es ≡ es
  without-below k [] h = refl
  without-below k (e ∷ es) h =
      let rest = where_key R (other_by R k) es in
      ap (λ r. cond (not (is_eq r)) (e ∷ rest) rest) (All-head (Below k) e es h) ∙ ap (λ zs. e ∷ zs) (without-below k es (All-tail (Below k) e es h))

  without-here : (k : K) (w : X) (es : List (K × X)) → where_key R (other_by R k) ((k, w) ∷ es) ≡ where_key R (other_by R k) es
  without-here k w es =
      let rest = where_key R (other_by R k) es in
      ap (λ r. cond (not (is_eq r)) ((k, w) ∷ rest) rest) (tied_itself o k)

  -- ---- entries that rise

  pub All-put : (P : X → Type 0) (k : K) (v : X) (es : List (K × X)) → P v → All (λ e. P e.1) es → All (λ e. P e.1) (put R k v es)
  All-put P k v [] p h = All-cons (λ e. P e.1) (k, v) [] p (All-nil (λ e. P e.1))
  All-put P k v (e ∷ es) p h =
      let rest = All-tail (λ e. P e.1) e es h in
      elim (R k e.0) as (λ r. All (λ e. P e.1) (by_order r ((k, v) ∷ e ∷ es) ((e.0, v) ∷ es) (e ∷ put R k v es))) [
        | Less ↦ All-cons (λ e. P e.1) (k, v) (e ∷ es) p h
        | Equal ↦ All-cons (λ e. P e.1) (e.0, v) es p rest
        | Greater ↦ All-cons (λ e. P e.1) e (put R k v es) (All-head (λ e. P e.1) e es h) (All-put P k v es p rest)
      ]

  -- ---- a list in memory

  module _ {Y : Type 0} (entry : Y → K × X) where
    below-at : (x : K) (ys : List Y) → T (below_all R x (map entry ys)) → (j : ℕ) (d : Y) → j < length ys → R x (entry (get_or ys j d)).0 ≡ Less
    below-at x [] h j d lt = absurd (omega arith)
    below-at x (y ∷ ys) h zero d lt = less _ (left _ _ h)
    below-at x (y ∷ ys) h (suc j) d lt = below-at x ys (right _ _ h) j d (omega arith)

    pub rises : (ys : List Y) → T (is_sorted R (map entry ys)) → (i j : ℕ) (d : Y) → i < j → j < length ys
        → R (entry (get_or ys i d)).0 (entry (get_or ys j d)).0 ≡ Less
    rises [] h i j d lt within = absurd (omega arith)
    rises (y ∷ ys) h i zero d lt within = absurd (omega arith)
    rises (y ∷ ys) h zero (suc j) d lt within = below-at (entry y).0 ys (left _ _ h) j d (omega arith)
    rises (y ∷ ys) h (suc i) (suc j) d lt within = rises ys (right _ _ h) i j d (omega arith) (omega arith)

    -- what `partition_point` asks at the test of a smaller key
    pub parted : (k : K) (ys : List Y) → T (is_sorted R (map entry ys)) → IsPartitionedBy (λ y. is_lt (R (entry y).0 k)) ys
    parted k ys sorted i j d le within passes =
        elim (cases_order i j) [
          | inl same ↦ subst (λ m. is_lt (R (entry (get_or ys m d)).0 k) ≡ true) (sym same) passes
          | inr (inl lower) ↦ ap is_lt (o.trans _ _ k (rises ys sorted i j d lower within) (is_less _ passes))
          | inr (inr upper) ↦ absurd (omega (arith, upper, le))
        ]

    -- what a place is that has all smaller keys before it
    module _ (k : K) (ys : List Y) (up : T (is_sorted R (map entry ys))) (i : ℕ)
        (point : IsPartitionPoint (λ y. is_lt (R (entry y).0 k) ≡ true) (λ y. is_lt (R (entry y).0 k) ≡ false) ys i) where
      before : All (Above k) (map entry (take i ys))
      before = All-map (Above k) entry (take i ys) (λ j d lt.
          let within : j < i = omega (arith, lt, length-take i ys) in
          subst (λ y. R k (entry y).0 ≡ Greater) (sym (get_or-take i ys j d within))
          (o.antisymm k _ ∙ ap ordering_reverse (is_less _ (point.0 j d (omega (arith, lt, length-take i ys)) within))))

      after : (m : ℕ) → ((j : ℕ) (d : Y) → m ≤ j → j < length ys → R k (entry (get_or ys j d)).0 ≡ Less) → All (Below k) (map entry (drop m ys))
      after m less = All-map (Below k) entry (drop m ys) (λ j d lt.
          subst (λ y. R k (entry y).0 ≡ Less) (sym (get_or-drop m ys j d)) (less (m + j) d (omega arith) (omega (arith, lt, length-drop m ys))))

      pub place-gap : i ≤ length ys → ((d : Y) → i < length ys → R (entry (get_or ys i d)).0 k ≢ Equal) → IsGap R entry k ys i
      place-gap within other =
          let first : (d : Y) → i < length ys → R k (entry (get_or ys i d)).0 ≡ Less =
          λ d lt. o.antisymm k _ ∙ ap ordering_reverse (greater _ (point.1 i d (omega arith) lt) (other d lt)) in
          let rest = after i (λ j d le lt. elim (cases_order i j) [
            | inl same ↦ subst (λ m. R k (entry (get_or ys m d)).0 ≡ Less) same (first d (omega (arith, le, lt)))
            | inr (inl lower) ↦ o.trans k _ _ (first d (omega (arith, le, lt))) (rises ys up i j d lower lt)
            | inr (inr upper) ↦ absurd (omega (arith, upper, le))
          ]) in
          record { within = within; between = record { before = before; after = rest } }

      pub place-at : i < length ys → ((d : Y) → (entry (get_or ys i d)).0 ≡ k) → IsAt R entry k ys i
      place-at within key =
          let rest = after (suc i) (λ j d le lt. subst (λ x. R x (entry (get_or ys j d)).0 ≡ Less) (key d) (rises ys up i j d (omega (arith, le)) lt)) in
          record { within = within; key = key; between = record { before = before; after = rest } }

    module _ (k : K) (ys : List Y) (i : ℕ) where
      -- the entries round a place
      around : (a : IsAt R entry k ys i) (d : Y) → map entry ys ≡ map entry (take i ys) ++ (k, (entry (get_or ys i d)).1) ∷ map entry (drop (suc i) ys)
      around a d =
          ap (map entry) (sym (take-append-drop i ys) ∙ ap (λ zs. take i ys ++ zs) (drop-cons ys i d a.within))
          ∙ map-append entry (take i ys) (get_or ys i d ∷ drop (suc i) ys)
          ∙ (λ j. map entry (take i ys) ++ (a.key d j, (entry (get_or ys i d)).1) ∷ map entry (drop (suc i) ys))

      round : map entry ys ≡ map entry (take i ys) ++ map entry (drop i ys)
      round = ap (map entry) (sym (take-append-drop i ys)) ∙ map-append entry (take i ys) (drop i ys)

      pub found : IsAt R entry k ys i → (d : Y) → find R k (map entry ys) ≡ Some (entry (get_or ys i d)).1
      found a d =
          ap (find R k) (around a d) ∙ find-above k _ _ a.between.before ∙ find-here k (entry (get_or ys i d)).1 (map entry (drop (suc i) ys))

      pub missing : IsGap R entry k ys i → find R k (map entry ys) ≡ None
      missing a = ap (find R k) round ∙ find-above k _ _ a.between.before ∙ find-below k _ a.between.after

      pub set-put : IsAt R entry k ys i → (y : Y) (v : X) → entry y ≡ (k, v) → map entry (set ys i y) ≡ put R k v (map entry ys)
      set-put a y v e =
          ap (map entry) (set_split ys i y a.within) ∙ map-append entry (take i ys) (y ∷ drop (suc i) ys)
          ∙ ap (λ x. map entry (take i ys) ++ x ∷ map entry (drop (suc i) ys)) e
          ∙ sym (ap (put R k v) (around a y) ∙ put-at k v _ _ _ a.between.before)

      pub insert-put : IsGap R entry k ys i → (y : Y) (v : X) → entry y ≡ (k, v) → map entry (insert ys i y) ≡ put R k v (map entry ys)
      insert-put a y v e =
          map-append entry (take i ys) (y ∷ drop i ys) ∙ ap (λ x. map entry (take i ys) ++ x ∷ map entry (drop i ys)) e
          ∙ sym (ap (put R k v) round ∙ put-gap k v _ _ a.between.before a.between.after)

      pub remove-without : IsAt R entry k ys i → (d : Y) → map entry (remove ys i) ≡ where_key R (other_by R k) (map entry ys)
      remove-without a d =
          map-append entry (take i ys) (drop (suc i) ys)
          ∙ sym (ap (where_key R (other_by R k)) (around a d) ∙ without-above k _ _ a.between.before
          ∙ ap (λ zs. map entry (take i ys) ++ zs) (without-here k _ _ ∙ without-below k _ a.between.after))

      pub stays-without : IsGap R entry k ys i → map entry ys ≡ where_key R (other_by R k) (map entry ys)
      stays-without a =
          round ∙ sym (ap (where_key R (other_by R k)) round ∙ without-above k _ _ a.between.before
          ∙ ap (λ zs. map entry (take i ys) ++ zs) (without-below k _ a.between.after))

-- what passes, as entries
pub filter-entries : {K X Y : Type 0} (R : K → K → Ordering) (entry : Y → K × X) (p : K → Bool) (ys : List Y)
    → map entry (filter (λ y. p (entry y).0) ys) ≡ where_key R p (map entry ys)
filter-entries R entry p [] = refl
filter-entries R entry p (y ∷ ys) =
    elim (p (entry y).0) as (λ b. map entry (cond b (y ∷ filter (λ y. p (entry y).0) ys) (filter (λ y. p (entry y).0) ys))
    ≡ cond b (entry y ∷ where_key R p (map entry ys)) (where_key R p (map entry ys))) [
      | true ↦ ap (λ zs. entry y ∷ zs) (filter-entries R entry p ys)
      | false ↦ filter-entries R entry p ys
    ]
