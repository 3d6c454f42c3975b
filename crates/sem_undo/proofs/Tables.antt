-- Entries that rise, as finite maps; and what that says of rows.
use Rattle.std.proofs.Common.{◌≡◌, ◌≢◌, ℕ, ℤ, pos, to_z, of_z, ◌-ℤ◌, ◌+ℤ◌, Option, FitsSigned, Bool, true, false, not}
use Rattle.std.proofs.Common.{cond, List, [], Some, None, refl, sym, ap, subst, ◌∙◌, arith}
use Rattle.std.specs.Prelude.{All, ◌==◌, length, is_some}
use Rattle.std.specs.Option.{unwrap_or}
use Rattle.std.proofs.lemmas.List.{length-map}
use Rattle.std.proofs.lemmas.List.Elements.{All-filter, All-nil}
use Rattle.std.specs.Cmp.{IsTotalOrder, nat_cmp_total, then_total, on_total, tied_itself, eq_by_cmp_equiv}
use Rattle.std.specs.Ordering.{is_eq, eq_by_cmp, nat_cmp, int_eq}
use Rattle.std.specs.declared.cmp.Ordering.{Ordering}
use Rattle.std.specs.declared.cmp.Ordering.TheVariants.{Less, Equal, Greater}
use Rattle.std.specs.FinMap as fin
use Rattle.std.specs.FinMap.{IsAntisymmetric, put, nat_cmp-IsAntisymmetric, same_map, same_entries_map, entries-insert, entries_sorted}
use Rattle.std.specs.FinMap.{entries-from_sorted, len-entries, get-from_sorted, get-retain_keys, get-remove, get-insert, get-empty}
use Rattle.std.specs.FinMap.Entries.{where_key, find-where_key, is_sorted-where_key, is_sorted-put}
use Rattle.std.specs.Int.{w16}
use Rattle.std.proofs.lemmas.Int.{ints, to_z-of_z}
use Rattle.std.proofs.lemmas.Map.Lookups.{exact_pairs}
use Rattle.std.proofs.lemmas.Bool.Decides.{nat_tests}
use Rattle.sem_undo.specs.declared.undo.UndoRow.{UndoRow}
use Rattle.sem_undo.specs.Undo.{Key, Undo, adjustment, cleared, subtracted, key_cmp, IsKept, IsSoundUndo, is_adjustment, with_adjustment, entry_of}
use Rattle.sem_undo.specs.Rows.{entries_of, AreRows}
use Rattle.sem_undo.proofs.Sorted.{All-put}

pub key_total : IsTotalOrder key_cmp
key_total = then_total (on_total (λ (k : Key). k.0) nat_cmp_total) (on_total (λ (k : Key). k.1) nat_cmp_total)

pub key_apart : IsAntisymmetric key_cmp
key_apart = exact_pairs nat_cmp nat_cmp nat_cmp-IsAntisymmetric nat_cmp-IsAntisymmetric

abbrev undo_of : List (Key × ℤ) → Undo
undo_of es = fin.from_sorted {R = key_cmp} es

-- ---- rows

pub sound : (es : List (Key × ℤ)) → AreRows es → IsSoundUndo (fin.from_sorted {R = key_cmp} es)
sound es are = subst (λ (xs : List (Key × ℤ)). All (λ e. IsKept e.1) xs) (sym (entries-from_sorted key_cmp es are.rising)) are.kept

pub no-rows : AreRows (entries_of [])
no-rows = record { rising = tt; kept = All-nil (λ (e : Key × ℤ). IsKept e.1) }

pub where-rows : (p : Key → Bool) (es : List (Key × ℤ)) → AreRows es → AreRows (where_key key_cmp p es)
where-rows p es are = record {
  rising = is_sorted-where_key key_cmp p es are.rising;
  kept = All-filter (λ (e : Key × ℤ). p e.0) (λ e. IsKept e.1) es are.kept;
}

pub put-rows : (k : Key) (a : ℤ) (es : List (Key × ℤ)) → IsKept a → AreRows es → AreRows (put key_cmp k a es)
put-rows k a es is are = record {
  rising = is_sorted-put key_cmp key_total k a es are.rising;
  kept = All-put key_cmp key_total IsKept k a es is are.kept;
}

pub retained : (u : Undo) (p : Key → Bool) (k : Key) → fin.get (fin.retain_keys u p) k ≡ cond (p k) (fin.get u k) None
retained u p k = get-retain_keys u p k (λ x e. ap p (sym (key_apart k x e)))

pub where-undo : (p : Key → Bool) (es : List (Key × ℤ)) → AreRows es → undo_of (where_key key_cmp p es) ≡ fin.retain_keys (undo_of es) p
where-undo p es are =
    same_map key_total key_apart _ _ (λ q.
    get-from_sorted key_cmp (where_key key_cmp p es) q (where-rows p es are).rising
    ∙ find-where_key key_cmp p q (λ x e. ap p (sym (key_apart q x e))) es
    ∙ sym (retained (undo_of es) p q ∙ ap (λ r. cond (p q) r None) (get-from_sorted key_cmp es q are.rising)))

turned : {A : Type 0} (b : Bool) (x y : A) → cond (not b) x y ≡ cond b y x
turned true x y = refl
turned false x y = refl

pub without-undo : (k : Key) (es : List (Key × ℤ)) → AreRows es
    → undo_of (where_key key_cmp (λ x. not (eq_by_cmp key_cmp k x)) es) ≡ fin.remove (undo_of es) k
without-undo k es are =
    where-undo (λ x. not (eq_by_cmp key_cmp k x)) es are ∙ same_map key_total key_apart _ _ (λ q.
    retained (undo_of es) (λ x. not (eq_by_cmp key_cmp k x)) q ∙ turned (eq_by_cmp key_cmp k q) (fin.get (undo_of es) q) None
    ∙ ap (λ b. cond b None (fin.get (undo_of es) q)) ((eq_by_cmp_equiv key_total).symm k q) ∙ sym (get-remove key_total (undo_of es) k q))

pub insert-undo : (k : Key) (a : ℤ) (es : List (Key × ℤ)) → AreRows es → undo_of (put key_cmp k a es) ≡ fin.insert (undo_of es) k a
insert-undo k a es are =
    same_entries_map _ _ (entries-from_sorted key_cmp (put key_cmp k a es) (is_sorted-put key_cmp key_total k a es are.rising)
    ∙ sym (entries-insert key_total (undo_of es) k a ∙ ap (put key_cmp k a) (entries-from_sorted key_cmp es are.rising)))

pub empty-rows : (rows : List UndoRow) → rows ≡ [] → undo_of (entries_of rows) ≡ fin.empty
empty-rows rows e =
    ap (λ ys. undo_of (entries_of ys)) e
    ∙ same_map key_total key_apart _ _ (λ q. get-from_sorted key_cmp [] q tt ∙ sym (get-empty key_cmp q))

zero_is : (a : ℤ) → a ≡ pos 0 → int_eq a (pos 0) ≡ true
zero_is a e = ap (λ b. int_eq b (pos 0)) e

zero_not : (a : ℤ) → a ≢ pos 0 → int_eq a (pos 0) ≡ false
zero_not a ne = grind (arith, ints)

-- a row that is taken out, or put in
pub removed-undo : (k : Key) (a : ℤ) (es : List (Key × ℤ)) → AreRows es → a ≡ pos 0
    → undo_of (where_key key_cmp (λ x. not (eq_by_cmp key_cmp k x)) es) ≡ with_adjustment (undo_of es) k a
removed-undo k a es are e =
    without-undo k es are ∙ sym (ap (λ b. cond b (fin.remove (undo_of es) k) (fin.insert (undo_of es) k a)) (zero_is a e))

pub put-undo : (k : Key) (a : ℤ) (es : List (Key × ℤ)) → AreRows es → a ≢ pos 0 → undo_of (put key_cmp k a es) ≡ with_adjustment (undo_of es) k a
put-undo k a es are ne =
    insert-undo k a es are ∙ sym (ap (λ b. cond b (fin.remove (undo_of es) k) (fin.insert (undo_of es) k a)) (zero_not a ne))

-- ---- what a change keeps

-- adjustments are in their range, and none is 0: so they are those of rows
rows-in : (u : Undo) → IsSoundUndo u → AreRows (fin.entries u)
rows-in u is = record { rising = entries_sorted u; kept = is }

made-of : (u : Undo) → undo_of (fin.entries u) ≡ u
made-of u = same_entries_map _ _ (entries-from_sorted key_cmp (fin.entries u) (entries_sorted u))

-- what rows are, after a change, that of the adjustments is
changed-sound : (es : List (Key × ℤ)) (f : Undo → Undo) (u : Undo) → AreRows es → undo_of es ≡ f (undo_of (fin.entries u)) → IsSoundUndo (f u)
changed-sound es f u are is = subst (λ (v : Undo). IsSoundUndo v) (is ∙ ap f (made-of u)) (sound es are)

pub empty-sound : IsSoundUndo fin.empty
empty-sound = subst (λ (v : Undo). IsSoundUndo v) (empty-rows [] refl) (sound (entries_of []) no-rows)

removed-sound : (k : Key) (u : Undo) → IsSoundUndo u → IsSoundUndo (fin.remove u k)
removed-sound k u is =
    let p : Key → Bool = λ x. not (eq_by_cmp key_cmp k x) in
    changed-sound (where_key key_cmp p (fin.entries u)) (λ (v : Undo). fin.remove v k) u (where-rows p (fin.entries u) (rows-in u is))
    (without-undo k (fin.entries u) (rows-in u is))

pub cleared-sound : (set : ℕ) (num : Option ℕ) (u : Undo) → IsSoundUndo u → IsSoundUndo (cleared set num u)
cleared-sound set None u is =
    let p : Key → Bool = λ k. not (k.0 == set) in
    changed-sound (where_key key_cmp p (fin.entries u)) (λ (v : Undo). fin.retain_keys v p) u (where-rows p (fin.entries u) (rows-in u is))
    (where-undo p (fin.entries u) (rows-in u is))
cleared-sound set (Some num) u is = removed-sound (set, num) u is

-- another adjustment, which is in its range
pub with-sound : (u : Undo) (k : Key) (a : ℤ) → is_adjustment a ≡ true → IsSoundUndo u → IsSoundUndo (with_adjustment u k a)
with-sound u k a range is = by_zero (int_eq a (pos 0)) refl
  where
    by_zero : (b : Bool) → int_eq a (pos 0) ≡ b → IsSoundUndo (cond b (fin.remove u k) (fin.insert u k a))
    by_zero true is_zero = removed-sound k u is
    by_zero false other =
        let some : a ≢ pos 0 = λ none. let yes = zero_is a none in cc in
        changed-sound (put key_cmp k a (fin.entries u)) (λ (v : Undo). fin.insert v k a) u
        (put-rows k a (fin.entries u) (some, range) (rows-in u is)) (insert-undo k a (fin.entries u) (rows-in u is))

-- ---- an operation

-- there are as many as there are rows
pub count-rows : (rows : List UndoRow) → AreRows (entries_of rows) → fin.len (undo_of (entries_of rows)) ≡ length rows
count-rows rows are =
    len-entries (undo_of (entries_of rows)) ∙ ap (λ (es : List (Key × ℤ)). length es) (entries-from_sorted key_cmp (entries_of rows) are.rising)
    ∙ length-map rows entry_of

fits : (a : ℤ) → is_adjustment a ≡ true → FitsSigned w16 a
fits a h = grind (arith, ints)

pub inner : (r a s : ℤ) → r ≡ a → FitsSigned w16 r → FitsSigned w16 s → to_z w16 (of_z w16 r) -ℤ to_z w16 (of_z w16 s) ≡ a -ℤ s
inner r a s e fr fs = λ i. (to_z-of_z w16 r fr ∙ e) i -ℤ to_z-of_z w16 s fs i

pub difference : (r a s : ℤ) → r ≡ a → FitsSigned w16 r → FitsSigned w16 s → is_adjustment (a -ℤ s) ≡ true
    → to_z w16 (of_z w16 (to_z w16 (of_z w16 r) -ℤ to_z w16 (of_z w16 s))) ≡ a -ℤ s
difference r a s e fr fs range = ap (λ z. to_z w16 (of_z w16 z)) (inner r a s e fr fs) ∙ to_z-of_z w16 (a -ℤ s) (fits (a -ℤ s) range)

-- ---- the laws

pub retained_not : (u : Undo) (p : Key → Bool) (k : Key) → p k ≡ false → fin.get (fin.retain_keys u p) k ≡ None
retained_not u p k e = retained u p k ∙ ap (λ b. cond b (fin.get u k) None) e

pub retained_all : (u : Undo) (p : Key → Bool) (k : Key) → p k ≡ true → fin.get (fin.retain_keys u p) k ≡ fin.get u k
retained_all u p k e = retained u p k ∙ ap (λ b. cond b (fin.get u k) None) e

pub not_same : (a b : ℕ) → a ≢ b → not (a == b) ≡ true
not_same a b ne = grind (arith, nat_tests)

pub same_not : (a b : ℕ) → a ≡ b → not (a == b) ≡ false
same_not a b e = grind (arith, nat_tests)

-- what stands at a key after another adjustment was put at k
value_of : ℤ → Option ℤ
value_of a = cond (int_eq a (pos 0)) None (Some a)

get-with : (u : Undo) (k : Key) (a : ℤ) (q : Key) → fin.get (with_adjustment u k a) q ≡ cond (eq_by_cmp key_cmp q k) (value_of a) (fin.get u q)
unfolding value_of
get-with u k a q =
    elim (int_eq a (pos 0)) as (λ b. fin.get (cond b (fin.remove u k) (fin.insert u k a)) q
    ≡ cond (eq_by_cmp key_cmp q k) (cond b None (Some a)) (fin.get u q)) [
      | true ↦ get-remove key_total u k q
      | false ↦ get-insert key_total u k a q
    ]

pub key_other : (q k : Key) → q ≢ k → eq_by_cmp key_cmp q k ≡ false
key_other q k ne =
    elim (key_cmp q k) as (λ r. key_cmp q k ≡ r → is_eq r ≡ false) [
      | Less ↦ λ e. refl
      | Equal ↦ λ e. absurd (ne (key_apart q k e))
      | Greater ↦ λ e. refl
    ] refl

value_back : (a : ℤ) → unwrap_or (value_of a) (pos 0) ≡ a
unfolding value_of
value_back a =
    elim (int_eq a (pos 0)) as (λ b. int_eq a (pos 0) ≡ b → unwrap_or (cond b None (Some a)) (pos 0) ≡ a) [
      | true ↦ λ e. zero_if a e
      | false ↦ λ e. refl
    ] refl
  where
    zero_if : (a : ℤ) → int_eq a (pos 0) ≡ true → pos 0 ≡ a
    zero_if a e = grind (arith, ints)

pub subtracted_there : (u : Undo) (k : Key) (a : ℤ) → adjustment (subtracted u k a) k ≡ adjustment u k -ℤ a
subtracted_there u k a =
    let b = adjustment u k -ℤ a in
    ap (λ r. unwrap_or r (pos 0)) (get-with u k b k ∙ ap (λ r. cond (is_eq r) (value_of b) (fin.get u k)) (tied_itself key_total k)) ∙ value_back b

pub subtracted_others : (u : Undo) (k q : Key) (a : ℤ) → q ≢ k → fin.get (subtracted u k a) q ≡ fin.get u q
subtracted_others u k q a ne =
    let b = adjustment u k -ℤ a in
    get-with u k b q ∙ ap (λ t. cond t (value_of b) (fin.get u q)) (key_other q k ne)

over : {A : Type 0} (b : Bool) (x y z : A) → cond b x (cond b y z) ≡ cond b x z
over true x y z = refl
over false x y z = refl

pub with_again : (u : Undo) (k : Key) (a b : ℤ) → with_adjustment (with_adjustment u k a) k b ≡ with_adjustment u k b
with_again u k a b = same_map key_total key_apart _ _ (λ q.
    get-with (with_adjustment u k a) k b q ∙ ap (cond (eq_by_cmp key_cmp q k) (value_of b)) (get-with u k a q)
    ∙ over (eq_by_cmp key_cmp q k) (value_of b) (value_of a) (fin.get u q) ∙ sym (get-with u k b q))

by_sum : (z a b : ℤ) → (z -ℤ a) -ℤ b ≡ z -ℤ (a +ℤ b)
by_sum z a b = omega (arith, ints)

pub subtracted_twice : (u : Undo) (k : Key) (a b : ℤ) → subtracted (subtracted u k a) k b ≡ subtracted u k (a +ℤ b)
subtracted_twice u k a b =
    let first = adjustment u k -ℤ a in
    ap (λ z. with_adjustment (with_adjustment u k first) k (z -ℤ b)) (subtracted_there u k a)
    ∙ with_again u k first (first -ℤ b) ∙ ap (with_adjustment u k) (by_sum (adjustment u k) a b)

-- ---- elsewhere

-- what is cleared at a set changes no adjustment at another
pub cleared_others : (u : Undo) (set : ℕ) (num : Option ℕ) (q : Key) → q.0 ≢ set → adjustment (cleared set num u) q ≡ adjustment u q
cleared_others u set None q apart = ap (λ r. unwrap_or r (pos 0)) (retained_all u (λ x. not (x.0 == set)) q (not_same q.0 set apart))
cleared_others u set (Some num) q apart =
    ap (λ r. unwrap_or r (pos 0)) (get-remove key_total u (set, num) q
    ∙ ap (λ b. cond b None (fin.get u q)) (key_other q (set, num) (λ same. apart (ap (λ (x : Key). x.0) same))))

-- what holds of the semaphore of an operation, and of each at which an adjustment was, holds of each after the operation
pub subtracted_each : (P : Key → Type 0) (u : Undo) (k : Key) (a : ℤ) → P k → ((q : Key) → is_some (fin.get u q) ≡ true → P q)
    → (q : Key) → is_some (fin.get (subtracted u k a) q) ≡ true → P q
subtracted_each P u k a new old q is = by_order (key_cmp q k) refl (ap is_some (sym (get-with u k (adjustment u k -ℤ a) q)) ∙ is)
  where
    by_order : (r : Ordering) → key_cmp q k ≡ r → is_some (cond (is_eq r) (value_of (adjustment u k -ℤ a)) (fin.get u q)) ≡ true → P q
    by_order Less eq there = old q there
    by_order Equal eq there = subst P (sym (key_apart q k eq)) new
    by_order Greater eq there = old q there
