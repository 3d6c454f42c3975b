-- What is attached to processes that have no adjustments, one after another, is what they have then.
use Rattle.std.proofs.Common.{◌≡◌, ◌≢◌, ◌<◌, ◌≤◌, ◌+◌, ◌^◌, ℕ, zero, suc, ℤ, T, Bool, true, false, ◌&&◌, cond}
use Rattle.std.proofs.Common.{List, [], ◌∷◌, ◌++◌, map, length, take, drop, get_or}
use Rattle.std.proofs.Common.{Option, Some, None, refl, sym, ap, subst, ◌∙◌, arith}
use Rattle.std.specs.Prelude.{nat_eq, unwrap_or}
use Rattle.std.specs.List.{fold, IsDistinct, AllByRecursion}
use Rattle.std.specs.Int.{w16, cast_signed, cast_unsigned}
use Rattle.std.specs.Option.{option_or}
use Rattle.std.specs.Cmp.{signed_Decides}
use Rattle.std.specs.Ordering.{is_eq, is_lt, eq_by_cmp, int_eq}
use Rattle.std.specs.declared.cmp.Ordering.{Ordering}
use Rattle.std.specs.declared.cmp.Ordering.TheVariants.{Less, Equal, Greater}
use Rattle.std.specs.FinMap as fin
use Rattle.std.specs.FinMap.{find, is_sorted, same_map, get-insert, get-empty, get-entries, entries_sorted}
use Rattle.std.specs.FinMap.Entries.{below_all}
use Rattle.std.proofs.lemmas.Bool.{eq-eqb}
use Rattle.std.proofs.lemmas.Bool.Decides.{nat_tests}
use Rattle.std.proofs.lemmas.Grind.{flat_map-append}
use Rattle.std.proofs.lemmas.Int.{ints, of_z-to_z}
use Rattle.std.proofs.lemmas.List.{append_assoc, append-nil, append_cancel_left, length-append, length-map, map-append, take_more, take_all, take_at}
use Rattle.std.proofs.lemmas.List.{drop_more, take-append-drop, get_or-map, nil_from_length}
use Rattle.std.proofs.lemmas.List.Sums.{fold-append}
use Rattle.std.proofs.lemmas.Simd.{map-map}
use Rattle.std.proofs.lemmas.List.Concat.{flat_map-cons}
use Rattle.std.proofs.lemmas.Map.Keys.{IsDistinct-head, IsDistinct-tail, IsDistinct-cons}
use Rattle.ipc_base.specs.Table.{keys_of, seen_as, IsRising, value_at}
use Rattle.ipc_base.specs.Numbers.{FitFields}
use Rattle.ipc_base.proofs.CallerLemmas.{keys_of-with_value, numbers_are}
use Rattle.sem_undo.specs.declared.undo.UndoRow.{UndoRow}
use Rattle.sem_undo.specs.Undo.{Key, Undo, key_cmp, entry_of, IsKept}
use Rattle.sem_undo.proofs.CallerLemmas.{key_total, key_apart}
use Rattle.ipc_state.specs.declared.numbered.Item.{Item}
use Rattle.ipc_state.specs.Tables.{item_row}
use Rattle.ipc_image.specs.declared.adjustments.Adjustment.{Adjustment as Read}
use Rattle.ipc_image.specs.Relations.Adjustments.{plain_of}
use Rattle.ipc_image.specs.Saved.{Adjustment, adjustment_sizes, adjustment_numbers, adjustments_of, adjustments_in, FitsAdjustment}
use Rattle.ipc_image.specs.SavedParts.{attached, all_attached, of_process}

-- ---- of one process

-- with these entries
abbrev pub filled : Undo → List (Key × ℤ) → Undo
filled m es = fold (λ (n : Undo) (e : Key × ℤ). fin.insert n e.0 e.1) m es

left_of : (a b : Bool) → T (a && b) → T a
left_of true b h = tt
left_of false b h = absurd h

right_of : (a b : Bool) → T (a && b) → T b
right_of true b h = h
right_of false b h = absurd h

missed_by : (r : Ordering) (x : ℤ) (o : Option ℤ) → T (is_lt r) → o ≡ None → cond (is_eq r) (Some x) o ≡ None
missed_by Less x o h is = is
missed_by Equal x o h is = absurd h
missed_by Greater x o h is = absurd h

-- a key below all others is not found among them
missed : (q : Key) (es : List (Key × ℤ)) → T (below_all key_cmp q es) → find key_cmp q es ≡ None
missed q [] h = refl
missed q (e ∷ es) h =
    missed_by (key_cmp q e.0) e.1 (find key_cmp q es) (left_of (is_lt (key_cmp q e.0)) (below_all key_cmp q es) h)
    (missed q es (right_of (is_lt (key_cmp q e.0)) (below_all key_cmp q es) h))

tied : (r : Ordering) → is_eq r ≡ true → r ≡ Equal
tied Less is = cc
tied Equal is = refl
tied Greater is = cc

one-more : (b : Bool) (v : ℤ) (found before : Option ℤ) → (b ≡ true → found ≡ None)
    → option_or found (cond b (Some v) before) ≡ option_or (cond b (Some v) found) before
one-more true v found before none = ap (λ (o : Option ℤ). option_or o (Some v)) (none refl)
one-more false v found before none = refl

get-filled : (m : Undo) (es : List (Key × ℤ)) (q : Key) → T (is_sorted key_cmp es)
    → fin.get (filled m es) q ≡ option_or (find key_cmp q es) (fin.get m q)
get-filled m [] q rise = refl
get-filled m (e ∷ es) q rise =
    let below : T (below_all key_cmp e.0 es) = left_of (below_all key_cmp e.0 es) (is_sorted key_cmp es) rise in
    let rest : T (is_sorted key_cmp es) = right_of (below_all key_cmp e.0 es) (is_sorted key_cmp es) rise in
    get-filled (fin.insert m e.0 e.1) es q rest
    ∙ ap (option_or (find key_cmp q es)) (get-insert key_total m e.0 e.1 q)
    ∙ one-more (eq_by_cmp key_cmp q e.0) e.1 (find key_cmp q es) (fin.get m q)
    (λ same. ap (λ (k : Key). find key_cmp k es) (key_apart q e.0 (tied (key_cmp q e.0) same)) ∙ missed e.0 es below)

or-none : (o : Option ℤ) → option_or o None ≡ o
or-none None = refl
or-none (Some x) = refl

-- all entries of a map, put into none, are that map
pub filled-all : (m : Undo) → filled fin.empty (fin.entries m) ≡ m
filled-all m =
    same_map key_total key_apart _ _ (λ q.
    get-filled fin.empty (fin.entries m) q (entries_sorted m)
    ∙ ap (option_or (find key_cmp q (fin.entries m))) (get-empty key_cmp q)
    ∙ or-none (find key_cmp q (fin.entries m)) ∙ sym (get-entries m q))

-- ---- of all

-- those of the process at the front change its entry alone
at-front : (p : ℕ) (m : Undo) (us : List (ℕ × Undo)) (es : List (Key × ℤ))
    → all_attached ((p, m) ∷ us) (map (λ e. (p, e)) es) ≡ (p, filled m es) ∷ us
at-front p m us [] = refl
at-front p m us (e ∷ es) =
    let one : attached ((p, m) ∷ us) (p, e) ≡ (p, fin.insert m e.0 e.1) ∷ us = rw (eq-eqb p p refl) refl in
    ap (λ (l : List (ℕ × Undo)). all_attached l (map (λ e. (p, e)) es)) one ∙ at-front p (fin.insert m e.0 e.1) us es

-- those of others leave it as it is
past-front : (u : ℕ × Undo) (us : List (ℕ × Undo)) (xs : List Adjustment) → AllByRecursion (λ x. nat_eq u.0 x.0 ≡ false) xs
    → all_attached (u ∷ us) xs ≡ u ∷ all_attached us xs
past-front u us [] others = refl
past-front u us (x ∷ xs) others =
    let one : attached (u ∷ us) x ≡ u ∷ attached us x = rw others.0 refl in
    ap (λ (l : List (ℕ × Undo)). all_attached l xs) one ∙ past-front u (attached us x) xs others.1

apart-own : (p k : ℕ) (es : List (Key × ℤ)) (xs : List Adjustment) → nat_eq p k ≡ false → AllByRecursion (λ x. nat_eq p x.0 ≡ false) xs
    → AllByRecursion (λ x. nat_eq p x.0 ≡ false) (map (λ e. (k, e)) es ++ xs)
apart-own p k [] xs other others = others
apart-own p k (e ∷ es) xs other others = (other, apart-own p k es xs other others)

apart-all : (p : ℕ) (us : List (ℕ × Undo)) → AllByRecursion (λ k. nat_eq p k ≡ false) (keys_of us)
    → AllByRecursion (λ x. nat_eq p x.0 ≡ false) (adjustments_in us)
apart-all p [] others = tt
apart-all p (u ∷ us) others =
    subst (λ (xs : List Adjustment). AllByRecursion (λ x. nat_eq p x.0 ≡ false) xs) (sym (flat_map-cons adjustments_of u us))
    (apart-own p u.0 (fin.entries u.1) (adjustments_in us) others.0 (apart-all p us others.1))

-- the adjustments of processes, attached to the same processes with none
pub attached-all : (us : List (ℕ × Undo)) → IsDistinct nat_eq (keys_of us)
    → all_attached (seen_as (λ (u : Undo). let n : Undo = fin.empty in n) us) (adjustments_in us) ≡ us
attached-all [] distinct = refl
attached-all (u ∷ us) distinct =
    let none : List (ℕ × Undo) = seen_as (λ (v : Undo). let n : Undo = fin.empty in n) us in
    let start : List (ℕ × Undo) = (u.0, fin.empty) ∷ none in
    ap (all_attached start) (flat_map-cons adjustments_of u us)
    ∙ fold-append attached start (adjustments_of u) (adjustments_in us)
    ∙ ap (λ (l : List (ℕ × Undo)). all_attached l (adjustments_in us)) (at-front u.0 fin.empty none (fin.entries u.1))
    ∙ past-front (u.0, filled fin.empty (fin.entries u.1)) none (adjustments_in us)
    (apart-all u.0 us (IsDistinct-head nat_eq u.0 (keys_of us) distinct))
    ∙ ap (λ (m : Undo). (u.0, m) ∷ all_attached none (adjustments_in us)) (filled-all u.1)
    ∙ ap (λ (l : List (ℕ × Undo)). u ∷ l) (attached-all us (IsDistinct-tail nat_eq u.0 (keys_of us) distinct))

-- the processes stay the same
pub keys-attached : (us : List (ℕ × Undo)) (xs : List Adjustment) → keys_of (all_attached us xs) ≡ keys_of us
keys-attached us [] = refl
keys-attached us (x ∷ xs) =
    keys-attached (attached us x) xs
    ∙ keys_of-with_value nat_eq us x.0 (fin.insert (unwrap_or (value_at nat_eq us x.0) fin.empty) x.1.0 x.1.1)

-- a table of none is known by its keys
none-of : List ℕ → List (ℕ × Undo)
none-of ks = map (λ k. (k, fin.empty)) ks

none-keys : {X : Type 0} (es : List (ℕ × X)) → seen_as (λ (x : X). let n : Undo = fin.empty in n) es ≡ none-of (keys_of es)
unfolding none-of
none-keys [] = refl
none-keys (e ∷ es) = ap (λ (l : List (ℕ × Undo)). (e.0, fin.empty) ∷ l) (none-keys es)

pub none-same : {X Y : Type 0} (es : List (ℕ × X)) (fs : List (ℕ × Y)) → keys_of es ≡ keys_of fs
    → seen_as (λ (x : X). let n : Undo = fin.empty in n) es ≡ seen_as (λ (y : Y). let n : Undo = fin.empty in n) fs
none-same es fs same = none-keys es ∙ ap none-of same ∙ sym (none-keys fs)

pub none-keys_of : {X : Type 0} (es : List (ℕ × X)) → keys_of (seen_as (λ (x : X). let n : Undo = fin.empty in n) es) ≡ keys_of es
none-keys_of [] = refl
none-keys_of (e ∷ es) = ap (λ (ks : List ℕ). e.0 ∷ ks) (none-keys_of es)

-- adjustments are known by the processes and by the list of all
pub undo_one : (us vs : List (ℕ × Undo)) → IsDistinct nat_eq (keys_of us) → keys_of us ≡ keys_of vs → adjustments_in us ≡ adjustments_in vs → us ≡ vs
undo_one us vs distinct same all =
    sym (attached-all us distinct) ∙ ap (λ (l : List (ℕ × Undo)). all_attached l (adjustments_in us)) (none-same us vs same)
    ∙ ap (all_attached (seen_as (λ (u : Undo). let n : Undo = fin.empty in n) vs)) all
    ∙ attached-all vs (subst (IsDistinct nat_eq) same distinct)

-- ---- rows that are read

-- the numbers of an adjustment, of which the last is neither 0 nor the least, are one that is kept
kept_bits : (n : ℕ) → n < 2 ^ 16 → n ≢ 0 → n ≢ 32768 → IsKept (cast_signed w16 n)
kept_bits n fit some least = (grind (arith, ints), grind (arith, ints))

pub read_row : (ns : List ℕ) (a : ℤ) → FitFields adjustment_sizes ns → a ≡ cast_signed w16 (get_or ns 3 0)
    → cast_unsigned w16 a ≢ 0 → cast_unsigned w16 a ≢ 32768
    → let x : Adjustment = (get_or ns 0 0, ((get_or ns 1 0, get_or ns 2 0), cast_signed w16 (cast_unsigned w16 a))) in
    FitsAdjustment x × (ns ≡ adjustment_numbers x)
read_row ns a fit is some least =
    let are : ns ≡ get_or ns 0 0 ∷ get_or ns 1 0 ∷ get_or ns 2 0 ∷ get_or ns 3 0 ∷ [] = numbers_are adjustment_sizes ns fit in
    let fits = subst (FitFields adjustment_sizes) are fit in
    let n : ℕ = get_or ns 3 0 in
    let last : n < 2 ^ 16 = fits.1.1.1.0 in
    let bits : cast_unsigned w16 a ≡ n = ap (cast_unsigned w16) is ∙ of_z-to_z w16 n last in
    let again : cast_unsigned w16 (cast_signed w16 (cast_unsigned w16 a)) ≡ n =
    ap (λ (m : ℕ). cast_unsigned w16 (cast_signed w16 m)) bits ∙ of_z-to_z w16 n last in
    let kept : IsKept (cast_signed w16 (cast_unsigned w16 a)) =
    subst (λ (m : ℕ). IsKept (cast_signed w16 m)) (sym bits)
    (kept_bits n last (λ e. some (bits ∙ e)) (λ e. least (bits ∙ e))) in (
      (kept, (fits.0, (fits.1.0, (fits.1.1.0, (subst (λ (m : ℕ). m < 2 ^ 16) (sym again) last, tt))))),
      are ∙ ap (λ (m : ℕ). get_or ns 0 0 ∷ get_or ns 1 0 ∷ get_or ns 2 0 ∷ m ∷ []) (sym again),
    )

-- one more of them is attached
pub attached-more : (us : List (ℕ × Undo)) (rows : List Read) (i : ℕ) (d : Read) → i < length rows
    → attached (all_attached us (map plain_of (take i rows))) (plain_of (get_or rows i d)) ≡ all_attached us (map plain_of (take (i + 1) rows))
attached-more us rows i d within =
    sym (ap (λ (l : List Read). all_attached us (map plain_of l)) (take_more rows i d within)
    ∙ ap (all_attached us) (map-append plain_of (take i rows) (get_or rows i d ∷ []))
    ∙ fold-append attached us (map plain_of (take i rows)) (plain_of (get_or rows i d) ∷ []))

module _ {A B C : Type 0} (f : A → C) (g : B → C) where
  -- two lists that are the same at each place, seen in two ways
  pub same_maps : (xs : List A) (ys : List B) → length xs ≡ length ys
      → ((k : ℕ) (d : A) (e : B) → k < length xs → f (get_or xs k d) ≡ g (get_or ys k e)) → map f xs ≡ map g ys
  same_maps [] [] count each = refl
  same_maps [] (y ∷ ys) count each = absurd (omega (arith, count))
  same_maps (x ∷ xs) [] count each = absurd (omega (arith, count))
  same_maps (x ∷ xs) (y ∷ ys) count each =
      λ i. each 0 x y (omega arith) i ∷ same_maps xs ys (omega (arith, count)) (λ k d e within. each (suc k) d e (omega (arith, within))) i

-- the same at a place
pub maps_at : {A B C : Type 0} (f : A → C) (g : B → C) (xs : List A) (ys : List B) → map f xs ≡ map g ys
    → (k : ℕ) (d : A) (e : B) → k < length xs → k < length ys → f (get_or xs k d) ≡ g (get_or ys k e)
maps_at {C = C} f g xs ys same k d e within also =
    sym (get_or-map f xs k d (f d) within) ∙ ap (λ (l : List C). get_or l k (f d)) same ∙ get_or-map g ys k e (f d) also

-- an adjustment of a process is one row's alone
pub row_is : (pid : ℕ) (own : UndoRow) (x : Read) → of_process pid own ≡ plain_of x → (x.pid.0 ≡ pid) × (x.row ≡ own)
row_is pid own x same = (
  sym (ap (λ (y : Adjustment). y.0) same),
  sym (ap (λ (y : Adjustment). let r : UndoRow = record { set = record { 0 = y.1.0.0 }; num = y.1.0.1; adjustment = y.1.1 } in r) same),
)

-- equal rows pass the test that compares them
pub same_test : (a b : UndoRow) → a ≡ b → (nat_eq a.set.0 b.set.0 && (nat_eq a.num b.num && int_eq a.adjustment b.adjustment)) ≡ true
same_test a b is =
    let own : (nat_eq a.set.0 a.set.0 && (nat_eq a.num a.num && int_eq a.adjustment a.adjustment)) ≡ true =
    rw (eq-eqb a.set.0 a.set.0 refl) (rw (eq-eqb a.num a.num refl) ((signed_Decides a.adjustment a.adjustment).1 refl)) in
    subst (λ (x : UndoRow). (nat_eq a.set.0 x.set.0 && (nat_eq a.num x.num && int_eq a.adjustment x.adjustment)) ≡ true) is own

-- ---- rows of processes, one process after another

pub own_rows : (item : Item Undo) (own : List UndoRow) → map entry_of own ≡ fin.entries item.value
    → map (of_process item.number) own ≡ adjustments_of (item_row item)
own_rows item own are =
    sym (map-map (λ (a : Key × ℤ). let x : Adjustment = (item.number, a) in x) entry_of own)
    ∙ ap (map (λ (a : Key × ℤ). let x : Adjustment = (item.number, a) in x)) are

abbrev pub of_items : List (Item Undo) → List Adjustment
of_items items = adjustments_in (map item_row items)

of_items-append : (xs ys : List (Item Undo)) → of_items (xs ++ ys) ≡ of_items xs ++ of_items ys
of_items-append xs ys =
    ap adjustments_in (map-append item_row xs ys) ∙ flat_map-append adjustments_of (map item_row xs) (map item_row ys)

of_items-cons : (x : Item Undo) (xs : List (Item Undo)) → of_items (x ∷ xs) ≡ adjustments_of (item_row x) ++ of_items xs
of_items-cons x xs = flat_map-cons adjustments_of (item_row x) (map item_row xs)

pub of_items-more : (items : List (Item Undo)) (i : ℕ) (d : Item Undo) (left : List Adjustment) → i < length items
    → of_items (take (i + 1) items) ++ left ≡ of_items (take i items) ++ (adjustments_of (item_row (get_or items i d)) ++ left)
of_items-more items i d left within =
    ap (λ (l : List Adjustment). l ++ left) (ap of_items (take_more items i d within)
    ∙ of_items-append (take i items) (get_or items i d ∷ [])
    ∙ ap (λ (l : List Adjustment). of_items (take i items) ++ l)
    (of_items-cons (get_or items i d) [] ∙ append-nil (adjustments_of (item_row (get_or items i d)))))
    ∙ append_assoc (of_items (take i items)) (adjustments_of (item_row (get_or items i d))) left

pub of_items-all : (items : List (Item Undo)) (i : ℕ) (d : Item Undo) → i < length items
    → of_items items ≡ of_items (take i items) ++ (adjustments_of (item_row (get_or items i d)) ++ of_items (drop (i + 1) items))
of_items-all items i d within =
    ap of_items (sym (take-append-drop i items)) ∙ of_items-append (take i items) (drop i items)
    ∙ ap (λ (l : List Adjustment). of_items (take i items) ++ l) (ap of_items (drop_more items i d within)
    ∙ of_items-cons (get_or items i d) (drop (i + 1) items))

-- if all are those of the processes, what is left begins with those of the next process
pub left_at : (items : List (Item Undo)) (i : ℕ) (item : Item Undo) (rows left : List Read) → i < length items → item ≡ get_or items i item
    → map plain_of rows ≡ of_items (take i items) ++ map plain_of left → of_items items ≡ map plain_of rows
    → map plain_of left ≡ adjustments_of (item_row item) ++ of_items (drop (i + 1) items)
left_at items i item rows left within is so_far all =
    append_cancel_left (of_items (take i items)) _ _ (sym so_far ∙ sym all ∙ of_items-all items i item within)
    ∙ ap (λ (x : Item Undo). adjustments_of (item_row x) ++ of_items (drop (i + 1) items)) (sym is)

-- there are not as few as less than the next process has
pub too_few : (item : Item Undo) (own : List UndoRow) (left : List Read) (rest : List Adjustment) → map entry_of own ≡ fin.entries item.value
    → map plain_of left ≡ adjustments_of (item_row item) ++ rest → length left < length own → ⊥
too_few item own left rest are begin short =
    omega (
      arith,
      short,
      ap length begin,
      ap length (own_rows item own are),
      length-append (adjustments_of (item_row item)) rest,
      length-map left plain_of,
      length-map own (of_process item.number),
    )

-- the first ones of what is left are those of the next process
pub front_is : (item : Item Undo) (own : List UndoRow) (left : List Read) (rest : List Adjustment) → map entry_of own ≡ fin.entries item.value
    → map plain_of left ≡ adjustments_of (item_row item) ++ rest → map (of_process item.number) own ≡ map plain_of (take (length own) left)
front_is item own left rest are begin =
    let mine : List Adjustment = map (of_process item.number) own in
    sym (map-take plain_of left (length own) ∙ ap (take (length own)) (begin ∙ ap (λ (l : List Adjustment). l ++ rest) (sym (own_rows item own are)))
    ∙ take_at mine rest (length own) (length-map own (of_process item.number)))
  where
    map-take : {A B : Type 0} (f : A → B) (xs : List A) (n : ℕ) → map f (take n xs) ≡ take n (map f xs)
    map-take f [] zero = refl
    map-take f [] (suc n) = refl
    map-take f (x ∷ xs) zero = refl
    map-take f (x ∷ xs) (suc n) = ap (λ l. f x ∷ l) (map-take f xs n)

-- one process more
pub next_are : (items : List (Item Undo)) (i : ℕ) (item : Item Undo) (own : List UndoRow) (rows left : List Read) → i < length items
    → item ≡ get_or items i item → map entry_of own ≡ fin.entries item.value → map plain_of rows ≡ of_items (take i items) ++ map plain_of left
    → map (of_process item.number) own ≡ map plain_of (take (length own) left)
    → map plain_of rows ≡ of_items (take (i + 1) items) ++ map plain_of (drop (length own) left)
next_are items i item own rows left within is are so_far same =
    let after : List Adjustment = map plain_of (drop (length own) left) in
    so_far ∙ ap (λ (l : List Adjustment). of_items (take i items) ++ l) (ap (map plain_of) (sym (take-append-drop (length own) left))
    ∙ map-append plain_of (take (length own) left) (drop (length own) left)
    ∙ ap (λ (l : List Adjustment). l ++ after) (sym same ∙ own_rows item own are ∙ ap (λ (x : Item Undo). adjustments_of (item_row x)) is))
    ∙ sym (of_items-more items i item after within)

-- after the last process nothing is left if and only if they are all
pub all_are : (items : List (Item Undo)) (i : ℕ) (rows left : List Read) → length items ≤ i
    → map plain_of rows ≡ of_items (take i items) ++ map plain_of left
    → (length left ≡ 0 → of_items items ≡ map plain_of rows) × (of_items items ≡ map plain_of rows → length left ≡ 0)
all_are items i rows left past so_far =
    let all : map plain_of rows ≡ of_items items ++ map plain_of left =
    so_far ∙ ap (λ (l : List (Item Undo)). of_items l ++ map plain_of left) (take_all i items past) in (
      λ none. sym (all ∙ ap (λ (l : List Read). of_items items ++ map plain_of l) (nil_from_length left none) ∙ append-nil (of_items items)),
      λ same. omega (
        arith,
        ap length (all ∙ ap (λ (l : List Adjustment). l ++ map plain_of left) same),
        length-append (map plain_of rows) (map plain_of left),
        length-map left plain_of,
      ),
    )

-- ---- numbers that rise

-- numbers that rise are distinct
pub rising-distinct : (low : ℕ) (ns : List ℕ) (high : ℕ) → IsRising low ns high → IsDistinct nat_eq ns
unfolding IsDistinct
rising-distinct low [] high rising = tt
rising-distinct low (n ∷ ns) high rising =
    IsDistinct-cons nat_eq n ns (above (n + 1) ns rising.1 (omega arith)) (rising-distinct (n + 1) ns high rising.1)
  where
    above : (least : ℕ) (ms : List ℕ) → IsRising least ms high → n < least → AllByRecursion (λ m. nat_eq n m ≡ false) ms
    above least [] up lt = tt
    above least (m ∷ ms) up lt = (grind (arith, nat_tests, up.0, lt), above (m + 1) ms up.1 (omega (arith, up.0, lt)))
