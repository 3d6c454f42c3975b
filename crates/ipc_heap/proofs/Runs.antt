-- Objects that stand one after another, and the table after them.
use Rattle.std.proofs.Common.{◌≡◌, ◌≢◌, inl, inr, ⊎_elim, ℕ, zero, suc, ◌+◌, ◌-◌, ◌*◌, ◌/◌, ◌^◌, ◌<◌, ◌≤◌, List, [], ◌∷◌, ◌++◌, length, take, drop, map, refl}
use Rattle.std.proofs.Common.{sym, ap, subst, ◌∙◌, arith}
use Rattle.std.specs.Prelude.{All, Contains, nat_eq, slice_index, flat_map}
use Rattle.std.specs.List.{IsDistinct, range_with_len}
use Rattle.std.proofs.lemmas.Bool.{cases_lt}
use Rattle.std.proofs.lemmas.List.{get_or_append_left, length-append, take_more, drop_more, take-append-drop, map-append}
use Rattle.std.proofs.lemmas.List.FromFn.{length-range_with_len, get_or-range_with_len}
use Rattle.std.proofs.lemmas.List.Sums.{sum_by-cons}
use Rattle.std.proofs.lemmas.List.Elements.{All-nil, All-cons, All-head, All-tail}
use Rattle.ipc_base.specs.Objects.{PlainObjects, AreObjects, Fit, table_bytes}
use Rattle.ipc_base.specs.Objects as objects
use Rattle.ipc_base.specs.Table.{IsRising, keys_of}
use Rattle.ipc_disk.specs.declared.range.Range.{Range}
use Rattle.ipc_disk.specs.Medium.{Image, Medium}
use Rattle.ipc_disk.specs.Range.{IsInside, IsOutside}
use Rattle.ipc_disk.specs.Since.{LeavesAlone, SameAt}
use Rattle.ipc_disk.specs.Standing.{sector_at, sectors_for}
use Rattle.ipc_disk.proofs.CallerLemmas.{LeavesAlone-fewer, LeavesAlone-join, sector_at-same}
use Rattle.ipc_heap.specs.Heap.{Holds, IsElsewhere, IsLaidOut, Placed, object_on, object_sectors, object_words, table_sectors_for, table_words}
use Rattle.ipc_heap.specs.Relations.Flip.{IsTurned}
use Rattle.ipc_heap.specs.Relations.Table.{object_at, placed_after, placed_at}
use Rattle.ipc_heap.proofs.Changes.{HasSize, words_for-is}
use Rattle.ipc_heap.proofs.Images.{objects-same}
use Rattle.ipc_heap.proofs.Placed.{word-at, words_for, words_for-append}
use Rattle.ipc_heap.proofs.Sectors.{distinct-apart, distinct-cons, distinct-none, in-cases, in-none}

-- ---- numbers one after another

pub run-append : (a m n : ℕ) → range_with_len a (m + n) ≡ range_with_len a m ++ range_with_len (a + m) n
run-append a zero n =
    let none : zero + n ≡ n = omega arith in let same : a + zero ≡ a = omega arith in
    ap (range_with_len a) none ∙ ap (λ (k : ℕ). range_with_len k n) (sym same)
run-append a (suc m) n =
    let more : suc m + n ≡ suc (m + n) = omega arith in let same : (a + 1) + m ≡ a + suc m = omega arith in
    ap (range_with_len a) more ∙ ap (λ (l : List ℕ). a ∷ l) (run-append (a + 1) m n ∙ ap (λ (k : ℕ). range_with_len (a + 1) m ++ range_with_len k n) same)

pub run-push : (a n : ℕ) → range_with_len a (n + 1) ≡ range_with_len a n ++ (a + n) ∷ []
run-push a n = run-append a n 1

pub run-within : (a n x : ℕ) → Contains (range_with_len a n) x → (a ≤ x) × (x < a + n)
run-within a zero x there = absurd (in-none x there)
run-within a (suc n) x there = ⊎_elim
    (λ same. (omega (arith, same), omega (arith, same)))
    (λ rest. let within = run-within (a + 1) n x rest in (omega (arith, within), omega (arith, within)))
    (in-cases a x (range_with_len (a + 1) n) there)

pub run-once : (a n : ℕ) → IsDistinct nat_eq (range_with_len a n)
run-once a zero = distinct-none
run-once a (suc n) =
    distinct-cons a (range_with_len (a + 1) n) (λ there. let within = run-within (a + 1) n a there in omega (arith, within)) (run-once (a + 1) n)

pub run-all : (P : ℕ → Type 0) (a n : ℕ) → ((x : ℕ) → a ≤ x → x < a + n → P x) → All P (range_with_len a n)
run-all P a zero each = All-nil P
run-all P a (suc n) each =
    All-cons P a (range_with_len (a + 1) n) (each a (omega arith) (omega arith))
    (run-all P (a + 1) n (λ x low high. each x (omega (arith, low)) (omega (arith, high))))

-- ---- where the objects stand

pub sectors-after : (first : ℕ) (os : PlainObjects) → object_sectors (placed_after first os) ≡ range_with_len first (objects.object_sectors os)
sectors-after first [] = refl
sectors-after first (o ∷ os) =
    let n : ℕ = sectors_for (length o.1) in
    ap (λ (l : List ℕ). range_with_len first n ++ l) (sectors-after (first + n) os) ∙ sym (run-append first n (objects.object_sectors os))
    ∙ ap (range_with_len first) (sym (sum_by-cons (λ (x : ℕ × List ℕ). (length x.1 + 511) / 512) o os))

pub after-push : (first : ℕ) (os : PlainObjects) (o : ℕ × List ℕ) → placed_after first (os ++ o ∷ [])
    ≡ placed_after first os ++ placed_at (first + objects.object_sectors os) o ∷ []
after-push first [] o = let same : first ≡ first + 0 = omega arith in ap (λ (k : ℕ). placed_at k o ∷ []) same
after-push first (x ∷ os) o =
    let n : ℕ = sectors_for (length x.1) in
    let same : (first + n) + objects.object_sectors os ≡ first + objects.object_sectors (x ∷ os) =
    omega (arith, sum_by-cons (λ (y : ℕ × List ℕ). (length y.1 + 511) / 512) x os) in
    ap (λ (l : List Placed). placed_at first x ∷ l) (after-push (first + n) os o
    ∙ ap (λ (k : ℕ). placed_after (first + n) os ++ placed_at k o ∷ []) same)

pub after-append : (first : ℕ) (os more : PlainObjects) → placed_after first (os ++ more)
    ≡ placed_after first os ++ placed_after (first + objects.object_sectors os) more
after-append first [] more = let same : first ≡ first + 0 = omega arith in ap (λ (k : ℕ). placed_after k more) same
after-append first (x ∷ os) more =
    let n : ℕ = sectors_for (length x.1) in
    let same : (first + n) + objects.object_sectors os ≡ first + objects.object_sectors (x ∷ os) =
    omega (arith, sum_by-cons (λ (y : ℕ × List ℕ). (length y.1 + 511) / 512) x os) in
    ap (λ (l : List Placed). placed_at first x ∷ l) (after-append (first + n) os more
    ∙ ap (λ (k : ℕ). placed_after (first + n) os ++ placed_after k more) same)

pub length-after : (first : ℕ) (os : PlainObjects) → length (placed_after first os) ≡ length os
length-after first [] = refl
length-after first (o ∷ os) = ap suc (length-after (first + sectors_for (length o.1)) os)

pub numbers-after : (first : ℕ) (os : PlainObjects) → map (λ p. p.number) (placed_after first os) ≡ keys_of os
numbers-after first [] = refl
numbers-after first (o ∷ os) = ap (λ (l : List ℕ). o.0 ∷ l) (numbers-after (first + sectors_for (length o.1)) os)

pub sizes-after : (first : ℕ) (os : PlainObjects) → All (λ o. 0 < length o.1) os → All (λ o. length o.1 < 2 ^ 64) os → All HasSize (placed_after first os)
sizes-after first [] some short = All-nil HasSize
sizes-after first (o ∷ os) some short =
    let n : ℕ = sectors_for (length o.1) in
    All-cons HasSize (placed_at first o) (placed_after (first + n) os)
    (All-head (λ x. 0 < length x.1) o os some, All-head (λ x. length x.1 < 2 ^ 64) o os short, length-range_with_len first n)
    (sizes-after (first + n) os (All-tail (λ x. 0 < length x.1) o os some) (All-tail (λ x. length x.1 < 2 ^ 64) o os short))

-- how many words the table has
pub words-after : (first : ℕ) (os : PlainObjects) → length (table_words (placed_after first os)) ≡ 1 + 4 * length os + objects.object_sectors os
words-after first os =
    omega (
      arith,
      words_for-is (placed_after first os),
      length-after first os,
      ap length (sectors-after first os),
      length-range_with_len first (objects.object_sectors os),
    )

pub table-after : (first : ℕ) (os : PlainObjects) → table_sectors_for (length (table_words (placed_after first os))) ≡ (table_bytes os + 507) / 508
table-after first os = omega (arith, words-after first os)

-- one object more stands there
pub stand-more : (first : ℕ) (os : PlainObjects) (o : ℕ × List ℕ) (a b : Image)
    → SameAt (IsOutside (record { first = first + objects.object_sectors os; count = sectors_for (length o.1) })) a b
    → map (object_on a) (placed_after first os) ≡ os
    → take (length o.1) (flat_map (sector_at b) (range_with_len (first + objects.object_sectors os) (sectors_for (length o.1)))) ≡ o.1
    → map (object_on b) (placed_after first (os ++ o ∷ [])) ≡ os ++ o ∷ []
stand-more first os o a b same stood stands =
    let range : Range = record { first = first + objects.object_sectors os; count = sectors_for (length o.1) } in
    let kept : map (object_on a) (placed_after first os) ≡ map (object_on b) (placed_after first os) =
    objects-same a b (placed_after first os)
    (λ s there. sector_at-same (IsOutside range) a b s same
    (inl (run-within first (objects.object_sectors os) s (subst (λ (l : List ℕ). Contains l s) (sectors-after first os) there)).1)) in
    ap (map (object_on b)) (after-push first os o) ∙ map-append (object_on b) (placed_after first os) (placed_at (first + objects.object_sectors os) o ∷ [])
    ∙ ap (λ (l : PlainObjects).
    l ++ (o.0, take (length o.1) (flat_map (sector_at b) (range_with_len (first + objects.object_sectors os) (sectors_for (length o.1))))) ∷ [])
    (sym kept ∙ stood) ∙ ap (λ (l : List ℕ). os ++ (o.0, l) ∷ []) stands

-- ---- the words of the table, one by one

module _ (first : ℕ) (os : PlainObjects) (k : ℕ) (less : k < length os) where
  -- one more object has its words
  pub words-step : words_for (placed_after first (take (k + 1) os)) ≡ words_for (placed_after first (take k os)) + (4 + sectors_for (length (object_at os k).1))
  words-step =
      let o : ℕ × List ℕ = object_at os k in
      let p : Placed = placed_at (first + objects.object_sectors (take k os)) o in
      ap (λ (l : PlainObjects). words_for (placed_after first l)) (take_more os k (0, []) less) ∙ ap words_for (after-push first (take k os) o)
      ∙ omega (
        arith,
        words_for-append (placed_after first (take k os)) (p ∷ []),
        length-append (object_words p) [],
        length-range_with_len (first + objects.object_sectors (take k os)) (sectors_for (length o.1)),
      )

  -- a word of the object
  pub word-in : (at sector i : ℕ) → at ≡ 1 + words_for (placed_after first (take k os)) → sector ≡ first + objects.object_sectors (take k os) → at ≤ i
      → i < at + (4 + sectors_for (length (object_at os k).1))
      → slice_index (object_words (placed_at sector (object_at os k))) (i - at) ≡ slice_index (table_words (placed_after first os)) i
  word-in at sector i here place low high =
      let o : ℕ × List ℕ = object_at os k in
      let begin : ℕ = first + objects.object_sectors (take k os) in
      let p : Placed = placed_at begin o in
      let after : List Placed = placed_after (begin + sectors_for (length o.1)) (drop (k + 1) os) in
      let split : os ≡ take k os ++ o ∷ drop (k + 1) os =
      sym (take-append-drop k os) ∙ ap (λ (l : PlainObjects). take k os ++ l) (drop_more os k (0, []) less) in
      let are : table_words (placed_after first os) ≡ table_words (placed_after first (take k os) ++ p ∷ after) =
      ap (λ (l : PlainObjects). table_words (placed_after first l)) split ∙ ap table_words (after-append first (take k os) (o ∷ drop (k + 1) os)) in
      let bound : at + (i - at) ≡ i = omega (arith, low) in
      let inside : i - at < length (object_words p) = omega (arith, low, high, length-range_with_len begin (sectors_for (length o.1))) in
      ap (λ (n : ℕ). slice_index (object_words (placed_at n o)) (i - at)) place
      ∙ sym (get_or_append_left (object_words p) (flat_map object_words after) 0 (i - at) inside)
      ∙ sym (word-at (table_words (placed_after first os)) (placed_after first (take k os)) p after at are here (i - at))
      ∙ ap (λ (n : ℕ). slice_index (table_words (placed_after first os)) n) bound

-- the sectors of an object
pub word-later : (first n i : ℕ) (a b c d : ℕ) → 4 ≤ i → i < 4 + n → slice_index (a ∷ b ∷ c ∷ d ∷ range_with_len first n) i ≡ first + (i - 4)
word-later first n i a b c d low high =
    let bound : i ≡ suc (suc (suc (suc (i - 4)))) = omega (arith, low) in
    ap (λ (j : ℕ). slice_index (a ∷ b ∷ c ∷ d ∷ range_with_len first n) j) bound ∙ get_or-range_with_len first n (i - 4) 0 (omega (arith, low, high))

-- ---- a heap of these objects

module _ {range : Range} {root size : ℕ} (laid : IsLaidOut range root size) (os : PlainObjects) (fit : Fit range.count os) where
  -- the words, how many sectors they take, and where they begin
  abbrev pub laid_words : List ℕ
  laid_words = table_words (placed_after range.first os)

  abbrev pub laid_count : ℕ
  laid_count = table_sectors_for (length laid_words)

  abbrev pub laid_table : List ℕ
  laid_table = range_with_len (range.first + objects.object_sectors os) laid_count

  pub laid-fits : objects.object_sectors os + laid_count ≤ range.count
  laid-fits = omega (arith, fit, table-after range.first os)

  pub laid-used : object_sectors (placed_after range.first os) ++ laid_table ≡ range_with_len range.first (objects.object_sectors os + laid_count)
  laid-used =
      ap (λ (l : List ℕ). l ++ laid_table) (sectors-after range.first os) ∙ sym (run-append range.first (objects.object_sectors os) laid_count)

  pub laid-inside : All (IsInside range) (object_sectors (placed_after range.first os) ++ laid_table)
  laid-inside =
      subst (All (IsInside range)) (sym laid-used)
      (run-all (IsInside range) range.first (objects.object_sectors os + laid_count) (λ x low high. (low, omega (arith, high, laid-fits))))

  pub laid-once : IsDistinct nat_eq (object_sectors (placed_after range.first os) ++ laid_table)
  laid-once = subst (IsDistinct nat_eq) (sym laid-used) (run-once range.first (objects.object_sectors os + laid_count))

  -- a sector of the table is one of the range, and none of the objects'
  pub table-place : (s : ℕ) → Contains laid_table s → (range.first + objects.object_sectors os ≤ s) × (s < range.first + range.count)
  table-place s there =
      let place = run-within (range.first + objects.object_sectors os) laid_count s there in (place.0, omega (arith, place.1, laid-fits))

  pub table-not_root : Contains laid_table root → ⊥
  table-not_root there =
      let place = table-place root there in ⊎_elim (λ low. omega (arith, low, place)) (λ high. omega (arith, high, place)) laid.apart

  pub created-holds : (a b : Image) → AreObjects os → map (object_on a) (placed_after range.first os) ≡ os → IsTurned laid_words laid_table root 1 a b
      → Holds range root 1 os b
  created-holds a b are stood is = record {
    allocation = record { placed = placed_after range.first os; table = laid_table };
    there = record {
      are = are;
      positive = omega arith;
      allocated = record {
        numbers = subst (λ (l : List ℕ). IsRising 0 l (2 ^ 64)) (sym (numbers-after range.first os)) are.numbers;
        sizes = sizes-after range.first os are.some are.lengths;
        table = length-range_with_len (range.first + objects.object_sectors os) laid_count;
        inside = laid-inside;
        once = laid-once;
      };
      current = is.root_there.epoch;
      first = is.root_there.first;
      long = is.root_there.len;
      chained = is.table_there.chained;
      table = is.table_there.words_there;
      stand = sym stood ∙ objects-same a b (placed_after range.first os)
          (λ s there. sector_at-same (λ i. (Contains laid_table i → ⊥) × (i ≢ root)) a b s is.others (
            distinct-apart (object_sectors (placed_after range.first os)) laid_table laid-once s there,
            λ same. let place = run-within range.first (objects.object_sectors os) s
                (subst (λ (l : List ℕ). Contains l s) (sectors-after range.first os) there) in
                ⊎_elim (λ low. omega (arith, low, same, place)) (λ high. omega (arith, high, same, place, laid-fits)) laid.apart,
          ));
    };
  }

  -- the sectors of others are touched by none of the writes
  pub apart-objects : (i : ℕ) → IsElsewhere range root i → IsOutside (record { first = range.first; count = objects.object_sectors os }) i
  apart-objects i out = ⊎_elim inl (λ high. inr (omega (arith, high, laid-fits))) out.1

  pub apart-table : (i : ℕ) → IsElsewhere range root i → Contains laid_table i → ⊥
  apart-table i out there = let place = table-place i there in ⊎_elim (λ low. omega (arith, low, place)) (λ high. omega (arith, high, place)) out.1

  pub apart-root : (i : ℕ) → IsElsewhere range root i → IsOutside (record { first = root; count = 1 }) i
  apart-root i out = ⊎_elim inl (λ le. inr (omega (arith, le, out.0))) (cases_lt i root)

  pub others-one : (start one : Medium) → LeavesAlone (IsOutside (record { first = range.first; count = objects.object_sectors os })) start one
      → LeavesAlone (IsElsewhere range root) start one
  others-one start one run =
      LeavesAlone-fewer (IsElsewhere range root) (IsOutside (record { first = range.first; count = objects.object_sectors os })) start one apart-objects run

  pub others-two : (start one two : Medium) → LeavesAlone (IsElsewhere range root) start one → LeavesAlone (λ i. Contains laid_table i → ⊥) one two
      → LeavesAlone (IsElsewhere range root) start two
  others-two start one two run next =
      LeavesAlone-join (IsElsewhere range root) start one two run
      (LeavesAlone-fewer (IsElsewhere range root) (λ i. Contains laid_table i → ⊥) one two apart-table next)

  pub others-three : (start two three : Medium) → LeavesAlone (IsElsewhere range root) start two
      → LeavesAlone (IsOutside (record { first = root; count = 1 })) two three
      → LeavesAlone (IsElsewhere range root) start three
  others-three start two three run next =
      LeavesAlone-join (IsElsewhere range root) start two three run
      (LeavesAlone-fewer (IsElsewhere range root) (IsOutside (record { first = root; count = 1 })) two three apart-root next)
