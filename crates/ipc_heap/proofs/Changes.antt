-- A heap stays one while an object is put into it or taken out.
use Rattle.std.proofs.Common.{◌≡◌, ◌≢◌, ◌↔◌, inl, inr, ⊎_elim, ℕ, ◌+◌, ◌-◌, ◌*◌, ◌/◌, ◌%◌, ◌^◌, ◌<◌, ◌≤◌, Bool, true, false, not, ◌||◌, List, [], ◌∷◌, ◌++◌}
use Rattle.std.proofs.Common.{length, get_or, take, drop, map, min, Some, refl, sym, ap, subst, ◌∙◌, append_assoc, arith, vec_capacity}
use Rattle.std.specs.Prelude.{All, Contains, IsTrue, nat_eq, slice_get, slice_index, flat_map, count_by}
use Rattle.std.specs.List.{IsDistinct, filter}
use Rattle.std.specs.Global.{Vec}
use Rattle.std.proofs.lemmas.Bool.Decides.{nat_tests}
use Rattle.std.proofs.lemmas.Option.{slice_get_within, get_or_from_slice_get, slice_get-get_or}
use Rattle.std.proofs.lemmas.List.{length-append, length-map, get_or-map, take_at}
use Rattle.std.proofs.lemmas.List.Concat.{flat_map-append}
use Rattle.std.proofs.lemmas.List.Elements.{All-nil, All-contains, All-cons, All-head, All-tail, All-append, All-weaker, filter-append, Contains-append_cases}
use Rattle.std.proofs.lemmas.List.Elements.{Contains-append_left, Contains-append_right}
use Rattle.ipc_base.specs.Table.{IsRising}
use Rattle.ipc_base.proofs.CallerLemmas.{rising-lower}
use Rattle.ipc_disk.specs.declared.range.Range.{Range}
use Rattle.ipc_disk.specs.Range.{IsInside}
use Rattle.ipc_disk.specs.Standing.{sectors_for}
use Rattle.ipc_heap.specs.declared.uses.Use.{Use}
use Rattle.ipc_heap.specs.declared.words.Place.{Place}
use Rattle.ipc_heap.specs.Heap.{Placed, object_sectors, object_words, table_sectors_for, table_words}
use Rattle.ipc_heap.specs.View.{HeapView, is_free, turned}
use Rattle.ipc_heap.specs.Relations.Uses.{AreTaken, AreGiven, WasFree, next_bits, saved_bits}
use Rattle.ipc_heap.specs.Relations.Words.{AreWords, IsHeap, IsPlace, placed_in, replaced}
use Rattle.ipc_heap.proofs.Placed.{IsSized, placed_in-table, table-from, table-until, words_for, words_for-append}
use Rattle.ipc_heap.proofs.Sectors.{AreNoted, free-below, free-saved, noted-count, distinct-append, distinct-apart, distinct-left, distinct-right}

-- ---- lists in parts

pub all-left : {X : Type 0} (P : X → Type 0) (xs ys : List X) → All P (xs ++ ys) → All P xs
all-left P [] ys all = All-nil P
all-left P (x ∷ xs) ys all = All-cons P x xs (All-head P x (xs ++ ys) all) (all-left P xs ys (All-tail P x (xs ++ ys) all))

pub all-right : {X : Type 0} (P : X → Type 0) (xs ys : List X) → All P (xs ++ ys) → All P ys
all-right P [] ys all = all
all-right P (x ∷ xs) ys all = all-right P xs ys (All-tail P x (xs ++ ys) all)

rising-raise : (low n : ℕ) (after : List Placed) (high : ℕ) → IsRising low (map (λ p. p.number) after) high → All (λ p. n < p.number) after → n < high
    → IsRising (n + 1) (map (λ p. p.number) after) high
rising-raise low n [] high rising higher less = omega arith
rising-raise low n (p ∷ after) high rising higher less = (omega (arith, All-head (λ q. n < q.number) p after higher), rising.1)

-- an object more, at its place
rising-put : (low : ℕ) (before after : List Placed) (p : Placed) (high : ℕ) → IsRising low (map (λ q. q.number) (before ++ after)) high
    → All (λ q. q.number < p.number) before → All (λ q. p.number < q.number) after → low ≤ p.number → p.number < high
    → IsRising low (map (λ q. q.number) (before ++ p ∷ after)) high
rising-put low [] after p high rising lower higher le less = (le, rising-raise low p.number after high rising higher less)
rising-put low (q ∷ before) after p high rising lower higher le less = (
  rising.0,
  rising-put (q.number + 1) before after p high rising.1 (All-tail (λ r. r.number < p.number) q before lower) higher
      (omega (arith, All-head (λ r. r.number < p.number) q before lower)) less,
)

-- some of them less
rising-without : (low : ℕ) (before here after : List Placed) (high : ℕ) → length here ≤ 1
    → IsRising low (map (λ q. q.number) (before ++ (here ++ after))) high → IsRising low (map (λ q. q.number) (before ++ after)) high
rising-without low [] [] after high one rising = rising
rising-without low [] (p ∷ []) after high one rising = rising-lower low (p.number + 1) (map (λ q. q.number) after) high (omega (arith, rising.0)) rising.1
rising-without low [] (p ∷ q ∷ here) after high one rising = absurd (omega (arith, one))
rising-without low (q ∷ before) here after high one rising = (rising.0, rising-without (q.number + 1) before here after high one rising.1)

-- ---- the words of objects in a place

module _ {words : List ℕ} {placed : List Placed} {number : ℕ} {place : Place} (are : words ≡ table_words placed) (found : IsPlace placed number place) where
  place-table : words ≡ table_words (found.before ++ (found.here ++ found.after))
  place-table = are ∙ ap table_words found.are

  pub place-end : place.at + place.len ≡ 1 + words_for (found.before ++ found.here)
  place-end = omega (arith, found.at, found.len, words_for-append found.before found.here)

  -- the words with others there
  pub replaced-table : (others : List ℕ) (count : ℕ)
      → replaced words place others count ≡ count ∷ (flat_map object_words found.before ++ (others ++ flat_map object_words found.after))
  replaced-table others count =
      let front : take place.at words ≡ length (found.before ++ (found.here ++ found.after)) ∷ flat_map object_words found.before =
      ap (take place.at) place-table ∙ ap (λ (n : ℕ). take n (table_words (found.before ++ (found.here ++ found.after)))) found.at
      ∙ table-until found.before (found.here ++ found.after) in
      let rest : drop (place.at + place.len) words ≡ flat_map object_words found.after =
      ap (λ (n : ℕ). drop n words) place-end ∙ ap (drop (1 + words_for (found.before ++ found.here))) place-table
      ∙ ap (λ (l : List Placed). drop (1 + words_for (found.before ++ found.here)) (table_words l)) (sym (append_assoc found.before found.here found.after))
      ∙ table-from (found.before ++ found.here) found.after in
      ap (λ (l : List ℕ). count ∷ (drop 1 l ++ (others ++ drop (place.at + place.len) words))) front
      ∙ ap (λ (l : List ℕ). count ∷ (flat_map object_words found.before ++ (others ++ l))) rest

  here-sectors : (here : List Placed) → length here ≤ 1 → drop 4 (flat_map object_words here) ≡ object_sectors here
  here-sectors [] one = refl
  here-sectors (p ∷ []) one = refl
  here-sectors (p ∷ q ∷ here) one = absurd (omega (arith, one))

  -- the sectors of the object that is there
  pub place-sectors : drop 4 (take place.len (drop place.at words)) ≡ object_sectors found.here
  place-sectors =
      let from : drop place.at words ≡ flat_map object_words found.here ++ flat_map object_words found.after =
      ap (drop place.at) place-table ∙ ap (λ (n : ℕ). drop n (table_words (found.before ++ (found.here ++ found.after)))) found.at
      ∙ table-from found.before (found.here ++ found.after) ∙ flat_map-append object_words found.here found.after in
      ap (λ (l : List ℕ). drop 4 (take place.len l)) from
      ∙ ap (drop 4) (take_at (flat_map object_words found.here) (flat_map object_words found.after) place.len (sym found.len))
      ∙ here-sectors found.here found.one

  count-here : (here : List Placed) → length here ≤ 1 → min (words_for here) 1 ≡ length here
  count-here [] one = refl
  count-here (p ∷ []) one = omega (arith, length-append (object_words p) [])
  count-here (p ∷ q ∷ here) one = absurd (omega (arith, one))

  -- whether it is there
  pub place-counts : min place.len 1 ≡ length found.here
  place-counts = ap (λ (n : ℕ). min n 1) found.len ∙ count-here found.here found.one

  pub count-table : slice_index words 0 ≡ length found.before + (length found.here + length found.after)
  count-table =
      ap (λ (l : List ℕ). slice_index l 0) place-table ∙ length-append found.before (found.here ++ found.after)
      ∙ ap (λ (n : ℕ). length found.before + n) (length-append found.here found.after)

  -- the table without it
  pub taken-table : replaced words place [] (slice_index words 0 - min place.len 1) ≡ table_words (found.before ++ found.after)
  taken-table =
      let count : slice_index words 0 - min place.len 1 ≡ length (found.before ++ found.after) =
      omega (arith, place-counts, count-table, length-append found.before found.after) in
      replaced-table [] (slice_index words 0 - min place.len 1)
      ∙ ap (λ (n : ℕ). n ∷ (flat_map object_words found.before ++ flat_map object_words found.after)) count
      ∙ ap (λ (l : List ℕ). length (found.before ++ found.after) ∷ l) (sym (flat_map-append object_words found.before found.after))

  -- the table with another in its place
  pub put-table : (p : Placed) → replaced words place (object_words p) (slice_index words 0 + (1 - place.len)) ≡ table_words (found.before ++ p ∷ found.after)
  put-table p =
      let count : slice_index words 0 + (1 - place.len) ≡ length (found.before ++ p ∷ found.after) =
      omega (arith, place-counts, count-table, length-append found.before (p ∷ found.after)) in
      replaced-table (object_words p) (slice_index words 0 + (1 - place.len))
      ∙ ap (λ (n : ℕ). n ∷ (flat_map object_words found.before ++ (object_words p ++ flat_map object_words found.after))) count
      ∙ ap (λ (l : List ℕ). length (found.before ++ p ∷ found.after) ∷ l) (sym (flat_map-append object_words found.before (p ∷ found.after)))

-- the objects of other numbers
same-filtered : (object : ℕ) (here : List Placed) → All (λ p. p.number ≡ object) here → filter (λ p. not (nat_eq p.number object)) here ≡ []
same-filtered object [] same = refl
same-filtered object (p ∷ here) same =
    let is : nat_eq p.number object ≡ true = let e = All-head (λ q. q.number ≡ object) p here same in grind (arith, nat_tests, e) in
    rw is (same-filtered object here (All-tail (λ q. q.number ≡ object) p here same))

others-filtered : (object : ℕ) (ps : List Placed) → All (λ p. p.number ≢ object) ps → filter (λ p. not (nat_eq p.number object)) ps ≡ ps
others-filtered object [] other = refl
others-filtered object (p ∷ ps) other =
    let is : nat_eq p.number object ≡ false = let e = All-head (λ q. q.number ≢ object) p ps other in grind (arith, nat_tests, e) in
    rw is (ap (λ (l : List Placed). p ∷ l) (others-filtered object ps (All-tail (λ q. q.number ≢ object) p ps other)))

pub place-filtered : {placed : List Placed} {object : ℕ} {place : Place} (found : IsPlace placed object place)
    → found.before ++ found.after ≡ filter (λ p. not (nat_eq p.number object)) placed
place-filtered {placed} {object} {place} found =
    let other : Placed → Bool = λ p. not (nat_eq p.number object) in
    let first = others-filtered object found.before
    (All-weaker (λ p. p.number < object) (λ p. p.number ≢ object) (λ p less same. omega (arith, less, same)) found.before found.lower) in
    let last = others-filtered object found.after
    (All-weaker (λ p. object < p.number) (λ p. p.number ≢ object) (λ p more same. omega (arith, more, same)) found.after found.higher) in
    let none = same-filtered object found.here found.same in
    sym (ap (filter other) found.are ∙ filter-append other found.before (found.here ++ found.after)
    ∙ ap (λ (l : List Placed). l ++ filter other (found.here ++ found.after)) first
    ∙ ap (λ (l : List Placed). found.before ++ l)
    (filter-append other found.here found.after ∙ ap (λ (l : List Placed). l ++ filter other found.after) none ∙ last))

-- ---- which sectors are noted

module _ (f : Use → Bool) (first : ℕ) (uses : List Use) (sectors : List ℕ) where
  pub noted-from : ((i : ℕ) (u : Use) → slice_get uses i ≡ Some u → IsTrue (f u) ↔ Contains sectors (first + i)) → AreNoted first (map f uses) sectors
  noted-from each i less =
      let within : i < length uses = omega (arith, less, length-map uses f) in
      let unused : Use = record { saved = false; next = false } in
      let u : Use = get_or uses i unused in
      let is = get_or-map f uses i unused false within in
      let at = each i u (slice_get-get_or uses i unused within) in
      (λ on. at.0 (sym is ∙ on), λ there. is ∙ at.1 there)

  pub noted-to : AreNoted first (map f uses) sectors → (i : ℕ) (u : Use) → slice_get uses i ≡ Some u → IsTrue (f u) ↔ Contains sectors (first + i)
  noted-to noted i u there =
      let within : i < length uses = slice_get_within uses i u there in
      let is : get_or (map f uses) i false ≡ f u = get_or-map f uses i u false within ∙ ap f (get_or_from_slice_get uses i u u there) in
      let at = noted i (omega (arith, within, length-map uses f)) in
      (λ on. at.0 (is ∙ on), λ inside. sym is ∙ at.1 inside)

-- sectors that were free are noted too
pub noted-taken : (first : ℕ) (old new : List Use) (sectors taken : List ℕ) → AreNoted first (next_bits old) sectors → AreTaken first old taken new
    → AreNoted first (next_bits new) (sectors ++ taken)
noted-taken first old new sectors taken noted are i less =
    let within : i < length old = omega (arith, less, are.long, length-map new (λ (v : Use). v.next)) in
    let was = noted i (omega (arith, within, length-map old (λ (v : Use). v.next))) in
    let now = are.next i within in (
      λ on. ⊎_elim (λ before. Contains-append_left sectors taken (first + i) (was.0 before)) (Contains-append_right sectors taken (first + i)) (now.0 on),
      λ there. now.1 (⊎_elim (λ before. inl (was.1 before)) inr (Contains-append_cases sectors taken (first + i) there)),
    )

-- those that are given back are not
pub noted-given : (first : ℕ) (old new : List Use) (sectors given left : List ℕ) → AreNoted first (next_bits old) sectors → AreGiven first old given new
    → ((x : ℕ) → Contains left x ↔ (Contains sectors x × (Contains given x → ⊥))) → AreNoted first (next_bits new) left
noted-given first old new sectors given left noted are parts i less =
    let within : i < length old = omega (arith, less, are.long, length-map new (λ (v : Use). v.next)) in
    let was = noted i (omega (arith, within, length-map old (λ (v : Use). v.next))) in
    let now = are.next i within in
    let part = parts (first + i) in
    (λ on. let both = now.0 on in part.1 (was.0 both.0, both.1), λ there. let both = part.0 there in now.1 (was.1 both.0, both.1))

-- sectors in parts
module _ (a b c : List ℕ) where
  pub middle-out : IsDistinct nat_eq (a ++ (b ++ c)) → (x : ℕ) → Contains (a ++ c) x ↔ (Contains (a ++ (b ++ c)) x × (Contains b x → ⊥))
  middle-out once x = (
    λ there. ⊎_elim
        (λ first. (Contains-append_left a (b ++ c) x first, λ mid. distinct-apart a (b ++ c) once x first (Contains-append_left b c x mid)))
        (λ last. (Contains-append_right a (b ++ c) x (Contains-append_right b c x last), λ mid. distinct-apart b c (distinct-right a (b ++ c) once) x mid last))
        (Contains-append_cases a c x there),
    λ both. ⊎_elim (Contains-append_left a c x) (λ rest. ⊎_elim (λ mid. absurd (both.1 mid)) (Contains-append_right a c x) (Contains-append_cases b c x rest))
        (Contains-append_cases a (b ++ c) x both.0),
  )

  pub distinct-out : IsDistinct nat_eq (a ++ (b ++ c)) → IsDistinct nat_eq (a ++ c)
  distinct-out once =
      distinct-append a c (distinct-left a (b ++ c) once) (distinct-right b c (distinct-right a (b ++ c) once))
      (λ x first last. distinct-apart a (b ++ c) once x first (Contains-append_right b c x last))

-- the sectors of objects in parts
pub sectors-three : (before here after : List Placed) → object_sectors (before ++ (here ++ after))
    ≡ object_sectors before ++ (object_sectors here ++ object_sectors after)
sectors-three before here after =
    flat_map-append (λ p. p.sectors) before (here ++ after) ∙ ap (λ (l : List ℕ). object_sectors before ++ l) (flat_map-append (λ p. p.sectors) here after)

pub sectors-two : (before after : List Placed) → object_sectors (before ++ after) ≡ object_sectors before ++ object_sectors after
sectors-two before after = flat_map-append (λ p. p.sectors) before after

-- ---- a heap

abbrev pub HasSize : Placed → Type 0
HasSize p = (0 < p.len) × (p.len < 2 ^ 64) × (length p.sectors ≡ sectors_for p.len)

-- what is seen of it
abbrev pub seen : Range → ℕ → ℕ → ℕ → Vec ℕ → Vec ℕ → List Use → HeapView
seen range root next_root epoch words table uses =
    record { range = range; root = root; next_root = next_root; epoch = epoch; placed = placed_in words.items; table = table.items; uses = uses }

-- what holds of the objects of a heap
pub record AreObjectsOf (range : Range) (placed : List Placed) (uses : List Use) : Type 0 where
  pub numbers : IsRising 0 (map (λ p. p.number) placed) (2 ^ 64)
  pub sizes : All HasSize placed
  pub inside : All (IsInside range) (object_sectors placed)
  pub once : IsDistinct nat_eq (object_sectors placed)
  pub noted : AreNoted range.first (next_bits uses) (object_sectors placed)

pub sized-of : (placed : List Placed) → All HasSize placed → All IsSized placed
sized-of placed sizes = All-weaker HasSize IsSized (λ p size. size.2) placed sizes

pub objects-of : {range : Range} {words table : Vec ℕ} {uses : List Use} → IsHeap range words table uses → AreObjectsOf range (placed_in words.items) uses
objects-of {range} {words} {table} {uses} heap = record {
  numbers = heap.numbers;
  sizes = heap.sizes;
  inside = heap.inside;
  once = heap.once;
  noted = noted-from (λ u. u.next) range.first uses (object_sectors (placed_in words.items)) heap.next_uses;
}

pub words-of : {range : Range} {words table : Vec ℕ} {uses : List Use} → IsHeap range words table uses → AreWords words.items (placed_in words.items)
words-of {range} {words} {table} {uses} heap = record { are = heap.is_table; numbers = heap.numbers; sizes = heap.sizes }

-- a heap of these objects
pub record IsHeapOf (range : Range) (placed : List Placed) (words table : Vec ℕ) (uses : List Use) : Type 0 where
  pub heap : IsHeap range words table uses
  pub objects : AreObjectsOf range placed uses
  pub placed_is : placed_in words.items ≡ placed

-- it is made of its objects
pub heap-of : (range : Range) (placed : List Placed) (words table : Vec ℕ) (uses : List Use) → words.items ≡ table_words placed
    → AreObjectsOf range placed uses → All (IsInside range) table.items → length uses ≡ range.count
    → 5 * range.count + 5 ≤ vec_capacity words → table_sectors_for (5 * range.count + 5) ≤ vec_capacity table → IsHeapOf range placed words table uses
heap-of range placed words table uses are objects table_within all_uses room table_room =
    let is : placed_in words.items ≡ placed = ap placed_in are ∙ placed_in-table placed (sized-of placed objects.sizes) in
    let here : AreObjectsOf range (placed_in words.items) uses = subst (λ (l : List Placed). AreObjectsOf range l uses) (sym is) objects in
    record {
      heap = record {
        is_table = are ∙ ap table_words (sym is);
        numbers = here.numbers;
        sizes = here.sizes;
        inside = here.inside;
        once = here.once;
        table_within = table_within;
        all_uses = all_uses;
        next_uses = noted-to (λ u. u.next) range.first uses (object_sectors (placed_in words.items)) here.noted;
        room = room;
        table_room = table_room;
      };
      objects = objects;
      placed_is = is;
    }

-- ---- how many there are

pub words_for-is : (ps : List Placed) → words_for ps ≡ 4 * length ps + length (object_sectors ps)
words_for-is [] = refl
words_for-is (p ∷ ps) =
    omega (arith, length-append (object_words p) (flat_map object_words ps), length-append p.sectors (object_sectors ps), words_for-is ps)

few-objects : (ps : List Placed) → All HasSize ps → length ps ≤ length (object_sectors ps)
few-objects [] sizes = omega arith
few-objects (p ∷ ps) sizes =
    let here = All-head HasSize p ps sizes in
    omega (arith, few-objects ps (All-tail HasSize p ps sizes), length-append p.sectors (object_sectors ps), here.0, here.2)

module _ {range : Range} {placed : List Placed} {uses : List Use} (objects : AreObjectsOf range placed uses) (all : length uses ≡ range.count) where
  -- no sector is counted twice
  pub free-fit : length (object_sectors placed) + count_by is_free uses ≤ range.count
  free-fit =
      omega (
        arith,
        all,
        noted-count range.first (next_bits uses) (object_sectors placed) objects.once
            (λ s there. let inside = All-contains (IsInside range) (object_sectors placed) s objects.inside there in
            (inside.0, omega (arith, inside, all, length-map uses (λ (u : Use). u.next))))
            objects.noted,
        free-below uses,
        length-map uses (λ (u : Use). u.next),
      )

  pub objects-few : length placed ≤ range.count
  objects-few = omega (arith, free-fit, few-objects placed objects.sizes)

  pub words-fit : length (table_words placed) + count_by is_free uses ≤ 5 * range.count + 1
  words-fit = omega (arith, free-fit, few-objects placed objects.sizes, words_for-is placed)

-- ---- an object is taken out

-- the sectors of the object at a place are inside
pub here-inside : (range : Range) {placed : List Placed} {object : ℕ} {place : Place} (found : IsPlace placed object place)
    → All (IsInside range) (object_sectors placed) → All (IsInside range) (object_sectors found.here)
here-inside range {placed} {object} {place} found inside =
    let parts : object_sectors placed ≡ object_sectors found.before ++ (object_sectors found.here ++ object_sectors found.after) =
    ap object_sectors found.are ∙ sectors-three found.before found.here found.after in
    all-left (IsInside range) (object_sectors found.here) (object_sectors found.after)
    (all-right (IsInside range) (object_sectors found.before) (object_sectors found.here ++ object_sectors found.after)
    (subst (All (IsInside range)) parts inside))

module _ {range : Range} {words table : Vec ℕ} {uses : List Use} {object : ℕ} {place : Place} (new_words : Vec ℕ) (new_uses : List Use)
    (heap : IsHeap range words table uses)
    (found : IsPlace (placed_in words.items) object place) (given : AreGiven range.first uses (object_sectors found.here) new_uses)
    (now : new_words.items ≡ replaced words.items place [] (slice_index words.items 0 - min place.len 1))
    (room : vec_capacity new_words ≡ vec_capacity words) where
  removed-objects : AreObjectsOf range (found.before ++ found.after) new_uses
  removed-objects =
      let objects = objects-of heap in
      let parts : object_sectors (placed_in words.items) ≡ object_sectors found.before ++ (object_sectors found.here ++ object_sectors found.after) =
      ap object_sectors found.are ∙ sectors-three found.before found.here found.after in
      let two = sectors-two found.before found.after in
      let sizes = subst (All HasSize) found.are objects.sizes in
      let inside = subst (All (IsInside range)) parts objects.inside in
      let once = subst (IsDistinct nat_eq) parts objects.once in
      record {
        numbers = rising-without 0 found.before found.here found.after (2 ^ 64) found.one
            (subst (λ (l : List Placed). IsRising 0 (map (λ p. p.number) l) (2 ^ 64)) found.are objects.numbers);
        sizes = All-append HasSize found.before found.after (all-left HasSize found.before (found.here ++ found.after) sizes)
            (all-right HasSize found.here found.after (all-right HasSize found.before (found.here ++ found.after) sizes));
        inside = subst (All (IsInside range)) (sym two)
            (All-append (IsInside range) (object_sectors found.before) (object_sectors found.after)
            (all-left (IsInside range) (object_sectors found.before) (object_sectors found.here ++ object_sectors found.after) inside)
            (all-right (IsInside range) (object_sectors found.here) (object_sectors found.after)
            (all-right (IsInside range) (object_sectors found.before) (object_sectors found.here ++ object_sectors found.after) inside)));
        once = subst (IsDistinct nat_eq) (sym two)
            (distinct-out (object_sectors found.before) (object_sectors found.here) (object_sectors found.after) once);
        noted = subst (AreNoted range.first (next_bits new_uses)) (sym two)
            (noted-given range.first uses new_uses (object_sectors found.before ++ (object_sectors found.here ++ object_sectors found.after))
            (object_sectors found.here)
            (object_sectors found.before ++ object_sectors found.after) (subst (AreNoted range.first (next_bits uses)) parts objects.noted) given
            (middle-out (object_sectors found.before) (object_sectors found.here) (object_sectors found.after) once));
      }

  pub removed-heap : IsHeapOf range (found.before ++ found.after) new_words table new_uses
  removed-heap =
      heap-of range (found.before ++ found.after) new_words table new_uses (now ∙ taken-table heap.is_table found) removed-objects heap.table_within
      (given.long ∙ heap.all_uses) (omega (arith, heap.room, room)) heap.table_room

-- ---- an object is put in

-- a sector that was free is none of those that are noted
free-apart : (first : ℕ) (uses : List Use) (sectors : List ℕ) → AreNoted first (next_bits uses) sectors → (s : ℕ) → WasFree first uses s
    → Contains sectors s → ⊥
free-apart first uses sectors noted s (low, u, at, free) there =
    let place : first + (s - first) ≡ s = omega (arith, low) in
    let on = (noted-to (λ v. v.next) first uses sectors noted (s - first) u at).1 (subst (Contains sectors) (sym place) there) in
    not-both u.saved u.next on free
  where
    not-both : (a b : Bool) → b ≡ true → not (a || b) ≡ true → ⊥
    not-both true b on is = cc
    not-both false true on is = cc
    not-both false false on is = cc

distinct-in : (a n c : List ℕ) → IsDistinct nat_eq (a ++ c) → IsDistinct nat_eq n → ((x : ℕ) → Contains n x → Contains (a ++ c) x → ⊥)
    → IsDistinct nat_eq (a ++ (n ++ c))
distinct-in a n c once new apart =
    distinct-append a (n ++ c) (distinct-left a c once)
    (distinct-append n c new (distinct-right a c once) (λ x there also. apart x there (Contains-append_right a c x also)))
    (λ x first rest. ⊎_elim (λ mid. apart x mid (Contains-append_left a c x first)) (distinct-apart a c once x first) (Contains-append_cases n c x rest))

-- sectors that were free are inside
pub free-inside : (range : Range) (uses : List Use) (sectors : List ℕ) → length uses ≡ range.count → All (WasFree range.first uses) sectors
    → All (IsInside range) sectors
free-inside range uses sectors all free =
    All-weaker (WasFree range.first uses) (IsInside range)
    (λ s was. (was.0, omega (arith, was.0, slice_get_within uses (s - range.first) was.1 was.2, all))) sectors free

module _ {range : Range} {words table : Vec ℕ} {uses mid : List Use} {place : Place} (new_words : Vec ℕ) (new_uses : List Use) (p : Placed)
    (heap : IsHeap range words table uses)
    (found : IsPlace (placed_in words.items) p.number place) (taken : AreTaken range.first uses p.sectors mid)
    (given : AreGiven range.first mid (object_sectors found.here) new_uses) (size : HasSize p) (number : p.number < 2 ^ 64)
    (now : new_words.items ≡ replaced words.items place (object_words p) (slice_index words.items 0 + (1 - place.len)))
    (room : vec_capacity new_words ≡ vec_capacity words) where
  with-objects : AreObjectsOf range (found.before ++ p ∷ found.after) new_uses
  with-objects =
      let objects = objects-of heap in
      let b : List ℕ = object_sectors found.before in
      let h : List ℕ = object_sectors found.here in
      let a : List ℕ = object_sectors found.after in
      let parts : object_sectors (placed_in words.items) ≡ b ++ (h ++ a) = ap object_sectors found.are ∙ sectors-three found.before found.here found.after in
      let three : object_sectors (found.before ++ p ∷ found.after) ≡ b ++ (p.sectors ++ a) = sectors-two found.before (p ∷ found.after) in
      let sizes = subst (All HasSize) found.are objects.sizes in
      let inside = subst (All (IsInside range)) parts objects.inside in
      let once = subst (IsDistinct nat_eq) parts objects.once in
      let apart : (x : ℕ) → Contains p.sectors x → Contains (b ++ (h ++ a)) x → ⊥ =
      λ x there also. free-apart range.first uses (object_sectors (placed_in words.items)) objects.noted x
      (All-contains (WasFree range.first uses) p.sectors x taken.were_free there) (subst (λ (l : List ℕ). Contains l x) (sym parts) also) in
      let out = middle-out b h a once in
      record {
        numbers = rising-put 0 found.before found.after p (2 ^ 64)
            (rising-without 0 found.before found.here found.after (2 ^ 64) found.one
            (subst (λ (l : List Placed). IsRising 0 (map (λ q. q.number) l) (2 ^ 64)) found.are objects.numbers))
            found.lower found.higher (omega arith) number;
        sizes = All-append HasSize found.before (p ∷ found.after) (all-left HasSize found.before (found.here ++ found.after) sizes)
            (All-cons HasSize p found.after size
            (all-right HasSize found.here found.after (all-right HasSize found.before (found.here ++ found.after) sizes)));
        inside = subst (All (IsInside range)) (sym three)
            (All-append (IsInside range) b (p.sectors ++ a) (all-left (IsInside range) b (h ++ a) inside)
            (All-append (IsInside range) p.sectors a
            (free-inside range uses p.sectors heap.all_uses taken.were_free)
            (all-right (IsInside range) h a (all-right (IsInside range) b (h ++ a) inside))));
        once = subst (IsDistinct nat_eq) (sym three)
            (distinct-in b p.sectors a (distinct-out b h a once) taken.once (λ x there also. apart x there ((out x).0 also).0));
        noted = subst (AreNoted range.first (next_bits new_uses)) (sym three)
            (noted-given range.first mid new_uses ((b ++ (h ++ a)) ++ p.sectors) h (b ++ (p.sectors ++ a))
            (noted-taken range.first uses mid (b ++ (h ++ a)) p.sectors (subst (AreNoted range.first (next_bits uses)) parts objects.noted) taken) given
            (λ x. (
              λ there. ⊎_elim
                  (λ first. let both = (out x).0 (Contains-append_left b a x first) in (Contains-append_left (b ++ (h ++ a)) p.sectors x both.0, both.1))
                  (λ rest. ⊎_elim
                  (λ here. (
                    Contains-append_right (b ++ (h ++ a)) p.sectors x here,
                    λ also. apart x here (Contains-append_right b (h ++ a) x (Contains-append_left h a x also)),
                  ))
                  (λ last. let both = (out x).0 (Contains-append_right b a x last) in (Contains-append_left (b ++ (h ++ a)) p.sectors x both.0, both.1))
                  (Contains-append_cases p.sectors a x rest))
                  (Contains-append_cases b (p.sectors ++ a) x there),
              λ both. ⊎_elim
                  (λ before. ⊎_elim (Contains-append_left b (p.sectors ++ a) x)
                  (λ last. Contains-append_right b (p.sectors ++ a) x (Contains-append_right p.sectors a x last))
                  (Contains-append_cases b a x ((out x).1 (before, both.1))))
                  (λ here. Contains-append_right b (p.sectors ++ a) x (Contains-append_left p.sectors a x here))
                  (Contains-append_cases (b ++ (h ++ a)) p.sectors x both.0),
            )));
      }

  pub with-heap : IsHeapOf range (found.before ++ p ∷ found.after) new_words table new_uses
  with-heap =
      heap-of range (found.before ++ p ∷ found.after) new_words table new_uses (now ∙ put-table heap.is_table found p) with-objects heap.table_within
      (given.long ∙ taken.long ∙ heap.all_uses) (omega (arith, heap.room, room)) heap.table_room

-- sectors that were taken and given back leave the objects as they were
pub objects-back : (range : Range) (placed : List Placed) (old mid near new : List Use) (sectors : List ℕ) → AreObjectsOf range placed old
    → AreTaken range.first old sectors mid → next_bits near ≡ next_bits mid → AreGiven range.first near sectors new → AreObjectsOf range placed new
objects-back range placed old mid near new sectors objects taken same given = record {
  numbers = objects.numbers;
  sizes = objects.sizes;
  inside = objects.inside;
  once = objects.once;
  noted = noted-given range.first near new (object_sectors placed ++ sectors) sectors (object_sectors placed)
      (subst (λ (l : List Bool). AreNoted range.first l (object_sectors placed ++ sectors)) (sym same)
      (noted-taken range.first old mid (object_sectors placed) sectors objects.noted taken)) given
      (λ x. (
        λ there. (
          Contains-append_left (object_sectors placed) sectors x there,
          λ also. free-apart range.first old (object_sectors placed) objects.noted x
              (All-contains (WasFree range.first old) sectors x taken.were_free also) there,
        ),
        λ both. ⊎_elim (λ here. here) (λ also. absurd (both.1 also)) (Contains-append_cases (object_sectors placed) sectors x both.0),
      ));
}

-- what was taken for an object that is not put is given back
pub back-heap : {range : Range} {words table : Vec ℕ} {uses mid : List Use} {sectors : List ℕ} (new_words : Vec ℕ) (new_uses : List Use)
    → IsHeap range words table uses
    → AreTaken range.first uses sectors mid → AreGiven range.first mid sectors new_uses → new_words.items ≡ words.items
    → vec_capacity new_words ≡ vec_capacity words → IsHeap range new_words table new_uses
back-heap {range} {words} {table} {uses} {mid} {sectors} new_words new_uses heap taken given now room =
    (heap-of range (placed_in words.items) new_words table new_uses (now ∙ heap.is_table)
    (objects-back range (placed_in words.items) uses mid mid new_uses sectors (objects-of heap) taken refl given)
    heap.table_within (given.long ∙ taken.long ∙ heap.all_uses) (omega (arith, heap.room, room)) heap.table_room).heap

-- ---- a heap is turned over

pub turned-next : (uses : List Use) → next_bits (map turned uses) ≡ next_bits uses
turned-next [] = refl
turned-next (u ∷ uses) = ap (λ (l : List Bool). u.next ∷ l) (turned-next uses)

pub turned-saved : (uses : List Use) → saved_bits (map turned uses) ≡ next_bits uses
turned-saved [] = refl
turned-saved (u ∷ uses) = ap (λ (l : List Bool). u.next ∷ l) (turned-saved uses)

module _ {range : Range} {words table : Vec ℕ} {uses mid near : List Use} (new_table : Vec ℕ) (new_uses : List Use)
    (heap : IsHeap range words table uses)
    (taken : AreTaken range.first uses new_table.items mid) (same : next_bits near ≡ next_bits mid) (long : length near ≡ length mid)
    (given : AreGiven range.first near new_table.items new_uses) (room : vec_capacity new_table ≡ vec_capacity table) where
  pub flipped-heap : IsHeap range words new_table new_uses
  flipped-heap =
      (heap-of range (placed_in words.items) words new_table new_uses heap.is_table
      (objects-back range (placed_in words.items) uses mid near new_uses new_table.items (objects-of heap) taken same given)
      (free-inside range uses new_table.items heap.all_uses taken.were_free) (given.long ∙ long ∙ taken.long ∙ heap.all_uses) heap.room
      (omega (arith, heap.table_room, room))).heap

module _ {range : Range} {words table : Vec ℕ} {new_table : List ℕ} {uses mid : List Use} (heap : IsHeap range words table uses)
    (taken : AreTaken range.first uses new_table mid) where
  -- the sectors of the table are none of the map's
  pub table-apart : (s : ℕ) → Contains new_table s → Contains (object_sectors (placed_in words.items)) s → ⊥
  table-apart s there =
      free-apart range.first uses (object_sectors (placed_in words.items)) (objects-of heap).noted s
      (All-contains (WasFree range.first uses) new_table s taken.were_free there)

  -- what is used then
  pub both-once : IsDistinct nat_eq (object_sectors (placed_in words.items) ++ new_table)
  both-once =
      distinct-append (object_sectors (placed_in words.items)) new_table heap.once taken.once (λ x first last. table-apart x last first)

  pub both-inside : All (IsInside range) (object_sectors (placed_in words.items) ++ new_table)
  both-inside =
      All-append (IsInside range) (object_sectors (placed_in words.items)) new_table heap.inside
      (free-inside range uses new_table heap.all_uses taken.were_free)

  both-noted : AreNoted range.first (next_bits mid) (object_sectors (placed_in words.items) ++ new_table)
  both-noted =
      noted-taken range.first uses mid (object_sectors (placed_in words.items)) new_table (objects-of heap).noted taken

  module _ (new_uses : List Use) (given : AreGiven range.first (map turned mid) new_table new_uses) where
    bits : saved_bits new_uses ≡ next_bits mid
    bits = given.saved ∙ turned-saved mid

    pub saved-noted : AreNoted range.first (saved_bits new_uses) (object_sectors (placed_in words.items) ++ new_table)
    saved-noted = subst (λ (l : List Bool). AreNoted range.first l (object_sectors (placed_in words.items) ++ new_table)) (sym bits) both-noted

    -- how many are free then
    pub flipped-free : count_by is_free new_uses + length (object_sectors (placed_in words.items) ++ new_table) ≡ range.count
    flipped-free =
        let longs : length new_uses ≡ range.count = given.long ∙ length-map mid turned ∙ taken.long ∙ heap.all_uses in
        let saved : length (saved_bits new_uses) ≡ range.count = length-map new_uses (λ u. u.saved) ∙ longs in
        omega (
          arith,
          saved,
          free-saved new_uses
              (λ i less on. ap (λ (l : List Bool). get_or l i false) bits
              ∙ sym (ap (λ (l : List Bool). get_or l i false) (turned-next mid))
              ∙ ((given.next i (omega (arith, less, longs, taken.long, heap.all_uses, length-map mid turned))).0 on).0),
          noted-count range.first (saved_bits new_uses) (object_sectors (placed_in words.items) ++ new_table) both-once
              (λ s there. let inside = All-contains (IsInside range) (object_sectors (placed_in words.items) ++ new_table) s both-inside there in
              (inside.0, omega (arith, inside, saved))) saved-noted,
        )

-- there is room for the words of any object
pub heap-fits : {range : Range} {words table : Vec ℕ} {uses : List Use} → IsHeap range words table uses
    → length words.items + 4 + count_by is_free uses ≤ vec_capacity words
heap-fits {range} {words} {table} {uses} heap =
    omega (arith, words-fit (objects-of heap) heap.all_uses, heap.room, ap length heap.is_table)

-- and few objects
pub heap-few : {range : Range} {words table : Vec ℕ} {uses : List Use} → IsHeap range words table uses → slice_index words.items 0 ≤ range.count
heap-few {range} {words} {table} {uses} heap =
    omega (arith, ap (λ (l : List ℕ). slice_index l 0) heap.is_table, objects-few (objects-of heap) heap.all_uses)

-- the words of an object that were pushed, one after another
module _ (ws one two all : List ℕ) (p : Placed) (first : one ≡ ws ++ p.number / 2 ^ 32 ∷ p.number % 2 ^ 32 ∷ [])
    (second : two ≡ one ++ p.len / 2 ^ 32 ∷ p.len % 2 ^ 32 ∷ []) where
  pub pushed-four : length two ≡ length ws + 4
  pushed-four =
      omega (
        arith,
        ap length first,
        ap length second,
        length-append ws (p.number / 2 ^ 32 ∷ p.number % 2 ^ 32 ∷ []),
        length-append one (p.len / 2 ^ 32 ∷ p.len % 2 ^ 32 ∷ []),
      )

  pub pushed-object : all ≡ two ++ p.sectors → all ≡ ws ++ object_words p
  pushed-object last =
      last ∙ ap (λ (l : List ℕ). l ++ p.sectors) (second ∙ ap (λ (l : List ℕ). l ++ p.len / 2 ^ 32 ∷ p.len % 2 ^ 32 ∷ []) first
      ∙ append_assoc ws (p.number / 2 ^ 32 ∷ p.number % 2 ^ 32 ∷ []) (p.len / 2 ^ 32 ∷ p.len % 2 ^ 32 ∷ []))
      ∙ append_assoc ws (p.number / 2 ^ 32 ∷ p.number % 2 ^ 32 ∷ p.len / 2 ^ 32 ∷ p.len % 2 ^ 32 ∷ []) p.sectors

-- and how many words there are
pub words-room : {range : Range} {words table : Vec ℕ} {uses : List Use} → IsHeap range words table uses → length words.items ≤ 5 * range.count + 1
words-room {range} {words} {table} {uses} heap =
    omega (arith, words-fit (objects-of heap) heap.all_uses, ap length heap.is_table)
