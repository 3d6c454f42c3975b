-- Where an object stands among the words of a table, and its bytes on a disk.
use Rattle.std.proofs.Common.{◌≡◌, ℕ, zero, suc, ◌+◌, ◌-◌, ◌*◌, ◌^◌, ◌<◌, ◌≤◌, List, [], ◌∷◌, ◌++◌, length, take, drop, get_or, map}
use Rattle.std.proofs.Common.{Option, Some, None, refl, sym, ◌∙◌, ap, subst, min, replicate, take-append-drop, ⊎_elim, arith}
use borrow.Rule.Slice.PartMut.{put_mid, post_of}
use Rattle.std.specs.Prelude.{Result, Ok, Err, IsErr, All, Contains, true, false, nat_eq, is_some, flat_map, slice_get, option_map}
use Rattle.std.proofs.lemmas.List.{take_more, drop_more, drop_at, get_or-drop, get_or-take}
use Rattle.std.proofs.lemmas.List.{get_or-replicate, get_or_past, get_or_append_left, get_or-append_right}
use Rattle.std.proofs.lemmas.List.{take_at, take_all, take-take, take-append-le, drop_all, drop-drop}
use Rattle.std.proofs.lemmas.List.{drop-take, length-append, length-drop, length-take, length-take-le, length-replicate, append-nil}
use Rattle.std.proofs.lemmas.Bool.{cases_lt}
use Rattle.std.proofs.lemmas.Nat.{shr_split}
use Rattle.std.proofs.lemmas.Grind.{same_number_lists}
use Rattle.std.proofs.lemmas.List.Concat.{flat_map-append}
use Rattle.std.proofs.lemmas.List.Elements.{All-contains, All-tail, Contains-get_or, Contains-append_left, Contains-append_right}
use Rattle.std.proofs.lemmas.Option.{slice_get-get_or}
use Rattle.std.specs.Global.{Vec}
use Rattle.ipc_base.specs.Objects.{window}
use Rattle.ipc_base.proofs.CallerLemmas.{same_key, other_key, same_keys}
use Rattle.ipc_base.specs.Table.{keys_of, seen_as}
use Rattle.ipc_disk.specs.declared.range.Range.{Range}
use Rattle.ipc_disk.specs.Medium.{Image, IsShaped}
use Rattle.ipc_disk.specs.Range.{IsInside, IsWithin}
use Rattle.ipc_disk.specs.Standing.{sector_at, sectors_for}
use Rattle.ipc_heap.specs.declared.uses.Use.{Use}
use Rattle.ipc_heap.specs.declared.words.Place.{Place}
use Rattle.ipc_heap.specs.Heap.{Placed, object_on, object_sectors, object_words, table_words}
use Rattle.ipc_heap.specs.Relations.Found.{seen_at, IsFound}
use Rattle.ipc_heap.specs.Relations.Words.{wide_at, object_len_at, placed_in, AreWords, IsPlace, IsHeap}
use Rattle.ipc_heap.proofs.Placed.{words_for, words_for-append, number-at, len-at, object_len-at, words-within, table-from, all-at}

-- the words of a heap are those of its objects
pub words-heap : {range : Range} {words table : Vec ℕ} {uses : List Use} {placed : List Placed} → IsHeap range words table uses → placed_in words.items ≡ placed
    → AreWords words.items placed
words-heap {range} {words} {table} {uses} {placed} heap is =
    subst (AreWords words.items) is (record { are = heap.is_table; numbers = heap.numbers; sizes = heap.sizes })

-- no object
abbrev pub nowhere : Placed
nowhere = record { number = 0; len = 0; sectors = [] }

-- the k-th object begins at the place, and the next one after its words
pub record IsObjectAt (words : List ℕ) (placed : List Placed) (k at : ℕ) : Type 0 where
  pub number : wide_at words at ≡ (get_or placed k nowhere).number
  pub len : wide_at words (at + 2) ≡ (get_or placed k nowhere).len
  pub next : at + object_len_at words at ≡ 1 + words_for (take (k + 1) placed)
  pub within : at + object_len_at words at ≤ length words

pub object-at : (words : List ℕ) (placed : List Placed) (k at : ℕ) → AreWords words placed → k < length placed → at ≡ 1 + words_for (take k placed)
    → IsObjectAt words placed k at
object-at words placed k at are lt here =
    let p : Placed = get_or placed k nowhere in
    let before : List Placed = take k placed in
    let after : List Placed = drop (k + 1) placed in
    let split : placed ≡ before ++ p ∷ after = sym (take-append-drop k placed) ∙ ap (λ (l : List Placed). before ++ l) (drop_more placed k nowhere lt) in
    let words-are : words ≡ table_words (before ++ p ∷ after) = are.are ∙ ap table_words split in
    let long : object_len_at words at ≡ length (object_words p) = object_len-at words before p after at words-are here (are.sizes k nowhere lt).2 in
    let more : words_for (take (k + 1) placed) ≡ words_for before + words_for (p ∷ []) =
    ap words_for (take_more placed k nowhere lt) ∙ words_for-append before (p ∷ []) in
    record {
      number = number-at words before p after at words-are here;
      len = len-at words before p after at words-are here;
      next = omega (arith, here, long, more, length-append (object_words p) []);
      within = omega (arith, long, words-within words before p after at words-are here);
    }

-- what the k-th object is
pub seen-at : (placed : List Placed) (k : ℕ) → k < length placed
    → option_map {U = ℕ × ℕ} (λ (p : Placed). (p.number, p.len)) (slice_get placed k) ≡ Some ((get_or placed k nowhere).number, (get_or placed k nowhere).len)
seen-at placed k lt = ap (λ (o : Option Placed). option_map {U = ℕ × ℕ} (λ (p : Placed). (p.number, p.len)) o) (slice_get-get_or placed k nowhere lt)

-- ---- the bytes of an object on a disk

-- a call that went well has not failed
pub not_failed : {T E : Type 0} (r : Result T E) (x : T) → r ≡ Ok x → IsErr r → ⊥
not_failed (Ok y) x is bad = cc
not_failed (Err e) x is bad = cc

-- a failure that is passed on
pub failed_on : {T E : Type 0} (r : Result T E) (e : E) → r ≡ Err e → IsErr r
failed_on (Ok y) e is = cc
failed_on (Err d) e is = refl

-- where each part is as long, so many parts are passed over
module _ (part : ℕ → List ℕ) (n : ℕ) where
  pub passed-parts : (k : ℕ) (xs : List ℕ) → k ≤ length xs → All (λ (x : ℕ). length (part x) ≡ n) xs
      → drop (n * k) (flat_map part xs) ≡ flat_map part (drop k xs)
  passed-parts zero xs le long =
      let none : n * 0 ≡ 0 = omega arith in
      ap (λ (m : ℕ). drop m (flat_map part xs)) none
  passed-parts (suc k) [] le long = absurd (omega (arith, le))
  passed-parts (suc k) (x ∷ xs) le long =
      let one : length (part x) ≡ n = long 0 0 (omega arith) in
      let bound : n * suc k ≡ length (part x) + n * k = omega (arith, one) in
      ap (λ (m : ℕ). drop m (part x ++ flat_map part xs)) bound
      ∙ sym (drop-drop (n * k) (length (part x)) (part x ++ flat_map part xs))
      ∙ ap (drop (n * k)) (drop_at (part x) (flat_map part xs) (length (part x)) refl)
      ∙ passed-parts k xs (omega (arith, le)) (All-tail (λ (y : ℕ). length (part y) ≡ n) x xs long)

  pub part-of : (k : ℕ) (xs : List ℕ) (d : ℕ) → k < length xs → All (λ (x : ℕ). length (part x) ≡ n) xs
      → drop (n * k) (flat_map part xs) ≡ part (get_or xs k d) ++ flat_map part (drop (k + 1) xs)
  part-of k xs d lt long = passed-parts k xs (omega (arith, lt)) long ∙ ap (flat_map part) (drop_more xs k d lt)

-- the bytes that a sector has of the first ones, and zeros
abbrev front_of : ℕ → List ℕ → List ℕ
front_of len sector = take (min 512 len) sector ++ replicate (512 - min 512 len) 0

first_of : (len : ℕ) (sector rest : List ℕ) → length sector ≡ 512 → take 512 (take len (sector ++ rest)) ≡ take (min 512 len) sector
first_of len sector rest long = ⊎_elim
    (λ (lt : len < 512).
    let least : min 512 len ≡ len = omega (arith, lt) in
    take_all 512 (take len (sector ++ rest)) (omega (arith, lt, length-take len (sector ++ rest)))
    ∙ take-append-le len sector rest (omega (arith, lt, long)) ∙ ap (λ (m : ℕ). take m sector) (sym least))
    (λ (ge : 512 ≤ len).
    let least : 512 ≡ min 512 len = omega (arith, ge) in
    take-take 512 len (sector ++ rest) ge ∙ take_at sector rest 512 long ∙ sym (take_all 512 sector (omega (arith, long)))
    ∙ ap (λ (m : ℕ). take m sector) least)
    (cases_lt len 512)

-- the k-th 512 of the bytes that stand in some sectors
pub window-piece : (part : ℕ → List ℕ) (sectors : List ℕ) (len k d : ℕ) → length sectors ≡ sectors_for len → k < length sectors
    → All (λ (x : ℕ). length (part x) ≡ 512) sectors
    → front_of (len - 512 * k) (part (get_or sectors k d)) ≡ window (512 * k) (take len (flat_map part sectors))
window-piece part sectors len k d all lt long =
    let sector : List ℕ = part (get_or sectors k d) in
    let here : length sector ≡ 512 = long k d lt in
    let left : len ≡ 512 * k + (len - 512 * k) = omega (arith, all, lt) in
    let seen : drop (512 * k) (take len (flat_map part sectors)) ≡ take (len - 512 * k) (sector ++ flat_map part (drop (k + 1) sectors)) =
    ap (λ (m : ℕ). drop (512 * k) (take m (flat_map part sectors))) left ∙ drop-take (512 * k) (len - 512 * k) (flat_map part sectors)
    ∙ ap (take (len - 512 * k)) (part-of part 512 k sectors d lt long) in
    let first : take 512 (drop (512 * k) (take len (flat_map part sectors))) ≡ take (min 512 (len - 512 * k)) sector =
    ap (take 512) seen ∙ first_of (len - 512 * k) sector (flat_map part (drop (k + 1) sectors)) here in
    let size : length (take (min 512 (len - 512 * k)) sector) ≡ min 512 (len - 512 * k) = omega (arith, length-take (min 512 (len - 512 * k)) sector, here) in
    ap (λ (m : ℕ). take (min 512 (len - 512 * k)) sector ++ replicate (512 - m) 0) (sym size)
    ∙ ap (λ (l : List ℕ). l ++ replicate (512 - length l) 0) (sym first)

-- past the end there are zeros
pub window-past : (place : ℕ) (bytes : List ℕ) → length bytes ≤ place → replicate 512 0 ≡ window place bytes
window-past place bytes past = ap (λ (l : List ℕ). take 512 l ++ replicate (512 - length (take 512 l)) 0) (sym (drop_all place bytes past))

pub window-length : (place : ℕ) (bytes : List ℕ) → length (window place bytes) ≡ 512
window-length place bytes =
    let front : List ℕ = take 512 (drop place bytes) in
    omega (arith, length-append front (replicate (512 - length front) 0), length-replicate {A = ℕ} (512 - length front) 0, length-take 512 (drop place bytes))

window-at : (place : ℕ) (bytes : List ℕ) (i : ℕ) → i < 512 → get_or (window place bytes) i 0 ≡ get_or bytes (place + i) 0
window-at place bytes i lt =
    let front : List ℕ = take 512 (drop place bytes) in
    let zeros : List ℕ = replicate (512 - length front) 0 in
    let long : length front ≡ min 512 (length bytes - place) = omega (arith, length-take 512 (drop place bytes), length-drop place bytes) in
    ⊎_elim
    (λ (here : i < length front).
    get_or_append_left front zeros 0 i here ∙ get_or-take 512 (drop place bytes) i 0 lt ∙ get_or-drop place bytes i 0)
    (λ (beyond : length front ≤ i).
    get_or-append_right front zeros (length front) i 0 refl beyond
    ∙ get_or-replicate (512 - length front) (i - length front) 0 0 (omega (arith, lt, beyond))
    ∙ sym (get_or_past bytes (place + i) 0 (omega (arith, long, beyond, lt))))
    (cases_lt i (length front))

-- a window has the end of a piece and the begin of the next one
pub window-both : (place k skip : ℕ) (bytes : List ℕ) → place ≡ 512 * k + skip → skip ≤ 512
    → drop skip (window (512 * k) bytes) ++ take skip (window (512 * (k + 1)) bytes) ≡ window place bytes
window-both place k skip bytes is le =
    let end : List ℕ = drop skip (window (512 * k) bytes) in
    let begin : List ℕ = take skip (window (512 * (k + 1)) bytes) in
    let end-long : length end ≡ 512 - skip = length-drop skip (window (512 * k) bytes) ∙ ap (λ (n : ℕ). n - skip) (window-length (512 * k) bytes) in
    let begin-long : length begin ≡ skip = omega (arith, length-take skip (window (512 * (k + 1)) bytes), window-length (512 * (k + 1)) bytes, le) in
    let all : length (end ++ begin) ≡ 512 = omega (arith, length-append end begin, end-long, begin-long, le) in
    same_number_lists (end ++ begin) (window place bytes) (all ∙ sym (window-length place bytes)) (λ i lt.
    ⊎_elim
    (λ (here : i < length end).
    get_or_append_left end begin 0 i here ∙ get_or-drop skip (window (512 * k) bytes) i 0
    ∙ window-at (512 * k) bytes (skip + i) (omega (arith, here, end-long))
    ∙ ap (λ (n : ℕ). get_or bytes n 0) (omega (arith, is)) ∙ sym (window-at place bytes i (omega (arith, lt, all))))
    (λ (beyond : length end ≤ i).
    get_or-append_right end begin (length end) i 0 refl beyond
    ∙ get_or-take skip (window (512 * (k + 1)) bytes) (i - length end) 0 (omega (arith, lt, all, beyond, end-long))
    ∙ window-at (512 * (k + 1)) bytes (i - length end) (omega (arith, lt, all))
    ∙ ap (λ (n : ℕ). get_or bytes n 0) (omega (arith, is, beyond, end-long, le)) ∙ sym (window-at place bytes i (omega (arith, lt, all))))
    (cases_lt i (length end)))

-- the end of a first piece and the begin of a second one are written over 512 bytes
pub written-both : (skip : ℕ) (first second old one two : List ℕ) → skip ≤ 512 → length first ≡ 512 → length old ≡ 512
    → one ≡ take (512 - skip) (drop skip first) → two ≡ take skip second
    → put_mid (512 - skip) (512 - (512 - skip)) (one ++ post_of 0 (512 - skip) old) two ≡ drop skip first ++ take skip second
written-both skip first second old one two le long room is also =
    let end : one ≡ drop skip first = is ∙ take_all (512 - skip) (drop skip first) (omega (arith, length-drop skip first, long)) in
    let size : length one ≡ 512 - skip = omega (arith, ap length end, length-drop skip first, long) in
    let rest : List ℕ = drop (512 - skip) old in
    let front : take (512 - skip) (one ++ rest) ≡ one = take_at one rest (512 - skip) size in
    let none : drop (512 - (512 - skip)) (drop (512 - skip) (one ++ rest)) ≡ [] =
    drop_all (512 - (512 - skip)) (drop (512 - skip) (one ++ rest))
    (omega (arith, length-drop (512 - skip) (one ++ rest), length-append one rest, size, length-drop (512 - skip) old, room)) in
    ap (λ (l : List ℕ). take (512 - skip) (one ++ rest) ++ (two ++ l)) none ∙ ap (λ (l : List ℕ). l ++ (two ++ [])) front
    ∙ ap (λ (l : List ℕ). one ++ l) (append-nil two ∙ also) ∙ ap (λ (l : List ℕ). l ++ take skip second) end

-- ---- the object of a number

module _ {X : Type 0} (see : Placed → X) (number : ℕ) where
  -- it is none of those with lower numbers
  seen-later : (before after : List Placed) → All (λ (p : Placed). p.number < number) before → seen_at see (before ++ after) number ≡ seen_at see after number
  seen-later [] after lower = refl
  seen-later (p ∷ before) after lower =
      let other : nat_eq p.number number ≡ false = other_key p.number number (λ same. omega (arith, same, lower 0 p (omega arith))) in
      rw other (seen-later before after (All-tail (λ (q : Placed). q.number < number) p before lower))

  seen-none : (after : List Placed) → All (λ (p : Placed). number < p.number) after → seen_at see after number ≡ None
  seen-none [] higher = refl
  seen-none (p ∷ after) higher =
      let other : nat_eq p.number number ≡ false = other_key p.number number (λ same. omega (arith, same, higher 0 p (omega arith))) in
      rw other (seen-none after (All-tail (λ (q : Placed). number < q.number) p after higher))

  seen-first : (p : Placed) (after : List Placed) → p.number ≡ number → seen_at see (p ∷ after) number ≡ Some (see p)
  seen-first p after is = let same : nat_eq p.number number ≡ true = rw is (same_key number) in rw same refl

-- each sector of an object is one of them all
among-all : (before : List Placed) (p : Placed) (after : List Placed) → All (Contains (object_sectors (before ++ p ∷ after))) p.sectors
among-all before p after k d lt =
    subst (λ (l : List ℕ). Contains l (get_or p.sectors k d)) (sym (flat_map-append (λ (q : Placed). q.sectors) before (p ∷ after)))
    (Contains-append_right (object_sectors before) (p.sectors ++ object_sectors after) (get_or p.sectors k d)
    (Contains-append_left p.sectors (object_sectors after) (get_or p.sectors k d) (Contains-get_or p.sectors k d lt)))

pub among-at : (placed : List Placed) (k : ℕ) (d : Placed) → k < length placed → All (Contains (object_sectors placed)) (get_or placed k d).sectors
among-at [] k d less = absurd (omega (arith, less))
among-at (p ∷ placed) zero d less = among-all [] p placed
among-at (p ∷ placed) (suc k) d less = λ j e lt.
    let x : ℕ = get_or (get_or placed k d).sectors j e in
    Contains-append_right p.sectors (object_sectors placed) x (among-at placed k d (omega (arith, less)) j e lt)

-- how many bytes stand in so many sectors, and of an object
length-sectors : (image : Image) (sectors : List ℕ) → All (λ i. length (sector_at image i) ≡ 512) sectors
    → length (flat_map (sector_at image) sectors) ≡ 512 * length sectors
length-sectors image [] long = refl
length-sectors image (s ∷ sectors) long =
    let first : length (sector_at image s) ≡ 512 = long 0 0 (omega arith) in
    omega (
      arith,
      first,
      length-append (sector_at image s) (flat_map (sector_at image) sectors),
      length-sectors image sectors (All-tail (λ i. length (sector_at image i) ≡ 512) s sectors long),
    )

pub bytes-on : (range : Range) (image : Image) (size : ℕ) → IsShaped size image → IsWithin range size → (placed : List Placed)
    → All (IsInside range) (object_sectors placed) → All (λ p. (0 < p.len) × (p.len < 2 ^ 64) × (length p.sectors ≡ sectors_for p.len)) placed
    → All (λ p. length (object_on image p).1 ≡ p.len) placed
bytes-on range image size shaped within placed inside sizes k d lt =
    let p : Placed = get_or placed k d in
    let long : All (λ i. length (sector_at image i) ≡ 512) p.sectors = λ j e less.
    let x : ℕ = get_or p.sectors j e in
    let here : IsInside range x = All-contains (IsInside range) (object_sectors placed) x inside (among-at placed k d lt j e less) in
    (shaped.sectors x [] (omega (arith, here, within, shaped.count))).size in
    length-take-le p.len (flat_map (sector_at image) p.sectors) (omega (arith, length-sectors image p.sectors long, (sizes k d lt).2))

-- the lengths that are noted are those of the bytes
pub sizes-on : (image : Image) (placed : List Placed) → All (λ p. length (object_on image p).1 ≡ p.len) placed
    → map (λ p. (p.number, p.len)) placed ≡ seen_as (λ bytes. length bytes) (map (object_on image) placed)
sizes-on image [] long = refl
sizes-on image (p ∷ placed) long =
    ap (λ (n : ℕ). (p.number, n) ∷ map (λ (q : Placed). (q.number, q.len)) placed) (sym (long 0 p (omega arith)))
    ∙ ap (λ (l : List (ℕ × ℕ)). (p.number, length (object_on image p).1) ∷ l)
    (sizes-on image placed (All-tail (λ q. length (object_on image q).1 ≡ q.len) p placed long))

module _ (words : List ℕ) (placed : List Placed) (number : ℕ) (place : Place) (are : AreWords words placed) (at : IsPlace placed number place) where
  found-one : (here : List Placed) → placed ≡ at.before ++ (here ++ at.after) → All (λ (p : Placed). p.number ≡ number) here → length here ≤ 1
      → place.len ≡ words_for here → is_some (seen_at (λ p. p.sectors) placed number) ≡ true
      → IsFound placed number (take place.len (drop place.at words)) × (4 ≤ place.len) × (place.at + place.len ≤ length words)
  found-one [] split same one len some =
      let none : seen_at (λ p. p.sectors) placed number ≡ None =
      ap (λ (l : List Placed). seen_at (λ p. p.sectors) l number) split
      ∙ seen-later (λ p. p.sectors) number at.before at.after at.lower ∙ seen-none (λ p. p.sectors) number at.after at.higher in
      let never : is_some {T = List ℕ} None ≡ true = rw none at some in
      absurd cc
  found-one (p ∷ []) split same one len some =
      let long : place.len ≡ length (object_words p) = len ∙ ap length (append-nil (object_words p)) in
      let words-are : words ≡ table_words (at.before ++ p ∷ at.after) = are.are ∙ ap table_words split in
      let from : drop place.at words ≡ object_words p ++ flat_map object_words at.after =
      ap (drop place.at) words-are ∙ ap (λ (n : ℕ). drop n (table_words (at.before ++ p ∷ at.after))) at.at ∙ table-from at.before (p ∷ at.after) in (
        record {
          object = p;
          are = ap (take place.len) from ∙ take_at (object_words p) (flat_map object_words at.after) place.len (sym long);
          seen = λ see. ap (λ (l : List Placed). seen_at see l number) split ∙ seen-later see number at.before (p ∷ at.after) at.lower
              ∙ seen-first see number p at.after (same 0 p (omega arith));
          sized = (all-at (λ (q : Placed). (0 < q.len) × (q.len < 2 ^ 64) × (length q.sectors ≡ sectors_for q.len)) at.before p at.after
              (subst (All (λ (q : Placed). (0 < q.len) × (q.len < 2 ^ 64) × (length q.sectors ≡ sectors_for q.len))) split are.sizes)).2;
          among = subst (λ (l : List Placed). All (Contains (object_sectors l)) p.sectors) (sym split) (among-all at.before p at.after);
        },
        omega (arith, long),
        omega (arith, long, at.at, words-within words at.before p at.after place.at words-are at.at),
      )
  found-one (p ∷ q ∷ here) split same one len some = absurd (omega (arith, one))

  pub found-at : is_some (seen_at (λ p. p.sectors) placed number) ≡ true
      → IsFound placed number (take place.len (drop place.at words)) × (4 ≤ place.len) × (place.at + place.len ≤ length words)
  found-at = found-one at.here at.are at.same at.one at.len

  len-one : (here : List Placed) → placed ≡ at.before ++ (here ++ at.after) → All (λ (p : Placed). p.number ≡ number) here → length here ≤ 1
      → place.len ≡ words_for here → (place.len ≡ 0 → None ≡ seen_at (λ p. p.len) placed number)
      × (0 < place.len → (place.at + 3 < length words) × (Some (wide_at words (place.at + 2)) ≡ seen_at (λ p. p.len) placed number))
  len-one [] split same one len = (
    λ none. sym (ap (λ (l : List Placed). seen_at (λ p. p.len) l number) split
        ∙ seen-later (λ p. p.len) number at.before at.after at.lower ∙ seen-none (λ p. p.len) number at.after at.higher),
    λ some. absurd (omega (arith, some, len)),
  )
  len-one (p ∷ []) split same one len =
      let long : place.len ≡ length (object_words p) = len ∙ ap length (append-nil (object_words p)) in
      let words-are : words ≡ table_words (at.before ++ p ∷ at.after) = are.are ∙ ap table_words split in (
        λ none. absurd (omega (arith, none, long)),
        λ some. (
          omega (arith, words-within words at.before p at.after place.at words-are at.at),
          ap (λ (n : ℕ). Some n) (len-at words at.before p at.after place.at words-are at.at)
              ∙ sym (ap (λ (l : List Placed). seen_at (λ q. q.len) l number) split ∙ seen-later (λ q. q.len) number at.before (p ∷ at.after) at.lower
              ∙ seen-first (λ q. q.len) number p at.after (same 0 p (omega arith))),
        ),
      )
  len-one (p ∷ q ∷ here) split same one len = absurd (omega (arith, one))

  -- how many bytes it has, if it is there
  pub len-found : (place.len ≡ 0 → None ≡ seen_at (λ p. p.len) placed number)
      × (0 < place.len → (place.at + 3 < length words) × (Some (wide_at words (place.at + 2)) ≡ seen_at (λ p. p.len) placed number))
  len-found = len-one at.here at.are at.same at.one at.len

-- there is an object of a number, however it is seen
pub keys-seen : (see : Placed → List ℕ) (placed : List Placed) → keys_of (map (λ p. (p.number, see p)) placed) ≡ map (λ p. p.number) placed
keys-seen see [] = refl
keys-seen see (p ∷ placed) = ap (λ (l : List ℕ). p.number ∷ l) (keys-seen see placed)

pub seen-any : (see other : Placed → List ℕ) (placed : List Placed) (number : ℕ) → is_some (seen_at see placed number) ≡ is_some (seen_at other placed number)
seen-any see other placed number =
    same_keys (map (λ p. (p.number, see p)) placed) (map (λ p. (p.number, other p)) placed) number (keys-seen see placed ∙ sym (keys-seen other placed))

-- the sectors among the words of an object
pub sectors-of : (words : List ℕ) (p : Placed) → words ≡ object_words p → take (length words - 4) (drop 4 words) ≡ p.sectors
sectors-of words p are =
    ap (λ (l : List ℕ). take (length l - 4) (drop 4 l)) are ∙ take_all (length (object_words p) - 4) p.sectors (omega arith)

pub len-of : (words : List ℕ) (p : Placed) → words ≡ object_words p → wide_at words 2 ≡ p.len
len-of words p are = ap (λ (l : List ℕ). wide_at l 2) are ∙ shr_split p.len 32
