-- What is read of a heap, sector by sector and object by object.
use Rattle.std.proofs.Common.{◌≡◌, ◌⊎◌, ◌↔◌, inl, inr, ⊎_elim, ℕ, zero, suc, ◌+◌, ◌-◌, ◌*◌, ◌/◌, ◌%◌, ◌^◌, ◌<◌, ◌≤◌, true, false, List, [], ◌∷◌, ◌++◌}
use Rattle.std.proofs.Common.{length, get_or, take, drop, set, map, min, cond, Option, Some}
use Rattle.std.proofs.Common.{None, take-append-drop, refl, sym, ap, subst, ◌∙◌, append_assoc, arith}
use Rattle.std.specs.Prelude.{Bool, IsTrue, MatchBool, MatchOption, IfSome, IsSomeAnd, All, Any, Contains, nat_eq, slice_get, flat_map}
use Rattle.std.specs.Prelude.{Result, Ok, Err}
use Rattle.std.specs.Result.{IsErrOf, IsErrAnd}
use Rattle.ipc_heap.specs.declared.error.OpenError.{OpenError}
use Rattle.std.specs.List.{IsDistinct}
use Rattle.std.proofs.lemmas.Bool.{cases_eq, cases_lt, false_from_ne_true}
use Rattle.std.proofs.lemmas.List.Elements.{All-nil, All-cons, All-push, All-contains, Contains-get_or}
use Rattle.std.proofs.lemmas.List.Elements.{Contains-append_left, Contains-append_right, Contains-push, Contains-push_cases}
use Rattle.std.proofs.lemmas.List.Quantifiers.{Any-push}
use Rattle.std.proofs.lemmas.List.Sums.{sum_by-set}
use Rattle.std.proofs.lemmas.Option.{slice_get_within, get_or_from_slice_get, slice_get-get_or}
use Rattle.std.proofs.lemmas.List.{append-nil, get_or-set_same, get_or-set_other, length-set}
use Rattle.std.proofs.lemmas.List.{length-append, drop-drop, length-drop, length-take, length-take-le}
use Rattle.std.proofs.lemmas.List.{length_push, get_or_push, get_or_append_left, get_or-drop, map_push, take-take, take_more, take_min}
use Rattle.byteorder.specs.Endian.{big_number}
use Rattle.byteorder.specs.Numbers.{big_from-append, big_from-take}
use Rattle.std.proofs.lemmas.List.Concat.{flat_map-append}
use Rattle.ipc_base.specs.Table.{IsRising}
use Rattle.ipc_base.proofs.CallerLemmas.{rising-bounds, rising-push, rising-weaker, spelled-more}
use Rattle.ipc_disk.specs.Standing.{sector_at, sectors_for}
use Rattle.ipc_disk.specs.declared.range.Range.{Range}
use Rattle.ipc_disk.specs.Range.{IsInside}
use Rattle.ipc_heap.specs.declared.uses.Use.{Use}
use Rattle.ipc_heap.specs.Damage.{AreFirstObjects, AreFirst, HasSectors, IsBroken, IsFirstDamage, IsRoot, IsTable}
use Rattle.ipc_heap.specs.Damage.{chain_for, last_of, number_in, sector_of_word, size_in, words_of_table}
use Rattle.ipc_heap.specs.Damage.IsFirstDamage.{Next, Last, Object, Twice, Outside}
use Rattle.ipc_disk.specs.Medium.{Image, Medium, Stays}
use Rattle.ipc_disk.specs.Calls.{OnlyReads}
use Rattle.ipc_disk.specs.Counts.{Counts}
use Rattle.ipc_disk.proofs.CallerLemmas.{OnlyReads-then}
use Rattle.ipc_heap.specs.Heap.{Placed, first_in, len_in, next_in, object_sectors, object_words, words_at, words_in}
use Rattle.ipc_heap.specs.declared.root.Root.{Root}
use Rattle.ipc_heap.specs.Relations.Root.{IsRead}
use Rattle.ipc_heap.specs.View.{is_free}
use Rattle.ipc_heap.specs.Relations.Opening.{AreNoted, IsSound, HasObject, LacksObject, StopsAt}
use Rattle.ipc_heap.specs.Relations.Words.{wide_at}
use Rattle.ipc_heap.proofs.Damages.{hop, one-object}
use Rattle.ipc_heap.proofs.Placed.{IsSized}
use Rattle.ipc_heap.proofs.Distinct.{in-none, insert-cases, insert-keeps, distinct-insert}

-- an error that is passed on
pub passed_on : {T : Type 0} (r : Result T OpenError) (came went : OpenError) → IsErrAnd r (λ y. y ≡ came) → IsErrOf r went → came ≡ went
passed_on (Ok x) came went from is = cc
passed_on (Err y) came went from is = cc

pub failed_as : {T : Type 0} (r : Result T OpenError) (e : OpenError) → IsErrAnd r (λ y. y ≡ e) → IsErrOf r e
failed_as (Ok x) e is = absurd is
failed_as (Err y) e is = ap Err is

-- ---- the words of a sector

pub length-words_in : (n : ℕ) (bytes : List ℕ) → length bytes ≡ 4 * n → length (words_in bytes) ≡ n
unfolding words_in
length-words_in zero [] long = refl
length-words_in zero (a ∷ bytes) long = absurd (omega (arith, long))
length-words_in (suc n) [] long = absurd (omega (arith, long))
length-words_in (suc n) (a ∷ []) long = absurd (omega (arith, long))
length-words_in (suc n) (a ∷ b ∷ []) long = absurd (omega (arith, long))
length-words_in (suc n) (a ∷ b ∷ c ∷ []) long = absurd (omega (arith, long))
length-words_in (suc n) (a ∷ b ∷ c ∷ d ∷ bytes) long = ap (λ (m : ℕ). suc m) (length-words_in n bytes (omega (arith, long)))

pub word-in : (k : ℕ) (bytes : List ℕ) → 4 * k + 4 ≤ length bytes → get_or (words_in bytes) k 0 ≡ big_number 4 (drop (4 * k) bytes)
unfolding words_in
word-in k [] le = absurd (omega (arith, le))
word-in k (a ∷ []) le = absurd (omega (arith, le))
word-in k (a ∷ b ∷ []) le = absurd (omega (arith, le))
word-in k (a ∷ b ∷ c ∷ []) le = absurd (omega (arith, le))
word-in zero (a ∷ b ∷ c ∷ d ∷ bytes) le = sym (big_from-append 4 (a ∷ b ∷ c ∷ d ∷ []) bytes (omega arith))
word-in (suc k) (a ∷ b ∷ c ∷ d ∷ bytes) le =
    let far : 4 * suc k ≡ suc (suc (suc (suc (4 * k)))) = omega arith in
    word-in k bytes (omega (arith, le)) ∙ ap (λ (n : ℕ). big_number 4 (drop n (a ∷ b ∷ c ∷ d ∷ bytes))) (sym far)

-- a word more of a sector's
pub words-more : (k word : ℕ) (sector : List ℕ) → length sector ≡ 512 → k < 127 → word ≡ big_number 4 (take (512 - (4 + 4 * k)) (drop (4 + 4 * k) sector))
    → take (k + 1) (words_in (drop 4 sector)) ≡ take k (words_in (drop 4 sector)) ++ word ∷ []
words-more k word sector long lt is =
    let bytes : List ℕ = drop 4 sector in
    let all : length bytes ≡ 4 * 127 = omega (arith, length-drop 4 sector, long) in
    let here : get_or (words_in bytes) k 0 ≡ word =
    word-in k bytes (omega (arith, all, lt)) ∙ ap (big_number 4) (drop-drop (4 * k) 4 sector)
    ∙ sym (big_from-take 0 4 (512 - (4 + 4 * k)) (drop (4 + 4 * k) sector) (omega (arith, lt))) ∙ sym is in
    take_more (words_in bytes) k 0 (omega (arith, length-words_in 127 bytes all, lt)) ∙ ap (λ (w : ℕ). take k (words_in bytes) ++ w ∷ []) here

-- a sector has no more than 127 of them
pub words-some : (k most : ℕ) (sector : List ℕ) → length sector ≡ 512 → k ≡ min 127 most → take k (words_in (drop 4 sector))
    ≡ take most (words_in (drop 4 sector))
words-some k most sector long is =
    let bytes : List ℕ = drop 4 sector in
    let all : length (words_in bytes) ≡ 127 = length-words_in 127 bytes (omega (arith, length-drop 4 sector, long)) in
    let fewer : k ≡ min most (length (words_in bytes)) = omega (arith, is, all) in
    ap (λ (n : ℕ). take n (words_in bytes)) fewer ∙ take_min most (words_in bytes)

-- ---- sectors that are noted

abbrev one_if : Bool → ℕ
one_if b = cond b 1 0

-- One sector more of a range is noted, which was not.
module _ {range : Range} {used table : List ℕ} {uses : List Use} (noted : AreNoted range used table uses) (s : ℕ) (inside : IsInside range s)
    {was : Use} (there : slice_get uses (s - range.first) ≡ Some was) (unused : was.saved ≡ false) where
  abbrev place : ℕ
  place = s - range.first

  within : place < length uses
  within = slice_get_within uses place was there

  sector-is : range.first + place ≡ s
  sector-is = omega (arith, inside)

  pub was-none : Contains (used ++ table) s → ⊥
  was-none has =
      let on : was.saved ≡ true = (noted.saved place was there).1 (subst (Contains (used ++ table)) (sym sector-is) has) in
      cc

  was-free : is_free was ≡ true
  was-free =
      let next : was.next ≡ false =
      false_from_ne_true was.next (λ on. was-none (Contains-append_left used table s (subst (Contains used) sector-is ((noted.next place was there).0 on)))) in
      rw unused (rw next refl)

  -- what is noted at a place after it
  at-place : (u v : Use) (i : ℕ) → slice_get (set uses place u) i ≡ Some v
      → ((range.first + i ≡ s) × (u ≡ v)) ⊎ ((s ≡ range.first + i → ⊥) × (slice_get uses i ≡ Some v))
  at-place u v i is =
      let less : i < length uses = omega (arith, slice_get_within (set uses place u) i v is, length-set uses place u) in
      let seen : get_or (set uses place u) i u ≡ v = get_or_from_slice_get (set uses place u) i v u is in
      ⊎_elim
      (λ (same : i ≡ place).
      inl (omega (arith, same, sector-is), sym (ap (λ (n : ℕ). get_or (set uses n u) i u) (sym same) ∙ get_or-set_same uses i u u less) ∙ seen))
      (λ (other : i ≡ place → ⊥).
      inr (
        λ same. other (omega (arith, same, sector-is)),
        slice_get-get_or uses i u less ∙ ap (λ (w : Use). Some w) (sym (get_or-set_other uses place i u u other) ∙ seen),
      ))
      (cases_eq i place)

  -- it is one of these more
  now-more : (f : Use → Bool) (u : Use) (old new : List ℕ) → f u ≡ true → ((x : ℕ) → Contains new x → Contains old x ⊎ (s ≡ x))
      → ((x : ℕ) → Contains old x ⊎ (s ≡ x) → Contains new x) → ((i : ℕ) (v : Use) → slice_get uses i ≡ Some v → IsTrue (f v) ↔ Contains old (range.first + i))
      → (i : ℕ) (v : Use) → slice_get (set uses place u) i ≡ Some v → IsTrue (f v) ↔ Contains new (range.first + i)
  now-more f u old new on cases keeps before i v is = ⊎_elim
      (λ here. (λ _. keeps (range.first + i) (inr (sym here.0)), λ _. ap f (sym here.1) ∙ on))
      (λ other. (
        λ t. keeps (range.first + i) (inl ((before i v other.1).0 t)),
        λ has. ⊎_elim (before i v other.1).1 (λ same. absurd (other.0 same)) (cases (range.first + i) has),
      ))
      (at-place u v i is)

  -- it is none of these, as before
  now-same : (f : Use → Bool) (u : Use) (old : List ℕ) → f u ≡ f was
      → ((i : ℕ) (v : Use) → slice_get uses i ≡ Some v → IsTrue (f v) ↔ Contains old (range.first + i))
      → (i : ℕ) (v : Use) → slice_get (set uses place u) i ≡ Some v → IsTrue (f v) ↔ Contains old (range.first + i)
  now-same f u old kept before i v is = ⊎_elim
      (λ here.
      let w : f v ≡ f was = ap f (sym here.1) ∙ kept in
      let so = before place was there in
      let same : range.first + i ≡ range.first + place = here.0 ∙ sym sector-is in
      (λ t. subst (Contains old) (sym same) (so.0 (sym w ∙ t)), λ has. w ∙ so.1 (subst (Contains old) same has)))
      (λ other. before i v other.1)
      (at-place u v i is)

  now-noted : (used' table' before after : List ℕ) (u : Use) → u.saved ≡ true → used ++ table ≡ before ++ after → used' ++ table' ≡ (before ++ s ∷ []) ++ after
      → ((i : ℕ) (v : Use) → slice_get (set uses place u) i ≡ Some v → IsTrue v.next ↔ Contains used' (range.first + i))
      → AreNoted range used' table' (set uses place u)
  now-noted used' table' before after u on old new next =
      let apart : Contains (before ++ after) s → ⊥ = λ has. was-none (subst (λ (l : List ℕ). Contains l s) (sym old) has) in
      let taken : is_free u ≡ false = rw on refl in
      record {
        all = length-set uses place u ∙ noted.all;
        saved = now-more (λ (v : Use). v.saved) u (used ++ table) (used' ++ table') on
            (λ x has. subst (λ (l : List ℕ). Contains l x ⊎ (s ≡ x)) (sym old) (insert-cases before after s x (subst (λ (l : List ℕ). Contains l x) new has)))
            (λ x has. subst (λ (l : List ℕ). Contains l x) (sym new) (insert-keeps before after s x (subst (λ (l : List ℕ). Contains l x ⊎ (s ≡ x)) old has)))
            noted.saved;
        next = next;
        inside = λ k d lt.
            let x : ℕ = get_or (used' ++ table') k d in
            let has : Contains ((before ++ s ∷ []) ++ after) x = subst (λ (l : List ℕ). Contains l x) new (Contains-get_or (used' ++ table') k d lt) in
            ⊎_elim
            (λ was-there. All-contains (IsInside range) (used ++ table) x noted.inside (subst (λ (l : List ℕ). Contains l x) (sym old) was-there))
            (λ same. subst (IsInside range) same inside)
            (insert-cases before after s x has);
        once = subst (IsDistinct nat_eq) (sym new) (distinct-insert before after s (subst (IsDistinct nat_eq) old noted.once) apart);
        free =
            let count = sum_by-set (λ (v : Use). one_if (is_free v)) uses place u was within in
            let one : one_if (is_free (get_or uses place was)) ≡ 1 =
            ap (λ (v : Use). one_if (is_free v)) (get_or_from_slice_get uses place was was there) ∙ ap one_if was-free in
            let none : one_if (is_free u) ≡ 0 = ap one_if taken in
            let long : length (used' ++ table') ≡ length (used ++ table) + 1 =
            omega (arith, ap length new, ap length old, length-append (before ++ s ∷ []) after, length-append before (s ∷ []), length-append before after) in
            omega (arith, count, one, none, long, noted.free);
      }

  -- one sector more of the objects
  pub noted-object : AreNoted range (used ++ s ∷ []) table (set uses place (record { saved = true; next = true }))
  noted-object =
      let u : Use = record { saved = true; next = true } in
      now-noted (used ++ s ∷ []) table used table u refl refl refl
      (now-more (λ (v : Use). v.next) u used (used ++ s ∷ []) refl (Contains-push_cases used s)
      (λ x. ⊎_elim (Contains-append_left used (s ∷ []) x) (λ same. subst (Contains (used ++ s ∷ [])) same (Contains-push used s))) noted.next)

-- one sector more of the table
pub noted-table : {range : Range} {table : List ℕ} {uses : List Use} (noted : AreNoted range [] table uses) (s : ℕ) (inside : IsInside range s)
    {was : Use} (there : slice_get uses (s - range.first) ≡ Some was) (unused : was.saved ≡ false)
    → AreNoted range [] (table ++ s ∷ []) (set uses (s - range.first) (record { saved = true; next = false }))
noted-table {range} {table} {uses} noted s inside {was} there unused =
    let u : Use = record { saved = true; next = false } in
    let off : was.next ≡ false =
    false_from_ne_true was.next (λ on. in-none (range.first + (s - range.first)) ((noted.next (s - range.first) was there).0 on)) in
    now-noted noted s inside there unused [] (table ++ s ∷ []) table [] u refl (sym (append-nil table)) (sym (append-nil (table ++ s ∷ [])))
    (now-same noted s inside there unused (λ (v : Use). v.next) u [] (sym off) noted.next)

-- The walk through the sectors of an object.
module _ (range : Range) (used table from : List ℕ) (uses : List Use) (k sectors s : ℕ) (noted : AreNoted range (used ++ take k from) table uses)
    (lt : k < sectors) (fits : sectors ≤ length from) (is : s ≡ get_or from k 0) where
  one-more : take (k + 1) from ≡ take k from ++ s ∷ []
  one-more = take_more from k 0 (omega (arith, lt, fits)) ∙ ap (λ (n : ℕ). take k from ++ n ∷ []) (sym is)

  -- one of them more is noted
  pub noted-next : (was : Use) → IsInside range s → slice_get uses (s - range.first) ≡ Some was → was.saved ≡ false
      → AreNoted range (used ++ take (k + 1) from) table (set uses (s - range.first) (record { saved = true; next = true }))
  noted-next was inside there unused =
      subst (λ (l : List ℕ). AreNoted range l table (set uses (s - range.first) (record { saved = true; next = true })))
      (append_assoc used (take k from) (s ∷ []) ∙ ap (λ (l : List ℕ). used ++ l) (sym one-more))
      (noted-object noted s inside there unused)

  -- or the walk stops
  pub stops-at : (words at sector : ℕ)
      → (IsInside range s × Contains ((used ++ take k from) ++ table) s × (sector ≡ sector_of_word words table at))
      ⊎ ((IsInside range s → ⊥) × (sector ≡ sector_of_word words table (at + 4 + k)))
      → StopsAt range used table (take sectors from) words at sector
  stops-at words at sector stops =
      let long : length (take k from) ≡ k = length-take-le k from (omega (arith, lt, fits)) in
      record {
        before = take k from;
        next = s;
        few = omega (arith, long, length-take-le sectors from fits, lt);
        are = ap (λ (n : ℕ). take (n + 1) (take sectors from)) long ∙ take-take (k + 1) sectors from (omega (arith, lt)) ∙ one-more;
        inside = λ j d less.
            let x : ℕ = get_or (take k from) j d in
            All-contains (IsInside range) ((used ++ take k from) ++ table) x noted.inside
            (Contains-append_left (used ++ take k from) table x (Contains-append_right used (take k from) x (Contains-get_or (take k from) j d less)));
        once = noted.once;
        stops = ⊎_elim inl
            (λ outside. inr (outside.0, outside.1 ∙ ap (λ (n : ℕ). sector_of_word words table (at + 4 + n)) (sym long))) stops;
      }

-- ---- the objects of a table

-- the object whose words stand first, with so many sectors
abbrev pub object_in : List ℕ → ℕ → Placed
object_in words n = record { number = number_in words; len = size_in words; sectors = take n (drop 4 words) }

-- a number of two words
two-words : (a b : ℕ) → b < 2 ^ 32 → ((a * 2 ^ 32 + b) / 2 ^ 32 ≡ a) × ((a * 2 ^ 32 + b) % 2 ^ 32 ≡ b)
two-words a b fits = (omega (arith, fits), omega (arith, fits))

object-stands : (words : List ℕ) (n : ℕ) → ((i : ℕ) → get_or words i 0 < 2 ^ 32) → 4 + n ≤ length words → words
    ≡ object_words (object_in words n) ++ drop (4 + n) words
object-stands [] n fits le = absurd (omega (arith, le))
object-stands (a ∷ []) n fits le = absurd (omega (arith, le))
object-stands (a ∷ b ∷ []) n fits le = absurd (omega (arith, le))
object-stands (a ∷ b ∷ c ∷ []) n fits le = absurd (omega (arith, le))
object-stands (a ∷ b ∷ c ∷ d ∷ rest) n fits le =
    let number = two-words a b (fits 1) in
    let size = two-words c d (fits 3) in
    let far : 4 + n ≡ suc (suc (suc (suc n))) = omega arith in
    ap (λ (l : List ℕ). a ∷ b ∷ c ∷ d ∷ l) (sym (take-append-drop n rest))
    ∙ ap (λ (x : ℕ). x ∷ b ∷ c ∷ d ∷ (take n rest ++ drop n rest)) (sym number.0)
    ∙ ap (λ (x : ℕ). (a * 2 ^ 32 + b) / 2 ^ 32 ∷ x ∷ c ∷ d ∷ (take n rest ++ drop n rest)) (sym number.1)
    ∙ ap (λ (x : ℕ). (a * 2 ^ 32 + b) / 2 ^ 32 ∷ (a * 2 ^ 32 + b) % 2 ^ 32 ∷ x ∷ d ∷ (take n rest ++ drop n rest)) (sym size.0)
    ∙ ap (λ (x : ℕ). (a * 2 ^ 32 + b) / 2 ^ 32 ∷ (a * 2 ^ 32 + b) % 2 ^ 32 ∷ (c * 2 ^ 32 + d) / 2 ^ 32 ∷ x ∷ (take n rest ++ drop n rest)) (sym size.1)
    ∙ ap (λ (m : ℕ). object_words (object_in (a ∷ b ∷ c ∷ d ∷ rest) n) ++ drop m (a ∷ b ∷ c ∷ d ∷ rest)) (sym far)

-- the last of the objects so far has this number, if there is one
abbrev pub IsLast : List Placed → Option ℕ → Type 0
IsLast placed last = MatchOption last (placed ≡ []) (λ n. IsRising 0 (map (λ p. p.number) placed) (n + 1) × Any (λ p. p.number ≡ n) placed)

-- rising numbers are below their end
rising-below : (low : ℕ) (placed : List Placed) (high : ℕ) → IsRising low (map (λ p. p.number) placed) high → All (λ p. p.number < high) placed
rising-below low [] high rising = All-nil (λ p. p.number < high)
rising-below low (p ∷ placed) high rising =
    All-cons (λ q. q.number < high) p placed (omega (arith, rising-bounds (p.number + 1) (map (λ q. q.number) placed) high rising.1))
    (rising-below (p.number + 1) placed high rising.1)

module _ (placed : List Placed) (number : ℕ) where
  -- a number that is not above the last one
  low-last : (last : Option ℕ) → IsLast placed last → IsSomeAnd last (λ n. number ≤ n) → Any (λ p. number ≤ p.number) placed
  low-last None is low = absurd low
  low-last (Some n) is low = let (k, p, lt, at, same) = is.1 in (k, p, lt, at, omega (arith, low, same))

  -- one that is above it is above all
  above-last : (last : Option ℕ) → IsLast placed last → IfSome last (λ n. n < number) → IsRising 0 (map (λ p. p.number) placed) number
  above-last None is above = subst (λ (l : List Placed). IsRising 0 (map (λ p. p.number) l) number) (sym is) (omega arith)
  above-last (Some n) is above = rising-weaker 0 (map (λ p. p.number) placed) (n + 1) number (omega (arith, above)) is.0

-- so many objects of a table were gone through and noted
pub record AreGone (range : Range) (table words : List ℕ) (uses : List Use) (count at : ℕ) (last : Option ℕ) (some_empty : Bool) : Type 0 where
  pub placed : List Placed
  pub are : AreFirstObjects range table words placed (drop at words)
  pub all : length placed ≡ count
  pub begin : 0 < at
  pub within : at ≤ length words
  pub noted : AreNoted range (object_sectors placed) table uses
  pub is_last : IsLast placed last
  pub empty : MatchBool some_empty (Any (λ p. p.len ≡ 0) placed) (All (λ p. 0 < p.len) placed)

module _ {range : Range} {table words : List ℕ} {uses : List Use} {count at : ℕ} {last : Option ℕ} {some_empty : Bool}
    (gone : AreGone range table words uses count at last some_empty) where
  abbrev rest : List ℕ
  rest = drop at words

  -- what comes next is no object
  pub broken : LacksObject last rest → IsBroken gone.placed rest
  broken (inl short) = inl short
  broken (inr (inl few)) = inr (inl few)
  broken (inr (inr low)) = inr (inr (low-last gone.placed (number_in rest) last gone.is_last low))

  module _ (n : ℕ) (has : HasObject last rest n) where
    -- an object comes next
    pub not-broken : IsBroken gone.placed rest → ⊥
    not-broken (inl short) = omega (arith, short, has.whole)
    not-broken (inr (inl few)) = omega (arith, few, has.whole, has.count)
    not-broken (inr (inr (k, p, lt, there, low))) =
        let rising = above-last gone.placed (number_in rest) last gone.is_last has.above in
        omega (arith, low, rising-below 0 gone.placed (number_in rest) rising k p lt, ap (λ (q : Placed). q.number) there)

    abbrev object : Placed
    object = object_in rest n

    number-is : wide_at words at ≡ object.number
    number-is =
        let none : at + 0 ≡ at = omega arith in
        let high : get_or rest 0 0 ≡ get_or words at 0 = get_or-drop at words 0 0 ∙ ap (λ (k : ℕ). get_or words k 0) none in
        omega (arith, high, get_or-drop at words 1 0)

    objects-are : object_sectors (gone.placed ++ object ∷ []) ≡ object_sectors gone.placed ++ take n (drop (at + 4) words)
    objects-are =
        flat_map-append (λ (p : Placed). p.sectors) gone.placed (object ∷ [])
        ∙ ap (λ (l : List ℕ). object_sectors gone.placed ++ l) (append-nil (take n (drop 4 rest)) ∙ ap (take n) (drop-drop 4 at words))

    -- whether one of them is empty
    empty-more : (was now : Bool) → MatchBool was (Any (λ p. p.len ≡ 0) gone.placed) (All (λ p. 0 < p.len) gone.placed)
        → MatchBool now ((was ≡ true) ⊎ (n ≡ 0)) ((was ≡ false) × (0 < n))
        → MatchBool now (Any (λ p. p.len ≡ 0) (gone.placed ++ object ∷ [])) (All (λ p. 0 < p.len) (gone.placed ++ object ∷ []))
    empty-more true true some (inl on) = (
      some.0,
      some.1,
      omega (arith, some.2, length_push gone.placed object),
      get_or_append_left gone.placed (object ∷ []) some.1 some.0 some.2
          ∙ some.3,
      some.4,
    )
    empty-more false true some (inl on) = cc
    empty-more was true some (inr none) = Any-push (λ p. p.len ≡ 0) gone.placed object (omega (arith, none, has.count))
    empty-more true false some both = let never : true ≡ false = both.0 in cc
    empty-more false false some both = All-push (λ p. 0 < p.len) gone.placed object some (omega (arith, both.1, has.count))

    -- it is noted
    pub gone-more : (after : List Use) (empty : Bool) → ((i : ℕ) → get_or words i 0 < 2 ^ 32)
        → AreNoted range (object_sectors gone.placed ++ take n (drop (at + 4) words)) table after
        → MatchBool empty ((some_empty ≡ true) ⊎ (n ≡ 0)) ((some_empty ≡ false) × (0 < n))
        → AreGone range table words after (count + 1) (at + (4 + n)) (Some (wide_at words at)) empty
    gone-more after empty fits noted either =
        let fit : (i : ℕ) → get_or rest i 0 < 2 ^ 32 = λ i. omega (arith, get_or-drop at words i 0, fits (at + i)) in
        let now : AreNoted range (object_sectors (gone.placed ++ object ∷ [])) table after =
        subst (λ (l : List ℕ). AreNoted range l table after) (sym objects-are) noted in
        let left : length rest ≡ length words - at = length-drop at words in
        let number-fits : object.number < 2 ^ 64 = omega (arith, fit 0, fit 1) in
        let len-fits : object.len < 2 ^ 64 = omega (arith, fit 2, fit 3) in
        let long : length object.sectors ≡ sectors_for object.len =
        length-take-le n (drop 4 rest) (omega (arith, length-drop 4 rest, has.whole)) ∙ has.count in
        let push : map (λ p. p.number) (gone.placed ++ object ∷ []) ≡ map (λ p. p.number) gone.placed ++ object.number ∷ [] =
        map_push (λ (p : Placed). p.number) gone.placed object in
        let rising : IsRising 0 (map (λ p. p.number) (gone.placed ++ object ∷ [])) (object.number + 1) =
        subst (λ (l : List ℕ). IsRising 0 l (object.number + 1)) (sym push)
        (rising-push 0 (map (λ p. p.number) gone.placed) object.number (above-last gone.placed object.number last gone.is_last has.above)) in
        record {
          placed = gone.placed ++ object ∷ [];
          are = record {
            words_are = spelled-more object_words IsSized one-object gone.placed object (drop 1 words) rest (drop (at + (4 + n)) words) gone.are.words_are
                (object-stands rest n fit has.whole ∙ ap (λ (l : List ℕ). object_words object ++ l) (drop-drop (4 + n) at words));
            numbers = rising-weaker 0 (map (λ p. p.number) (gone.placed ++ object ∷ [])) (object.number + 1) (2 ^ 64) (omega (arith, number-fits)) rising;
            sizes = All-push (λ p. (p.len < 2 ^ 64) × (length p.sectors ≡ sectors_for p.len)) gone.placed object gone.are.sizes (len-fits, long);
            inside = λ k d lt.
                let all : List ℕ = object_sectors (gone.placed ++ object ∷ []) in
                All-contains (IsInside range) (all ++ table) (get_or all k d) now.inside
                (Contains-append_left all table (get_or all k d) (Contains-get_or all k d lt));
            once = now.once;
          };
          all = omega (arith, length_push gone.placed object, gone.all);
          begin = omega (arith, gone.begin);
          within = omega (arith, left, has.whole, gone.within);
          noted = now;
          is_last = (
            subst (λ (m : ℕ). IsRising 0 (map (λ p. p.number) (gone.placed ++ object ∷ [])) (m + 1)) (sym number-is) rising,
            Any-push (λ p. p.number ≡ wide_at words at) gone.placed object (sym number-is),
          );
          empty = empty-more some_empty empty gone.empty either;
        }

-- Where no object comes next, or its walk stops, the image is damaged.
module _ {range : Range} {table words : List ℕ} {uses : List Use} {count at : ℕ} {last : Option ℕ} {some_empty : Bool} {root : ℕ} {image : Image}
    (gone : AreGone range table words uses count at last some_empty) (less : count < get_or words 0 0)
    (is : IsTable range root image table) (words-are : words ≡ words_of_table root image table) where
  abbrev beyond : List ℕ
  beyond = drop at words

  abbrev all-words : List ℕ
  all-words = words_of_table root image table

  gone-there : AreFirstObjects range table all-words gone.placed beyond
  gone-there = subst (λ (l : List ℕ). AreFirstObjects range table l gone.placed beyond) words-are gone.are

  less-there : length gone.placed < get_or all-words 0 0
  less-there = omega (arith, less, gone.all, ap (λ (l : List ℕ). get_or l 0 0) words-are)

  begin-is : length all-words - length beyond ≡ at
  begin-is = omega (arith, gone.within, length-drop at words, ap length words-are)

  -- in which sector a word stands that is found from there
  word-there : (from : ℕ → ℕ) → sector_of_word (length all-words) table (from (length all-words - length beyond))
      ≡ sector_of_word (length words) table (from at)
  word-there from =
      ap (λ (n : ℕ). sector_of_word n table (from (length all-words - length beyond))) (ap length (sym words-are))
      ∙ ap (λ (n : ℕ). sector_of_word (length words) table (from n)) begin-is

  pub damaged-object : (sector : ℕ) → sector ≡ sector_of_word (length words) table at → LacksObject last beyond → IsFirstDamage range root image sector
  damaged-object sector here lacks =
      subst (IsFirstDamage range root image) (word-there (λ k. k) ∙ sym here)
      (Object table beyond gone.placed is gone-there less-there (broken gone lacks))

  pub damaged-sector : (n sector : ℕ) → HasObject last beyond n
      → StopsAt range (object_sectors gone.placed) table (take n (drop (at + 4) words)) (length words) at sector
      → IsFirstDamage range root image sector
  damaged-sector n sector has stops =
      let begin : length (take n (drop (at + 4) words)) ≤ n = omega (arith, length-take n (drop (at + 4) words)) in
      let whole : IsBroken gone.placed beyond → ⊥ = not-broken gone n has in
      let sectors : HasSectors range table gone.placed beyond stops.before stops.next = record {
        whole = omega (arith, has.whole, has.count);
        few = omega (arith, stops.few, begin, has.count);
        are = ap (take (length stops.before + 1)) (drop-drop 4 at words)
            ∙ sym (take-take (length stops.before + 1) n (drop (at + 4) words) (omega (arith, stops.few, begin))) ∙ stops.are;
        inside = stops.inside;
        once = stops.once;
      } in
      ⊎_elim
      (λ twice. subst (IsFirstDamage range root image) (word-there (λ k. k) ∙ sym twice.2)
      (Twice table beyond stops.before stops.next gone.placed is gone-there less-there whole sectors twice.0 twice.1))
      (λ outside. subst (IsFirstDamage range root image) (word-there (λ k. k + 4 + length stops.before) ∙ sym outside.1)
      (Outside table beyond stops.before stops.next gone.placed is gone-there less-there whole sectors outside.0))
      stops.stops

-- ---- the table

-- a sound root is one
pub root-read : (range : Range) (sector : List ℕ) (root : Root) → IsRead sector root → IsSound range root → IsRoot range sector
root-read range sector root read sound = record {
  positive = omega (arith, read.epoch, sound.positive);
  some = omega (arith, read.len, sound.some);
  most = omega (arith, read.len, sound.most);
  first = subst (IsInside range) (sym read.first) sound.first;
}

-- so many sectors of a table were read, and this one comes next, or 0 after the last one
pub record AreRead (range : Range) (root : Root) (table words : List ℕ) (uses : List Use) (count at : ℕ) : Type 0 where
  pub noted : AreNoted range [] table uses
  pub all : length table ≡ count
  pub all_words : length words ≡ min (root.len / 4) (127 * count)
  pub next : count < chain_for root.len → IsInside range at × (Contains table at → ⊥)
  pub last : count ≡ chain_for root.len → at ≡ 0

-- the image has them
pub record AreHops (root : Root) (image : Image) (table words : List ℕ) (at : ℕ) : Type 0 where
  pub hops : (k : ℕ) → k < length table → get_or table k 0 ≡ hop image root.first k
  pub at_hop : at ≡ hop image root.first (length table)
  pub words_are : words ≡ take (root.len / 4) (flat_map (words_at image) table)

take-more : (n : ℕ) (front back : List ℕ) → take n front ++ take (n - length (take n front)) back ≡ take n (front ++ back)
take-more zero front back = refl
take-more (suc n) [] back = let all : suc n - 0 ≡ suc n = omega arith in ap (λ (m : ℕ). take m back) all
take-more (suc n) (x ∷ front) back =
    let less : suc n - suc (length (take n front)) ≡ n - length (take n front) = omega arith in
    ap (λ (m : ℕ). x ∷ (take n front ++ take m back)) less ∙ ap (λ (l : List ℕ). x ∷ l) (take-more n front back)

module _ {range : Range} {root : Root} {table words : List ℕ} {uses : List Use} {count at : ℕ} (read : AreRead range root table words uses count at) where
  -- a sector more is noted
  pub noted-more : (was : Use) → count < chain_for root.len → slice_get uses (at - range.first) ≡ Some was
      → AreNoted range [] (table ++ at ∷ []) (set uses (at - range.first) (record { saved = true; next = false }))
  noted-more was less there =
      let inside : IsInside range at = (read.next less).0 in
      let same : range.first + (at - range.first) ≡ at = omega (arith, inside) in
      let unused : was.saved ≡ false =
      false_from_ne_true was.saved (λ on. (read.next less).1 (subst (Contains table) same ((read.noted.saved (at - range.first) was there).0 on))) in
      noted-table read.noted at inside there unused

  -- and read
  pub read-more : {uses' : List Use} {next : ℕ} (sector : List ℕ) → length sector ≡ 512
      → AreNoted range [] (table ++ at ∷ []) uses' → (count + 1 ≡ chain_for root.len → next ≡ 0)
      → (count + 1 < chain_for root.len → IsInside range next × (Contains (table ++ at ∷ []) next → ⊥))
      → AreRead range root (table ++ at ∷ []) (words ++ take (root.len / 4 - length words) (words_in (drop 4 sector))) uses' (count + 1) next
  read-more sector long noted last more =
      let most : ℕ = root.len / 4 in
      let bytes : List ℕ = drop 4 sector in
      let size : length (words_in bytes) ≡ 127 = length-words_in 127 bytes (omega (arith, length-drop 4 sector, long)) in
      record {
        noted = noted;
        all = omega (arith, length_push table at, read.all);
        all_words = omega (
          arith,
          length-append words (take (most - length words) (words_in bytes)),
          length-take (most - length words) (words_in bytes),
          size,
          read.all_words,
        );
        next = more;
        last = last;
      }

pub hops-more : {root : Root} {image : Image} {table words : List ℕ} {at next : ℕ} {sector : List ℕ} → AreHops root image table words at
    → sector_at image at ≡ sector → next_in sector ≡ next
    → AreHops root image (table ++ at ∷ []) (words ++ take (root.len / 4 - length words) (words_in (drop 4 sector))) next
hops-more {root} {image} {table} {words} {at} {next} {sector} so_far stands is =
    let most : ℕ = root.len / 4 in
    let front : List ℕ = flat_map (words_at image) table in
    let back : List ℕ = words_in (drop 4 sector) in
    let long : length (table ++ at ∷ []) ≡ suc (length table) = omega (arith, length_push table at) in
    let whole : flat_map (words_at image) (table ++ at ∷ []) ≡ front ++ back =
    flat_map-append (words_at image) table (at ∷ [])
    ∙ ap (λ (l : List ℕ). front ++ l) (append-nil (words_at image at) ∙ ap (λ (l : List ℕ). words_in (drop 4 l)) stands) in
    record {
      hops = λ k lt. ⊎_elim
          (λ (before : k < length table). get_or_append_left table (at ∷ []) 0 k before ∙ so_far.hops k before)
          (λ (last : length table ≤ k).
          let here : length table ≡ k = omega (arith, last, lt, long) in
          get_or_push table at 0 k here ∙ so_far.at_hop ∙ ap (λ (n : ℕ). hop image root.first n) here)
          (cases_lt k (length table));
      at_hop = sym is ∙ ap next_in (sym stands) ∙ ap (λ (n : ℕ). next_in (sector_at image n)) so_far.at_hop
          ∙ ap (λ (n : ℕ). hop image root.first n) (sym long);
      words_are = ap (λ (l : List ℕ). l ++ take (most - length l) back) so_far.words_are ∙ take-more most front back ∙ ap (take most) (sym whole);
    }

-- the first sectors of a chain
module _ {range : Range} {root : Root} (image : Image) (at : ℕ) (read : IsRead (sector_at image at) root) (sound : IsSound range root) where
  begins : root.first ≡ first_in (sector_at image at)
  begins = sym read.first

  are-first : (table : List ℕ) (uses : List Use) → 0 < length table → AreNoted range [] table uses
      → ((k : ℕ) → k < length table → get_or table k 0 ≡ hop image root.first k) → AreFirst range image (first_in (sector_at image at)) table
  are-first table uses some noted hops = record {
    some = some;
    begin = hops 0 some ∙ begins;
    linked = λ k lt.
        let next : suc k ≡ k + 1 = omega arith in
        ap (λ (n : ℕ). next_in (sector_at image n)) (hops k (omega (arith, lt))) ∙ ap (λ (n : ℕ). hop image root.first n) next ∙ sym (hops (k + 1) lt);
    inside = noted.inside;
    once = noted.once;
  }

  -- the last of them names the next one
  next-named : (table words : List ℕ) (next : ℕ) → 0 < length table → AreHops root image table words next → next_in (sector_at image (last_of table)) ≡ next
  next-named table words next some hops =
      let last : ℕ = length table - 1 in
      let size : suc last ≡ length table = omega (arith, some) in
      ap (λ (n : ℕ). next_in (sector_at image n)) (hops.hops last (omega (arith, some))) ∙ ap (λ (n : ℕ). hop image root.first n) size ∙ sym hops.at_hop

  chain-is : chain_for (len_in (sector_at image at)) ≡ chain_for root.len
  chain-is = ap chain_for read.len

  -- all of them
  pub table-read : {table words : List ℕ} {uses : List Use} {next : ℕ} → AreRead range root table words uses (chain_for root.len) next
      → AreHops root image table words next → IsTable range at image table
  table-read {table} {words} {uses} {next} all hops =
      let some : 0 < length table = omega (arith, all.all, sound.some) in
      record {
        is_root = root-read range (sector_at image at) root read sound;
        first = are-first table uses some all.noted hops.hops;
        all = all.all ∙ sym chain-is;
        last = next-named table words next some hops ∙ all.last refl;
      }

  -- what comes next is wrong
  module _ (table : List ℕ) (s : ℕ) {words : List ℕ} {uses : List Use} {next : ℕ} (noted : AreNoted range [] (table ++ s ∷ []) uses)
      (hops : AreHops root image (table ++ s ∷ []) words next) where
    longer : 0 < length (table ++ s ∷ [])
    longer = omega (arith, length_push table s)

    last-is : last_of (table ++ s ∷ []) ≡ s
    last-is = get_or_push table s 0 (length (table ++ s ∷ []) - 1) (omega (arith, length_push table s))

    pub damaged-next : length (table ++ s ∷ []) < chain_for root.len → (IsInside range next → ⊥) ⊎ Contains (table ++ s ∷ []) next
        → IsFirstDamage range at image s
    damaged-next less wrong =
        subst (IsFirstDamage range at image) last-is
        (Next (table ++ s ∷ []) (root-read range (sector_at image at) root read sound) (are-first (table ++ s ∷ []) uses longer noted hops.hops)
        (omega (arith, less, chain-is))
        (subst (λ (n : ℕ). (IsInside range n → ⊥) ⊎ Contains (table ++ s ∷ []) n) (sym (next-named (table ++ s ∷ []) words next longer hops)) wrong))

    pub damaged-last : length (table ++ s ∷ []) ≡ chain_for root.len → (next ≡ 0 → ⊥) → IsFirstDamage range at image s
    damaged-last all wrong =
        subst (IsFirstDamage range at image) last-is
        (Last (table ++ s ∷ []) (root-read range (sector_at image at) root read sound) (are-first (table ++ s ∷ []) uses longer noted hops.hops)
        (all ∙ sym chain-is) (λ none. wrong (sym (next-named (table ++ s ∷ []) words next longer hops) ∙ none)))

-- one read more
pub reads-more : {D : Type 0} {size : D → ℕ} {medium : D → Medium} {counts : D → Counts} {old mid new : D} → OnlyReads size medium counts ⊥ old mid
    → size new ≡ size mid → counts new ≡ counts mid → Stays (medium mid) (medium new) → OnlyReads size medium counts ⊥ old new
reads-more {D} {size} {medium} {counts} {old} {mid} {new} so_far long count stays =
    OnlyReads-then so_far (record {
      same = record { sectors = long; honest = stays.time.honest };
      stays = λ honest. stays;
      failure = λ never. absurd never;
      no_failure = inr count;
    })

-- ---- which sectors are named

-- a word of the table stands in a sector of the range
pub word-inside : (range : Range) (used table : List ℕ) (words at : ℕ) → All (IsInside range) (used ++ table) → 0 < words
    → words ≤ 127 * length table → IsInside range (sector_of_word words table at)
word-inside range used table words at inside some fits =
    let place : ℕ = min at (words - 1) / 127 in
    All-contains (IsInside range) (used ++ table) (get_or table place 0) inside
    (Contains-append_right used table (get_or table place 0) (Contains-get_or table place 0 (omega (arith, some, fits))))

pub stops-inside : (range : Range) (used table found : List ℕ) (words at sector : ℕ) → All (IsInside range) (used ++ table) → 0 < words
    → words ≤ 127 * length table → StopsAt range used table found words at sector → IsInside range sector
stops-inside range used table found words at sector inside some fits stops = ⊎_elim
    (λ twice. subst (IsInside range) (sym twice.2) (word-inside range used table words at inside some fits))
    (λ outside. subst (IsInside range) (sym outside.1) (word-inside range used table words (at + 4 + length stops.before) inside some fits)) stops.stops
