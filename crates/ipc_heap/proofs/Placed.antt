-- The words of a table are those of one list of objects, and where the words of an object stand.
use Rattle.std.proofs.Common.{◌≡◌, ℕ, zero, suc, ◌+◌, ◌*◌, ◌/◌, ◌%◌, ◌^◌, ◌<◌, ◌≤◌, List, [], ◌∷◌, ◌++◌, length, get_or, take, drop, map, refl, sym, ap, subst}
use Rattle.std.proofs.Common.{◌∙◌, append_assoc, arith}
use Rattle.std.specs.Prelude.{All, slice_index_or, slice_get, option_map, Some}
use Rattle.std.specs.List.{flat_map}
use Rattle.std.proofs.lemmas.List.{take_at, drop_at, append-nil, length-append, get_or-drop}
use Rattle.std.proofs.lemmas.List.Concat.{flat_map-append}
use Rattle.std.proofs.lemmas.List.Elements.{All-head, All-tail, All-nil, All-cons, All-weaker, All-push}
use Rattle.std.proofs.lemmas.Nat.{shr_split}
use Rattle.ipc_base.specs.Table.{IsRising}
use Rattle.ipc_disk.specs.Standing.{sectors_for}
use Rattle.ipc_heap.specs.Heap.{Placed, object_words, table_words}
use Rattle.ipc_heap.specs.Relations.Words.{wide_at, object_len_at, placed_from, placed_in, AreWords, IsPlace}

-- it has the sectors that its length takes
abbrev pub IsSized : Placed → Type 0
IsSized p = length p.sectors ≡ sectors_for p.len

-- an object whose words stand first
one_placed : (n number len a b c d : ℕ) (sectors rest : List ℕ) → a * 2 ^ 32 + b ≡ number → c * 2 ^ 32 + d ≡ len → length sectors ≡ sectors_for len
    → placed_from (suc n) (a ∷ b ∷ c ∷ d ∷ (sectors ++ rest))
    ≡ (let p : Placed = record { number = number; len = len; sectors = sectors } in p ∷ placed_from n rest)
one_placed n number len a b c d sectors rest first second long =
    let P : ℕ → ℕ → List ℕ → List ℕ → List Placed = λ m k ss left. let p : Placed = record { number = m; len = k; sectors = ss } in p ∷ placed_from n left in
    ap (λ (m : ℕ). P m (c * 2 ^ 32 + d) (take (sectors_for (c * 2 ^ 32 + d)) (sectors ++ rest)) (drop (sectors_for (c * 2 ^ 32 + d)) (sectors ++ rest))) first
    ∙ ap (λ (k : ℕ). P number k (take (sectors_for k) (sectors ++ rest)) (drop (sectors_for k) (sectors ++ rest))) second
    ∙ ap (λ (ss : List ℕ). P number len ss (drop (sectors_for len) (sectors ++ rest))) (take_at sectors rest (sectors_for len) long)
    ∙ ap (λ (left : List ℕ). P number len sectors left) (drop_at sectors rest (sectors_for len) long)

-- objects whose words stand first
pub placed_from-words : (ps : List Placed) (rest : List ℕ) → All IsSized ps → placed_from (length ps) (flat_map object_words ps ++ rest) ≡ ps
placed_from-words [] rest sized = refl
placed_from-words (p ∷ ps) rest sized =
    ap (λ (left : List ℕ). placed_from (suc (length ps)) (p.number / 2 ^ 32 ∷ p.number % 2 ^ 32 ∷ p.len / 2 ^ 32 ∷ p.len % 2 ^ 32 ∷ left))
    (append_assoc p.sectors (flat_map object_words ps) rest)
    ∙ one_placed (length ps) p.number p.len (p.number / 2 ^ 32) (p.number % 2 ^ 32) (p.len / 2 ^ 32) (p.len % 2 ^ 32) p.sectors
    (flat_map object_words ps ++ rest) (shr_split p.number 32) (shr_split p.len 32) (All-head IsSized p ps sized)
    ∙ ap (λ (l : List Placed). p ∷ l) (placed_from-words ps rest (All-tail IsSized p ps sized))

-- the table of objects is theirs
pub placed_in-table : (ps : List Placed) → All IsSized ps → placed_in (table_words ps) ≡ ps
placed_in-table ps sized =
    ap (λ (l : List ℕ). placed_from (length ps) l) (sym (append-nil (flat_map object_words ps))) ∙ placed_from-words ps [] sized

-- how many words objects have
abbrev pub words_for : List Placed → ℕ
words_for ps = length (flat_map object_words ps)

-- what stands from the word on at which the first of some objects begins
pub table-from : (before after : List Placed) → drop (1 + words_for before) (table_words (before ++ after)) ≡ flat_map object_words after
table-from before after =
    let long : 1 + words_for before ≡ suc (words_for before) = omega arith in
    ap (λ (n : ℕ). drop n (table_words (before ++ after))) long ∙ ap (drop (words_for before)) (flat_map-append object_words before after)
    ∙ drop_at (flat_map object_words before) (flat_map object_words after) (words_for before) refl

pub table-until : (before after : List Placed) → take (1 + words_for before) (table_words (before ++ after))
    ≡ length (before ++ after) ∷ flat_map object_words before
table-until before after =
    let long : 1 + words_for before ≡ suc (words_for before) = omega arith in
    ap (λ (n : ℕ). take n (table_words (before ++ after))) long
    ∙ ap (λ (l : List ℕ). length (before ++ after) ∷ take (words_for before) l) (flat_map-append object_words before after)
    ∙ ap (λ (l : List ℕ). length (before ++ after) ∷ l) (take_at (flat_map object_words before) (flat_map object_words after) (words_for before) refl)

pub words_for-append : (before after : List Placed) → words_for (before ++ after) ≡ words_for before + words_for after
words_for-append before after =
    ap length (flat_map-append object_words before after) ∙ length-append (flat_map object_words before) (flat_map object_words after)

-- the words of an object from the place on where it begins
module _ (words : List ℕ) (before : List Placed) (p : Placed) (after : List Placed) (at : ℕ) (are : words ≡ table_words (before ++ p ∷ after))
    (here : at ≡ 1 + words_for before) where
  pub word-at : (k : ℕ) → slice_index_or words (at + k) 0 ≡ slice_index_or (flat_map object_words (p ∷ after)) k 0
  word-at k =
      sym (get_or-drop at words k 0) ∙ ap (λ (l : List ℕ). get_or l k 0) (ap (drop at) are ∙ ap (λ (n : ℕ). drop n (table_words (before ++ p ∷ after))) here
      ∙ table-from before (p ∷ after))

  pub number-at : wide_at words at ≡ p.number
  number-at =
      let none : at ≡ at + 0 = omega arith in
      ap (λ (n : ℕ). slice_index_or words n 0 * 2 ^ 32 + slice_index_or words (at + 1) 0) none
      ∙ ap (λ (n : ℕ). n * 2 ^ 32 + slice_index_or words (at + 1) 0) (word-at 0) ∙ ap (λ (n : ℕ). p.number / 2 ^ 32 * 2 ^ 32 + n) (word-at 1)
      ∙ shr_split p.number 32

  pub len-at : wide_at words (at + 2) ≡ p.len
  len-at =
      let next : (at + 2) + 1 ≡ at + 3 = omega arith in
      ap (λ (n : ℕ). slice_index_or words (at + 2) 0 * 2 ^ 32 + slice_index_or words n 0) next
      ∙ ap (λ (n : ℕ). n * 2 ^ 32 + slice_index_or words (at + 3) 0) (word-at 2) ∙ ap (λ (n : ℕ). p.len / 2 ^ 32 * 2 ^ 32 + n) (word-at 3)
      ∙ shr_split p.len 32

  pub object_len-at : IsSized p → object_len_at words at ≡ length (object_words p)
  object_len-at sized = ap (λ (n : ℕ). 4 + sectors_for n) len-at ∙ omega (arith, sized)

  pub words-within : at + length (object_words p) ≤ length words
  words-within =
      omega (arith, here, ap length are, words_for-append before (p ∷ after), length-append (object_words p) (flat_map object_words after))

-- what is read of the one at a place
pub mapped-at : {X Y : Type 0} (f : X → Y) (xs : List X) (i : ℕ) (d : X) (y : Y) → i < length xs → option_map f (slice_get xs i) ≡ Some y
    → f (get_or xs i d) ≡ y
mapped-at f [] i d y less is = absurd (omega arith)
mapped-at f (x ∷ xs) zero d y less is = cc
mapped-at f (x ∷ xs) (suc i) d y less is = mapped-at f xs i d y (omega (arith, less)) is

-- ---- the place of a number

-- what holds of each holds of the one between
pub all-at : {X : Type 0} (P : X → Type 0) (before : List X) (x : X) (after : List X) → All P (before ++ x ∷ after) → P x
all-at P [] x after all = All-head P x after all
all-at P (y ∷ before) x after all = all-at P before x after (All-tail P y (before ++ x ∷ after) all)

-- the objects before a place have lower numbers
pub record ArePassed (placed : List Placed) (number at : ℕ) : Type 0 where
  pub before : List Placed
  pub after : List Placed
  pub are : placed ≡ before ++ after
  pub lower : All (λ p. p.number < number) before
  pub stands : at ≡ 1 + words_for before

abbrev Above : ℕ → Placed → Type 0
Above low p = low ≤ p.number

-- numbers that rise are at least the lowest of them
all-above : (low : ℕ) (ps : List Placed) (high : ℕ) → IsRising low (map (λ p. p.number) ps) high → All (Above low) ps
all-above low [] high rising = All-nil (Above low)
all-above low (p ∷ ps) high rising =
    All-cons (Above low) p ps rising.0
    (All-weaker (Above (p.number + 1)) (Above low) (λ q above. omega (arith, above, rising.0)) ps (all-above (p.number + 1) ps high rising.1))

-- the last of rising numbers rise
pub rising-last : (low : ℕ) (before : List Placed) (p : Placed) (after : List Placed) (high : ℕ)
    → IsRising low (map (λ q. q.number) (before ++ p ∷ after)) high → All (Above (p.number + 1)) after
rising-last low [] p after high rising = all-above (p.number + 1) after high rising.1
rising-last low (q ∷ before) p after high rising = rising-last (q.number + 1) before p after high rising.1

-- an object begins at the place
pub record IsNext (words : List ℕ) (placed : List Placed) (number at : ℕ) : Type 0 where
  pub before : List Placed
  pub object : Placed
  pub after : List Placed
  pub are : placed ≡ before ++ object ∷ after
  pub lower : All (λ p. p.number < number) before
  pub stands : at ≡ 1 + words_for before
  pub its_number : wide_at words at ≡ object.number
  pub long : object_len_at words at ≡ length (object_words object)
  pub within : at + object_len_at words at ≤ length words

module _ {words : List ℕ} {placed : List Placed} (have : AreWords words placed) where
  abbrev Sizes : Placed → Type 0
  Sizes p = (0 < p.len) × (p.len < 2 ^ 64) × (length p.sectors ≡ sectors_for p.len)

  sized-at : (before : List Placed) (p : Placed) (after : List Placed) → placed ≡ before ++ p ∷ after → IsSized p
  sized-at before p after are = (all-at Sizes before p after (subst (All Sizes) are have.sizes)).2

  module _ {number at : ℕ} where
    is-next : (before : List Placed) (p : Placed) (after : List Placed) → placed ≡ before ++ p ∷ after → All (λ q. q.number < number) before
        → at ≡ 1 + words_for before → IsNext words placed number at
    is-next before p after are lower stands =
        let table : words ≡ table_words (before ++ p ∷ after) = have.are ∙ ap table_words are in
        let long : object_len_at words at ≡ length (object_words p) = object_len-at words before p after at table stands (sized-at before p after are) in
        record {
          before = before;
          object = p;
          after = after;
          are = are;
          lower = lower;
          stands = stands;
          its_number = number-at words before p after at table stands;
          long = long;
          within = omega (arith, long, words-within words before p after at table stands);
        }

    -- while words are left, an object is next
    pub next-there : ArePassed placed number at → at < length words → IsNext words placed number at
    next-there passed less = by_rest passed.after passed.are
      where
        by_rest : (after : List Placed) → placed ≡ passed.before ++ after → IsNext words placed number at
        by_rest [] are =
            absurd (omega (arith, less, passed.stands, ap length (have.are ∙ ap table_words are), words_for-append passed.before []))
        by_rest (p ∷ after) are = is-next passed.before p after are passed.lower passed.stands

    -- it is passed
    pub passed-more : (next : IsNext words placed number at) → wide_at words at < number → ArePassed placed number (at + object_len_at words at)
    passed-more next less = record {
      before = next.before ++ next.object ∷ [];
      after = next.after;
      are = next.are ∙ sym (append_assoc next.before (next.object ∷ []) next.after);
      lower = All-push (λ q. q.number < number) next.before next.object next.lower (omega (arith, less, next.its_number));
      stands = omega (arith, next.stands, next.long, words_for-append next.before (next.object ∷ []), length-append (object_words next.object) []);
    }

    -- it is the one of the number
    pub place-here : (next : IsNext words placed number at) → wide_at words at ≡ number
        → IsPlace placed number (record { at = at; len = object_len_at words at })
    place-here next same =
        let is : next.object.number ≡ number = sym next.its_number ∙ same in
        record {
          before = next.before;
          here = next.object ∷ [];
          after = next.after;
          are = next.are;
          lower = next.lower;
          same = All-cons (λ q. q.number ≡ number) next.object [] is (All-nil (λ q. q.number ≡ number));
          one = omega arith;
          higher = All-weaker (Above (next.object.number + 1)) (λ q. number < q.number) (λ q above. omega (arith, above, is)) next.after
              (rising-last 0 next.before next.object next.after (2 ^ 64)
              (subst (λ (l : List Placed). IsRising 0 (map (λ q. q.number) l) (2 ^ 64)) next.are have.numbers));
          at = next.stands;
          len = omega (arith, next.long, length-append (object_words next.object) []);
        }

    -- it is higher than the number
    pub place-before : (next : IsNext words placed number at) → number < wide_at words at → IsPlace placed number (record { at = at; len = 0 })
    place-before next more = record {
      before = next.before;
      here = [];
      after = next.object ∷ next.after;
      are = next.are;
      lower = next.lower;
      same = All-nil (λ q. q.number ≡ number);
      one = omega arith;
      higher = All-cons (λ q. number < q.number) next.object next.after (omega (arith, more, next.its_number))
          (All-weaker (Above (next.object.number + 1)) (λ q. number < q.number) (λ q above. omega (arith, above, more, next.its_number)) next.after
          (rising-last 0 next.before next.object next.after (2 ^ 64)
          (subst (λ (l : List Placed). IsRising 0 (map (λ q. q.number) l) (2 ^ 64)) next.are have.numbers)));
      at = next.stands;
      len = omega arith;
    }

    -- no object is left
    pub place-end : (passed : ArePassed placed number at) → length words ≤ at → IsPlace placed number (record { at = at; len = 0 })
    place-end passed done = record {
      before = passed.before;
      here = [];
      after = [];
      are = passed.are ∙ ap (λ (l : List Placed). passed.before ++ l) (none passed.after passed.are);
      lower = passed.lower;
      same = All-nil (λ q. q.number ≡ number);
      one = omega arith;
      higher = All-nil (λ q. number < q.number);
      at = passed.stands;
      len = omega arith;
    }
      where
        none : (after : List Placed) → placed ≡ passed.before ++ after → after ≡ []
        none [] are = refl
        none (p ∷ after) are =
            absurd (omega (
              arith,
              done,
              passed.stands,
              ap length (have.are ∙ ap table_words are),
              words_for-append passed.before (p ∷ after),
              length-append (object_words p) (flat_map object_words after),
            ))

-- no object is passed yet
pub passed-none : (placed : List Placed) (number : ℕ) → ArePassed placed number 1
passed-none placed number =
    record { before = []; after = placed; are = refl; lower = All-nil (λ p. p.number < number); stands = omega arith }
