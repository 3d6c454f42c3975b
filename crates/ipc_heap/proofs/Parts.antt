-- Numbers cut into parts of one size, filled up with zeros, and joined again; and the words of a sector.
use Rattle.std.proofs.Common.{◌≡◌, ⊎_elim, ℕ, zero, suc, ◌+◌, ◌-◌, ◌*◌, ◌^◌, ◌<◌, ◌≤◌, List, [], ◌∷◌, ◌++◌, length, get_or, set, take, drop, min, replicate}
use Rattle.std.proofs.Common.{refl, sym, ap, ◌∙◌, append_assoc, arith}
use Rattle.std.specs.Prelude.{slice_index, flat_map}
use Rattle.std.proofs.lemmas.Bool.{cases_lt}
use Rattle.std.proofs.lemmas.List.{take_all, take_at, take_more, get_or-take, get_or-drop, set_at, length-take-le, drop_all, drop-drop, length-take}
use Rattle.std.proofs.lemmas.List.{length-drop, append-nil, take-append-drop, nil_from_length}
use Rattle.byteorder.specs.Endian.{big_bytes, big_number}
use Rattle.byteorder.specs.Numbers.{big_number-reads_back}
use Rattle.ipc_heap.specs.Heap.{words_in}
use Rattle.ipc_heap.specs.Relations.Table.{padded_part}

-- ---- the words of a sector

four-more : (i : ℕ) → 4 * suc i ≡ suc (suc (suc (suc (4 * i))))
four-more i = omega arith

pub words_in-set : (s rest : List ℕ) (i word : ℕ) → word < 2 ^ 32 → 4 * i + 4 ≤ length s → rest ≡ drop 4 (drop (4 * i) s)
    → words_in (take (4 * i) s ++ (big_bytes 4 word ++ rest)) ≡ set (words_in s) i word
unfolding words_in
words_in-set (a ∷ b ∷ c ∷ d ∷ s) rest zero word below long is =
    ap (λ (n : ℕ). n ∷ words_in rest) (big_number-reads_back 4 word [] below) ∙ ap (λ (l : List ℕ). word ∷ words_in l) is
words_in-set (a ∷ b ∷ c ∷ d ∷ s) rest (suc i) word below long is =
    ap (λ (n : ℕ). words_in (take n (a ∷ b ∷ c ∷ d ∷ s) ++ (big_bytes 4 word ++ rest))) (four-more i)
    ∙ ap (λ (l : List ℕ). big_number 4 (a ∷ b ∷ c ∷ d ∷ []) ∷ l)
    (words_in-set s rest i word below (omega (arith, long)) (is ∙ ap (λ (n : ℕ). drop 4 (drop n (a ∷ b ∷ c ∷ d ∷ s))) (four-more i)))
words_in-set [] rest i word below long is = absurd (omega arith)
words_in-set (a ∷ []) rest i word below long is = absurd (omega arith)
words_in-set (a ∷ b ∷ []) rest i word below long is = absurd (omega arith)
words_in-set (a ∷ b ∷ c ∷ []) rest i word below long is = absurd (omega arith)

-- a word that is written over a sector's part
pub word-put : (s part : List ℕ) (i word : ℕ) → length s ≡ 512 → i < 128 → word < 2 ^ 32
    → part ≡ big_bytes 4 word ++ drop 4 (take (512 - 4 * i) (drop (4 * i) s))
    → words_in (take (4 * i) s ++ (part ++ drop (512 - 4 * i) (drop (4 * i) s))) ≡ set (words_in s) i word
word-put s part i word long less below is =
    let tail : List ℕ = drop (4 * i) s in
    let left : length tail ≡ 512 - 4 * i = length-drop (4 * i) s ∙ ap (λ (n : ℕ). n - 4 * i) long in
    let beyond : drop (512 - 4 * i) tail ≡ [] = drop_all (512 - 4 * i) tail (omega (arith, left)) in
    let all : take (512 - 4 * i) tail ≡ tail = take_all (512 - 4 * i) tail (omega (arith, left)) in
    ap (λ (l : List ℕ). words_in (take (4 * i) s ++ (part ++ l))) beyond ∙ ap (λ (l : List ℕ). words_in (take (4 * i) s ++ l)) (append-nil part)
    ∙ ap (λ (l : List ℕ). words_in (take (4 * i) s ++ l)) is
    ∙ words_in-set s (drop 4 (take (512 - 4 * i) tail)) i word below (omega (arith, long, less)) (ap (drop 4) all)

-- ---- parts

-- a part of the rest is a later part
later-part : (n k : ℕ) (xs : List ℕ) → padded_part n (suc k) xs ≡ padded_part n k (drop n xs)
later-part n k xs =
    let place : drop (n * suc k) xs ≡ drop (n * k) (drop n xs) =
    let bound : n * suc k ≡ n + n * k = omega arith in ap (λ (m : ℕ). drop m xs) bound ∙ sym (drop-drop (n * k) n xs) in
    ap (λ (l : List ℕ). take n l ++ replicate (n - length (take n l)) 0) place

first-part : (n : ℕ) (xs : List ℕ) → padded_part n 0 xs ≡ take n xs ++ replicate (n - length (take n xs)) 0
first-part n xs = let none : n * 0 ≡ 0 = omega arith in ap (λ (m : ℕ). take n (drop m xs) ++ replicate (n - length (take n (drop m xs))) 0) none

take-append-add : (a b : List ℕ) (m : ℕ) → take (length a + m) (a ++ b) ≡ a ++ take m b
take-append-add [] b m = let same : 0 + m ≡ m = omega arith in ap (λ (j : ℕ). take j b) same
take-append-add (x ∷ a) b m =
    let same : suc (length a) + m ≡ suc (length a + m) = omega arith in
    ap (λ (j : ℕ). take j (x ∷ (a ++ b))) same ∙ ap (λ (l : List ℕ). x ∷ l) (take-append-add a b m)

-- lists that are the parts, in order, are all of it, and zeros
pub parts-join : {X : Type 0} (n : ℕ) (f : X → List ℕ) (ss : List X) (xs : List ℕ)
    → ((k : ℕ) (d : X) → k < length ss → f (get_or ss k d) ≡ padded_part n k xs) → length xs ≤ n * length ss
    → take (length xs) (flat_map f ss) ≡ xs
parts-join n f [] xs parts fits = let none : xs ≡ [] = nil_from_length xs (omega (arith, fits)) in ap (λ (l : List ℕ). take (length l) []) none ∙ sym none
parts-join {X} n f (s ∷ ss) xs parts fits =
    let here : f s ≡ take n xs ++ replicate (n - length (take n xs)) 0 = parts 0 s (omega arith) ∙ first-part n xs in
    let rest : take (length (drop n xs)) (flat_map f ss) ≡ drop n xs =
    parts-join n f ss (drop n xs) (λ k d less. parts (suc k) d (omega (arith, less)) ∙ later-part n k xs) (omega (arith, fits, length-drop n xs)) in
    ⊎_elim (short here rest) (long here) (cases_lt n (length xs))
  where
    -- there are more
    short : f s ≡ take n xs ++ replicate (n - length (take n xs)) 0 → take (length (drop n xs)) (flat_map f ss) ≡ drop n xs → n < length xs
        → take (length xs) (f s ++ flat_map f ss) ≡ xs
    short here rest less =
        let full : length (take n xs) ≡ n = omega (arith, length-take n xs, less) in
        let none : n - length (take n xs) ≡ 0 = omega (arith, full) in
        let all : f s ≡ take n xs = here ∙ ap (λ (m : ℕ). take n xs ++ replicate m 0) none ∙ append-nil (take n xs) in
        let sum : length xs ≡ length (take n xs) + length (drop n xs) = omega (arith, full, length-drop n xs, less) in
        ap (λ (l : List ℕ). take (length xs) (l ++ flat_map f ss)) all ∙ ap (λ (m : ℕ). take m (take n xs ++ flat_map f ss)) sum
        ∙ take-append-add (take n xs) (flat_map f ss) (length (drop n xs)) ∙ ap (λ (l : List ℕ). take n xs ++ l) rest ∙ take-append-drop n xs

    -- it is the last
    long : f s ≡ take n xs ++ replicate (n - length (take n xs)) 0 → length xs ≤ n → take (length xs) (f s ++ flat_map f ss) ≡ xs
    long here le =
        let whole : take n xs ≡ xs = take_all n xs le in
        let zeros : List ℕ = replicate (n - length (take n xs)) 0 in
        ap (λ (l : List ℕ). take (length xs) (l ++ flat_map f ss)) (here ∙ ap (λ (l : List ℕ). l ++ zeros) whole)
        ∙ ap (take (length xs)) (append_assoc xs zeros (flat_map f ss)) ∙ take_at xs (zeros ++ flat_map f ss) (length xs) refl

-- ---- a sector of a table as it is filled

-- so many of the words that belong there
abbrev pub filled : ℕ → ℕ → List ℕ → List ℕ
filled j k words = take k (take 127 (drop (127 * j) words)) ++ replicate (127 - k) 0

module _ (words : List ℕ) (j k next : ℕ) where
  part : List ℕ
  part = take 127 (drop (127 * j) words)

  length-part : length part ≡ min 127 (length words - 127 * j)
  unfolding part
  length-part = length-take 127 (drop (127 * j) words) ∙ ap (λ (n : ℕ). min 127 n) (length-drop (127 * j) words)

  -- one word more
  pub filled-more : (sector new : List ℕ) (word : ℕ) → words_in sector ≡ next ∷ filled j k words → k < min 127 (length words - 127 * j)
      → word ≡ slice_index words (127 * j + k) → words_in new ≡ set (words_in sector) (1 + k) word → words_in new ≡ next ∷ filled j (k + 1) words
  unfolding part
  filled-more sector new word was less is now =
      let within : k < length part = omega (arith, less, length-part) in
      let here : get_or part k 0 ≡ word =
      get_or-take 127 (drop (127 * j) words) k 0 (omega (arith, less)) ∙ get_or-drop (127 * j) words k 0 ∙ sym is in
      let place : 1 + k ≡ suc k = omega arith in
      let zeros : 127 - k ≡ suc (127 - (k + 1)) = omega (arith, less) in
      let front : length (take k part) ≡ k = length-take-le k part (omega (arith, within)) in
      now ∙ ap (λ (l : List ℕ). set l (1 + k) word) was ∙ ap (λ (n : ℕ). set (next ∷ filled j k words) n word) place
      ∙ ap (λ (n : ℕ). next ∷ set (take k part ++ replicate n 0) k word) zeros
      ∙ ap (λ (l : List ℕ). next ∷ l) (set_at (take k part) 0 (replicate (127 - (k + 1)) 0) word k front
      ∙ sym (append_assoc (take k part) (word ∷ []) (replicate (127 - (k + 1)) 0))
      ∙ ap (λ (l : List ℕ). l ++ replicate (127 - (k + 1)) 0) (ap (λ (w : ℕ). take k part ++ w ∷ []) (sym here) ∙ sym (take_more part k 0 within)))

  -- all of them
  pub filled-all : (sector : List ℕ) → words_in sector ≡ next ∷ filled j k words → k ≡ min 127 (length words - 127 * j)
      → words_in sector ≡ next ∷ padded_part 127 j words
  unfolding part
  filled-all sector was all =
      let long : k ≡ length part = all ∙ sym length-part in
      was ∙ ap (λ (n : ℕ). next ∷ (take n part ++ replicate (127 - n) 0)) long
      ∙ ap (λ (l : List ℕ). next ∷ (l ++ replicate (127 - length part) 0)) (take_all (length part) part (omega arith))

-- none yet, in a sector of zeros
pub filled-none : (words sector : List ℕ) (j next : ℕ) → words_in sector ≡ set (words_in (replicate 512 0)) 0 next → words_in sector ≡ next ∷ filled j 0 words
unfolding words_in
filled-none words sector j next is = is
