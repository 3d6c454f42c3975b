-- The first word of a line, and the first line of a script.
use Rattle.std.proofs.Common.{◌≡◌, ℕ, zero, suc, ◌+◌, ◌-◌, ◌<◌, ◌≤◌, ◌==◌, Bool, true, false, not, cond, ltb, List, [], ◌∷◌, length, get_or, take}
use Rattle.std.proofs.Common.{drop, Some, None, refl, ap, arith, add-one}
use Rattle.std.proofs.lemmas.List.{take_rest}
use Rattle.std.proofs.lemmas.List.Quantifiers.{position-Some}
use Rattle.std.specs.List.{slice_split, onto_first, position, position_or_len}
use Rattle.ipc_script.specs.Line.{words_of, lines_of}

-- ---- the place of the first

-- where no place has it, the list is passed
passed : (n m : ℕ) (b : Bool) → b ≡ ltb n m → cond b (Some n) None ≡ None → m ≤ n
passed n m true e h = cc h
passed n m false e h = grind (arith)

passed_all : {X : Type 0} (p : X → Bool) (xs : List X) → position p xs ≡ None → length xs ≤ position_or_len p xs
passed_all p xs h = passed (position_or_len p xs) (length xs) (ltb (position_or_len p xs) (length xs)) refl h

-- one element of a list that is passed
passed_one : (b : Bool) (n m : ℕ) → suc m ≤ cond (not b) (1 + n) 0 → (b ≡ false) × (m ≤ n)
passed_one true n m h = absurd (omega arith)
passed_one false n m h = (refl, omega arith)

-- ---- parts

split_at : {X : Type 0} (p : X → Bool) (xs : List X) (i : ℕ) (d : X) → i < length xs → p (get_or xs i d) ≡ true
    → ((k : ℕ) → k < i → p (get_or xs k d) ≡ false) → slice_split p xs ≡ take i xs ∷ slice_split p (drop (suc i) xs)
split_at p [] i d lt at before = absurd (omega arith)
split_at p (x ∷ xs) zero d lt at before = rw at refl
split_at p (x ∷ xs) (suc i) d lt at before =
    let other : p x ≡ false = before 0 (omega arith) in
    rw other (ap (onto_first x) (split_at p xs i d (omega arith) at (λ k l. before (suc k) (omega arith))))

split_nowhere : {X : Type 0} (p : X → Bool) (xs : List X) → length xs ≤ position_or_len p xs → slice_split p xs ≡ xs ∷ []
split_nowhere p [] h = refl
split_nowhere p (x ∷ xs) h =
    let one = passed_one (p x) (position_or_len p xs) (length xs) h in
    let other = one.0 in
    rw other (ap (onto_first x) (split_nowhere p xs one.1))

pub first_word : (text : List ℕ) (i : ℕ) → position (λ b. b == 32) text ≡ Some i
    → words_of text ≡ take i text ∷ words_of (take (length text - (i + 1)) (drop (i + 1) text))
unfolding words_of
first_word text i h =
    let at = position-Some (λ b. b == 32) text i 0 h in
    rw (take_rest text (i + 1), add-one) (split_at (λ b. b == 32) text i 0 at.0 at.1 at.2)

pub only_word : (text : List ℕ) → position (λ b. b == 32) text ≡ None → words_of text ≡ text ∷ []
unfolding words_of
only_word text h = split_nowhere (λ b. b == 32) text (passed_all (λ b. b == 32) text h)

-- ---- lines

line_at : (xs : List ℕ) (i : ℕ) → i < length xs → (get_or xs i 0 == 10) ≡ true → ((k : ℕ) → k < i → (get_or xs k 0 == 10) ≡ false)
    → lines_of xs ≡ take i xs ∷ lines_of (drop (suc i) xs)
unfolding lines_of
line_at [] i lt at before = absurd (omega arith)
line_at (x ∷ xs) zero lt at before = rw at refl
line_at (x ∷ xs) (suc i) lt at before =
    let other : (x == 10) ≡ false = before 0 (omega arith) in
    rw other (ap (onto_first x) (line_at xs i (omega arith) at (λ k l. before (suc k) (omega arith))))

line_nowhere : (x : ℕ) (xs : List ℕ) → length (x ∷ xs) ≤ position_or_len (λ b. b == 10) (x ∷ xs) → lines_of (x ∷ xs) ≡ (x ∷ xs) ∷ []
unfolding lines_of
line_nowhere x [] h =
    let other = (passed_one (x == 10) 0 0 h).0 in
    rw other refl
line_nowhere x (y ∷ ys) h =
    let one = passed_one (x == 10) (position_or_len (λ b. b == 10) (y ∷ ys)) (length (y ∷ ys)) h in
    let other = one.0 in
    rw other (ap (onto_first x) (line_nowhere y ys one.1))

pub first_line : (text : List ℕ) (i : ℕ) → position (λ b. b == 10) text ≡ Some i
    → lines_of text ≡ take i text ∷ lines_of (take (length text - (i + 1)) (drop (i + 1) text))
first_line text i h =
    let at = position-Some (λ b. b == 10) text i 0 h in
    rw (take_rest text (i + 1), add-one) (line_at text i at.0 at.1 at.2)

pub only_line : (text : List ℕ) → position (λ b. b == 10) text ≡ None → 0 < length text → lines_of text ≡ text ∷ lines_of []
unfolding lines_of
only_line [] h some = absurd (omega arith)
only_line (x ∷ xs) h some = line_nowhere x xs (passed_all (λ b. b == 10) (x ∷ xs) h)
