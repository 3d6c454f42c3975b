-- The number that digits spell, and its limit.
use Rattle.std.proofs.Common.{◌≡◌, ℕ, ◌+◌, ◌-◌, ◌*◌, ◌^◌, ◌<◌, ◌≤◌, ◌&&◌, Bool, true, false, cond, ltb, List, length, get_or, take, Option, Some}
use Rattle.std.proofs.Common.{None, Result, Ok, Err, refl, sym, ap, ◌∙◌, arith, rules}
use Rattle.std.proofs.lemmas.Bool.{and_parts, lt-ltb, le-ltb, ltb-true, ltb-false, both_ways}
use Rattle.std.proofs.lemmas.Bool.Decides.{nat_tests}
use Rattle.std.proofs.lemmas.Int.Digits.{digits_value_more, digits_more}
use Rattle.std.proofs.lemmas.List.{take_all}
use Rattle.std.proofs.lemmas.List.Recursion.{and_fails_at}
use Rattle.std.proofs.lemmas.Str.Parse.{IsNumeralModel, numerals_by_weight, tells_all_ascii_digits, digits_value-take-le}
use Rattle.std.specs.Char.{is_ascii_digit, digit_value}
use Rattle.std.specs.Result.{OkIff, result_ok}
use Rattle.std.specs.Str.{all_ascii_digits}
use Rattle.std.specs.Str.Parse.{AllDigits, digits_value}
use Rattle.ipc_script.specs.Line.{decimal_value, decimal_number, limited, moment_of, conn_of}

-- the value by places is the value by turns
own : IsNumeralModel (λ ds. all_ascii_digits ds ≡ true) decimal_value
own = numerals_by_weight _ tells_all_ascii_digits decimal_value (search rules)

-- a digit's value, in the word of `parse`
digit_is : (c : ℕ) → is_ascii_digit c ≡ true → (digit_value c ≡ c - 48) × (digit_value c < 10)
digit_is c h = grind (arith, nat_tests)

-- one digit more
pub more_digits : (bs : List ℕ) (i n : ℕ) → i < length bs → is_ascii_digit (get_or bs i 0) ≡ true → AllDigits 10 (take i bs)
    → n ≡ digits_value 10 (take i bs) → AllDigits 10 (take (i + 1) bs) × (n * 10 + (get_or bs i 0 - 48) ≡ digits_value 10 (take (i + 1) bs))
more_digits bs i n lt h all e =
    let d = digit_is (get_or bs i 0) h in
    let v = digits_value_more 10 bs i lt in
    (digits_more 10 bs i lt all d.1, omega (arith, v))

-- ---- no number

limited_none : (limit : ℕ) (b : Bool) (n : ℕ) → (b ≡ true → limit ≤ n) → None ≡ limited limit (cond b (Some n) None)
limited_none limit true n h = let e = le-ltb n limit (h refl) in rw e refl
limited_none limit false n h = refl

no_moment : (word : List ℕ) → (0 < length word → all_ascii_digits word ≡ true → 2 ^ 64 ≤ decimal_value word) → None ≡ moment_of word
unfolding moment_of
no_moment word h =
    limited_none (2 ^ 64) (ltb 0 (length word) && all_ascii_digits word) (decimal_value word) (λ b.
    let parts = and_parts (ltb 0 (length word)) (all_ascii_digits word) b in
    h (ltb-true 0 (length word) parts.0) parts.1)

pub no_moment_empty : (word : List ℕ) → length word ≡ 0 → None ≡ moment_of word
no_moment_empty word e = no_moment word (λ some h. absurd (omega arith))

pub no_moment_other : (word : List ℕ) (i : ℕ) → i < length word → is_ascii_digit (get_or word i 0) ≡ false → None ≡ moment_of word
no_moment_other word i lt other =
    no_moment word (λ some h. absurd (both_ways (all_ascii_digits word) (and_fails_at all_ascii_digits is_ascii_digit refl (λ _ _. refl) word i 0 lt other) h))

-- too large already at some digit
pub no_moment_large : (word : List ℕ) (i n : ℕ) → i < length word → n ≡ digits_value 10 (take i word) → is_ascii_digit (get_or word i 0) ≡ true
    → 2 ^ 64 ≤ n * 10 + (get_or word i 0 - 48) → None ≡ moment_of word
no_moment_large word i n lt e digit large = no_moment word (λ some h.
    let d = digit_is (get_or word i 0) digit in
    let v = digits_value_more 10 word i lt in
    let part = digits_value-take-le 10 word (i + 1) (omega arith) in
    let same = own.same word (own.to word h) in
    omega (arith, v, part, same, d.0))

-- ---- a number

a_moment : (word : List ℕ) (n : ℕ) → 0 < length word → AllDigits 10 word → n ≡ digits_value 10 word → n < 2 ^ 64 → Some n ≡ moment_of word
unfolding moment_of
a_moment word n some all e small =
    let t0 = lt-ltb 0 (length word) some in
    let t1 = own.from word all in
    let v = own.same word all ∙ sym e in
    let t2 = lt-ltb n (2 ^ 64) small in
    rw (t0, t1, v, t2) refl

-- the digits up to the last are all
pub all_digits : (word : List ℕ) (i n : ℕ) → 0 < length word → length word ≤ i → AllDigits 10 (take i word) → n ≡ digits_value 10 (take i word)
    → n < 2 ^ 64 → Some n ≡ moment_of word
all_digits word i n some end all e small =
    let whole = take_all i word end in
    a_moment word n some (rw whole at all) (rw whole at e) small

-- ---- a connection

limited_some : (a b n : ℕ) (t : Bool) → t ≡ ltb n b → a ≤ b → limited a (Some n) ≡ limited a (cond t (Some n) None)
limited_some a b n true e le = refl
limited_some a b n false e le = let f = le-ltb n a (let g = ltb-false n b (sym e) in omega (arith, g)) in rw f refl

limited_twice : (a b : ℕ) (o : Option ℕ) → a ≤ b → limited a o ≡ limited a (limited b o)
limited_twice a b None le = refl
limited_twice a b (Some n) le = limited_some a b n (ltb n b) refl le

pub conn_from_moment : (word : List ℕ) → conn_of word ≡ limited (2 ^ 32) (moment_of word)
unfolding moment_of conn_of
conn_from_moment word = limited_twice (2 ^ 32) (2 ^ 64) (decimal_number word) (omega arith)

-- what a conversion to 32 bits keeps
pub narrowed : {E : Type 0} (n : ℕ) (r : Result ℕ E) → OkIff r (n < 2 ^ 32) n → result_ok r ≡ limited (2 ^ 32) (Some n)
narrowed n (Ok m) h = let e = lt-ltb n (2 ^ 32) h.0 in rw e (ap Some h.1)
narrowed n (Err e) h = let f = le-ltb n (2 ^ 32) (omega (arith, h)) in rw f refl
