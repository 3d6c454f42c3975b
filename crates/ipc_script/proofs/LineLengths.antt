-- The bytes that a line gives are no more than those of its text.
use Rattle.std.proofs.Common.{◌≡◌, ℕ, ◌+◌, ◌-◌, ◌*◌, ◌<◌, ◌≤◌, ◌==◌, Bool, true, false, cond, List, [], ◌∷◌, length, Option, Some, None, Result, Ok, Err}
use Rattle.std.proofs.Common.{refl, subst, arith}
use Rattle.std.specs.Prelude.{IfSome, if◌then◌else◌, codes}
use Rattle.std.specs.List.{slice_split, onto_first}
use Rattle.std.specs.Result.{result_ok}
use Rattle.std.specs.Str.{bytes_eq}
use Rattle.hex.specs.Hex.{decode_of}
use Rattle.hex.specs.declared.error.FromHexError.{FromHexError}
use Rattle.hex.proofs.HexLemmas.{decode_of-ok}
use Rattle.ipc_script.specs.Line.{PlainLine, line_of, line_of_words, words_of, bytes_of_hex, moment_of, conn_of, ◌>>=◌, Open, Data, End, Tick, Save, Stop}
use Rattle.ipc_script.specs.Relations.Numbers.{byte_cost, bytes_in, line_cost}

-- words that are no longer than so many bytes
abbrev AreShort : ℕ → List (List ℕ) → Type 0
AreShort n [] = Unit {0}
AreShort n (word ∷ words) = (length word ≤ n) × AreShort n words

short-more : (n : ℕ) (words : List (List ℕ)) → AreShort n words → AreShort (n + 1) words
short-more n [] short = tt
short-more n (word ∷ words) short = (omega (arith, short.0), short-more n words short.1)

short-onto : (x n : ℕ) (words : List (List ℕ)) → AreShort n words → AreShort (n + 1) (onto_first x words)
short-onto x n [] short = (omega arith, tt)
short-onto x n (word ∷ words) short = (omega (arith, short.0), short-more n words short.1)

short-cond : (t : Bool) (x n : ℕ) (words : List (List ℕ)) → AreShort n words → AreShort (n + 1) (cond t ([] ∷ words) (onto_first x words))
short-cond true x n words short = (omega arith, short-more n words short)
short-cond false x n words short = short-onto x n words short

split-short : (text : List ℕ) → AreShort (length text) (slice_split (λ b. b == 32) text)
split-short [] = (omega arith, tt)
split-short (x ∷ text) =
    subst (λ (n : ℕ). AreShort n (slice_split (λ b. b == 32) (x ∷ text))) (omega arith)
    (short-cond (x == 32) x (length text) (slice_split (λ b. b == 32) text) (split-short text))

-- a line that gives no more bytes than so many
abbrev Gives : ℕ → PlainLine → Type 0
Gives n line = length (bytes_in line) ≤ n

if-gives : (n : ℕ) (b : Bool) (x y : Option PlainLine) → IfSome x (Gives n) → IfSome y (Gives n) → IfSome (if b then x else y) (Gives n)
if-gives n true x y one other = one
if-gives n false x y one other = other

then-gives : {A : Type 0} (n : ℕ) (o : Option A) (f : A → Option PlainLine) → ((a : A) → o ≡ Some a → IfSome (f a) (Gives n))
    → IfSome (o >>= f) (Gives n)
then-gives n None f each = tt
then-gives n (Some a) f each = each a refl

decoded-short : (word : List ℕ) (r : Result (List ℕ) FromHexError) → decode_of word ≡ r → (bytes : List ℕ) → result_ok r ≡ Some bytes
    → length bytes ≤ length word
decoded-short word (Ok found) is bytes some =
    let ok = decode_of-ok word found is in
    let same : length bytes ≡ length found = cc in
    omega (arith, ok.2, same)
decoded-short word (Err e) is bytes some = cc

hex-short : (word bytes : List ℕ) → bytes_of_hex word ≡ Some bytes → length bytes ≤ length word
unfolding bytes_of_hex
hex-short word bytes some = by_test (length word == 0) some
  where
    by_test : (b : Bool) → (if b then None else result_ok (decode_of word)) ≡ Some bytes → length bytes ≤ length word
    by_test true none = cc
    by_test false decoded = decoded-short word (decode_of word) refl bytes decoded

words-give : (n : ℕ) (words : List (List ℕ)) → AreShort n words → IfSome (line_of_words words) (Gives n)
words-give n [] short = tt
words-give n (verb ∷ []) short =
    if-gives n (bytes_eq verb (codes "save")) (Some Save) _ (omega arith)
    (if-gives n (bytes_eq verb (codes "stop")) (Some Stop) None (omega arith) tt)
words-give n (m ∷ verb ∷ []) short =
    if-gives n (bytes_eq verb (codes "tick")) _ None (then-gives n (moment_of m) (λ moment. Some (Tick moment)) (λ _ _. omega arith)) tt
words-give n (m ∷ verb ∷ c ∷ []) short =
    if-gives n (bytes_eq verb (codes "open")) _ _
    (then-gives n (moment_of m) _ (λ _ _. then-gives n (conn_of c) (λ conn. Some (Open conn)) (λ _ _. omega arith)))
    (if-gives n (bytes_eq verb (codes "end")) _ None
    (then-gives n (moment_of m) _ (λ moment _. then-gives n (conn_of c) (λ conn. Some (End moment conn)) (λ _ _. omega arith))) tt)
words-give n (m ∷ verb ∷ c ∷ hex ∷ []) short =
    if-gives n (bytes_eq verb (codes "data")) _ None
    (then-gives n (moment_of m) _ (λ moment _. then-gives n (conn_of c) _
    (λ conn _. then-gives n (bytes_of_hex hex) (λ bytes. Some (Data moment conn bytes))
    (λ bytes is. omega (arith, short.1.1.1.0, hex-short hex bytes is))))) tt
words-give n (m ∷ verb ∷ c ∷ hex ∷ more ∷ words) short = tt

-- the line of a text
line-gives : (text : List ℕ) → IfSome (line_of text) (λ line. length (bytes_in line) ≤ length text)
unfolding line_of words_of
line-gives text = words-give (length text) (slice_split (λ b. b == 32) text) (split-short text)

-- what a line may use is so many numbers at most for each byte that it takes off a text
pub cost-fits : (text : List ℕ) (line : PlainLine) {beyond all : ℕ} → line_of text ≡ Some line → length text + beyond ≤ all → beyond < all
    → line_cost line ≤ byte_cost * (all - beyond)
cost-fits text line is parts shorter =
    let gives : Gives (length text) line = subst (λ (o : Option PlainLine). IfSome o (Gives (length text))) is (line-gives text) in
    omega (arith, gives, parts, shorter)
