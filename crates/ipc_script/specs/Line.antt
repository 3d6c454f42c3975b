-- The lines of a script. They are parted by newlines, and the words of a line by one space each:
-- `M open C`, `M data C HEX`, `M end C`, `M tick`, `save` and `stop` are the forms. M and C are
-- digits alone, below 2^64 and 2^32.
use Rattle.std.specs.Prelude.{ℕ, ◌+◌, ◌-◌, ◌*◌, ◌^◌, ◌==◌, ◌&&◌, nat_lt, if◌then◌else◌}
use Rattle.std.specs.Prelude.{List, [], ◌∷◌, length, codes, Option, Some, None}
use Rattle.std.specs.List.{slice_split, onto_first}
use Rattle.std.specs.Result.{result_ok}
use Rattle.std.specs.Str.{all_ascii_digits, bytes_eq}
use Rattle.hex.specs.Hex.{decode_of}

-- A line: `open`, `save` and `stop` have no moment, and the piece of `data` is its bytes.
pub data PlainLine : Type 0 where
  Open : (conn : ℕ) → PlainLine
  Data : (moment conn : ℕ) → (bytes : List ℕ) → PlainLine
  End : (moment conn : ℕ) → PlainLine
  Tick : (moment : ℕ) → PlainLine
  Save : PlainLine
  Stop : PlainLine

-- ---- the lines of a script

-- the most bytes of a script
abbrev pub longest_script : ℕ
longest_script = 16777216

-- Each newline ends a line; the last line may lack its newline.
unfoldable pub lines_of : List ℕ → List (List ℕ)
lines_of [] = []
lines_of (b ∷ bs) = if b == 10 then [] ∷ lines_of bs else onto_first b (lines_of bs)

-- ---- words

-- the words of a line: what stands before, between and after its spaces
unfoldable pub words_of : List ℕ → List (List ℕ)
words_of text = slice_split (λ b. b == 32) text

-- the number that digits spell in base ten, each with the weight of its place
abbrev pub decimal_value : List ℕ → ℕ
decimal_value [] = 0
decimal_value (d ∷ ds) = (d - 48) * 10 ^ length ds + decimal_value ds

-- the number that a word spells: digits 0 to 9 alone, at least one
abbrev pub decimal_number : List ℕ → Option ℕ
decimal_number word =
    if nat_lt 0 (length word) && all_ascii_digits word then Some (decimal_value word) else None

-- the number, if it is below a limit
abbrev pub limited : ℕ → Option ℕ → Option ℕ
limited limit None = None
limited limit (Some n) = if nat_lt n limit then Some n else None

-- a moment: a number of 64 bits
unfoldable pub moment_of : List ℕ → Option ℕ
moment_of word = limited (2 ^ 64) (decimal_number word)

-- a connection: a number of 32 bits
unfoldable pub conn_of : List ℕ → Option ℕ
conn_of word = limited (2 ^ 32) (decimal_number word)

-- the bytes of hexadecimal digits: at least one byte, each of two digits of either case, the high
-- one first
unfoldable pub bytes_of_hex : List ℕ → Option (List ℕ)
bytes_of_hex word = if length word == 0 then None else result_ok (decode_of word)

-- ---- the forms

-- the ? of the logic: the second step, if the first gave a value
infixl 10 ◌>>=◌
abbrev pub ◌>>=◌ : {A B : Type 0} → Option A → (A → Option B) → Option B
None >>= f = None
Some x >>= f = f x

-- M tick
abbrev pub tick_of : List ℕ → Option PlainLine
tick_of m = do
  moment ← moment_of m
  Some (Tick moment)

-- M open C: the moment has to be one, and means nothing
abbrev pub open_of : List ℕ → List ℕ → Option PlainLine
open_of m c = do
  moment ← moment_of m
  conn ← conn_of c
  Some (Open conn)

-- M end C
abbrev pub end_of : List ℕ → List ℕ → Option PlainLine
end_of m c = do
  moment ← moment_of m
  conn ← conn_of c
  Some (End moment conn)

-- M data C HEX
abbrev pub data_of : List ℕ → List ℕ → List ℕ → Option PlainLine
data_of m c hex = do
  moment ← moment_of m
  conn ← conn_of c
  bytes ← bytes_of_hex hex
  Some (Data moment conn bytes)

-- the line of these words, by how many they are and by the verb
abbrev pub line_of_words : List (List ℕ) → Option PlainLine
line_of_words (verb ∷ []) =
    if bytes_eq verb (codes "save") then Some Save
    else if bytes_eq verb (codes "stop") then Some Stop
    else None
line_of_words (m ∷ verb ∷ []) = if bytes_eq verb (codes "tick") then tick_of m else None
line_of_words (m ∷ verb ∷ c ∷ []) =
    if bytes_eq verb (codes "open") then open_of m c
    else if bytes_eq verb (codes "end") then end_of m c
    else None
line_of_words (m ∷ verb ∷ c ∷ hex ∷ []) =
    if bytes_eq verb (codes "data") then data_of m c hex else None
line_of_words _ = None

-- the line that a text spells, its newline left out; None if it has none of the forms
unfoldable pub line_of : List ℕ → Option PlainLine
line_of text = line_of_words (words_of text)
