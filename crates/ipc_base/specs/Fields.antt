-- Fields of bytes: a number is spelled with its most significant byte first, a signed one in two's
-- complement. A reader takes fields from the front of its bytes; a writer puts them side by side.
use Rattle.std.specs.Prelude.{◌≡◌, ◌≤◌, ◌<◌, ◌+◌, ℕ, ℤ, Bool, List, ◌++◌, length, take, drop, Option, MatchOption}
use Rattle.std.specs.Bool.{MatchBool}
use Rattle.std.specs.Int.{Width, from_be_bytes, to_be_bytes, cast_signed, cast_unsigned}

-- A field of n bytes was read: the bytes were those of the field and then those that are left. Where fewer
-- than n were there, none is given and all are left.
abbrev pub Reads : {X : Type 0} → ℕ → (List ℕ → X) → List ℕ → List ℕ → Option X → Type 0
Reads n value old new result =
    MatchOption result ((length old < n) × (new ≡ old))
    (λ x. (n ≤ length old) × (x ≡ value (take n old)) × (new ≡ drop n old))

-- A field was put at a place of a buffer: after what stood before the place, with what stands after the
-- field kept. Where it would pass the end, nothing has changed.
abbrev pub Puts : List ℕ → ℕ → ℕ → List ℕ → List ℕ → Bool → Type 0
Puts field at next old new written =
    MatchBool written
    ((at + length field ≤ length old) × (next ≡ at + length field)
    × (new ≡ take at old ++ field ++ drop (at + length field) old))
    ((length old < at + length field) × (next ≡ at) × (new ≡ old))

-- the signed number that the bytes spell
abbrev pub signed : Width → List ℕ → ℤ
signed w bytes = cast_signed w (from_be_bytes w bytes)

-- the bytes of a signed number
abbrev pub signed_bytes : Width → ℤ → List ℕ
signed_bytes w n = to_be_bytes w (cast_unsigned w n)
