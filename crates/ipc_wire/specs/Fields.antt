-- What follows the opcode of a request: numbers of some kinds, and then a rest, to the end of the frame.
use Rattle.std.specs.Prelude.{◌≡◌, ◌-◌, ◌%◌, ℕ, Bool, nat_le, ◌==◌, ◌&&◌}

-- no rest, bytes, or whole units of so many bytes
pub data Rest : Type 0 where
  Nothing Bytes : Rest
  Units : (size : ℕ) → Rest

-- a rest may have so many bytes
abbrev pub MayHave : Rest → ℕ → Type 0
MayHave Nothing len = len ≡ 0
MayHave Bytes len = Unit {0}
MayHave (Units size) len = len % size ≡ 0

-- whether so many bytes are numbers that have this total, and a rest
abbrev pub fits : ℕ → Rest → ℕ → Bool
fits total Nothing len = len == total
fits total Bytes len = nat_le total len
fits total (Units size) len = nat_le total len && ((len - total) % size == 0)
