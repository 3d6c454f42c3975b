-- Numbers of two bytes side by side, each with its most significant byte first, as the values of a
-- semaphore set stand in the frame of SETALL of semctl(2).
use Rattle.std.specs.Prelude.{ℕ, List, [], ◌∷◌}
use Rattle.std.specs.Int.{w16, from_be_bytes}
use Rattle.ipc_wire.specs.declared.values.Values.{Values}

-- the bytes of such numbers
abbrev pub bytes_of : Values → List ℕ
bytes_of pairs = pairs.bytes.now

-- the numbers that bytes spell two by two; a last single byte spells nothing
abbrev pub numbers_in : List ℕ → List ℕ
numbers_in [] = []
numbers_in (single ∷ []) = []
numbers_in (high ∷ low ∷ bytes) = from_be_bytes w16 (high ∷ low ∷ []) ∷ numbers_in bytes
