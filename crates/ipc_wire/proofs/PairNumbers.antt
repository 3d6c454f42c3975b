-- The numbers that bytes spell two by two.
use Rattle.std.proofs.Common.{◌≡◌, ℕ, zero, suc, ◌+◌, ◌*◌, ◌/◌, ◌<◌, List, [], ◌∷◌, length, get_or, Some, refl, arith}
use Rattle.std.specs.Int.{w16, from_be_bytes}
use Rattle.std.specs.Prelude.{slice_get}
use Rattle.ipc_wire.specs.Values.{numbers_in}

-- they are half as many as the bytes
pub numbers_count : (bytes : List ℕ) → length (numbers_in bytes) ≡ length bytes / 2
numbers_count [] = refl
numbers_count (single ∷ []) = refl
numbers_count (high ∷ low ∷ bytes) = omega (arith, numbers_count bytes)

-- the one at a place
pub number_at : (bytes : List ℕ) (place : ℕ) → 2 * place + 1 < length bytes
    → slice_get (numbers_in bytes) place ≡ Some (from_be_bytes w16 (get_or bytes (2 * place) 0 ∷ get_or bytes (2 * place + 1) 0 ∷ []))
number_at [] place within = absurd (omega (arith, within))
number_at (single ∷ []) place within = absurd (omega (arith, within))
number_at (high ∷ low ∷ bytes) zero within = refl
number_at (high ∷ low ∷ bytes) (suc place) within =
    let start : 2 * suc place ≡ suc (suc (2 * place)) = omega arith in
    let second : suc (suc (2 * place)) + 1 ≡ suc (suc (2 * place + 1)) = omega arith in
    rw (start, second) (number_at bytes place (omega (arith, within)))
