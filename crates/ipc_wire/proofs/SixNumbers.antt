-- The operations that bytes spell six by six.
use Rattle.std.proofs.Common.{◌≡◌, ℕ, zero, suc, ◌+◌, ◌*◌, ◌/◌, ◌<◌, List, [], ◌∷◌, length, get_or, Some, refl, arith}
use Rattle.std.specs.Int.{w16, from_be_bytes, cast_signed}
use Rattle.std.specs.Prelude.{slice_get}
use Rattle.ipc_wire.specs.declared.sem_bufs.SemBuf.{SemBuf}
use Rattle.ipc_wire.specs.SemBufs.{operations_in}

-- they are a sixth as many as the bytes
pub operations_count : (bytes : List ℕ) → length (operations_in bytes) ≡ length bytes / 6
operations_count [] = refl
operations_count (a ∷ []) = refl
operations_count (a ∷ b ∷ []) = refl
operations_count (a ∷ b ∷ c ∷ []) = refl
operations_count (a ∷ b ∷ c ∷ d ∷ []) = refl
operations_count (a ∷ b ∷ c ∷ d ∷ e ∷ []) = refl
operations_count (a ∷ b ∷ c ∷ d ∷ e ∷ f ∷ bytes) = omega (arith, operations_count bytes)

abbrev pub operation_of : ℕ → ℕ → ℕ → ℕ → ℕ → ℕ → SemBuf
operation_of a b c d e f =
    record {
      num = from_be_bytes w16 (a ∷ b ∷ []);
      op = cast_signed w16 (from_be_bytes w16 (c ∷ d ∷ []));
      flags = from_be_bytes w16 (e ∷ f ∷ []);
    }

-- the one at a place
pub operation_at : (bytes : List ℕ) (place : ℕ) → 6 * place + 5 < length bytes
    → slice_get (operations_in bytes) place ≡ Some (operation_of (get_or bytes (6 * place) 0) (get_or bytes (6 * place + 1) 0)
    (get_or bytes (6 * place + 2) 0) (get_or bytes (6 * place + 3) 0) (get_or bytes (6 * place + 4) 0) (get_or bytes (6 * place + 5) 0))
operation_at [] place within = absurd (omega (arith, within))
operation_at (a ∷ []) place within = absurd (omega (arith, within))
operation_at (a ∷ b ∷ []) place within = absurd (omega (arith, within))
operation_at (a ∷ b ∷ c ∷ []) place within = absurd (omega (arith, within))
operation_at (a ∷ b ∷ c ∷ d ∷ []) place within = absurd (omega (arith, within))
operation_at (a ∷ b ∷ c ∷ d ∷ e ∷ []) place within = absurd (omega (arith, within))
operation_at (a ∷ b ∷ c ∷ d ∷ e ∷ f ∷ bytes) zero within = refl
operation_at (a ∷ b ∷ c ∷ d ∷ e ∷ f ∷ bytes) (suc place) within =
    let e0 : 6 * suc place ≡ suc (suc (suc (suc (suc (suc (6 * place)))))) = omega arith in
    let e1 : suc (suc (suc (suc (suc (suc (6 * place)))))) + 1 ≡ suc (suc (suc (suc (suc (suc (6 * place + 1)))))) = omega arith in
    let e2 : suc (suc (suc (suc (suc (suc (6 * place)))))) + 2 ≡ suc (suc (suc (suc (suc (suc (6 * place + 2)))))) = omega arith in
    let e3 : suc (suc (suc (suc (suc (suc (6 * place)))))) + 3 ≡ suc (suc (suc (suc (suc (suc (6 * place + 3)))))) = omega arith in
    let e4 : suc (suc (suc (suc (suc (suc (6 * place)))))) + 4 ≡ suc (suc (suc (suc (suc (suc (6 * place + 4)))))) = omega arith in
    let e5 : suc (suc (suc (suc (suc (suc (6 * place)))))) + 5 ≡ suc (suc (suc (suc (suc (suc (6 * place + 5)))))) = omega arith in
    rw (e0, e1, e2, e3, e4, e5) (operation_at bytes place (omega (arith, within)))
