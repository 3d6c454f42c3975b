-- The bytes of a line are at least one.
use Rattle.std.proofs.Common.{◌≡◌, ℕ, ◌<◌, ◌==◌, true, false, List, [], length, Result, Ok, Err, is_some, IsSome, unwrap_or, refl, inl, inr, arith}
use Rattle.std.proofs.lemmas.Bool.Decides.{nat_tests}
use Rattle.std.specs.Result.{result_ok}
use Rattle.hex.specs.Hex.{decode_of}
use Rattle.hex.specs.declared.error.FromHexError.{FromHexError}
use Rattle.hex.proofs.HexLemmas.{decode_of-ok}
use Rattle.ipc_script.specs.Line.{bytes_of_hex}
use Rattle.ipc_base.proofs.CallerLemmas.{test_cases as test}

decoded : (word : List ℕ) (r : Result (List ℕ) FromHexError) → decode_of word ≡ r → 0 < length word → is_some (result_ok r) ≡ true
    → 0 < length (unwrap_or (result_ok r) [])
decoded word (Ok bytes) e some h = let d = decode_of-ok word bytes e in omega (arith, d.2)
decoded word (Err f) e some h = cc

pub hex_nonempty : (word : List ℕ) → IsSome (bytes_of_hex word) → 0 < length (unwrap_or (bytes_of_hex word) [])
unfolding bytes_of_hex
hex_nonempty word h =
    elim (test (length word == 0)) [
      | inl t ↦ let bad : false ≡ true = rw t at h in cc
      | inr f ↦ let some : 0 < length word = grind (arith, nat_tests) in rw f (decoded word (decode_of word) refl some (rw f at h))
    ]
