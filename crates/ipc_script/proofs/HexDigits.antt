-- Which texts are the digits of bytes.
use Rattle.std.proofs.Common.{◌≡◌, ℕ, ◌<◌, ◌%◌, ◌==◌, Bool, true, false, if◌then◌else◌, List, [], length, Option, Some, None, Result, Ok, Err, IsSome}
use Rattle.std.proofs.Common.{unwrap_or, inl, inr, refl, sym, ◌∙◌, arith}
use Rattle.std.proofs.lemmas.Bool.{cases_lt}
use Rattle.std.proofs.lemmas.Bool.Decides.{nat_tests}
use Rattle.std.proofs.lemmas.List.Elements.{All-weaker}
use Rattle.std.proofs.lemmas.List.Sums.{AllPass-from_list_all, list_all-from_AllPass}
use Rattle.std.specs.Char.{is_ascii_hexdigit}
use Rattle.std.specs.List.{list_all, AllPass}
use Rattle.std.specs.Result.{result_ok}
use Rattle.hex.specs.Hex.{decode_of, is_hex_digit}
use Rattle.hex.specs.declared.error.FromHexError.{FromHexError}
use Rattle.hex.proofs.HexLemmas.{decode_of-odd, decode_of-ok, decode_of-digits}
use Rattle.ipc_script.specs.Line.{bytes_of_hex}

-- the two words for a digit say the same
same_digit : (c : ℕ) → is_hex_digit c ≡ is_ascii_hexdigit c
same_digit c = grind (arith, nat_tests)

-- what decodes is the digits of bytes
pub bytes_from_ok : (s bytes : List ℕ) → 0 < length s → decode_of s ≡ Ok bytes → bytes_of_hex s ≡ Some bytes
unfolding bytes_of_hex
bytes_from_ok s bytes some h = let e : (length s == 0) ≡ false = grind (arith, nat_tests) in rw (e, h) refl

pub has_bytes : (s : List ℕ) → 0 < length s → length s % 2 ≡ 0 → list_all is_ascii_hexdigit s ≡ true → IsSome (bytes_of_hex s)
has_bytes s some even digits =
    let all : AllPass is_hex_digit s =
    All-weaker (λ c. is_ascii_hexdigit c ≡ true) (λ c. is_hex_digit c ≡ true) (λ c h. same_digit c ∙ h) s (AllPass-from_list_all is_ascii_hexdigit s digits) in
    let r = decode_of-digits s even all in
    let e = bytes_from_ok s r.0 some r.1 in
    rw e refl

pub no_bytes_empty : (s : List ℕ) → length s ≡ 0 → bytes_of_hex s ≡ None
unfolding bytes_of_hex
no_bytes_empty s h = rw h refl

pub no_bytes_odd : (s : List ℕ) → length s % 2 ≡ 1 → bytes_of_hex s ≡ None
unfolding bytes_of_hex
no_bytes_odd s odd = let e : (length s == 0) ≡ false = grind (arith, nat_tests) in rw (e, decode_of-odd s odd) refl

-- what is decoded has digits alone
not_decoded : (s : List ℕ) (r : Result (List ℕ) FromHexError) → decode_of s ≡ r → list_all is_ascii_hexdigit s ≡ false → result_ok r ≡ None
not_decoded s (Err e) h other = refl
not_decoded s (Ok bytes) h other =
    let all = (decode_of-ok s bytes h).1 in
    let digits =
    list_all-from_AllPass is_ascii_hexdigit s (All-weaker (λ c. is_hex_digit c ≡ true) (λ c. is_ascii_hexdigit c ≡ true) (λ c d. sym (same_digit c)
    ∙ d) s all) in
    cc (sym other ∙ digits)

none_either : (b : Bool) (o : Option (List ℕ)) → o ≡ None → (if b then None else o) ≡ None
none_either true o h = refl
none_either false o h = h

pub no_bytes_other : (s : List ℕ) → list_all is_ascii_hexdigit s ≡ false → bytes_of_hex s ≡ None
unfolding bytes_of_hex
no_bytes_other s other = none_either (length s == 0) _ (not_decoded s (decode_of s) refl other)

pub decoded : (s bytes : List ℕ) → IsSome (bytes_of_hex s) → decode_of s ≡ Ok bytes → bytes ≡ unwrap_or (bytes_of_hex s) []
decoded s bytes some h =
    elim (cases_lt 0 (length s)) [
      | inl more ↦ let e = bytes_from_ok s bytes more h in rw e refl
      | inr none ↦ let e = no_bytes_empty s (omega arith) in cc (rw e at some)
    ]

some_ok : (r : Result (List ℕ) FromHexError) → IsSome (result_ok r) → (bytes : List ℕ) × (r ≡ Ok bytes)
some_ok (Ok bytes) h = (bytes, refl)
some_ok (Err e) h = cc h

some_neither : (b : Bool) (o : Option (List ℕ)) → IsSome (if b then None else o) → IsSome o
some_neither true o h = cc h
some_neither false o h = h

-- the digits of bytes decode
pub is_decoded : (s : List ℕ) → IsSome (bytes_of_hex s) → (bytes : List ℕ) × (decode_of s ≡ Ok bytes)
unfolding bytes_of_hex
is_decoded s h = some_ok (decode_of s) (some_neither (length s == 0) (result_ok (decode_of s)) h)
