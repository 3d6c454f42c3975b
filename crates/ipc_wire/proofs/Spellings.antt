-- The frame of a request is read as that request.
use Rattle.std.proofs.Common.{◌≡◌, ℕ, ◌+◌, ◌≤◌, ◌<◌, ◌^◌, false, ltb, eqb, List, ◌∷◌, ◌++◌, length, take, Some, refl, sym, ap, ◌∙◌, arith}
use Rattle.std.specs.Int.{w32, from_be_bytes, to_be_bytes}
use Rattle.std.proofs.lemmas.Bool.{le-ltb, cond-false, ne_eqb}
use Rattle.std.proofs.lemmas.List.{length-append, take_at}
use Rattle.std.proofs.lemmas.Nat.{from_be_bytes-to_be_bytes_4}
use Rattle.ipc_wire.specs.Sizes.{greatest_length, greatest_fields}
use Rattle.ipc_wire.specs.Request.{PlainKind, PlainRequest}
use Rattle.ipc_wire.specs.Stream.{part, u32_at, kind_of, frame_of, first}
use Rattle.ipc_wire.specs.Stream.PlainFrame.{Whole}
use Rattle.ipc_wire.specs.Spelling.{opcode_of, fields_of, frame, HasFrame}
use Rattle.ipc_wire.proofs.Frames.{first_long, is_out_of_range, sized}
use Rattle.ipc_wire.proofs.Rows.{kind_again}

-- what stands after the length
abbrev pub text_of : ℕ → ℕ → List ℕ → List ℕ
text_of serial opcode fields = to_be_bytes w32 serial ++ opcode ∷ fields

pub text_again : (serial opcode : ℕ) (fields : List ℕ) (call : PlainKind) → 1 ≤ serial → serial < 2 ^ 32 → kind_of opcode fields ≡ Some call
    → frame_of (text_of serial opcode fields) ≡ Whole (9 + length fields) (record { serial = serial; kind = call })
unfolding frame_of u32_at
text_again serial opcode fields call least most read =
    let named : from_be_bytes w32 (to_be_bytes w32 serial) ≡ serial = from_be_bytes-to_be_bytes_4 serial most in
    let some : eqb serial 0 ≡ false = ne_eqb serial 0 (λ zero. omega arith) in
    let size : 4 + length (text_of serial opcode fields) ≡ 9 + length fields = omega arith in
    rw (named, some, read, size) refl

in_range_again : (size : ℕ) → 5 ≤ size → size ≤ greatest_length → is_out_of_range size ≡ false
in_range_again size least most =
    let low : ltb size 5 ≡ false = le-ltb _ _ least in
    let high : ltb greatest_length size ≡ false = le-ltb _ _ most in
    rw (low, high) refl

framed_again : (text rest : List ℕ) (size : ℕ) → length text ≡ size → 5 ≤ size → size ≤ greatest_length
    → first ((to_be_bytes w32 size ++ text) ++ rest) ≡ frame_of text
unfolding u32_at
framed_again text rest size len least most =
    let bytes : List ℕ = (to_be_bytes w32 size ++ text) ++ rest in
    let total : length bytes ≡ 4 + size + length rest = omega (arith, length-append text rest) in
    let named : u32_at 0 bytes ≡ size = from_be_bytes-to_be_bytes_4 size (omega arith) in
    let cut : take size (text ++ rest) ≡ text = take_at text rest size len in
    first_long bytes (omega arith)
    ∙ ap (λ (n : ℕ). sized n (length bytes) (frame_of (part 4 n bytes))) named
    ∙ cond-false _ _ _ (in_range_again size least most)
    ∙ cond-false _ _ _ (le-ltb (length bytes) (4 + size) (omega arith))
    ∙ ap frame_of cut

pub request_again : (request : PlainRequest) (rest : List ℕ) → HasFrame request → first (frame request ++ rest) ≡ Whole (length (frame request)) request
unfolding frame
request_again request rest has =
    let fields : List ℕ = fields_of request.kind in
    let short : length fields ≤ greatest_fields = has.short in
    let text : List ℕ = text_of request.serial (opcode_of request.kind) fields in
    let size : length text ≡ 5 + length fields = omega arith in
    let total : length (frame request) ≡ 9 + length fields = omega arith in
    framed_again text rest (5 + length fields) size (omega arith) (omega arith)
    ∙ text_again request.serial (opcode_of request.kind) fields request.kind has.serial.0 has.serial.1 (kind_again request.kind has.fields has.rest)
    ∙ ap (λ (n : ℕ). Whole n request) (sym total)
