-- What is read as a request is spelled so: its bytes are the frame of that request.
use Rattle.std.proofs.Common.{◌≡◌, ℕ, ◌+◌, ◌≤◌, ◌<◌, ◌^◌, ◌⊎◌, Bool, true, false, cond, ltb, eqb, List, ◌∷◌, ◌++◌, length, take, drop, Option, Some, None, refl}
use Rattle.std.proofs.Common.{sym, ap, subst, ◌∙◌, arith, inl, inr, All}
use Rattle.std.specs.Int.{w32, to_be_bytes, from_be_bytes}
use Rattle.std.specs.Prelude.{slice_index}
use Rattle.std.proofs.lemmas.Bool.{cases_lt, ltb-false, eqb-false, ne_eqb, cond-false}
use Rattle.std.proofs.lemmas.List.{length-take-le, length-drop, take-take, drop-take, take-append-drop, drop_more}
use Rattle.std.proofs.lemmas.Nat.{be_bytes_4}
use Rattle.ipc_wire.specs.declared.request.Frame.{Frame}
use Rattle.ipc_wire.specs.declared.request.Frame.TheVariants as frames
use Rattle.ipc_wire.specs.Sizes.{greatest_length, greatest_fields}
use Rattle.ipc_wire.specs.Request.{PlainKind, PlainRequest}
use Rattle.ipc_wire.specs.Stream.{PlainFrame, plain_frame, part, u32_at, kind_of, request_or_fault, frame_of, first}
use Rattle.ipc_wire.specs.Stream.PlainFrame.{More, Whole, Fault}
use Rattle.ipc_wire.specs.Spelling.{opcode_of, fields_of, request_bytes, frame, HasFrame}
use Rattle.ipc_wire.specs.View.{plain_request}
use Rattle.ipc_base.proofs.CallerLemmas.{AreBytes, bytes-all, bytes-drop, bytes-take}
use Rattle.ipc_wire.proofs.Frames.{first_short, first_long, is_out_of_range, in_range}
use Rattle.ipc_wire.proofs.Rows.{kind_again, kind_back}
use Rattle.ipc_wire.proofs.Spellings.{text_of, text_again}

part_bytes : (at n : ℕ) (bytes : List ℕ) → AreBytes bytes → AreBytes (part at n bytes)
part_bytes at n bytes fits = bytes-take n (drop at bytes) (bytes-drop at bytes fits)

length_part : (at n : ℕ) (bytes : List ℕ) → at + n ≤ length bytes → length (part at n bytes) ≡ n
length_part at n bytes enough = length-take-le n (drop at bytes) (omega (arith, length-drop at bytes))

-- the next part after those before
grows : (at n : ℕ) (bytes : List ℕ) → take at bytes ++ part at n bytes ≡ take (at + n) bytes
grows at n bytes =
    ap (λ (x : List ℕ). x ++ part at n bytes) (sym (take-take at (at + n) bytes (omega arith)))
    ∙ ap (λ (x : List ℕ). take at (take (at + n) bytes) ++ x) (sym (drop-take at n bytes))
    ∙ take-append-drop at (take (at + n) bytes)

-- ---- numbers

number_below : (at : ℕ) (bytes : List ℕ) → AreBytes bytes → u32_at at bytes < 2 ^ 32
unfolding u32_at
number_below at bytes fits =
    let p = part_bytes at 4 bytes fits in
    omega (arith, p 0, p 1, p 2, p 3)

number_back : (at : ℕ) (bytes : List ℕ) → AreBytes bytes → at + 4 ≤ length bytes → to_be_bytes w32 (u32_at at bytes) ≡ part at 4 bytes
unfolding u32_at
number_back at bytes fits enough = be_bytes_4 (part at 4 bytes) _ (length_part at 4 bytes enough) (part_bytes at 4 bytes fits) refl

chosen : {A : Type 0} (b : Bool) (x y z : A) → cond b x y ≡ z → ((b ≡ true) × (x ≡ z)) ⊎ ((b ≡ false) × (y ≡ z))
chosen true x y z e = inl (refl, e)
chosen false x y z e = inr (refl, e)

side : (a a' b b' : List ℕ) → a ≡ a' → b ≡ b' → a ++ b ≡ a' ++ b'
side a a' b b' p q = ap (λ (x : List ℕ). x ++ b) p ∙ ap (λ (x : List ℕ). a' ++ x) q

-- a field after those before
beyond : (at n : ℕ) (bytes front field : List ℕ) → front ≡ take at bytes → field ≡ part at n bytes → front ++ field ≡ take (at + n) bytes
beyond at n bytes front field p q = side front (take at bytes) field (part at n bytes) p q ∙ grows at n bytes

-- ---- frames

request_found : (call : Option PlainKind) (size serial used : ℕ) (request : PlainRequest) → request_or_fault size serial call ≡ Whole used request
    → (call ≡ Some request.kind) × (size ≡ used) × (serial ≡ request.serial)
request_found None size serial used request e = absurd cc
request_found (Some call) size serial used request e =
    let parts : (size ≡ used) × (record { serial = serial; kind = call } ≡ request) = (cc, cc) in
    (ap (λ (r : PlainRequest). Some r.kind) parts.1, parts.0, ap (λ (r : PlainRequest). r.serial) parts.1)

-- what was read of fields, under a serial, has a frame
pub kind_framed : (opcode serial : ℕ) (fields : List ℕ) (kind : PlainKind) → 1 ≤ serial → serial < 2 ^ 32 → AreBytes fields → length fields ≤ greatest_fields
    → kind_of opcode fields ≡ Some kind → HasFrame (record { serial = serial; kind = kind })
kind_framed opcode serial fields kind least below fits short e =
    let spelled = kind_back opcode fields kind fits e in
    record { serial = (least, below); fields = spelled.fit; rest = spelled.rest; short = omega (arith, ap length spelled.fields_are) }

record Read (text : List ℕ) (used : ℕ) (request : PlainRequest) : Type 0 where
  used_is : 4 + length text ≡ used
  text_is : text ≡ text_of request.serial (opcode_of request.kind) (fields_of request.kind)
  has : HasFrame request

text_back : (text : List ℕ) (used : ℕ) (request : PlainRequest) → AreBytes text → 5 ≤ length text → length text ≤ greatest_length → frame_of text
    ≡ Whole used request
    → Read text used request
unfolding frame_of
text_back text used request fits least most e =
    let call : Option PlainKind = kind_of (slice_index text 4) (drop 5 text) in
    elim (chosen (eqb (u32_at 0 text) 0) (Fault 0) (request_or_fault (4 + length text) (u32_at 0 text) call) (Whole used request) e) [
      | inl p ↦ absurd (let fault = p.1 in cc)
      | inr p ↦
          let found = request_found call (4 + length text) (u32_at 0 text) used request p.1 in
          let spelled = kind_back (slice_index text 4) (drop 5 text) request.kind (bytes-drop 5 text fits) found.0 in
          let nonzero : u32_at 0 text ≡ 0 → ⊥ = eqb-false _ _ p.0 in
          let below = number_below 0 text fits in
          let serial : to_be_bytes w32 request.serial ≡ take 4 text = ap (to_be_bytes w32) (sym found.2) ∙ number_back 0 text fits (omega arith) in
          let fields : opcode_of request.kind ∷ fields_of request.kind ≡ drop 4 text =
          ap (λ (n : ℕ). n ∷ fields_of request.kind) spelled.opcode_is ∙ ap (λ (x : List ℕ). slice_index text 4 ∷ x) spelled.fields_are
          ∙ sym (drop_more text 4 0 (omega arith)) in
          let least_serial : 1 ≤ request.serial = omega (arith, found.2, nonzero) in
          let most_serial : request.serial < 2 ^ 32 = omega (arith, found.2) in
          record {
            used_is = found.1;
            text_is = sym (take-append-drop 4 text) ∙ sym (side (to_be_bytes w32 request.serial) (take 4 text) (opcode_of request.kind ∷ fields_of request.kind)
                (drop 4 text) serial fields);
            has = kind_framed (slice_index text 4) request.serial (drop 5 text) request.kind least_serial most_serial (bytes-drop 5 text fits)
                (omega (arith, length-drop 5 text)) found.0;
          }
    ]

-- a frame whose serial, opcode and fields are read one by one
pub frame_read : (text : List ℕ) (serial opcode : ℕ) (kind : PlainKind) → serial ≡ from_be_bytes w32 (take 4 text) → opcode ≡ slice_index text 4 → 1 ≤ serial
    → kind_of opcode (drop 5 text) ≡ Some kind → frame_of text ≡ Whole (4 + length text) (record { serial = serial; kind = kind })
unfolding frame_of u32_at
frame_read text serial opcode kind first fifth least e =
    let nonzero : eqb (u32_at 0 text) 0 ≡ false = ne_eqb _ _ (omega (arith, first)) in
    let call : kind_of (slice_index text 4) (drop 5 text) ≡ Some kind = ap (λ (n : ℕ). kind_of n (drop 5 text)) (sym fifth) ∙ e in
    cond-false _ _ _ nonzero
    ∙ ap (request_or_fault (4 + length text) (u32_at 0 text)) call
    ∙ ap (λ (n : ℕ). Whole (4 + length text) (record { serial = n; kind = kind })) (sym first)

-- what is read of a frame without its length
pub request_read : (text : List ℕ) (used : ℕ) (request : PlainRequest) → AreBytes text → 5 ≤ length text → length text ≤ greatest_length
    → frame_of text ≡ Whole used request → HasFrame request × (text ≡ request_bytes request)
request_read text used request fits least most e = let read = text_back text used request fits least most e in (read.has, read.text_is)

-- the frame of a request without its length is no fault, and has a length in range
pub record Readable (text : List ℕ) (request : PlainRequest) : Type 0 where
  pub least : 5 ≤ length text
  pub most : length text ≤ greatest_length
  pub whole : frame_of text ≡ Whole (9 + length (fields_of request.kind)) request

pub request_text : (text : List ℕ) (request : PlainRequest) → HasFrame request → text ≡ request_bytes request → Readable text request
request_text text request has is =
    let kind : PlainKind = request.kind in
    let size : length text ≡ 5 + length (fields_of kind) = ap length is ∙ omega arith in
    record {
      least = omega arith;
      most = omega (arith, has.short);
      whole = ap frame_of is ∙ text_again request.serial (opcode_of kind) (fields_of kind) kind has.serial.0 has.serial.1 (kind_again kind has.fields has.rest);
    }

pub one_request : (f : PlainFrame) (used n : ℕ) (request other : PlainRequest) → f ≡ Whole used request → f ≡ Whole n other → Some request ≡ Some other
one_request f used n request other is also =
    let same : Whole used request ≡ Whole n other = sym is ∙ also in
    cc

-- no two requests have the same bytes
pub one_text : (request other : PlainRequest) → HasFrame request → HasFrame other → request_bytes request ≡ request_bytes other → Some request ≡ Some other
one_text request other has also is =
    one_request (frame_of (request_bytes request)) _ _ request other (request_text (request_bytes request) request has refl).whole
    (request_text (request_bytes request) other also is).whole

pub request_back : (bytes : List ℕ) (used : ℕ) (request : PlainRequest) → AreBytes bytes → first bytes ≡ Whole used request
    → (take used bytes ≡ frame request) × HasFrame request
unfolding frame
request_back bytes used request fits e =
    elim (cases_lt (length bytes) 4) [
      | inl short ↦ absurd (let none = first_short bytes short in cc)
      | inr long ↦
          let size : ℕ = u32_at 0 bytes in
          let text : List ℕ = part 4 size bytes in
          let inner : PlainFrame = cond (ltb (length bytes) (4 + size)) More (frame_of text) in
          elim (chosen (is_out_of_range size) (Fault 0) inner (Whole used request) (sym (first_long bytes long) ∙ e)) [
            | inl p ↦ absurd (let fault = p.1 in cc)
            | inr p ↦ elim (chosen (ltb (length bytes) (4 + size)) More (frame_of text) (Whole used request) p.1) [
              | inl q ↦ absurd (let more = q.1 in cc)
              | inr q ↦
                  let range = in_range size p.0 in
                  let enough : 4 + size ≤ length bytes = ltb-false _ _ q.0 in
                  let len : length text ≡ size = length_part 4 size bytes enough in
                  let read = text_back text used request (part_bytes 4 size bytes fits) (omega (arith, range)) (omega (arith, range)) q.1 in
                  let spelled : List ℕ = text_of request.serial (opcode_of request.kind) (fields_of request.kind) in
                  let count : 5 + length (fields_of request.kind) ≡ size = omega (arith, len, ap length read.text_is) in
                  let used_is : used ≡ 4 + size = omega (arith, read.used_is, len) in
                  let header : to_be_bytes w32 (5 + length (fields_of request.kind)) ≡ take 4 bytes = ap (to_be_bytes w32) count
                  ∙ number_back 0 bytes fits long in
                  let all : to_be_bytes w32 (5 + length (fields_of request.kind)) ++ spelled ≡ take (4 + size) bytes =
                  beyond 4 size bytes (to_be_bytes w32 (5 + length (fields_of request.kind))) spelled header (sym read.text_is) in
                  (ap (λ (n : ℕ). take n bytes) used_is ∙ sym all, read.has)
            ]
          ]
    ]

pub bytes_back : (bytes : List ℕ) (used : ℕ) (request : PlainRequest) → All (λ byte. byte < 256) bytes → first bytes ≡ Whole used request
    → take used bytes ≡ frame request
bytes_back bytes used request all e = (request_back bytes used request (bytes-all bytes all) e).0

pub has_back : (bytes : List ℕ) (used : ℕ) (request : PlainRequest) → All (λ byte. byte < 256) bytes → first bytes ≡ Whole used request → HasFrame request
has_back bytes used request all e = (request_back bytes used request (bytes-all bytes all) e).1

-- so it is of what the code reads, by its type
pub whole_framed : (f : Frame) (used : ℕ) (request : PlainRequest) → plain_frame f ≡ Whole used request → HasFrame request
whole_framed frames.More used request e = absurd cc
whole_framed (frames.Whole n r) used request e =
    let same : plain_request r ≡ request = cc in
    subst HasFrame same r.frame
whole_framed (frames.Fault serial) used request e = absurd cc
