-- What the first frame of a stream says, step by step, and that it stays when more bytes come.
use Rattle.std.proofs.Common.{◌≡◌, ℕ, ◌+◌, ◌-◌, ◌≤◌, ◌<◌, Bool, true, false, cond, ltb, eqb, ◌||◌, List, ◌++◌, length, take, drop, Option, Some, None, refl}
use Rattle.std.proofs.Common.{sym, ap, ◌∙◌, arith, ◌⊎◌, inl, inr}
use Rattle.std.specs.Int.{w32, from_be_bytes}
use Rattle.std.specs.Prelude.{slice_index}
use Rattle.std.proofs.lemmas.Bool.{cases_lt, lt-ltb, le-ltb, ltb-false, ltb-true, cond-true, cond-false, cond_both}
use Rattle.std.proofs.lemmas.List.{length-append, length-drop, length-take-le, take-append-le, drop-append-le}
use Rattle.ipc_wire.specs.Sizes.{greatest_length, greatest_frame}
use Rattle.ipc_wire.specs.Request.{PlainKind, PlainRequest}
use Rattle.ipc_wire.specs.Stream.{PlainFrame, TakesBytes, part, u32_at, kind_of, request_or_fault, frame_of, first, missing}
use Rattle.ipc_wire.specs.Stream.PlainFrame.{More, Whole, Fault}

request_takes : (call : Option PlainKind) (used serial available : ℕ) → 9 ≤ used → used ≤ available → TakesBytes (request_or_fault used serial call) available
request_takes None used serial available least most = tt
request_takes (Some call) used serial available least most = (least, most)

pub frame_takes : (text : List ℕ) (available : ℕ) → 5 ≤ length text → 4 + length text ≤ available → TakesBytes (frame_of text) available
unfolding frame_of
frame_takes text available least most =
    let call : Option PlainKind = kind_of (slice_index text 4) (drop 5 text) in
    cond_both (eqb (u32_at 0 text) 0) (Fault 0) (request_or_fault (4 + length text) (u32_at 0 text) call) (λ (f : PlainFrame). TakesBytes f available) (λ _. tt)
    (λ _. request_takes call (4 + length text) (u32_at 0 text) available (omega arith) most)

-- a length out of range, and what a frame of this length is
abbrev pub is_out_of_range : ℕ → Bool
is_out_of_range size = ltb size 5 || ltb greatest_length size

abbrev pub sized : ℕ → ℕ → PlainFrame → PlainFrame
sized size available frame = cond (is_out_of_range size) (Fault 0) (cond (ltb available (4 + size)) More frame)

pub first_short : (bytes : List ℕ) → length bytes < 4 → first bytes ≡ More
unfolding first
first_short bytes short = cond-true _ _ _ (lt-ltb _ _ short)

pub first_long : (bytes : List ℕ) → 4 ≤ length bytes → first bytes ≡ sized (u32_at 0 bytes) (length bytes) (frame_of (part 4 (u32_at 0 bytes) bytes))
unfolding first
first_long bytes long = cond-false _ _ _ (le-ltb _ _ long)

pub in_range : (size : ℕ) → is_out_of_range size ≡ false → (5 ≤ size) × (size ≤ greatest_length)
in_range size e =
    elim (cases_lt size 5) [
      | inl low ↦ absurd (let p = lt-ltb _ _ low in cc)
      | inr least ↦ elim (cases_lt greatest_length size) [
        | inl high ↦ absurd (let p = lt-ltb _ _ high in let q = le-ltb _ _ least in cc)
        | inr most ↦ (least, most)
      ]
    ]

pub first_takes : (bytes : List ℕ) → TakesBytes (first bytes) (length bytes)
first_takes bytes =
    elim (cases_lt (length bytes) 4) [
      | inl short ↦ rw (first_short bytes short) tt
      | inr long ↦
          let size : ℕ = u32_at 0 bytes in
          let text : List ℕ = part 4 size bytes in
          rw (first_long bytes long)
          (cond_both (is_out_of_range size) (Fault 0) (cond (ltb (length bytes) (4 + size)) More (frame_of text))
          (λ (f : PlainFrame). TakesBytes f (length bytes)) (λ _. tt)
          (λ inside. cond_both (ltb (length bytes) (4 + size)) More (frame_of text) (λ (f : PlainFrame). TakesBytes f (length bytes)) (λ _. tt)
          (λ whole.
          let enough : 4 + size ≤ length bytes = ltb-false _ _ whole in
          let least = in_range size inside in
          let exact : length text ≡ size = length-take-le size (drop 4 bytes) (omega (arith, length-drop 4 bytes)) in
          frame_takes text (length bytes) (omega arith) (omega arith))))
    ]

-- a whole frame waits for nothing
request_waits : (call : Option PlainKind) (used serial : ℕ) → request_or_fault used serial call ≡ More → ⊥
request_waits None used serial e = cc
request_waits (Some call) used serial e = cc

pub frame_waits : (text : List ℕ) → frame_of text ≡ More → ⊥
unfolding frame_of
frame_waits text =
    let call : Option PlainKind = kind_of (slice_index text 4) (drop 5 text) in
    cond_both (eqb (u32_at 0 text) 0) (Fault 0) (request_or_fault (4 + length text) (u32_at 0 text) call) (λ (f : PlainFrame). f ≡ More → ⊥) (λ _ e. cc)
    (λ _. request_waits call (4 + length text) (u32_at 0 text))

pub waiting_short : (bytes : List ℕ) → first bytes ≡ More → length bytes < greatest_frame
waiting_short bytes e =
    elim (cases_lt (length bytes) 4) [
      | inl short ↦ omega arith
      | inr long ↦
          let size : ℕ = u32_at 0 bytes in
          let text : List ℕ = part 4 size bytes in
          cond_both (is_out_of_range size) (Fault 0) (cond (ltb (length bytes) (4 + size)) More (frame_of text))
          (λ (f : PlainFrame). f ≡ More → length bytes < greatest_frame) (λ _ w. cc)
          (λ inside. cond_both (ltb (length bytes) (4 + size)) More (frame_of text) (λ (f : PlainFrame). f ≡ More → length bytes < greatest_frame)
          (λ short _.
          let least = in_range size inside in
          let fewer : length bytes < 4 + size = ltb-true _ _ short in
          omega (arith, least))
          (λ _ w. absurd (frame_waits text w)))
          (sym (first_long bytes long) ∙ e)
    ]

-- ---- more bytes

sized_stays : (out : Bool) (size available later : ℕ) (frame frame' : PlainFrame) → available ≤ later → (4 + size ≤ available → frame' ≡ frame)
    → (cond out (Fault 0) (cond (ltb available (4 + size)) More frame) ≡ More)
    ⊎ (cond out (Fault 0) (cond (ltb later (4 + size)) More frame') ≡ cond out (Fault 0) (cond (ltb available (4 + size)) More frame))
sized_stays true size available later frame frame' le same = inr refl
sized_stays false size available later frame frame' le same =
    elim (cases_lt available (4 + size)) [
      | inl short ↦ inl (cond-true _ _ _ (lt-ltb _ _ short))
      | inr long ↦ inr (cond-false _ _ _ (le-ltb later (4 + size) (omega arith)) ∙ same long ∙ sym (cond-false _ _ _ (le-ltb _ _ long)))
    ]

number_stays : (bytes more : List ℕ) → 4 ≤ length bytes → u32_at 0 (bytes ++ more) ≡ u32_at 0 bytes
unfolding u32_at
number_stays bytes more long = ap (from_be_bytes w32) (take-append-le 4 bytes more long)

part_stays : (at n : ℕ) (bytes more : List ℕ) → at + n ≤ length bytes → part at n (bytes ++ more) ≡ part at n bytes
part_stays at n bytes more long =
    let cut : drop at (bytes ++ more) ≡ drop at bytes ++ more = drop-append-le at bytes more (omega arith) in
    ap (take n) cut ∙ take-append-le n (drop at bytes) more (omega (arith, length-drop at bytes))

-- what is decided stays
pub first_stays : (bytes more : List ℕ) → (first bytes ≡ More) ⊎ (first (bytes ++ more) ≡ first bytes)
first_stays bytes more =
    elim (cases_lt (length bytes) 4) [
      | inl short ↦ inl (first_short bytes short)
      | inr long ↦
          let total : length (bytes ++ more) ≡ length bytes + length more = length-append bytes more in
          let now = first_long bytes long in
          let later = first_long (bytes ++ more) (omega arith) in
          let size = number_stays bytes more long in
          let later_at : first (bytes ++ more) ≡ sized (u32_at 0 bytes) (length (bytes ++ more)) (frame_of (part 4 (u32_at 0 bytes) (bytes ++ more))) =
          later ∙ ap (λ (n : ℕ). sized n (length (bytes ++ more)) (frame_of (part 4 n (bytes ++ more)))) size in
          elim (sized_stays (is_out_of_range (u32_at 0 bytes)) (u32_at 0 bytes) (length bytes) (length (bytes ++ more))
          (frame_of (part 4 (u32_at 0 bytes) bytes)) (frame_of (part 4 (u32_at 0 bytes) (bytes ++ more))) (omega arith)
          (λ enough. ap frame_of (part_stays 4 (u32_at 0 bytes) bytes more enough))) [
            | inl waits ↦ inl (now ∙ waits)
            | inr same ↦ inr (later_at ∙ same ∙ sym now)
          ]
    ]

pub whole_stays : (bytes more : List ℕ) (used : ℕ) (request : PlainRequest) → first bytes ≡ Whole used request → first (bytes ++ more) ≡ Whole used request
whole_stays bytes more used request e =
    elim (first_stays bytes more) [
      | inl waits ↦ absurd cc
      | inr same ↦ same ∙ e
    ]

pub fault_stays : (bytes more : List ℕ) (serial : ℕ) → first bytes ≡ Fault serial → first (bytes ++ more) ≡ Fault serial
fault_stays bytes more serial e =
    elim (first_stays bytes more) [
      | inl waits ↦ absurd cc
      | inr same ↦ same ∙ e
    ]

-- ---- the last byte

request_used : (call : Option PlainKind) (used serial n : ℕ) (request : PlainRequest) → request_or_fault used serial call ≡ Whole n request → n ≡ used
request_used None used serial n request e = cc
request_used (Some call) used serial n request e = cc

frame_used : (text : List ℕ) (used : ℕ) (request : PlainRequest) → frame_of text ≡ Whole used request → used ≡ 4 + length text
unfolding frame_of
frame_used text used request =
    let call : Option PlainKind = kind_of (slice_index text 4) (drop 5 text) in
    cond_both (eqb (u32_at 0 text) 0) (Fault 0) (request_or_fault (4 + length text) (u32_at 0 text) call)
    (λ (f : PlainFrame). f ≡ Whole used request → used ≡ 4 + length text) (λ _ e. cc)
    (λ _. request_used call (4 + length text) (u32_at 0 text) used request)

sized_waits : (size available : ℕ) (text : List ℕ) → is_out_of_range size ≡ false → sized size available (frame_of text) ≡ More → available < 4 + size
sized_waits size available text inside =
    rw inside
    (cond_both (ltb available (4 + size)) More (frame_of text) (λ (f : PlainFrame). f ≡ More → available < 4 + size)
    (λ short _. ltb-true _ _ short) (λ _ e. absurd (frame_waits text e)))

sized_whole : (size available : ℕ) (text : List ℕ) (used : ℕ) (request : PlainRequest) → (4 + size ≤ available → length text ≡ size)
    → sized size available (frame_of text) ≡ Whole used request
    → (is_out_of_range size ≡ false) × (used ≡ 4 + size)
sized_whole size available text used request exact =
    cond_both (is_out_of_range size) (Fault 0) (cond (ltb available (4 + size)) More (frame_of text))
    (λ (f : PlainFrame). f ≡ Whole used request → (is_out_of_range size ≡ false) × (used ≡ 4 + size)) (λ _ e. cc)
    (λ inside. cond_both (ltb available (4 + size)) More (frame_of text)
    (λ (f : PlainFrame). f ≡ Whole used request → (is_out_of_range size ≡ false) × (used ≡ 4 + size)) (λ _ e. cc)
    (λ long e.
    let enough : 4 + size ≤ available = ltb-false _ _ long in
    (inside, omega (arith, frame_used text used request e, exact enough))))

-- what is missing of a frame that is not whole is a byte at least, and the frame has no more than the longest
pub missing_some : (bytes : List ℕ) → first bytes ≡ More → (0 < missing bytes) × (length bytes + missing bytes ≤ greatest_frame)
unfolding missing
missing_some bytes waits =
    elim (cases_lt (length bytes) 4) [
      | inl short ↦ rw (lt-ltb _ _ short) (omega arith, omega arith)
      | inr long ↦
          let size : ℕ = u32_at 0 bytes in
          let text : List ℕ = part 4 size bytes in
          rw (le-ltb _ _ long)
          (cond_both (is_out_of_range size) (Fault 0) (cond (ltb (length bytes) (4 + size)) More (frame_of text))
          (λ (f : PlainFrame). f ≡ More → (0 < 4 + size - length bytes) × (length bytes + (4 + size - length bytes) ≤ greatest_frame)) (λ _ w. cc)
          (λ inside. cond_both (ltb (length bytes) (4 + size)) More (frame_of text)
          (λ (f : PlainFrame). f ≡ More → (0 < 4 + size - length bytes) × (length bytes + (4 + size - length bytes) ≤ greatest_frame))
          (λ short _.
          let least = in_range size inside in
          let fewer : length bytes < 4 + size = ltb-true _ _ short in
          (omega (arith, least), omega (arith, least)))
          (λ _ w. absurd (frame_waits text w)))
          (sym (first_long bytes long) ∙ waits))
    ]

-- a frame is whole with its last byte: no byte stands after it where no more came than were missing
pub whole_last : (bytes more : List ℕ) (used : ℕ) (request : PlainRequest) → first bytes ≡ More → length more ≤ missing bytes
    → first (bytes ++ more) ≡ Whole used request → used ≡ length (bytes ++ more)
unfolding missing
whole_last bytes more used request waits few whole =
    let all : List ℕ = bytes ++ more in
    let count : length all ≡ length bytes + length more = length-append bytes more in
    let takes : TakesBytes (Whole used request) (length all) = rw whole at (first_takes all) in
    let long : 4 ≤ length all = omega (arith, takes.0, takes.1) in
    let size : ℕ = u32_at 0 all in
    let found = sized_whole size (length all) (part 4 size all) used request
    (λ enough. length-take-le size (drop 4 all) (omega (arith, length-drop 4 all, enough))) (sym (first_long all long) ∙ whole) in
    elim (cases_lt (length bytes) 4) [
      | inl begins ↦
          let few' : length more ≤ 4 - length bytes = rw (lt-ltb _ _ begins) at few in
          absurd (omega (arith, count, takes.0, takes.1, few'))
      | inr full ↦
          let few' : length more ≤ 4 + u32_at 0 bytes - length bytes = rw (le-ltb _ _ full) at few in
          let same : size ≡ u32_at 0 bytes = number_stays bytes more full in
          let short = sized_waits (u32_at 0 bytes) (length bytes) (part 4 (u32_at 0 bytes) bytes) (rw same at found.0) (sym (first_long bytes full) ∙ waits) in
          omega (arith, count, takes.1, found.1, short, same, few')
    ]

-- a frame whose length is there and that is not whole
pub waiting_long : (bytes : List ℕ) (size : ℕ) → 4 ≤ length bytes → from_be_bytes w32 (take 4 bytes) ≡ size → first bytes ≡ More
    → (length bytes < 4 + size) × (4 + size ≤ greatest_frame)
unfolding missing u32_at
waiting_long bytes size long is waits =
    let some = missing_some bytes waits in
    let left : missing bytes ≡ 4 + size - length bytes = rw (le-ltb _ _ long) (ap (λ (n : ℕ). 4 + n - length bytes) is) in
    (omega (arith, some.0, left), omega (arith, some.1, some.0, left))
