-- The whole stream: by its first frame, and in pieces.
use Rattle.std.proofs.Common.{◌≡◌, ℕ, zero, suc, ◌≤◌, List, ◌∷◌, ◌++◌, length, drop, refl, sym, ap, ◌∙◌, arith}
use Rattle.std.proofs.lemmas.List.{length-drop, drop-append-le}
use Rattle.ipc_wire.specs.Request.{PlainRequest}
use Rattle.ipc_wire.specs.Stream.{PlainFrame, TakesBytes, first, Ending, Stream, begins_with, stream_within, stream_of, continued}
use Rattle.ipc_wire.specs.Stream.PlainFrame.{More, Whole, Fault}
use Rattle.ipc_wire.specs.Stream.Ending.{Rest, Broken}
use Rattle.ipc_wire.proofs.Frames.{first_short, first_takes, whole_stays, fault_stays}

begins_same : (f : PlainFrame) (bytes : List ℕ) (a b : ℕ → Stream) → TakesBytes f (length bytes)
    → ((used : ℕ) → 9 ≤ used → used ≤ length bytes → a used ≡ b used) → begins_with f bytes a ≡ begins_with f bytes b
begins_same More bytes a b takes same = refl
begins_same (Fault serial) bytes a b takes same = refl
begins_same (Whole used request) bytes a b takes same = ap (λ (s : Stream). begins_with (Whole used request) bytes (λ _. s)) (same used takes.0 takes.1)

-- a larger bound gives no other stream
within_same : (m n : ℕ) (bytes : List ℕ) → length bytes ≤ m → length bytes ≤ n → stream_within m bytes ≡ stream_within n bytes
unfolding stream_within
within_same zero zero bytes p q = refl
within_same zero (suc n) bytes p q = rw (first_short bytes (omega arith)) refl
within_same (suc m) zero bytes p q = rw (first_short bytes (omega arith)) refl
within_same (suc m) (suc n) bytes p q =
    begins_same (first bytes) bytes (λ used. stream_within m (drop used bytes)) (λ used. stream_within n (drop used bytes)) (first_takes bytes)
    (λ used least most. within_same m n (drop used bytes) (omega (arith, length-drop used bytes)) (omega (arith, length-drop used bytes)))

pub stream_step : (bytes : List ℕ) → stream_of bytes ≡ begins_with (first bytes) bytes (λ used. stream_of (drop used bytes))
unfolding stream_of stream_within
stream_step bytes =
    within_same (length bytes) (suc (length bytes)) bytes (omega arith) (omega arith)
    ∙ begins_same (first bytes) bytes (λ used. stream_within (length bytes) (drop used bytes))
    (λ used. stream_within (length (drop used bytes)) (drop used bytes)) (first_takes bytes)
    (λ used least most. within_same (length bytes) (length (drop used bytes)) (drop used bytes) (omega (arith, length-drop used bytes)) (omega arith))

-- a stream of which the first frame is known
begun : (bytes : List ℕ) (f : PlainFrame) → first bytes ≡ f → stream_of bytes ≡ begins_with f bytes (λ used. stream_of (drop used bytes))
begun bytes f e = stream_step bytes ∙ ap (λ (g : PlainFrame). begins_with g bytes (λ used. stream_of (drop used bytes))) e

abbrev continued_by : Stream → List ℕ → Stream
continued_by s more = continued s.requests s.ending more

abbrev in_front : PlainRequest → Stream → Stream
in_front r s = record { requests = r ∷ s.requests; ending = s.ending }

continued_front : (r : PlainRequest) (requests : List PlainRequest) (ending : Ending) (more : List ℕ)
    → continued (r ∷ requests) ending more ≡ in_front r (continued requests ending more)
continued_front r requests (Rest bytes) more = refl
continued_front r requests (Broken serial) more = refl

pieces_by : (n : ℕ) (bytes more : List ℕ) (f : PlainFrame) → length bytes ≤ n → first bytes ≡ f → stream_of (bytes ++ more)
    ≡ continued_by (stream_of bytes) more
pieces_by n bytes more More le e = sym (ap (λ (s : Stream). continued_by s more) (begun bytes More e))
pieces_by n bytes more (Fault serial) le e =
    begun (bytes ++ more) (Fault serial) (fault_stays bytes more serial e) ∙ sym (ap (λ (s : Stream). continued_by s more) (begun bytes (Fault serial) e))
pieces_by zero bytes more (Whole used request) le e =
    let takes : TakesBytes (Whole used request) (length bytes) = rw e at (first_takes bytes) in
    absurd (omega (arith, takes.0, takes.1))
pieces_by (suc n) bytes more (Whole used request) le e =
    let takes : TakesBytes (Whole used request) (length bytes) = rw e at (first_takes bytes) in
    let beyond = pieces_by n (drop used bytes) more (first (drop used bytes)) (omega (arith, takes.0, length-drop used bytes)) refl in
    begun (bytes ++ more) (Whole used request) (whole_stays bytes more used request e)
    ∙ ap (λ (x : List ℕ). in_front request (stream_of x)) (drop-append-le used bytes more takes.1)
    ∙ ap (in_front request) beyond
    ∙ sym (continued_front request (stream_of (drop used bytes)).requests (stream_of (drop used bytes)).ending more)
    ∙ sym (ap (λ (s : Stream). continued_by s more) (begun bytes (Whole used request) e))

pub pieces : (bytes more : List ℕ) → stream_of (bytes ++ more) ≡ continued (stream_of bytes).requests (stream_of bytes).ending more
pieces bytes more = pieces_by (length bytes) bytes more (first bytes) (omega arith) refl
