-- What the crates above cite of streams, requests, replies and numbers of two bytes.
use Rattle.std.proofs.Common.{◌≡◌, ℕ, refl, ◌+◌, ◌/◌, ◌≤◌, ◌<◌, List, [], ◌++◌, length, take, drop, Some, sym, ap, subst, ◌∙◌, arith}
use Rattle.std.proofs.lemmas.List.{append-nil, length-take-le}
use Rattle.ipc_base.proofs.CallerLemmas.{AreBytes}
use Rattle.ipc_wire.specs.Values.{numbers_in}
use Rattle.ipc_wire.specs.Reply.{PlainReply, body_bytes, reply_bytes}
use Rattle.ipc_wire.specs.Sizes.{greatest_frame}
use Rattle.ipc_wire.specs.Request.{PlainRequest}
use Rattle.ipc_wire.specs.Spelling.{HasFrame, fields_of, frame, request_bytes}
use Rattle.ipc_wire.specs.Stream.{PlainFrame, TakesBytes, first, missing, frame_of, begins_with, stream_of, continued}
use Rattle.ipc_wire.specs.Stream.PlainFrame.{More, Whole}
use Rattle.ipc_wire.proofs.Frames as frames
use Rattle.ipc_wire.proofs.PairNumbers as pairs
use Rattle.ipc_wire.proofs.Read as read
use Rattle.ipc_wire.proofs.Spellings as spellings
use Rattle.ipc_wire.proofs.Streams as streams

-- fewer than four bytes are no whole frame
pub first_short : (bytes : List ℕ) → length bytes < 4 → first bytes ≡ More
first_short = frames.first_short

-- a frame that is not whole misses a byte at least, and has no more than the longest
pub missing_some : (bytes : List ℕ) → first bytes ≡ More → (0 < missing bytes) × (length bytes + missing bytes ≤ greatest_frame)
missing_some = frames.missing_some

-- no byte stands after a frame that became whole with bytes of which no more came than were missing
pub whole_last : (bytes more : List ℕ) (used : ℕ) (request : PlainRequest) → first bytes ≡ More → length more ≤ missing bytes
    → first (bytes ++ more) ≡ Whole used request → used ≡ length (bytes ++ more)
whole_last = frames.whole_last

-- a request that stands at the front of bytes is the whole of as many of them
pub whole_alone : (bytes : List ℕ) (used : ℕ) (request : PlainRequest) → AreBytes bytes → first bytes ≡ Whole used request
    → first (take used bytes) ≡ Whole used request
whole_alone bytes used request fits e =
    let back = read.request_back bytes used request fits e in
    let spelled : take used bytes ≡ frame request = back.0 in
    let takes : used ≤ length bytes = (subst (λ (f : PlainFrame). TakesBytes f (length bytes)) e (frames.first_takes bytes)).1 in
    let long : length (frame request) ≡ used = omega (arith, ap length spelled, length-take-le used bytes takes) in
    ap first (spelled ∙ sym (append-nil (frame request))) ∙ spellings.request_again request [] back.1
    ∙ ap (λ (n : ℕ). Whole n request) long

-- a request takes at least nine bytes, and no more than there are
pub first_takes : (bytes : List ℕ) → TakesBytes (first bytes) (length bytes)
first_takes = frames.first_takes

-- a stream is its first frame and the stream after it
pub stream_step : (bytes : List ℕ) → stream_of bytes ≡ begins_with (first bytes) bytes (λ used. stream_of (drop used bytes))
stream_step = streams.stream_step

-- a stream whose first frame is known
pub stream_begun : (bytes : List ℕ) (f : PlainFrame) → first bytes ≡ f → stream_of bytes ≡ begins_with f bytes (λ used. stream_of (drop used bytes))
stream_begun bytes f e = streams.stream_step bytes ∙ ap (λ (g : PlainFrame). begins_with g bytes (λ used. stream_of (drop used bytes))) e

-- a stream in two pieces
pub stream_pieces : (bytes more : List ℕ) → stream_of (bytes ++ more) ≡ continued (stream_of bytes).requests (stream_of bytes).ending more
stream_pieces = streams.pieces

-- the bytes of a reply are ten and its body
pub length-reply_bytes : (r : PlainReply) → length (reply_bytes r) ≡ 10 + length (body_bytes r.body)
unfolding reply_bytes
length-reply_bytes r = omega arith

-- no two requests have the same bytes
pub one_text : (request other : PlainRequest) → HasFrame request → HasFrame other → request_bytes request ≡ request_bytes other → Some request ≡ Some other
one_text = read.one_text

-- the bytes of a request are its frame without the length
pub framed : (r : PlainRequest) → HasFrame r → frame_of (request_bytes r) ≡ Whole (9 + length (fields_of r.kind)) r
framed r has = (read.request_text (request_bytes r) r has refl).whole

-- the numbers that bytes spell two by two are half as many as the bytes
pub numbers_count : (bytes : List ℕ) → length (numbers_in bytes) ≡ length bytes / 2
numbers_count = pairs.numbers_count
