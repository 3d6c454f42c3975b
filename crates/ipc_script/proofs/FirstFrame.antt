-- The length of a frame stands in its first four bytes.
use Rattle.std.proofs.Common.{◌≡◌, ℕ, ◌+◌, ◌≤◌, List, ◌++◌, length, take, refl, ap, ◌∙◌, arith}
use Rattle.std.specs.Int.{w32, to_be_bytes, from_be_bytes}
use Rattle.std.proofs.lemmas.Nat.{from_be_bytes-to_be_bytes_4}
use Rattle.ipc_wire.specs.Reply.{PlainReply, reply_bytes, body_bytes}
use Rattle.ipc_wire.proofs.CallerLemmas.{length-reply_bytes}
use Rattle.ipc_hub.specs.Relations.Matches.{IsFrame}

reply_head : (r : PlainReply) (rest : List ℕ) → take 4 (reply_bytes r ++ rest) ≡ to_be_bytes w32 (6 + length (body_bytes r.body))
unfolding reply_bytes
reply_head r rest = refl

pub frame_length : (frame rest output : List ℕ) → IsFrame frame → output ≡ frame ++ rest → (4 ≤ length frame)
    × (from_be_bytes w32 (take 4 output) + 4 ≡ length frame)
frame_length frame rest output f e =
    let r = f.0 in
    let is : frame ≡ reply_bytes r = f.1.0 in
    let long : length frame ≡ 10 + length (body_bytes r.body) = ap length is ∙ length-reply_bytes r in
    let head : take 4 output ≡ to_be_bytes w32 (6 + length (body_bytes r.body)) = ap (take 4) (e ∙ ap (λ (bs : List ℕ). bs ++ rest) is) ∙ reply_head r rest in
    let value : from_be_bytes w32 (take 4 output) ≡ 6 + length (body_bytes r.body) = ap (from_be_bytes w32) head ∙ from_be_bytes-to_be_bytes_4 _ f.1.1 in
    (omega arith, omega arith)
