-- The bytes of the texts that memory can hold are less than 2 ^ 128.
use Rattle.std.proofs.Common.{◌+◌, ◌^◌, ◌<◌, ◌≤◌, ℕ, List, length, get_or, sum_by, arith}
use Rattle.std.proofs.lemmas.List.Sums.{sum_by-le}
use Rattle.sysv_msg.specs.declared.message.Message.{Message}

text_is_short : (m : Message) → length m.text.items ≤ 2 ^ 63
text_is_short m =
    let is = m.text.ok.0 in
    let inside = m.text.ok.1 in
    let small = m.text.small in
    omega arith

-- of all texts and a further one
pub bytes_fit : (ms : List Message) (n : ℕ) → length ms < 2 ^ 64 → n < 2 ^ 64 → sum_by (λ m. length m.text.items) ms + n < 2 ^ 128
bytes_fit ms n few below =
    let most = sum_by-le (λ (m : Message). length m.text.items) (2 ^ 63) ms (λ k d h. text_is_short (get_or ms k d)) in
    omega arith
