use Rattle.std.proofs.Common.{◌≡◌, ◌≤◌, ℕ, false, nat_le, List, length, Option, Some, None, [], refl, sym, true≢false, arith}
use Rattle.std.specs.List.{remove}
use Rattle.std.specs.Option.{IsSome, option_map_or}
use Rattle.std.proofs.lemmas.Bool.Decides.{nat_tests}
use Rattle.std.proofs.lemmas.List.Edits.{length-remove}
use Rattle.std.proofs.lemmas.List.Quantifiers.{position-Some}
use Rattle.posix_mq.specs.Queue.{PlainMessage, is_of_greatest_priority, next_to_receive}
use Rattle.posix_mq.proofs.Priorities.{next-some}
use Rattle.posix_mq.proofs.laws.received_leaves_a_place.Goals as goal

place_left : (most : ℕ) (ms : List PlainMessage) (next : Option ℕ) → next_to_receive ms ≡ next → IsSome next → (d : PlainMessage)
    → length ms ≤ most → nat_le most (length (option_map_or (remove ms) next ms)) ≡ false
place_left most ms None is some d within = absurd (true≢false (sym some))
place_left most ms (Some at) is some d within =
    let inside = (position-Some (is_of_greatest_priority ms) ms at d is).0 in
    let shorter = length-remove ms at inside in
    grind (arith, nat_tests)

pub returns : goal.returns
returns c q some within =
    place_left q.maxmsg q.messages (next_to_receive q.messages) refl (next-some q.messages some) (record { priority = 0; text = [] }) within
