-- Message queues stay sound as they change, and how it is told whether they are.
use Rattle.std.proofs.Common.{◌≡◌, ℕ, suc, pos, ◌+◌, ◌<◌, ◌≤◌, Bool, true, false, not, [], length, refl, arith}
use Rattle.std.specs.Prelude.{nat_lt, nat_le, int_lt, ◌||◌, remove}
use Rattle.std.specs.Bool.{Decides}
use Rattle.std.specs.List.{list_all}
use Rattle.std.proofs.lemmas.Bool.{leb-true, le-leb}
use Rattle.std.proofs.lemmas.Bool.Decides.{nat_tests, Decides-by_and, Decides-and}
use Rattle.std.proofs.lemmas.List.{length-append}
use Rattle.std.proofs.lemmas.List.Elements.{All-nil, All-push, All-append, All-take, All-drop}
use Rattle.std.proofs.lemmas.List.Edits.{length-remove}
use Rattle.std.proofs.lemmas.List.Sums.{sum_by-append, sum_by-remove}
use Rattle.ipc_limits.specs.declared.limits.Limits.{Limits}
use Rattle.ipc_limits.specs.Limits.{ArePassed, exceeds, message_limit}
use Rattle.ipc_limits.proofs.CallerLemmas.{passed-bounds, exceeds-less}
use Rattle.sysv_msg.specs.Queue.{Queue, PlainMessage, new_queue, full, byte_count, sent, taken, changed}
use Rattle.ipc_state.specs.Sound.{IsSoundMessage, IsSoundMsgQueue, HasNumbers}
use Rattle.ipc_state.specs.Tests.{is_sound_message, is_sound_msg_queue}
use Rattle.ipc_state.proofs.Numbering.{neither, none-exceeds}

-- a test that fails
pub not-decides : (b : Bool) → Decides (not b) (b ≡ false)
not-decides true = (λ no. cc, λ no. cc)
not-decides false = (λ yes. refl, λ is. refl)

module _ (limits : Limits) where
  pub new_queue-sound : (moment : ℕ) → IsSoundMsgQueue limits (new_queue limits.msgmnb moment)
  new_queue-sound moment =
      record { bytes = omega arith; count = omega arith; limit = none-exceeds (message_limit limits); qbytes = omega arith; messages = All-nil _ }

  -- under limits that were checked
  pub queue-numbers : (q : Queue) → ArePassed limits → IsSoundMsgQueue limits q → HasNumbers q
  queue-numbers q passed h =
      let b = passed-bounds limits passed in
      record { bytes = omega (arith, h.bytes, b.msgmnb); count = omega (arith, h.count, b.msgmnb); qbytes = omega (arith, h.qbytes, b.msgmnb) }

  pub sent-sound : (q : Queue) (m : PlainMessage) (pid moment : ℕ) → full (message_limit limits) q (length m.text) ≡ false → IsSoundMessage limits m
      → IsSoundMsgQueue limits q → IsSoundMsgQueue limits (sent q m pid moment)
  sent-sound q m pid moment fits good h =
      let all = neither (nat_lt q.qbytes (byte_count q.messages + length m.text) || nat_lt q.qbytes (length q.messages + 1))
      (exceeds (length q.messages + 1) (message_limit limits)) fits in
      let both = neither (nat_lt q.qbytes (byte_count q.messages + length m.text)) (nat_lt q.qbytes (length q.messages + 1)) all.0 in
      let bytes : byte_count q.messages + length m.text ≤ q.qbytes = grind (arith, nat_tests) in
      let count : length q.messages + 1 ≤ q.qbytes = grind (arith, nat_tests) in
      record {
        bytes = rw sum_by-append (omega arith);
        count = rw length-append (omega arith);
        limit = rw length-append all.1;
        qbytes = h.qbytes;
        messages = All-push (IsSoundMessage limits) q.messages m h.messages good;
      }

  pub taken-sound : (q : Queue) (at pid moment : ℕ) → at < length q.messages → IsSoundMsgQueue limits q → IsSoundMsgQueue limits (taken q at pid moment)
  taken-sound q at pid moment inside h =
      let fewer = sum_by-remove (λ (m : PlainMessage). length m.text) q.messages at (record { mtype = pos 0; text = [] }) inside in
      let shorter = length-remove q.messages at inside in
      let P : PlainMessage → Type 0 = IsSoundMessage limits in
      record {
        bytes = omega arith;
        count = omega arith;
        limit = exceeds-less (length (remove q.messages at)) (length q.messages) (message_limit limits) (omega arith) h.limit;
        qbytes = h.qbytes;
        messages = All-append P _ _ (All-take P at q.messages h.messages) (All-drop P (suc at) q.messages h.messages);
      }

  pub changed-sound : (q : Queue) (qbytes moment : ℕ) → qbytes ≤ limits.msgmnb → IsSoundMsgQueue limits q → IsSoundMsgQueue limits (changed q qbytes moment)
  changed-sound q qbytes moment within h = record { bytes = h.bytes; count = h.count; limit = h.limit; qbytes = within; messages = h.messages }

  -- ---- how it is told

  message-decides : (m : PlainMessage) → Decides (is_sound_message limits m) (IsSoundMessage limits m)
  message-decides m =
      let both = Decides-and (int_lt (pos 0) m.mtype) (nat_le (length m.text) limits.msgmax) (λ yes. yes, λ yes. yes) (leb-true _ _, le-leb _ _) in
      (λ yes. let h = both.0 yes in record { above = h.0; short = h.1 }, λ h. both.1 (h.above, h.short))

  pub queue-decides : (q : Queue) → Decides (is_sound_msg_queue limits q) (IsSoundMsgQueue limits q)
  queue-decides q =
      let messages = Decides-by_and (is_sound_message limits) (IsSoundMessage limits) (list_all (is_sound_message limits)) message-decides refl
      (λ _ _. refl) q.messages in
      let most : (n : ℕ) → Decides (nat_le n limits.msgmnb) (n ≤ limits.msgmnb) = (λ n. (leb-true n limits.msgmnb, le-leb n limits.msgmnb)) in
      let limit = not-decides (exceeds (length q.messages) (message_limit limits)) in
      let all = Decides-and _ _ (most (byte_count q.messages)) (Decides-and _ _ (most (length q.messages)) (Decides-and _ _ limit
      (Decides-and _ _ (most q.qbytes) messages))) in (
        λ yes. let h = all.0 yes in record { bytes = h.0; count = h.1.0; limit = h.1.1.0; qbytes = h.1.1.1.0; messages = h.1.1.1.1 },
        λ h. all.1 (h.bytes, (h.count, (h.limit, (h.qbytes, h.messages)))),
      )
