-- How it is told whether what was read is sound: a test for each part of soundness.
use Rattle.std.specs.Prelude.{ℕ, pos, Bool, not, ◌&&◌, length, nat_eq, nat_le, nat_lt, int_lt, Option, Some, None}
use Rattle.std.specs.List.{list_all}
use Rattle.ipc_limits.specs.declared.limits.Limits.{Limits}
use Rattle.ipc_limits.specs.Limits.{exceeds, message_limit}
use Rattle.posix_mq.specs.Queue.{Queue as Mq, PlainMessage as MqMessage}
use Rattle.sysv_msg.specs.Queue.{Queue, PlainMessage, byte_count}

-- the key of an object names it, by the number that it names; or it names none
abbrev pub is_named : Option ℕ → Bool → ℕ → Bool
is_named (Some n) none number = nat_eq n number
is_named None none number = none

abbrev pub is_sound_message : Limits → PlainMessage → Bool
is_sound_message limits m = int_lt (pos 0) m.mtype && nat_le (length m.text) limits.msgmax

abbrev pub is_sound_msg_queue : Limits → Queue → Bool
is_sound_msg_queue limits q =
    nat_le (byte_count q.messages) limits.msgmnb && (nat_le (length q.messages) limits.msgmnb
    && (not (exceeds (length q.messages) (message_limit limits))
    && (nat_le q.qbytes limits.msgmnb && list_all (is_sound_message limits) q.messages)))

abbrev pub is_sound_mq_message : ℕ → MqMessage → Bool
is_sound_mq_message msgsize m = nat_lt m.priority 32768 && nat_le (length m.text) msgsize

abbrev pub is_sound_mq : Limits → Mq → Bool
is_sound_mq limits q =
    nat_lt 0 q.maxmsg && (nat_le q.maxmsg limits.maxmsg && (nat_lt 0 q.msgsize && (nat_le q.msgsize limits.msgsize
    && (nat_le (length q.messages) q.maxmsg && list_all (is_sound_mq_message q.msgsize) q.messages))))
