-- The limits: each at least 1 and at most a greatest value, a message no longer than a queue, a set no larger than all
-- sets, a System V segment no longer than all of them. What is greatest differs by the version of a device. The version
-- stands with the limits, since some rules hold on version 3 alone, and so do the sectors of its journal, by which a
-- device is laid out.
use Rattle.std.specs.Prelude.{◌≡◌, ℕ, ◌+◌, ◌*◌, max, Bool, false, not, List, [], ◌∷◌, nat_le, nat_lt, ◌&&◌, position}
use Rattle.std.specs.Prelude.{Option, Some, None, if◌then◌else◌}
use Rattle.ipc_limits.specs.declared.limits.Limits.{Limits}

-- of version 2
abbrev pub standard_limits : Limits
standard_limits =
    record {
      version = 2;
      journal = 257;
      processes = 64;
      msgmni = 64;
      msgmax = 65536;
      msgmnb = 65536;
      semmni = 32;
      semmsl = 64;
      semmns = 512;
      semopm = 32;
      queues = 32;
      maxmsg = 10;
      msgsize = 8192;
      named_semaphores = 64;
      segments = 32;
      segment_bytes = 1048576;
      call_bytes = 8192;
      descriptors = 32;
      shmmni = 32;
      shmmax = 1048576;
      shmall = 1048576;
      msgqlen = 1;
      semume = 1;
      queue_bytes = 1;
    }

abbrev pub small_limits : Limits
small_limits =
    record {
      version = 2;
      journal = 257;
      processes = 4;
      msgmni = 2;
      msgmax = 64;
      msgmnb = 128;
      semmni = 2;
      semmsl = 4;
      semmns = 8;
      semopm = 4;
      queues = 2;
      maxmsg = 2;
      msgsize = 64;
      named_semaphores = 2;
      segments = 2;
      segment_bytes = 2048;
      call_bytes = 64;
      descriptors = 4;
      shmmni = 2;
      shmmax = 1024;
      shmall = 2048;
      msgqlen = 1;
      semume = 1;
      queue_bytes = 1;
    }

-- of version 3
abbrev pub standard_of_three : Limits
standard_of_three = record standard_limits { version = 3; msgqlen = 4096; semume = 512; queue_bytes = 2624000 }

abbrev pub small_of_three : Limits
small_of_three = record small_limits { version = 3; msgqlen = 8; semume = 4; queue_bytes = 288 }

-- whether the rules of version 3 hold
abbrev pub has_rules_of_three : Limits → Bool
has_rules_of_three l = nat_le 3 l.version

-- The last three fields are limits on version 3 alone. Versions 1 and 2 have no such limit, whatever the field is.
abbrev pub if_of_three : Limits → ℕ → Option ℕ
if_of_three l most = if has_rules_of_three l then Some most else None

-- the most messages of one System V queue
abbrev pub message_limit : Limits → Option ℕ
message_limit l = if_of_three l l.msgqlen

-- the most nonzero adjustments of one process
abbrev pub adjustment_limit : Limits → Option ℕ
adjustment_limit l = if_of_three l l.semume

-- the most bytes of all POSIX queues
abbrev pub queue_bytes_limit : Limits → Option ℕ
queue_bytes_limit l = if_of_three l l.queue_bytes

-- whether a count is more than a limit allows; if there is no limit, none is
abbrev pub exceeds : ℕ → Option ℕ → Bool
exceeds count None = false
exceeds count (Some most) = nat_lt most count

-- The greatest values that any device may have, whatever its version. The memory of a queue's messages, of a process's
-- adjustments and descriptors, and of a new segment is taken for the same number under any limits. So msgmnb, maxmsg,
-- semmns, descriptors, segment_bytes and shmmax are that number.
abbrev pub greatest_limits : Limits
greatest_limits =
    record {
      version = 3;
      journal = 65535;
      processes = 4096;
      msgmni = 32768;
      msgmax = 65536;
      msgmnb = 65536;
      semmni = 32768;
      semmsl = 64;
      semmns = 512;
      semopm = 32;
      queues = 32768;
      maxmsg = 10;
      msgsize = 65536;
      named_semaphores = 32768;
      segments = 32768;
      segment_bytes = 1048576;
      call_bytes = 65536;
      descriptors = 32;
      shmmni = 32768;
      shmmax = 1048576;
      shmall = 536870912;
      msgqlen = 65536;
      semume = 16384;
      queue_bytes = 536870912;
    }

abbrev pub is_within : ℕ → ℕ → Bool
is_within value most = nat_le 1 value && nat_le value most

-- whether each field passes where these are the greatest values, in the order of the fields; version and journal are
-- not tested
abbrev pub tests : Limits → Limits → List Bool
tests most l =
    is_within l.processes most.processes
    ∷ is_within l.msgmni most.msgmni
    ∷ (is_within l.msgmax most.msgmax && nat_le l.msgmax l.msgmnb)
    ∷ is_within l.msgmnb most.msgmnb
    ∷ is_within l.semmni most.semmni
    ∷ (is_within l.semmsl most.semmsl && nat_le l.semmsl l.semmns)
    ∷ is_within l.semmns most.semmns
    ∷ is_within l.semopm most.semopm
    ∷ is_within l.queues most.queues
    ∷ is_within l.maxmsg most.maxmsg
    ∷ is_within l.msgsize most.msgsize
    ∷ is_within l.named_semaphores most.named_semaphores
    ∷ is_within l.segments most.segments
    ∷ is_within l.segment_bytes most.segment_bytes
    ∷ is_within l.call_bytes most.call_bytes
    ∷ is_within l.descriptors most.descriptors
    ∷ is_within l.shmmni most.shmmni
    ∷ (is_within l.shmmax most.shmmax && nat_le l.shmmax l.shmall)
    ∷ is_within l.shmall most.shmall
    ∷ is_within l.msgqlen most.msgqlen
    ∷ is_within l.semume most.semume
    ∷ is_within l.queue_bytes most.queue_bytes
    ∷ []

-- each field passes
abbrev pub AreWithin : Limits → Limits → Type 0
AreWithin most l = position not (tests most l) ≡ None

-- each passes where the greatest values are those of any device
abbrev pub ArePassed : Limits → Type 0
ArePassed l = AreWithin greatest_limits l

-- The longest body of a reply: the record that msgctl(2) gives of a queue, a message with its type, the values of a
-- semaphore set, a POSIX message with its priority, or the bytes of a segment that one call reads.
abbrev pub longest_body : Limits → ℕ
longest_body l = max 68 (max (8 + l.msgmax) (max (2 * l.semmsl) (max (4 + l.msgsize) l.call_bytes)))

-- the longest reply: before the body come its length, the serial and the error number
abbrev pub longest_reply : Limits → ℕ
longest_reply l = 10 + longest_body l
