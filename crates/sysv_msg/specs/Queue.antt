-- Message queues, after msgop(2). A queue is a list of messages, the oldest first. A send appends, a
-- receive removes the message that its type picks; a queue is full for a text with which it would hold
-- more bytes, or more messages, than its qbytes, or more messages than a queue may have at all.
use Rattle.std.specs.Prelude.{ℕ, suc, ◌+◌, nat_lt, ℤ, pos, negsuc, zero, int_le, Option}
use Rattle.std.specs.Prelude.{Bool, true, not, ◌&&◌, ◌||◌, if◌then◌else◌}
use Rattle.std.specs.Prelude.{List, [], ◌∷◌, ◌++◌, length, remove, position, sum_by}
use Rattle.std.specs.List.{list_all}
use Rattle.std.specs.Ordering.{int_eq}
use Rattle.ipc_limits.specs.Limits.{exceeds}
use Rattle.sysv_msg.specs.declared.message.Message.{Message}
use Rattle.sysv_msg.specs.declared.queue.QueueStat.{QueueStat}
use Rattle.sysv_msg.specs.declared.queue.QueueNumbers.{QueueNumbers}

-- a message as a value: its type and the bytes of its text
pub record PlainMessage : Type 0 where
  pub mtype : ℤ
  pub text : List ℕ

-- what a program's message says
abbrev pub plain : Message → PlainMessage
plain m = record { mtype = m.mtype; text = m.text.items }

-- the messages, the oldest first; the most bytes; when the last send and the last receive were, and the last
-- change; who sent and received last
pub record Queue : Type 0 where
  pub messages : List PlainMessage
  pub qbytes : ℕ
  pub stime : ℕ
  pub rtime : ℕ
  pub ctime : ℕ
  pub lspid : ℕ
  pub lrpid : ℕ

-- no message has a lower type than this one
abbrev pub is_of_least_type : List PlainMessage → PlainMessage → Bool
is_of_least_type messages m = list_all (λ other. int_le m.mtype other.mtype) messages

-- Whether a receive of this type may take the message from these. Type 0 allows each; a type above 0 those of
-- the type, or with except those of another; a type below 0 those of the least type of all, if that is at most
-- the absolute value (negsuc n is -(n + 1), its absolute value n + 1).
abbrev pub is_allowed : List PlainMessage → ℤ → Bool → PlainMessage → Bool
is_allowed messages (pos zero) except m = true
is_allowed messages (pos (suc n)) except m =
    if except then not (int_eq m.mtype (pos (suc n))) else int_eq m.mtype (pos (suc n))
is_allowed messages (negsuc n) except m = int_le m.mtype (pos (suc n)) && is_of_least_type messages m

-- the position of the first allowed message
abbrev pub pick : List PlainMessage → ℤ → Bool → Option ℕ
pick messages type except = position (is_allowed messages type except) messages

-- whether a receive of this type would take a message of that type if it were the only one
abbrev pub is_sought : ℤ → Bool → ℤ → Bool
is_sought (pos zero) except mtype = true
is_sought (pos (suc n)) except mtype = if except then not (int_eq mtype (pos (suc n))) else int_eq mtype (pos (suc n))
is_sought (negsuc n) except mtype = int_le mtype (pos (suc n))

-- how many bytes of text there are
abbrev pub byte_count : List PlainMessage → ℕ
byte_count messages = sum_by (λ m. length m.text) messages

-- with a further text of so many bytes, the bytes or the messages would be more than qbytes, or the messages more than
-- any queue may have, if there is such a limit
abbrev pub full : Option ℕ → Queue → ℕ → Bool
full most q bytes =
    nat_lt q.qbytes (byte_count q.messages + bytes) || nat_lt q.qbytes (length q.messages + 1)
    || exceeds (length q.messages + 1) most

-- a queue never holds more messages than this; the memory of their places is taken when the queue is made
abbrev pub most_messages : ℕ
most_messages = 65536

abbrev pub new_queue : ℕ → ℕ → Queue
new_queue qbytes ctime =
    record { messages = []; qbytes = qbytes; stime = 0; rtime = 0; ctime = ctime; lspid = 0; lrpid = 0 }

-- a queue without messages that has these numbers
abbrev pub empty_queue : QueueNumbers → Queue
empty_queue n =
    record {
      messages = [];
      qbytes = n.qbytes;
      stime = n.stime.0;
      rtime = n.rtime.0;
      ctime = n.ctime.0;
      lspid = n.lspid.0;
      lrpid = n.lrpid.0;
    }

-- the queue with a message more, the newest; all else stays
abbrev pub with_message : Queue → PlainMessage → Queue
with_message q m = record q { messages = q.messages ++ m ∷ [] }

-- the queue after this process sent the message at this moment
abbrev pub sent : Queue → PlainMessage → ℕ → ℕ → Queue
sent q m pid moment = record q { messages = q.messages ++ m ∷ []; lspid = pid; stime = moment }

-- the queue after this process received the message at this position at this moment
abbrev pub taken : Queue → ℕ → ℕ → ℕ → Queue
taken q at pid moment = record q { messages = remove q.messages at; lrpid = pid; rtime = moment }

-- the queue after msgctl(2) set at this moment how many bytes it may hold at most
abbrev pub changed : Queue → ℕ → ℕ → Queue
changed q qbytes moment = record q { qbytes = qbytes; ctime = moment }

-- the numbers of a queue that msgctl(2) tells
abbrev pub stat_of : Queue → QueueStat
stat_of q =
    record {
      qnum = length q.messages;
      bytes = byte_count q.messages;
      qbytes = q.qbytes;
      stime = record { 0 = q.stime };
      rtime = record { 0 = q.rtime };
      ctime = record { 0 = q.ctime };
      lspid = record { 0 = q.lspid };
      lrpid = record { 0 = q.lrpid };
    }
