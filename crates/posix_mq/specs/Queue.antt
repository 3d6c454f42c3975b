-- POSIX message queues, after mq_overview(7). A queue is a list of messages in the order in which they came. A send
-- appends one, if there are fewer than maxmsg; a receive removes the oldest of those of the greatest priority. At most
-- one process is registered, to be told when a message comes (mq_notify(3)).
use Rattle.std.specs.Prelude.{ℕ, nat_le, Bool, List, [], ◌∷◌, ◌++◌, length, remove, position, slice_get}
use Rattle.std.specs.Prelude.{Option, Some, None, option_and_then}
use Rattle.std.specs.List.{list_all}
use Rattle.std.specs.Option.{option_map_or}
use Rattle.posix_mq.specs.declared.message.Message.{Message}
use Rattle.posix_mq.specs.declared.queue.MqAttr.{MqAttr}
use Rattle.posix_mq.specs.declared.queue.Registration.{Registration}

-- a message as a value: its priority and the bytes of its text
pub record PlainMessage : Type 0 where
  pub priority : ℕ
  pub text : List ℕ

-- what a program's message says
abbrev pub plain : Message → PlainMessage
plain m = record { priority = m.priority; text = m.text.items }

-- the messages, the oldest first; the most messages; the most bytes of a text; who is registered, if anyone is
pub record Queue : Type 0 where
  pub messages : List PlainMessage
  pub maxmsg : ℕ
  pub msgsize : ℕ
  pub registration : Option Registration

-- no message has a greater priority than this one
abbrev pub is_of_greatest_priority : List PlainMessage → PlainMessage → Bool
is_of_greatest_priority messages m = list_all (λ other. nat_le other.priority m.priority) messages

-- the position of the message that a receive takes: the first of the greatest priority; none without messages
abbrev pub next_to_receive : List PlainMessage → Option ℕ
next_to_receive messages = position (is_of_greatest_priority messages) messages

-- under any limits a queue never holds more messages than this; the memory of their places is taken when it is made
abbrev pub most_messages : ℕ
most_messages = 10

-- there are maxmsg messages or more
abbrev pub is_full : Queue → Bool
is_full q = nat_le q.maxmsg (length q.messages)

-- a queue without messages
abbrev pub empty_queue : ℕ → ℕ → Option Registration → Queue
empty_queue maxmsg msgsize registration =
    record { messages = []; maxmsg = maxmsg; msgsize = msgsize; registration = registration }

-- the queue with a message more, the newest; all else stays
abbrev pub with_message : Queue → PlainMessage → Queue
with_message q m = record q { messages = q.messages ++ m ∷ [] }

-- the message that a receive takes
abbrev pub received_message : Queue → Option PlainMessage
received_message q = option_and_then (slice_get q.messages) (next_to_receive q.messages)

-- the queue after a receive took its message; all else stays
abbrev pub received : Queue → Queue
received q = record q { messages = option_map_or (remove q.messages) (next_to_receive q.messages) q.messages }

-- the queue with this registration; all else stays
abbrev pub registered : Queue → Registration → Queue
registered q registration = record q { registration = Some registration }

-- the queue without a registration; all else stays
abbrev pub deregistered : Queue → Queue
deregistered q = record q { registration = None }

-- what mq_getattr(3) tells of a queue
abbrev pub attr_of : Queue → MqAttr
attr_of q = record { maxmsg = q.maxmsg; msgsize = q.msgsize; curmsgs = length q.messages }
