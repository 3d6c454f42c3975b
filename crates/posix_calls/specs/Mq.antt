-- The calls of POSIX message queues (mq_overview(7)) and close(2), in this server's profile. Refusals stand in the
-- order in which they are tested. A call that cannot go on waits, and is tried again by all rules of a new one.
use Rattle.std.specs.Prelude.{ℕ, ◌+◌, ℤ, pos, Bool, false, not, ◌&&◌, ◌||◌, ◌==◌, if◌then◌else◌, List, [], ◌∷◌}
use Rattle.std.specs.Prelude.{length, min, nat_lt, Option, Some, None, option_map, is_some, unwrap_or, Ok, Err}
use Rattle.std.specs.Int.RustNames.{bit_and}
use Rattle.ipc_base.specs.declared.errno.Errno.TheVariants.{EAGAIN, EBADF, EBUSY, EINVAL, EMFILE, EMSGSIZE}
use Rattle.ipc_base.specs.declared.errno.Errno.TheVariants.{ENOSPC}
use Rattle.ipc_base.specs.declared.field.Field.{Field}
use Rattle.ipc_base.specs.declared.field.Field.TheVariants.{U32}
use Rattle.ipc_base.specs.declared.identity.Cred.{Cred}
use Rattle.ipc_limits.specs.declared.limits.Limits.{Limits}
use Rattle.ipc_base.specs.Numbers.{record_bytes}
use Rattle.ipc_keys.specs.declared.check.NameKind.TheVariants as names
use Rattle.ipc_wire.specs.declared.reply.Body.TheVariants.{Empty, MqMessage, Record}
use Rattle.ipc_wire.specs.Reply.{PlainBody}
use Rattle.posix_mq.specs.Queue.{Queue as Mq, PlainMessage, empty_queue, is_full as is_full_mq, with_message}
use Rattle.posix_mq.specs.Queue.{received, received_message, registered, deregistered}
use Rattle.posix_mq.specs.declared.queue.Registration.{Registration}
use Rattle.ipc_state.specs.Opening.{opened_as}
use Rattle.ipc_state.specs.State.{State, bytes_of_mq, closed, has_all_descriptors, has_all_mqs, has_all_mq_bytes}
use Rattle.ipc_state.specs.State.{receiver_waits}
use Rattle.ipc_state.specs.Touching.{is_segment, mq_object}
use Rattle.ipc_state.specs.State.{with_descriptor_flags, with_mq, with_new_mq}
use Rattle.ipc_state.specs.Finish.{Halt, Fails, Blocks, Attempt, Done, answer, answer_firing, refuse, stop, if_some}
use Rattle.ipc_state.specs.Finish.{◌orelse◌, ◌orstop◌, ◌>>◌, ◌>>=◌}
use Rattle.posix_calls.specs.Open.{has, nonblock, access_of, asked_by, reads, writes, proper}
use Rattle.posix_calls.specs.Open.{sought, usable, number_in, described, opens}

-- ---- a queue that is open

-- what a descriptor finds: its queue's number, the queue, and the descriptor's flags
pub record Found : Type 0 where
  pub number : ℕ
  pub queue : Mq
  pub flags : ℕ

-- the queue on which a descriptor of the process is open
abbrev pub open_mq : State → ℕ → ℕ → Attempt Found
open_mq s pid fd = do
  d ← described s pid fd
  n ← number_in names.Mq d.on orelse EBADF
  q ← mq_object s n orelse EBADF
  Ok (record { number = n; queue = q; flags = d.flags })

-- if it is open to read, or to write
abbrev pub open_to : (ℕ → Bool) → State → ℕ → ℕ → Attempt Found
open_to allows s pid fd = do
  found ← open_mq s pid fd
  refuse EBADF (not (allows found.flags))
  Ok found

-- what becomes of a call that cannot go on: it waits, or fails with O_NONBLOCK
abbrev pub waits_or_fails : ℕ → Halt
waits_or_fails flags = if has flags nonblock then Fails EAGAIN else Blocks

-- ---- mq_open(3), mq_close(3)

-- the flags that still mean something after the open: the access mode and O_NONBLOCK
abbrev pub kept_flags : ℕ → ℕ
kept_flags flags = bit_and flags 0o4003

-- a number of an open that is above 0 and within its limit
abbrev pub limited : ℕ → ℤ → Attempt ℕ
limited limit (pos n) = refuse EINVAL (n == 0 || nat_lt limit n) >> Ok n
limited limit _ = Err (Fails EINVAL)

-- what is asked for; the server's own number, if nothing is
abbrev pub asked_or : ℕ → ℕ → ℤ → ℤ
asked_or attr usual asked = if attr == 0 then pos usual else asked

-- the attributes of a new queue: the most messages, and the most bytes of one
abbrev pub attributes : Limits → ℕ → ℤ → ℤ → Attempt (ℕ × ℕ)
attributes limits attr maxmsg msgsize = do
  most ← limited limits.maxmsg (asked_or attr (min 10 limits.maxmsg) maxmsg)
  bytes ← limited limits.msgsize (asked_or attr (min 8192 limits.msgsize) msgsize)
  Ok (most, bytes)

-- the queue that the name names
abbrev pub opened_mq : State → Cred → ℕ → ℕ → ℕ → Attempt Done
opened_mq s cred pid flags n = do
  e ← usable s.mq cred n (asked_by flags)
  opens s pid (kept_flags flags) (opened_as names.Mq n)

-- a new queue of the caller
abbrev pub made_mq : Limits → State → Cred → ℕ → ℕ → ℕ → ℕ → ℤ → ℤ → List ℕ → Attempt Done
made_mq limits s cred pid flags mode attr maxmsg msgsize name = do
  most ← attributes limits attr maxmsg msgsize
  refuse ENOSPC (has_all_mqs limits s)
  refuse ENOSPC (has_all_mq_bytes limits s (bytes_of_mq most.0 most.1))
  opens (with_new_mq s name cred mode (empty_queue most.0 most.1 None)) pid (kept_flags flags)
      (opened_as names.Mq s.mq.next)

-- mq_open(3): the queue that the name names, or a new one
abbrev pub mq_open : Limits → State → Cred → ℕ → ℕ → ℕ → ℕ → ℤ → ℤ → List ℕ → Attempt Done
mq_open limits s cred pid flags mode attr maxmsg msgsize name = do
  proper names.Mq name
  refuse EINVAL (access_of flags == 3)
  refuse EMFILE (has_all_descriptors limits s pid)
  found ← sought s.mq name flags
  if_some found (opened_mq s cred pid flags) (made_mq limits s cred pid flags mode attr maxmsg msgsize name)

-- close(2), and so mq_close(3); an attachment of a System V segment is no such descriptor
abbrev pub close : State → ℕ → ℕ → Attempt Done
close s pid fd = do
  d ← described s pid fd
  refuse EBADF (is_segment d.on.kind)
  answer (closed s pid fd) Empty

-- ---- mq_send(3)

-- the queue to which a message may be sent now
abbrev pub sendable : State → ℕ → ℕ → ℕ → List ℕ → Attempt Found
sendable s pid fd priority text = do
  refuse EINVAL (nat_lt 32767 priority)
  found ← open_to writes s pid fd
  refuse EMSGSIZE (nat_lt found.queue.msgsize (length text))
  stop (waits_or_fails found.flags) (is_full_mq found.queue)
  Ok found

-- somebody is to be told of a message that comes to the queue: it has none, and no call waits to receive it
abbrev pub is_to_notify : State → ℕ → Mq → Bool
is_to_notify s n q = length q.messages == 0 && not (receiver_waits s n)

-- the queue has one message more; a registration that is told of it is gone
abbrev pub arrived : Bool → Mq → PlainMessage → Mq
arrived notifies q m = if notifies then deregistered (with_message q m) else with_message q m

-- whom a frame is sent; none is to a null registration
abbrev pub notified : Option Registration → Option Registration
notified None = None
notified (Some r) = if r.sends then Some r else None

-- which registration fires
abbrev pub firing : Bool → Mq → Option Registration
firing notifies q = if notifies then notified q.registration else None

-- mq_send(3)
abbrev pub mq_send : State → ℕ → ℕ → ℕ → List ℕ → Attempt Done
mq_send s pid fd priority text = do
  found ← sendable s pid fd priority text
  let q = found.queue
  let notifies = is_to_notify s found.number q
  answer_firing (with_mq s found.number (arrived notifies q (record { priority = priority; text = text }))) Empty
      (firing notifies q)

-- ---- mq_receive(3)

-- the queue from which a message may be received now, and the message: the oldest of the greatest priority
abbrev pub receivable : State → ℕ → ℕ → ℕ → Attempt (Found × PlainMessage)
receivable s pid fd size = do
  found ← open_to reads s pid fd
  refuse EMSGSIZE (nat_lt size found.queue.msgsize)
  m ← received_message found.queue orstop waits_or_fails found.flags
  Ok (found, m)

-- a message as a reply has it
abbrev pub message_body : PlainMessage → PlainBody
message_body m = MqMessage m.priority m.text

-- mq_receive(3)
abbrev pub mq_receive : State → ℕ → ℕ → ℕ → Attempt Done
mq_receive s pid fd size = do
  found ← receivable s pid fd size
  answer (with_mq s found.0.number (received found.0.queue)) (message_body found.1)

-- ---- mq_notify(3)

-- the process has registered
abbrev pub is_own : ℕ → Option Registration → Bool
is_own pid r = unwrap_or (option_map (λ r. r.pid.0 == pid) r) false

-- without a registration of the process, if it has one
abbrev pub given_up : ℕ → Mq → Mq
given_up pid q = if is_own pid q.registration then deregistered q else q

-- who is told from now on: a kind of 1 sends nothing, and its cookie is 0
abbrev pub registration : ℕ → ℕ → ℕ → ℕ → Registration
registration pid fd kind cookie =
    record {
      pid = record { 0 = pid };
      descriptor = fd;
      sends = kind == 2;
      cookie = if kind == 2 then cookie else 0;
    }

-- it registers
abbrev pub registering : State → Found → Registration → Attempt Done
registering s found r = do
  refuse EBUSY (is_some found.queue.registration)
  answer (with_mq s found.number (registered found.queue r)) Empty

-- mq_notify(3): a kind of 0 takes the own registration away, 1 and 2 register
abbrev pub mq_notify : State → ℕ → ℕ → ℕ → ℕ → Attempt Done
mq_notify s pid fd kind cookie = do
  refuse EINVAL (nat_lt 2 kind)
  found ← open_mq s pid fd
  if kind == 0
      then answer (with_mq s found.number (given_up pid found.queue)) Empty
      else registering s found (registration pid fd kind cookie)

-- ---- mq_getattr(3), mq_setattr(3)

-- O_NONBLOCK or nothing, the most messages, the most bytes of one, and how many there are
abbrev pub attr_fields : Found → List Field
attr_fields found =
    U32 (bit_and found.flags nonblock) ∷ U32 found.queue.maxmsg ∷ U32 found.queue.msgsize
    ∷ U32 (length found.queue.messages) ∷ []

abbrev pub mq_getattr : State → ℕ → ℕ → Attempt Done
mq_getattr s pid fd = do
  found ← open_mq s pid fd
  answer s (Record (record_bytes (attr_fields found)))

-- O_NONBLOCK alone may be changed; the answer has the attributes as they were
abbrev pub mq_setattr : State → ℕ → ℕ → ℕ → Attempt Done
mq_setattr s pid fd flags = do
  found ← open_mq s pid fd
  refuse EINVAL (not (bit_and flags nonblock == flags))
  answer (with_descriptor_flags s pid fd (access_of found.flags + flags)) (Record (record_bytes (attr_fields found)))
