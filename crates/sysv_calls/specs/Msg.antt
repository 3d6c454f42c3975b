-- The calls of message queues: msgget(2), msgop(2) and msgctl(2), in this server's profile. Refusals stand in the order
-- in which they are tested. A call that cannot go on waits, and is tried again by all rules of a new one.
use Rattle.std.specs.Prelude.{ℕ, ℤ, pos, Bool, not, ◌&&◌, List, [], length, take, nat_lt, int_lt}
use Rattle.std.specs.Prelude.{slice_get, unwrap_or, if◌then◌else◌, Ok, false}
use Rattle.ipc_base.specs.declared.errno.Errno.{Errno}
use Rattle.ipc_base.specs.declared.errno.Errno.TheVariants.{EPERM, E2BIG, EAGAIN, EINVAL, ENOSPC, ENOMSG}
use Rattle.ipc_base.specs.declared.identity.Cred.{Cred}
use Rattle.ipc_limits.specs.declared.limits.Limits.{Limits}
use Rattle.ipc_limits.specs.Limits.{message_limit}
use Rattle.ipc_perm.specs.Perm.{perm_of, owned_by, asked_by}
use Rattle.ipc_wire.specs.declared.reply.Body.TheVariants.{Empty, Number, Message}
use Rattle.sysv_msg.specs.Queue.{Queue, PlainMessage, pick, full, sent, taken, changed}
use Rattle.ipc_state.specs.Numbered.{is_full, last_number}
use Rattle.ipc_state.specs.Bound.{holding, permitting}
use Rattle.ipc_state.specs.Keyed.{KeyedEntry}
use Rattle.ipc_state.specs.State.{State, with_msg_queue, with_new_msg_queue}
use Rattle.ipc_state.specs.Finish.{Halt, Fails, Blocks, Attempt, Done, answer, refuse, stop, if_some}
use Rattle.ipc_state.specs.Finish.{◌orstop◌, ◌>>◌, ◌>>=◌}
use Rattle.sysv_calls.specs.Access.{has, read, write, accessible, owned, sought, listed, removed}
use Rattle.sysv_calls.specs.Records.{queue_fields}

-- ---- flags

-- IPC_NOWAIT
abbrev pub nowait : ℕ
nowait = 2048

-- what becomes of a call that cannot go on: it waits, or fails if its flags have IPC_NOWAIT
abbrev pub waits_or : ℕ → Errno → Halt
waits_or flags e = if has flags nowait then Fails e else Blocks

-- MSG_NOERROR and MSG_EXCEPT
abbrev pub noerror : ℕ
noerror = 4096

abbrev pub except : ℕ
except = 8192

-- ---- calls

-- the queue that an identifier has
abbrev pub found_queue : State → Cred → ℕ → ℕ → Attempt Done
found_queue s cred flags id = do
  e ← accessible false s.msg cred id (asked_by flags)
  answer s (Number id)

-- a new queue of the caller
abbrev pub made_queue : Limits → State → Cred → ℤ → ℕ → Attempt Done
made_queue limits s cred key flags = do
  refuse ENOSPC (is_full limits.msgmni s.msg)
  answer (with_new_msg_queue limits s key (perm_of cred flags)) (Number s.msg.next)

-- msgget(2): the queue that the key names, or a new one
abbrev pub msgget : Limits → State → Cred → ℤ → ℕ → Attempt Done
msgget limits s cred key flags = do
  found ← sought s.msg key flags
  if_some found (found_queue s cred flags) (made_queue limits s cred key flags)

-- the queue to which a message may be sent now
abbrev pub sendable : Limits → State → Cred → Bool → ℕ → ℕ → ℤ → List ℕ → Attempt (KeyedEntry Queue)
sendable limits s cred again id flags mtype text = do
  refuse EINVAL (not (int_lt (pos 0) mtype))
  refuse EINVAL (nat_lt limits.msgmax (length text))
  e ← accessible again s.msg cred id write
  stop (waits_or flags EAGAIN) (full (message_limit limits) e.object (length text))
  Ok e

-- msgsnd of msgop(2)
abbrev pub msgsnd : Limits → State → Cred → ℕ → Bool → ℕ → ℕ → ℤ → List ℕ → Attempt Done
msgsnd limits s cred pid again id flags mtype text = do
  e ← sendable limits s cred again id flags mtype text
  answer (with_msg_queue s id (holding e (sent e.object (record { mtype = mtype; text = text }) pid s.clock))) Empty

-- the message at a place that a queue has
abbrev pub message_at : Queue → ℕ → PlainMessage
message_at q at = unwrap_or (slice_get q.messages at) (record { mtype = pos 0; text = [] })

-- a text of so many bytes is longer than a receive asked for, and may not be cut
abbrev pub is_too_long : ℕ → ℕ → ℕ → Bool
is_too_long flags size bytes = nat_lt size bytes && not (has flags noerror)

-- the queue from which a message may be received now, and the place of that message
abbrev pub receivable : State → Cred → Bool → ℕ → ℕ → ℕ → ℤ → Attempt (KeyedEntry Queue × ℕ)
receivable s cred again id flags size mtype = do
  refuse EINVAL (nat_lt last_number size)
  e ← accessible again s.msg cred id read
  at ← pick e.object.messages mtype (has flags except) orstop waits_or flags ENOMSG
  refuse E2BIG (is_too_long flags size (length (message_at e.object at).text))
  Ok (e, at)

-- msgrcv of msgop(2); with MSG_NOERROR a text that is longer than asked for is cut, and the rest is lost
abbrev pub msgrcv : State → Cred → ℕ → Bool → ℕ → ℕ → ℕ → ℤ → Attempt Done
msgrcv s cred pid again id flags size mtype = do
  found ← receivable s cred again id flags size mtype
  answer (with_msg_queue s id (holding found.0 (taken found.0.object found.1 pid s.clock)))
      (Message (message_at found.0.object found.1).mtype (take size (message_at found.0.object found.1).text))

-- IPC_STAT of msgctl(2)
abbrev pub msgctl_stat : State → Cred → ℕ → Attempt Done
msgctl_stat s cred id = listed s s.msg cred id queue_fields

-- IPC_SET of msgctl(2): nobody may raise how much a queue may hold above msgmnb
abbrev pub msgctl_set : Limits → State → Cred → ℕ → ℕ → ℕ → ℕ → ℕ → Attempt Done
msgctl_set limits s cred id uid gid mode qbytes = do
  e ← owned s.msg cred id
  refuse EPERM (nat_lt limits.msgmnb qbytes)
  let queue = holding (permitting e (owned_by e.perm uid gid mode)) (changed e.object qbytes s.clock)
  answer (with_msg_queue s id queue) Empty

-- IPC_RMID of msgctl(2)
abbrev pub msgctl_rmid : State → Cred → ℕ → Attempt Done
msgctl_rmid s cred id = do
  queues ← removed s.msg cred id
  answer (record s { msg = queues }) Empty
