-- What each POSIX call answers and leaves, and which object it may change.
use Rattle.std.specs.Prelude.{ℕ, if◌then◌else◌, List, Option, Some, None, option_map}
use Rattle.ipc_limits.specs.declared.limits.Limits.{Limits}
use Rattle.ipc_keys.specs.declared.check.NameKind.{NameKind}
use Rattle.ipc_keys.specs.declared.check.NameKind.TheVariants as names
use Rattle.ipc_wire.specs.Posix.{PlainPosix}
use Rattle.ipc_wire.specs.Posix as requests
use Rattle.ipc_state.specs.declared.parked.Awaited.TheVariants as awaited
use Rattle.ipc_state.specs.declared.parked.Object.{Object}
use Rattle.ipc_state.specs.Named.{named}
use Rattle.ipc_state.specs.Opening.{opened_as}
use Rattle.ipc_state.specs.State.{State, cred_of, named_of}
use Rattle.ipc_state.specs.Touching.{closed_on, object_of}
use Rattle.ipc_state.specs.Finish.{Tried, Attempt, Done, ended}
use Rattle.posix_calls.specs.Open.{has, unlink}
use Rattle.posix_calls.specs.Mq.{close, mq_open, mq_send, mq_receive, mq_notify, mq_getattr, mq_setattr}
use Rattle.posix_calls.specs.Psem.{sem_getvalue, sem_open, sem_post, sem_trywait, sem_wait}
use Rattle.posix_calls.specs.Pshm.{ftruncate, shm_open, shm_read, shm_stat, shm_write, trunc}

-- each call by a process
abbrev pub definition_of : Limits → State → ℕ → PlainPosix → Attempt Done
definition_of limits s pid (requests.Close fd) = close s pid fd
definition_of limits s pid (requests.MqOpen flags mode attr maxmsg msgsize name) =
    mq_open limits s (cred_of s pid) pid flags mode attr maxmsg msgsize name
definition_of limits s pid (requests.MqUnlink name) = unlink names.Mq s (cred_of s pid) name
definition_of limits s pid (requests.MqSend fd deadline priority text) = mq_send s pid fd priority text
definition_of limits s pid (requests.MqReceive fd deadline size) = mq_receive s pid fd size
definition_of limits s pid (requests.MqNotify fd kind cookie) = mq_notify s pid fd kind cookie
definition_of limits s pid (requests.MqGetattr fd) = mq_getattr s pid fd
definition_of limits s pid (requests.MqSetattr fd flags) = mq_setattr s pid fd flags
definition_of limits s pid (requests.SemOpen flags mode value name) =
    sem_open limits s (cred_of s pid) pid flags mode value name
definition_of limits s pid (requests.SemUnlink name) = unlink names.Psem s (cred_of s pid) name
definition_of limits s pid (requests.SemPost fd) = sem_post s pid fd
definition_of limits s pid (requests.SemWait fd deadline) = sem_wait s pid fd
definition_of limits s pid (requests.SemTrywait fd) = sem_trywait s pid fd
definition_of limits s pid (requests.SemGetvalue fd) = sem_getvalue s pid fd
definition_of limits s pid (requests.ShmOpen flags mode name) = shm_open limits s (cred_of s pid) pid flags mode name
definition_of limits s pid (requests.ShmUnlink name) = unlink names.Pshm s (cred_of s pid) name
definition_of limits s pid (requests.Ftruncate fd len) = ftruncate limits s pid fd len
definition_of limits s pid (requests.ShmRead fd offset len) = shm_read limits s pid fd offset len
definition_of limits s pid (requests.ShmWrite fd offset bytes) = shm_write limits s pid fd offset bytes
definition_of limits s pid (requests.ShmStat fd) = shm_stat s pid fd

-- the object on which a descriptor of the process is open
abbrev pub on_descriptor : State → ℕ → ℕ → Option Object
on_descriptor s pid fd = object_of s pid (awaited.Descriptor fd)

-- what an open makes, by what the name names; an open of a segment with O_TRUNC changes the one that is there
abbrev pub option_made : NameKind → ℕ → Option ℕ → Option Object
option_made kind next None = Some (opened_as kind next)
option_made kind next (Some n) = None

abbrev pub made_or_cut : ℕ → ℕ → Option ℕ → Option Object
made_or_cut flags next None = Some (opened_as names.Pshm next)
made_or_cut flags next (Some n) = if has flags trunc then Some (opened_as names.Pshm n) else None

-- the object that a name names; and that an open makes, of the next number: none, if the name names one
abbrev pub named_object : NameKind → State → List ℕ → Option Object
named_object kind s name = option_map (opened_as kind) (named (named_of s kind) name)

abbrev pub made_object : NameKind → State → List ℕ → Option Object
made_object kind s name = option_made kind (named_of s kind).next (named (named_of s kind) name)

-- the object that a call may leave otherwise, so that those that wait on it may go on: no other, and none if it is
-- refused
abbrev pub touched : State → ℕ → PlainPosix → Option Object
touched s pid (requests.Close fd) = closed_on s pid fd
touched s pid (requests.MqOpen flags mode attr maxmsg msgsize name) = made_object names.Mq s name
touched s pid (requests.MqUnlink name) = named_object names.Mq s name
touched s pid (requests.MqSend fd deadline priority text) = on_descriptor s pid fd
touched s pid (requests.MqReceive fd deadline size) = on_descriptor s pid fd
touched s pid (requests.MqNotify fd kind cookie) = on_descriptor s pid fd
touched s pid (requests.SemOpen flags mode value name) = made_object names.Psem s name
touched s pid (requests.SemUnlink name) = named_object names.Psem s name
touched s pid (requests.SemPost fd) = on_descriptor s pid fd
touched s pid (requests.SemWait fd deadline) = on_descriptor s pid fd
touched s pid (requests.SemTrywait fd) = on_descriptor s pid fd
touched s pid (requests.ShmOpen flags mode name) = made_or_cut flags s.pshm.next (named s.pshm name)
touched s pid (requests.ShmUnlink name) = named_object names.Pshm s name
touched s pid (requests.Ftruncate fd len) = on_descriptor s pid fd
touched s pid (requests.ShmWrite fd offset bytes) = on_descriptor s pid fd
touched s pid call = None

-- what comes of it
abbrev pub attempt : Limits → State → ℕ → PlainPosix → Tried
attempt limits s pid call = ended s (definition_of limits s pid call)
