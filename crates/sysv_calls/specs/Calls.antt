-- What each call answers and leaves, and which object it may change.
use Rattle.std.specs.Prelude.{ℕ, ℤ, Bool, true, false, if◌then◌else◌, Option, Some, None, is_some}
use Rattle.ipc_limits.specs.declared.limits.Limits.{Limits}
use Rattle.ipc_wire.specs.Request.{PlainSysv}
use Rattle.ipc_wire.specs.Request as requests
use Rattle.ipc_state.specs.declared.parked.Awaited.TheVariants as awaited
use Rattle.ipc_state.specs.declared.parked.Object.{Object}
use Rattle.ipc_state.specs.declared.parked.ObjectKind.TheVariants.{MsgQueue, Semset, Shm}
use Rattle.ipc_state.specs.Keyed.{Keyed, keyed}
use Rattle.ipc_state.specs.State.{State, cred_of}
use Rattle.ipc_state.specs.Touching.{closed_on, object_of}
use Rattle.ipc_state.specs.Finish.{Tried, Attempt, Done, ended}
use Rattle.sysv_calls.specs.Msg.{msgget, msgsnd, msgrcv, msgctl_stat, msgctl_set, msgctl_rmid}
use Rattle.sysv_calls.specs.Sem.{semget, semctl_getval, semctl_getpid, semctl_setval, semctl_getall, semctl_setall}
use Rattle.sysv_calls.specs.Sem.{semctl_stat, semctl_set, semctl_rmid}
use Rattle.sysv_calls.specs.Semop.{semop, semctl_getcnt}
use Rattle.sysv_calls.specs.Shm.{attached_read, attached_write, shmat, shmctl_rmid, shmctl_set, shmctl_stat, shmdt}
use Rattle.sysv_calls.specs.Shm.{shmget}

-- each call by a process; again where it is one that waited
abbrev pub definition_of : Limits → State → ℕ → Bool → PlainSysv → Attempt Done
definition_of limits s pid again (requests.Msgget key flags) = msgget limits s (cred_of s pid) key flags
definition_of limits s pid again (requests.Msgsnd id flags mtype text) =
    msgsnd limits s (cred_of s pid) pid again id flags mtype text
definition_of limits s pid again (requests.Msgrcv id flags size mtype) =
    msgrcv s (cred_of s pid) pid again id flags size mtype
definition_of limits s pid again (requests.MsgctlStat id) = msgctl_stat s (cred_of s pid) id
definition_of limits s pid again (requests.MsgctlSet id uid gid mode qbytes) =
    msgctl_set limits s (cred_of s pid) id uid gid mode qbytes
definition_of limits s pid again (requests.MsgctlRmid id) = msgctl_rmid s (cred_of s pid) id
definition_of limits s pid again (requests.Semget key nsems flags) = semget limits s (cred_of s pid) key nsems flags
definition_of limits s pid again (requests.Semop id timeout operations) =
    semop limits s (cred_of s pid) pid again id operations
definition_of limits s pid again (requests.SemctlGetVal id num) = semctl_getval s (cred_of s pid) id num
definition_of limits s pid again (requests.SemctlGetPid id num) = semctl_getpid s (cred_of s pid) id num
definition_of limits s pid again (requests.SemctlGetNcnt id num) = semctl_getcnt limits s (cred_of s pid) false id num
definition_of limits s pid again (requests.SemctlGetZcnt id num) = semctl_getcnt limits s (cred_of s pid) true id num
definition_of limits s pid again (requests.SemctlSetVal id num value) = semctl_setval s (cred_of s pid) pid id num value
definition_of limits s pid again (requests.SemctlGetAll id) = semctl_getall s (cred_of s pid) id
definition_of limits s pid again (requests.SemctlSetAll id values) = semctl_setall s (cred_of s pid) pid id values
definition_of limits s pid again (requests.SemctlStat id) = semctl_stat s (cred_of s pid) id
definition_of limits s pid again (requests.SemctlSet id uid gid mode) = semctl_set s (cred_of s pid) id uid gid mode
definition_of limits s pid again (requests.SemctlRmid id) = semctl_rmid s (cred_of s pid) id
definition_of limits s pid again (requests.Shmget key size flags) = shmget limits s (cred_of s pid) pid key size flags
definition_of limits s pid again (requests.Shmat id flags) = shmat limits s (cred_of s pid) pid id flags
definition_of limits s pid again (requests.Shmdt attachment) = shmdt s pid attachment
definition_of limits s pid again (requests.ShmctlStat id) = shmctl_stat s (cred_of s pid) id
definition_of limits s pid again (requests.ShmctlSet id uid gid mode) = shmctl_set s (cred_of s pid) id uid gid mode
definition_of limits s pid again (requests.ShmctlRmid id) = shmctl_rmid s (cred_of s pid) id
definition_of limits s pid again (requests.AttachedRead attachment offset len) =
    attached_read limits s pid attachment offset len
definition_of limits s pid again (requests.AttachedWrite attachment offset bytes) =
    attached_write limits s pid attachment offset bytes

-- the queue of an identifier, the set, and the segment
abbrev pub queue_at : ℕ → Object
queue_at id = record { kind = MsgQueue; number = id }

abbrev pub set_at : ℕ → Object
set_at id = record { kind = Semset; number = id }

abbrev pub segment_at : ℕ → Object
segment_at id = record { kind = Shm; number = id }

-- the object that a get makes, of the next number; none, if the key names one
abbrev pub made_by : {X : Type 0} → (ℕ → Object) → Keyed X → ℤ → Option Object
made_by at o key = if is_some (keyed o key) then None else Some (at o.next)

-- the object that a call may leave otherwise, so that those that wait on it may go on: no other, and none if it is
-- refused
abbrev pub touched : State → ℕ → PlainSysv → Option Object
touched s pid (requests.Msgget key flags) = made_by queue_at s.msg key
touched s pid (requests.Msgsnd id flags mtype text) = Some (queue_at id)
touched s pid (requests.Msgrcv id flags size mtype) = Some (queue_at id)
touched s pid (requests.MsgctlSet id uid gid mode qbytes) = Some (queue_at id)
touched s pid (requests.MsgctlRmid id) = Some (queue_at id)
touched s pid (requests.Semget key nsems flags) = made_by set_at s.semset key
touched s pid (requests.Semop id timeout operations) = Some (set_at id)
touched s pid (requests.SemctlSetVal id num value) = Some (set_at id)
touched s pid (requests.SemctlSetAll id values) = Some (set_at id)
touched s pid (requests.SemctlSet id uid gid mode) = Some (set_at id)
touched s pid (requests.SemctlRmid id) = Some (set_at id)
touched s pid (requests.Shmget key size flags) = made_by segment_at s.shm key
touched s pid (requests.Shmat id flags) = Some (segment_at id)
touched s pid (requests.Shmdt attachment) = closed_on s pid attachment
touched s pid (requests.ShmctlSet id uid gid mode) = Some (segment_at id)
touched s pid (requests.ShmctlRmid id) = Some (segment_at id)
touched s pid (requests.AttachedWrite attachment offset bytes) = object_of s pid (awaited.Descriptor attachment)
touched s pid call = None

-- what comes of it
abbrev pub attempt : Limits → State → ℕ → Bool → PlainSysv → Tried
attempt limits s pid again call = ended s (definition_of limits s pid again call)
