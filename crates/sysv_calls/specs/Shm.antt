-- The calls of System V segments: shmget(2), shmop(2) and shmctl(2), in this server's profile: an attachment is a
-- descriptor, and a client reads and writes a segment by requests. Refusals stand in the order in which they are
-- tested.
use Rattle.std.specs.Prelude.{ℕ, ℤ, ◌+◌, Bool, not, List, ◌++◌, length, nat_lt, ◌==◌, ◌||◌}
use Rattle.std.specs.Prelude.{if◌then◌else◌, Ok, false, Option, Some, None}
use Rattle.std.specs.Int.RustNames.{bit_and}
use Rattle.ipc_base.specs.declared.errno.Errno.{Errno}
use Rattle.ipc_base.specs.declared.errno.Errno.TheVariants.{EBADF, EINVAL, EMFILE, ENOSPC}
use Rattle.ipc_base.specs.declared.field.Field.{Field}
use Rattle.ipc_base.specs.declared.identity.Cred.{Cred}
use Rattle.ipc_limits.specs.declared.limits.Limits.{Limits}
use Rattle.ipc_base.specs.Numbers.{record_bytes}
use Rattle.ipc_perm.specs.Perm.{perm_of, owned_by, asked_by}
use Rattle.ipc_wire.specs.declared.reply.Body.TheVariants.{Empty, Number, Record}
use Rattle.shm_segment.specs.Segment.{is_within, part}
use Rattle.shm_segment.specs.SysSegment.{SysSegment, attached, changed, written}
use Rattle.ipc_state.specs.declared.descriptors.Descriptor.{Descriptor}
use Rattle.ipc_state.specs.declared.parked.Object.{Object}
use Rattle.ipc_state.specs.declared.parked.ObjectKind.TheVariants as kinds
use Rattle.ipc_state.specs.Attached.{shown_mode}
use Rattle.ipc_state.specs.Bound.{holding, permitting}
use Rattle.ipc_state.specs.Descriptors.{lowest_unused}
use Rattle.ipc_state.specs.Finish.{Attempt, Done, answer, refuse, if_some, ◌orelse◌, ◌>>◌, ◌>>=◌}
use Rattle.ipc_state.specs.Keyed.{KeyedEntry}
use Rattle.ipc_state.specs.Numbered.{is_full}
use Rattle.ipc_state.specs.Opening.{descriptor_at, descriptors_of, object_as, open_count}
use Rattle.ipc_state.specs.Sound.{shm_bytes}
use Rattle.ipc_state.specs.State.{State, closed, has_all_descriptors, shm_of, unlinked, with_descriptor, with_new_shm}
use Rattle.ipc_state.specs.State.{with_shm}
use Rattle.ipc_state.specs.Touching.{is_segment}
use Rattle.sysv_calls.specs.Access.{has, read, write, accessible, owned, sought}
use Rattle.sysv_calls.specs.Records.{perm_fields, segment_fields}

-- ---- shmget(2)

-- the segment that an identifier has, if there is one, has fewer bytes
abbrev pub is_shorter : Option (KeyedEntry SysSegment) → ℕ → Bool
is_shorter None size = false
is_shorter (Some e) size = nat_lt (length e.object.memory.bytes) size

-- the segment that an identifier has, if it has so many bytes
abbrev pub found_shm : State → Cred → ℕ → ℕ → ℕ → Attempt Done
found_shm s cred flags size id = do
  refuse EINVAL (is_shorter (shm_of s id) size)
  e ← accessible false s.shm cred id (asked_by flags)
  answer s (Number id)

-- a new segment of the caller, of so many bytes
abbrev pub made_shm : Limits → State → Cred → ℕ → ℤ → ℕ → ℕ → Attempt Done
made_shm limits s cred pid key flags size = do
  refuse EINVAL (size == 0 || nat_lt limits.shmmax size)
  refuse ENOSPC (is_full limits.shmmni s.shm)
  refuse ENOSPC (nat_lt limits.shmall (shm_bytes s.shm + size))
  answer (with_new_shm s key (perm_of cred flags) pid size) (Number s.shm.next)

-- the segment that the key names, or a new one
abbrev pub shmget : Limits → State → Cred → ℕ → ℤ → ℕ → ℕ → Attempt Done
shmget limits s cred pid key size flags = do
  found ← sought s.shm key flags
  if_some found (found_shm s cred flags size) (made_shm limits s cred pid key flags size)

-- ---- shmat(2) and shmdt(2)

-- SHM_RDONLY, the flag that an attachment keeps
abbrev pub rdonly : ℕ
rdonly = 0o10000

abbrev pub kept_flags : ℕ → ℕ
kept_flags flags = bit_and flags rdonly

-- an attach asks to read, and without SHM_RDONLY to write too
abbrev pub asked_by_attach : ℕ → ℕ
asked_by_attach flags = if has flags rdonly then read else read + write

-- a descriptor that is open on a segment
abbrev pub attachment_to : ℕ → ℕ → Descriptor
attachment_to id flags = record { on = object_as kinds.Shm id; flags = kept_flags flags }

-- shmat(2)
abbrev pub shmat : Limits → State → Cred → ℕ → ℕ → ℕ → Attempt Done
shmat limits s cred pid id flags = do
  e ← accessible false s.shm cred id (asked_by_attach flags)
  refuse EMFILE (has_all_descriptors limits s pid)
  let attaching = with_shm s id (holding e (attached e.object (record { 0 = pid }) s.clock))
  answer (with_descriptor attaching pid (attachment_to id flags))
      (Number (lowest_unused (descriptors_of s.processes.entries pid)))

-- an attachment of the process, or the refusal
abbrev pub attachment_or : Errno → State → ℕ → ℕ → Attempt Descriptor
attachment_or e s pid fd = do
  d ← descriptor_at s.processes.entries pid fd orelse e
  refuse e (not (is_segment d.on.kind))
  Ok d

-- shmdt(2)
abbrev pub shmdt : State → ℕ → ℕ → Attempt Done
shmdt s pid fd = do
  d ← attachment_or EINVAL s pid fd
  answer (closed s pid fd) Empty

-- ---- shmctl(2)

-- what IPC_STAT tells of a segment, and how many have it attached; the mode shows whether it is marked
abbrev pub stat_fields : State → ℕ → KeyedEntry SysSegment → List Field
stat_fields s id e =
    perm_fields e (shown_mode e.perm.mode e.object.is_marked)
    ++ segment_fields (open_count s.processes.entries (object_as kinds.Shm id)) e.object

-- IPC_STAT
abbrev pub shmctl_stat : State → Cred → ℕ → Attempt Done
shmctl_stat s cred id = do
  e ← accessible false s.shm cred id read
  answer s (Record (record_bytes (stat_fields s id e)))

-- IPC_SET: a mark stays
abbrev pub shmctl_set : State → Cred → ℕ → ℕ → ℕ → ℕ → Attempt Done
shmctl_set s cred id uid gid mode = do
  e ← owned s.shm cred id
  answer (with_shm s id (holding (permitting e (owned_by e.perm uid gid mode)) (changed e.object s.clock))) Empty

-- IPC_RMID: the segment is marked, and its key is free; it goes if nobody has it attached
abbrev pub shmctl_rmid : State → Cred → ℕ → Attempt Done
shmctl_rmid s cred id = do
  e ← owned s.shm cred id
  answer (unlinked s kinds.Shm id) Empty

-- ---- reads and writes

-- what an attachment finds: its segment's identifier, the segment with whose it is, and the attachment's flags
pub record FoundShm : Type 0 where
  pub id : ℕ
  pub entry : KeyedEntry SysSegment
  pub flags : ℕ

-- the segment that is attached by a descriptor of the process
abbrev pub attached_by : State → ℕ → ℕ → Attempt FoundShm
attached_by s pid fd = do
  d ← attachment_or EBADF s pid fd
  e ← shm_of s d.on.number orelse EBADF
  Ok (record { id = d.on.number; entry = e; flags = d.flags })

-- if it is attached to write
abbrev pub writable : State → ℕ → ℕ → Attempt FoundShm
writable s pid fd = do
  found ← attached_by s pid fd
  refuse EBADF (has found.flags rdonly)
  Ok found

-- a read
abbrev pub attached_read : Limits → State → ℕ → ℕ → ℕ → ℕ → Attempt Done
attached_read limits s pid fd offset len = do
  found ← attached_by s pid fd
  refuse EINVAL (nat_lt limits.call_bytes len)
  refuse EINVAL (not (is_within offset len found.entry.object.memory))
  answer s (Record (part offset len found.entry.object.memory))

-- a write
abbrev pub attached_write : Limits → State → ℕ → ℕ → ℕ → List ℕ → Attempt Done
attached_write limits s pid fd offset bytes = do
  found ← writable s pid fd
  refuse EINVAL (nat_lt limits.call_bytes (length bytes))
  refuse EINVAL (not (is_within offset (length bytes) found.entry.object.memory))
  answer (with_shm s found.id (holding found.entry (written offset bytes found.entry.object))) Empty
