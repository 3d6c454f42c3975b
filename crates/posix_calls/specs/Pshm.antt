-- The calls of shared memory segments (shm_overview(7)), in this server's profile: a client reads and writes a segment
-- by requests. Refusals stand in the order in which they are tested.
use Rattle.std.specs.Prelude.{ℕ, ◌+◌, ◌-◌, ◌==◌, Bool, not, nat_lt, if◌then◌else◌, List, [], ◌∷◌, length}
use Rattle.std.specs.Prelude.{Ok}
use Rattle.std.specs.Int.RustNames.{bit_and}
use Rattle.ipc_base.specs.declared.errno.Errno.TheVariants.{EBADF, EINVAL, EMFILE, ENOSPC}
use Rattle.ipc_base.specs.declared.field.Field.{Field}
use Rattle.ipc_base.specs.declared.field.Field.TheVariants.{U32, U64}
use Rattle.ipc_base.specs.declared.identity.Cred.{Cred}
use Rattle.ipc_limits.specs.declared.limits.Limits.{Limits}
use Rattle.ipc_base.specs.Numbers.{record_bytes}
use Rattle.ipc_keys.specs.declared.check.NameKind.TheVariants as names
use Rattle.ipc_wire.specs.declared.reply.Body.TheVariants.{Empty, Record}
use Rattle.shm_segment.specs.Segment.{Segment, is_within, part, truncated, written}
use Rattle.ipc_state.specs.Opening.{opened_as}
use Rattle.ipc_state.specs.Named.{NamedEntry}
use Rattle.ipc_state.specs.Numbered.{entry_of}
use Rattle.ipc_state.specs.Sound.{segment_bytes}
use Rattle.ipc_state.specs.State.{State, has_all_descriptors, has_all_pshms, with_new_pshm, with_pshm}
use Rattle.ipc_state.specs.Finish.{Attempt, Done, answer, refuse, if_some, ◌orelse◌, ◌>>◌, ◌>>=◌}
use Rattle.posix_calls.specs.Open.{access_of, asked_by, described, has, number_in, opens, proper, sought}
use Rattle.posix_calls.specs.Open.{usable, writes}

-- what a descriptor finds: its segment's number, the segment with whose it is, and the descriptor's flags
pub record FoundPshm : Type 0 where
  pub number : ℕ
  pub entry : NamedEntry Segment
  pub flags : ℕ

-- the segment on which a descriptor of the process is open
abbrev pub open_pshm : State → ℕ → ℕ → Attempt FoundPshm
open_pshm s pid fd = do
  d ← described s pid fd
  n ← number_in names.Pshm d.on orelse EBADF
  e ← entry_of s.pshm n orelse EBADF
  Ok (record { number = n; entry = e; flags = d.flags })

-- if it is open to write
abbrev pub writable : State → ℕ → ℕ → Attempt FoundPshm
writable s pid fd = do
  found ← open_pshm s pid fd
  refuse EBADF (not (writes found.flags))
  Ok found

-- ---- shm_open(3)

abbrev pub trunc : ℕ
trunc = 0o1000

-- what an open asks of a segment that is there: O_TRUNC asks to write too
abbrev pub asked_of_pshm : ℕ → ℕ
asked_of_pshm flags = if has flags trunc then 6 else asked_by flags

-- without the bytes of a segment, if the flags ask for that
abbrev pub cut_as : ℕ → State → ℕ → NamedEntry Segment → State
cut_as flags s n e = if has flags trunc then with_pshm s n (truncated 0 e.object) else s

-- the segment that the name names, cut to no bytes if that is asked
abbrev pub opened_pshm : State → Cred → ℕ → ℕ → ℕ → Attempt Done
opened_pshm s cred pid flags n = do
  e ← usable s.pshm cred n (asked_of_pshm flags)
  opens (cut_as flags s n e) pid (access_of flags) (opened_as names.Pshm n)

-- a new segment of the caller
abbrev pub made_pshm : Limits → State → Cred → ℕ → ℕ → ℕ → List ℕ → Attempt Done
made_pshm limits s cred pid flags mode name = do
  refuse ENOSPC (has_all_pshms limits s)
  opens (with_new_pshm s name cred mode) pid (access_of flags) (opened_as names.Pshm s.pshm.next)

-- shm_open(3): the segment that the name names, or a new one; to read, or to read and write
abbrev pub shm_open : Limits → State → Cred → ℕ → ℕ → ℕ → List ℕ → Attempt Done
shm_open limits s cred pid flags mode name = do
  proper names.Pshm name
  refuse EINVAL (bit_and flags 1 == 1)
  refuse EMFILE (has_all_descriptors limits s pid)
  found ← sought s.pshm name flags
  if_some found (opened_pshm s cred pid flags) (made_pshm limits s cred pid flags mode name)

-- ---- ftruncate(2), reads and writes, fstat(2)

-- whether with a segment of this length in the place of one all have more bytes than they may
abbrev pub is_past_all : Limits → State → Segment → ℕ → Bool
is_past_all limits s x len = nat_lt limits.segment_bytes (segment_bytes s.pshm - length x.bytes + len)

-- ftruncate(2)
abbrev pub ftruncate : Limits → State → ℕ → ℕ → ℕ → Attempt Done
ftruncate limits s pid fd len = do
  found ← writable s pid fd
  refuse ENOSPC (is_past_all limits s found.entry.object len)
  answer (with_pshm s found.number (truncated len found.entry.object)) Empty

-- a read
abbrev pub shm_read : Limits → State → ℕ → ℕ → ℕ → ℕ → Attempt Done
shm_read limits s pid fd offset len = do
  found ← open_pshm s pid fd
  refuse EINVAL (nat_lt limits.call_bytes len)
  refuse EINVAL (not (is_within offset len found.entry.object))
  answer s (Record (part offset len found.entry.object))

-- a write
abbrev pub shm_write : Limits → State → ℕ → ℕ → ℕ → List ℕ → Attempt Done
shm_write limits s pid fd offset bytes = do
  found ← writable s pid fd
  refuse EINVAL (nat_lt limits.call_bytes (length bytes))
  refuse EINVAL (not (is_within offset (length bytes) found.entry.object))
  answer (with_pshm s found.number (written offset bytes found.entry.object)) Empty

-- its length, its owner and its mode
abbrev pub segment_fields : NamedEntry Segment → List Field
segment_fields e = U64 (length e.object.bytes) ∷ U32 e.perm.uid ∷ U32 e.perm.gid ∷ U32 e.perm.mode ∷ []

-- fstat(2)
abbrev pub shm_stat : State → ℕ → ℕ → Attempt Done
shm_stat s pid fd = do
  found ← open_pshm s pid fd
  answer s (Record (record_bytes (segment_fields found.entry)))
