-- What is alike for the named objects of every kind (mq_overview(7), sem_overview(7), shm_overview(7)): the flags of
-- open(2), who may use an object, which one a name or a descriptor finds. Refusals stand in the order in which they are
-- tested.
use Rattle.std.specs.Prelude.{ℕ, Bool, not, ◌&&◌, ◌||◌, ◌==◌, if◌then◌else◌, List}
use Rattle.std.specs.Prelude.{Option, Some, None, Result, Ok, Err}
use Rattle.std.specs.Int.RustNames.{bit_and}
use Rattle.ipc_base.specs.declared.errno.Errno.{Errno}
use Rattle.ipc_base.specs.declared.errno.Errno.TheVariants.{ENOENT, EBADF, EACCES, EEXIST}
use Rattle.ipc_base.specs.declared.identity.Cred.{Cred}
use Rattle.ipc_keys.specs.declared.check.NameKind.{NameKind}
use Rattle.ipc_keys.specs.Names.{check_name}
use Rattle.ipc_perm.specs.declared.perm.Perm.{Perm}
use Rattle.ipc_perm.specs.Perm.{may}
use Rattle.ipc_wire.specs.declared.reply.Body.TheVariants.{Empty, Number}
use Rattle.ipc_state.specs.declared.descriptors.Descriptor.{Descriptor}
use Rattle.ipc_state.specs.declared.parked.Object.{Object}
use Rattle.ipc_state.specs.declared.parked.ObjectKind.TheVariants as kinds
use Rattle.ipc_state.specs.Numbered.{entry_of}
use Rattle.ipc_state.specs.Named.{Named, NamedEntry, named}
use Rattle.ipc_state.specs.Descriptors.{lowest_unused}
use Rattle.ipc_state.specs.Opening.{descriptor_at, descriptors_of, same_kind}
use Rattle.ipc_state.specs.State.{State, named_of, unlinked, with_descriptor}
use Rattle.ipc_state.specs.Finish.{Attempt, Done, Fails, answer, refuse, if_some, ◌orelse◌, ◌>>◌, ◌>>=◌}

-- the number of what a descriptor is open on, if it is of this kind
abbrev pub number_in : NameKind → Object → Option ℕ
number_in kind on = if same_kind on.kind (kinds.Named kind) then Some on.number else None

-- ---- flags

-- whether a flag is among the flags
abbrev pub has : ℕ → ℕ → Bool
has flags flag = bit_and flags flag == flag

-- O_CREAT, O_EXCL and O_NONBLOCK
abbrev pub creat : ℕ
creat = 0o100

abbrev pub excl : ℕ
excl = 0o200

abbrev pub nonblock : ℕ
nonblock = 0o4000

-- the access mode: to read (O_RDONLY, 0), to write (O_WRONLY, 1), or both (O_RDWR, 2); 3 is none
abbrev pub access_of : ℕ → ℕ
access_of flags = bit_and flags 3

-- a descriptor with these flags is open to read, or to write
abbrev pub reads : ℕ → Bool
reads flags = not (access_of flags == 1)

abbrev pub writes : ℕ → Bool
writes flags = not (access_of flags == 0)

-- what an open asks of an object that is there: 4 is to read, 2 is to write
abbrev pub asked_by : ℕ → ℕ
asked_by flags = if access_of flags == 0 then 4 else if access_of flags == 1 then 2 else 6

-- an open wants a new object alone: O_CREAT and O_EXCL
abbrev pub is_exclusive : ℕ → Bool
is_exclusive flags = has flags creat && has flags excl

-- ---- names

-- a value, or the refusal
abbrev pub passed : {X : Type 0} → Result X Errno → Attempt X
passed (Ok x) = Ok x
passed (Err e) = Err (Fails e)

-- a name that an object of the kind may have
abbrev pub proper : NameKind → List ℕ → Attempt (Unit {0})
proper kind name = passed (check_name kind name)

-- what an open finds: the object that the name names, or none, and one may be made
abbrev pub sought : {X : Type 0} → Named X → List ℕ → ℕ → Attempt (Option ℕ)
sought o name flags =
    if_some (named o name)
    (λ n. refuse EEXIST (is_exclusive flags) >> Ok (Some n))
    (refuse ENOENT (not (has flags creat)) >> Ok None)

-- a caller may unlink it: the owner, or uid 0
abbrev pub may_unlink : Cred → Perm → Bool
may_unlink cred perm = cred.uid == perm.uid || cred.uid == 0

-- an object that is there, for a caller that may use it as is asked: 4 is to read, 2 is to write
abbrev pub usable : {X : Type 0} → Named X → Cred → ℕ → ℕ → Attempt (NamedEntry X)
usable o cred n asked = do
  e ← entry_of o n orelse ENOENT
  refuse EACCES (not (may cred e.perm asked))
  Ok e

-- the object that a name names, for a caller that may unlink it
abbrev pub unlinkable : {X : Type 0} → Named X → Cred → List ℕ → Attempt ℕ
unlinkable o cred name = do
  n ← named o name orelse ENOENT
  e ← entry_of o n orelse ENOENT
  refuse EACCES (not (may_unlink cred e.perm))
  Ok n

-- mq_unlink(3), sem_unlink(3) and shm_unlink(3)
abbrev pub unlink : NameKind → State → Cred → List ℕ → Attempt Done
unlink kind s cred name = do
  proper kind name
  n ← unlinkable (named_of s kind) cred name
  answer (unlinked s (kinds.Named kind) n) Empty

-- ---- descriptors

-- what a descriptor of the process is, or the refusal
abbrev pub described_or : Errno → State → ℕ → ℕ → Attempt Descriptor
described_or e s pid fd = descriptor_at s.processes.entries pid fd orelse e

abbrev pub described : State → ℕ → ℕ → Attempt Descriptor
described s pid fd = described_or EBADF s pid fd

-- a descriptor of the process that is open on an object with these flags, and its number
abbrev pub opens : State → ℕ → ℕ → Object → Attempt Done
opens s pid flags on =
    answer (with_descriptor s pid (record { on = on; flags = flags }))
    (Number (lowest_unused (descriptors_of s.processes.entries pid)))
