-- What is alike for the System V objects of every kind (sysvipc(7)): the flags of their calls, which object a get
-- finds, who may use an object, its record and its removal. Refusals stand in the order in which they are tested.
use Rattle.std.specs.Prelude.{ℕ, ℤ, pos, Bool, not, ◌&&◌, ◌||◌, List, ◌++◌, ◌==◌}
use Rattle.std.specs.Prelude.{if◌then◌else◌, Ok, false, Option, Some, None}
use Rattle.std.specs.Ordering.{int_eq}
use Rattle.std.specs.Int.RustNames.{bit_and}
use Rattle.ipc_base.specs.declared.errno.Errno.{Errno}
use Rattle.ipc_base.specs.declared.errno.Errno.TheVariants.{EPERM, ENOENT, EACCES, EEXIST, EINVAL, EIDRM}
use Rattle.ipc_base.specs.declared.field.Field.{Field}
use Rattle.ipc_base.specs.declared.identity.Cred.{Cred}
use Rattle.ipc_base.specs.Numbers.{record_bytes}
use Rattle.ipc_perm.specs.declared.perm.Perm.{Perm}
use Rattle.ipc_perm.specs.Perm.{may, owns}
use Rattle.ipc_wire.specs.declared.reply.Body.TheVariants.{Record}
use Rattle.ipc_state.specs.Numbered.{entry_of, without_entry}
use Rattle.ipc_state.specs.Keyed.{Keyed, KeyedEntry, keyed}
use Rattle.ipc_state.specs.State.{State}
use Rattle.ipc_state.specs.Finish.{Attempt, Done, answer, refuse, if_some, ◌orelse◌, ◌>>◌, ◌>>=◌}
use Rattle.sysv_calls.specs.Records.{perm_fields}

-- ---- flags

-- whether a flag is among the flags
abbrev pub has : ℕ → ℕ → Bool
has flags flag = bit_and flags flag == flag

-- IPC_CREAT and IPC_EXCL
abbrev pub creat : ℕ
creat = 512

abbrev pub excl : ℕ
excl = 1024

-- ---- what is alike for the objects of every kind

-- to read an object, and to change it
abbrev pub read : ℕ
read = 4

abbrev pub write : ℕ
write = 2

-- a get wants a new object alone: IPC_CREAT and IPC_EXCL
abbrev pub is_exclusive : ℕ → Bool
is_exclusive flags = has flags creat && has flags excl

-- a get may make an object: with IPC_CREAT, or by the key IPC_PRIVATE
abbrev pub may_make : ℤ → ℕ → Bool
may_make key flags = int_eq key (pos 0) || has flags creat

-- an identifier that nothing has is not valid; to a call that waited its object was removed
abbrev pub gone : Bool → Errno
gone again = if again then EIDRM else EINVAL

-- what an identifier has, unless its permissions refuse the caller
abbrev pub reached : {X : Type 0} → Bool → Keyed X → ℕ → Errno → (Perm → Bool) → Attempt (KeyedEntry X)
reached again o id refusal refuses = do
  e ← entry_of o id orelse gone again
  refuse refusal (refuses e.perm)
  Ok e

-- for a caller that may use it so
abbrev pub accessible : {X : Type 0} → Bool → Keyed X → Cred → ℕ → ℕ → Attempt (KeyedEntry X)
accessible again o cred id access = reached again o id EACCES (λ perm. not (may cred perm access))

-- for a caller that may change it by IPC_SET and remove it
abbrev pub owned : {X : Type 0} → Keyed X → Cred → ℕ → Attempt (KeyedEntry X)
owned o cred id = reached false o id EPERM (λ perm. not (owns cred perm))

-- what a get finds: the object that the key names, or none, and one may be made
abbrev pub sought : {X : Type 0} → Keyed X → ℤ → ℕ → Attempt (Option ℕ)
sought o key flags =
    if_some (keyed o key)
    (λ id. refuse EEXIST (is_exclusive flags) >> Ok (Some id))
    (refuse ENOENT (not (may_make key flags)) >> Ok None)

-- IPC_STAT of msgctl(2) and semctl(2): what is alike for every kind, and these numbers of the object
abbrev pub listed : {X : Type 0} → State → Keyed X → Cred → ℕ → (X → List Field) → Attempt Done
listed s o cred id fields = do
  e ← accessible false o cred id read
  answer s (Record (record_bytes (perm_fields e e.perm.mode ++ fields e.object)))

-- IPC_RMID of msgctl(2) and semctl(2)
abbrev pub removed : {X : Type 0} → Keyed X → Cred → ℕ → Attempt (Keyed X)
removed o cred id = do
  e ← owned o cred id
  Ok (without_entry o id)
