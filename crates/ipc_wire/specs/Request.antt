-- Requests as plain values: what their frames say, without where they lie in memory.
use Rattle.std.specs.Prelude.{ℕ, ℤ, List}
use Rattle.ipc_base.specs.declared.identity.Cred.{Cred}
use Rattle.ipc_wire.specs.declared.request.SysvCall.{SysvCall}
use Rattle.ipc_wire.specs.declared.request.SysvCall.TheVariants as calls
use Rattle.ipc_wire.specs.declared.request.RequestKind.{RequestKind}
use Rattle.ipc_wire.specs.declared.request.RequestKind.TheVariants as kinds
use Rattle.ipc_wire.specs.Values.{bytes_of}
use Rattle.ipc_wire.specs.Posix.{PlainPosix, plain_posix}
use Rattle.ipc_wire.specs.SemBufs as sixes

-- the System V calls
pub data PlainSysv : Type 0 where
  Msgget : (key : ℤ) → (flags : ℕ) → PlainSysv
  Msgsnd : (id flags : ℕ) → (mtype : ℤ) → (text : List ℕ) → PlainSysv
  Msgrcv : (id flags size : ℕ) → (mtype : ℤ) → PlainSysv
  MsgctlStat : (id : ℕ) → PlainSysv
  MsgctlSet : (id uid gid mode qbytes : ℕ) → PlainSysv
  MsgctlRmid : (id : ℕ) → PlainSysv
  Semget : (key nsems : ℤ) → (flags : ℕ) → PlainSysv
  -- the operations are the bytes that spell them: `operations_in` of SemBufs.antt reads them
  Semop : (id timeout : ℕ) → (operations : List ℕ) → PlainSysv
  SemctlGetVal SemctlGetPid SemctlGetNcnt SemctlGetZcnt : (id num : ℕ) → PlainSysv
  SemctlSetVal : (id num : ℕ) → (value : ℤ) → PlainSysv
  SemctlGetAll : (id : ℕ) → PlainSysv
  -- the values are the bytes that spell them: `numbers_in` of Values.antt reads them
  SemctlSetAll : (id : ℕ) → (values : List ℕ) → PlainSysv
  SemctlStat : (id : ℕ) → PlainSysv
  SemctlSet : (id uid gid mode : ℕ) → PlainSysv
  SemctlRmid : (id : ℕ) → PlainSysv
  Shmget : (key : ℤ) → (size flags : ℕ) → PlainSysv
  Shmat : (id flags : ℕ) → PlainSysv
  Shmdt : (attachment : ℕ) → PlainSysv
  ShmctlStat : (id : ℕ) → PlainSysv
  ShmctlSet : (id uid gid mode : ℕ) → PlainSysv
  ShmctlRmid : (id : ℕ) → PlainSysv
  AttachedRead : (attachment offset length : ℕ) → PlainSysv
  AttachedWrite : (attachment offset : ℕ) → (bytes : List ℕ) → PlainSysv

-- HELLO, INTERRUPT, or a call of the process: of System V or of POSIX
pub data PlainKind : Type 0 where
  Hello : (cred : Cred) → PlainKind
  Interrupt : PlainKind
  Sysv : (call : PlainSysv) → PlainKind
  Posix : (call : PlainPosix) → PlainKind

pub record PlainRequest : Type 0 where
  pub serial : ℕ
  pub kind : PlainKind

abbrev pub plain_sysv : SysvCall → PlainSysv
plain_sysv (calls.Msgget key flags) = Msgget key flags.0
plain_sysv (calls.Msgsnd id flags mtype text) = Msgsnd id.0 flags.0 mtype text.now
plain_sysv (calls.Msgrcv id flags size mtype) = Msgrcv id.0 flags.0 size mtype
plain_sysv (calls.MsgctlStat id) = MsgctlStat id.0
plain_sysv (calls.MsgctlSet id uid gid mode qbytes) = MsgctlSet id.0 uid gid mode qbytes
plain_sysv (calls.MsgctlRmid id) = MsgctlRmid id.0
plain_sysv (calls.Semget key nsems flags) = Semget key nsems flags.0
plain_sysv (calls.Semop id timeout operations) = Semop id.0 timeout (sixes.bytes_of operations)
plain_sysv (calls.SemctlGetVal id num) = SemctlGetVal id.0 num
plain_sysv (calls.SemctlGetPid id num) = SemctlGetPid id.0 num
plain_sysv (calls.SemctlGetNcnt id num) = SemctlGetNcnt id.0 num
plain_sysv (calls.SemctlGetZcnt id num) = SemctlGetZcnt id.0 num
plain_sysv (calls.SemctlSetVal id num value) = SemctlSetVal id.0 num value
plain_sysv (calls.SemctlGetAll id) = SemctlGetAll id.0
plain_sysv (calls.SemctlSetAll id values) = SemctlSetAll id.0 (bytes_of values)
plain_sysv (calls.SemctlStat id) = SemctlStat id.0
plain_sysv (calls.SemctlSet id uid gid mode) = SemctlSet id.0 uid gid mode
plain_sysv (calls.SemctlRmid id) = SemctlRmid id.0
plain_sysv (calls.Shmget key size flags) = Shmget key size flags.0
plain_sysv (calls.Shmat id flags) = Shmat id.0 flags.0
plain_sysv (calls.Shmdt attachment) = Shmdt attachment
plain_sysv (calls.ShmctlStat id) = ShmctlStat id.0
plain_sysv (calls.ShmctlSet id uid gid mode) = ShmctlSet id.0 uid gid mode
plain_sysv (calls.ShmctlRmid id) = ShmctlRmid id.0
plain_sysv (calls.AttachedRead attachment offset length) = AttachedRead attachment offset length
plain_sysv (calls.AttachedWrite attachment offset bytes) = AttachedWrite attachment offset bytes.now

abbrev pub plain_kind : RequestKind → PlainKind
plain_kind (kinds.Hello cred) = Hello cred
plain_kind kinds.Interrupt = Interrupt
plain_kind (kinds.Sysv call) = Sysv (plain_sysv call)
plain_kind (kinds.Posix call) = Posix (plain_posix call)
