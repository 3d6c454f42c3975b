-- The POSIX calls as plain values: what the frames of their requests say, without where they lie in memory.
use Rattle.std.specs.Prelude.{ℕ, ℤ, List}
use Rattle.ipc_wire.specs.declared.posix.PosixCall.{PosixCall}
use Rattle.ipc_wire.specs.declared.posix.PosixCall.TheVariants as calls

pub data PlainPosix : Type 0 where
  Close : (fd : ℕ) → PlainPosix
  -- an attr of 0 is none: then maxmsg and msgsize mean nothing
  MqOpen : (flags mode attr : ℕ) → (maxmsg msgsize : ℤ) → (name : List ℕ) → PlainPosix
  MqUnlink : (name : List ℕ) → PlainPosix
  MqSend : (fd deadline priority : ℕ) → (text : List ℕ) → PlainPosix
  MqReceive : (fd deadline size : ℕ) → PlainPosix
  MqNotify : (fd kind cookie : ℕ) → PlainPosix
  MqGetattr : (fd : ℕ) → PlainPosix
  MqSetattr : (fd flags : ℕ) → PlainPosix
  SemOpen : (flags mode value : ℕ) → (name : List ℕ) → PlainPosix
  SemUnlink : (name : List ℕ) → PlainPosix
  SemPost : (fd : ℕ) → PlainPosix
  SemWait : (fd deadline : ℕ) → PlainPosix
  SemTrywait : (fd : ℕ) → PlainPosix
  SemGetvalue : (fd : ℕ) → PlainPosix
  ShmOpen : (flags mode : ℕ) → (name : List ℕ) → PlainPosix
  ShmUnlink : (name : List ℕ) → PlainPosix
  Ftruncate : (fd length : ℕ) → PlainPosix
  ShmRead : (fd offset length : ℕ) → PlainPosix
  ShmWrite : (fd offset : ℕ) → (bytes : List ℕ) → PlainPosix
  ShmStat : (fd : ℕ) → PlainPosix

abbrev pub plain_posix : PosixCall → PlainPosix
plain_posix (calls.Close fd) = Close fd
plain_posix (calls.MqOpen flags mode attr maxmsg msgsize name) = MqOpen flags.0 mode attr maxmsg msgsize name.now
plain_posix (calls.MqUnlink name) = MqUnlink name.now
plain_posix (calls.MqSend fd deadline priority text) = MqSend fd deadline priority text.now
plain_posix (calls.MqReceive fd deadline size) = MqReceive fd deadline size
plain_posix (calls.MqNotify fd kind cookie) = MqNotify fd kind cookie
plain_posix (calls.MqGetattr fd) = MqGetattr fd
plain_posix (calls.MqSetattr fd flags) = MqSetattr fd flags.0
plain_posix (calls.SemOpen flags mode value name) = SemOpen flags.0 mode value name.now
plain_posix (calls.SemUnlink name) = SemUnlink name.now
plain_posix (calls.SemPost fd) = SemPost fd
plain_posix (calls.SemWait fd deadline) = SemWait fd deadline
plain_posix (calls.SemTrywait fd) = SemTrywait fd
plain_posix (calls.SemGetvalue fd) = SemGetvalue fd
plain_posix (calls.ShmOpen flags mode name) = ShmOpen flags.0 mode name.now
plain_posix (calls.ShmUnlink name) = ShmUnlink name.now
plain_posix (calls.Ftruncate fd length) = Ftruncate fd length
plain_posix (calls.ShmRead fd offset length) = ShmRead fd offset length
plain_posix (calls.ShmWrite fd offset bytes) = ShmWrite fd offset bytes.now
plain_posix (calls.ShmStat fd) = ShmStat fd
