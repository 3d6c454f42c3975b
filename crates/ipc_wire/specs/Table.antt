-- The table of requests: a row for each has its opcode, what follows it, and the request that this makes.
use Rattle.std.specs.Prelude.{ℕ, List, [], ◌∷◌, ◌==◌, if◌then◌else◌, Option, Some, None}
use Rattle.ipc_base.specs.Numbers.{Kind, U8, U32, U64, I32, I64, Values}
use Rattle.ipc_wire.specs.Fields.{Rest, Nothing, Bytes, Units}
use Rattle.ipc_wire.specs.Posix as posix
use Rattle.ipc_wire.specs.Request.{PlainKind, Hello, Interrupt, Sysv, Posix}
use Rattle.ipc_wire.specs.Request as requests

-- a row: the opcode, the fields, what the rest of the frame after them is, and the request
pub record Row : Type 0 where
  pub opcode : ℕ
  pub fields : List Kind
  pub rest : Rest
  pub make : Values fields → List ℕ → PlainKind

-- uid, gid
abbrev pub hello : Row
hello =
    record {
      opcode = 0x01;
      fields = U32 ∷ U32 ∷ [];
      rest = Nothing;
      make = λ v rest. Hello (record { uid = v.0; gid = v.1.0 });
    }

-- nothing
abbrev pub interrupt : Row
interrupt = record { opcode = 0x02; fields = []; rest = Nothing; make = λ v rest. Interrupt }

-- fd
abbrev pub close : Row
close =
    record {
      opcode = 0x03;
      fields = U32 ∷ [];
      rest = Nothing;
      make = λ v rest. Posix (posix.Close v.0);
    }

-- key, flags
abbrev pub msgget : Row
msgget =
    record {
      opcode = 0x0a;
      fields = I32 ∷ U32 ∷ [];
      rest = Nothing;
      make = λ v rest. Sysv (requests.Msgget v.0 v.1.0);
    }

-- id, flags, type; the rest is the text
abbrev pub msgsnd : Row
msgsnd =
    record {
      opcode = 0x0b;
      fields = U32 ∷ U32 ∷ I64 ∷ [];
      rest = Bytes;
      make = λ v rest. Sysv (requests.Msgsnd v.0 v.1.0 v.1.1.0 rest);
    }

-- id, flags, size, type
abbrev pub msgrcv : Row
msgrcv =
    record {
      opcode = 0x0c;
      fields = U32 ∷ U32 ∷ U32 ∷ I64 ∷ [];
      rest = Nothing;
      make = λ v rest. Sysv (requests.Msgrcv v.0 v.1.0 v.1.1.0 v.1.1.1.0);
    }

-- id
abbrev pub msgctl_stat : Row
msgctl_stat =
    record {
      opcode = 0x0d;
      fields = U32 ∷ [];
      rest = Nothing;
      make = λ v rest. Sysv (requests.MsgctlStat v.0);
    }

-- id, uid, gid, mode, qbytes
abbrev pub msgctl_set : Row
msgctl_set =
    record {
      opcode = 0x0e;
      fields = U32 ∷ U32 ∷ U32 ∷ U32 ∷ U32 ∷ [];
      rest = Nothing;
      make = λ v rest. Sysv (requests.MsgctlSet v.0 v.1.0 v.1.1.0 v.1.1.1.0 v.1.1.1.1.0);
    }

-- id
abbrev pub msgctl_rmid : Row
msgctl_rmid =
    record {
      opcode = 0x0f;
      fields = U32 ∷ [];
      rest = Nothing;
      make = λ v rest. Sysv (requests.MsgctlRmid v.0);
    }

-- key, nsems, flags
abbrev pub semget : Row
semget =
    record {
      opcode = 0x14;
      fields = I32 ∷ I32 ∷ U32 ∷ [];
      rest = Nothing;
      make = λ v rest. Sysv (requests.Semget v.0 v.1.0 v.1.1.0);
    }

-- id, timeout; the rest is the operations, each of six bytes
abbrev pub semop : Row
semop =
    record {
      opcode = 0x15;
      fields = U32 ∷ U64 ∷ [];
      rest = Units 6;
      make = λ v rest. Sysv (requests.Semop v.0 v.1.0 rest);
    }

-- id, num
abbrev pub semctl_get_val : Row
semctl_get_val =
    record {
      opcode = 0x16;
      fields = U32 ∷ U32 ∷ [];
      rest = Nothing;
      make = λ v rest. Sysv (requests.SemctlGetVal v.0 v.1.0);
    }

-- id, num
abbrev pub semctl_get_pid : Row
semctl_get_pid =
    record {
      opcode = 0x17;
      fields = U32 ∷ U32 ∷ [];
      rest = Nothing;
      make = λ v rest. Sysv (requests.SemctlGetPid v.0 v.1.0);
    }

-- id, num
abbrev pub semctl_get_ncnt : Row
semctl_get_ncnt =
    record {
      opcode = 0x18;
      fields = U32 ∷ U32 ∷ [];
      rest = Nothing;
      make = λ v rest. Sysv (requests.SemctlGetNcnt v.0 v.1.0);
    }

-- id, num
abbrev pub semctl_get_zcnt : Row
semctl_get_zcnt =
    record {
      opcode = 0x19;
      fields = U32 ∷ U32 ∷ [];
      rest = Nothing;
      make = λ v rest. Sysv (requests.SemctlGetZcnt v.0 v.1.0);
    }

-- id, num, value
abbrev pub semctl_set_val : Row
semctl_set_val =
    record {
      opcode = 0x1a;
      fields = U32 ∷ U32 ∷ I32 ∷ [];
      rest = Nothing;
      make = λ v rest. Sysv (requests.SemctlSetVal v.0 v.1.0 v.1.1.0);
    }

-- id
abbrev pub semctl_get_all : Row
semctl_get_all =
    record {
      opcode = 0x1b;
      fields = U32 ∷ [];
      rest = Nothing;
      make = λ v rest. Sysv (requests.SemctlGetAll v.0);
    }

-- id; the rest is the values, each of two bytes
abbrev pub semctl_set_all : Row
semctl_set_all =
    record {
      opcode = 0x1c;
      fields = U32 ∷ [];
      rest = Units 2;
      make = λ v rest. Sysv (requests.SemctlSetAll v.0 rest);
    }

-- id
abbrev pub semctl_stat : Row
semctl_stat =
    record {
      opcode = 0x1d;
      fields = U32 ∷ [];
      rest = Nothing;
      make = λ v rest. Sysv (requests.SemctlStat v.0);
    }

-- id, uid, gid, mode
abbrev pub semctl_set : Row
semctl_set =
    record {
      opcode = 0x1e;
      fields = U32 ∷ U32 ∷ U32 ∷ U32 ∷ [];
      rest = Nothing;
      make = λ v rest. Sysv (requests.SemctlSet v.0 v.1.0 v.1.1.0 v.1.1.1.0);
    }

-- id
abbrev pub semctl_rmid : Row
semctl_rmid =
    record {
      opcode = 0x1f;
      fields = U32 ∷ [];
      rest = Nothing;
      make = λ v rest. Sysv (requests.SemctlRmid v.0);
    }

-- flags, mode, attr, maxmsg, msgsize; the rest is the name
abbrev pub mq_open : Row
mq_open =
    record {
      opcode = 0x28;
      fields = U32 ∷ U32 ∷ U8 ∷ I32 ∷ I32 ∷ [];
      rest = Bytes;
      make = λ v rest. Posix (posix.MqOpen v.0 v.1.0 v.1.1.0 v.1.1.1.0 v.1.1.1.1.0 rest);
    }

-- nothing; the rest is the name
abbrev pub mq_unlink : Row
mq_unlink = record { opcode = 0x29; fields = []; rest = Bytes; make = λ v rest. Posix (posix.MqUnlink rest) }

-- fd, deadline, priority; the rest is the text
abbrev pub mq_send : Row
mq_send =
    record {
      opcode = 0x2a;
      fields = U32 ∷ U64 ∷ U32 ∷ [];
      rest = Bytes;
      make = λ v rest. Posix (posix.MqSend v.0 v.1.0 v.1.1.0 rest);
    }

-- fd, deadline, size
abbrev pub mq_receive : Row
mq_receive =
    record {
      opcode = 0x2b;
      fields = U32 ∷ U64 ∷ U32 ∷ [];
      rest = Nothing;
      make = λ v rest. Posix (posix.MqReceive v.0 v.1.0 v.1.1.0);
    }

-- fd, kind, cookie
abbrev pub mq_notify : Row
mq_notify =
    record {
      opcode = 0x2c;
      fields = U32 ∷ U32 ∷ U32 ∷ [];
      rest = Nothing;
      make = λ v rest. Posix (posix.MqNotify v.0 v.1.0 v.1.1.0);
    }

-- fd
abbrev pub mq_getattr : Row
mq_getattr =
    record {
      opcode = 0x2d;
      fields = U32 ∷ [];
      rest = Nothing;
      make = λ v rest. Posix (posix.MqGetattr v.0);
    }

-- fd, flags
abbrev pub mq_setattr : Row
mq_setattr =
    record {
      opcode = 0x2e;
      fields = U32 ∷ U32 ∷ [];
      rest = Nothing;
      make = λ v rest. Posix (posix.MqSetattr v.0 v.1.0);
    }

-- flags, mode, value; the rest is the name
abbrev pub sem_open : Row
sem_open =
    record {
      opcode = 0x32;
      fields = U32 ∷ U32 ∷ U32 ∷ [];
      rest = Bytes;
      make = λ v rest. Posix (posix.SemOpen v.0 v.1.0 v.1.1.0 rest);
    }

-- nothing; the rest is the name
abbrev pub sem_unlink : Row
sem_unlink = record { opcode = 0x33; fields = []; rest = Bytes; make = λ v rest. Posix (posix.SemUnlink rest) }

-- fd
abbrev pub sem_post : Row
sem_post =
    record {
      opcode = 0x34;
      fields = U32 ∷ [];
      rest = Nothing;
      make = λ v rest. Posix (posix.SemPost v.0);
    }

-- fd, deadline
abbrev pub sem_wait : Row
sem_wait =
    record {
      opcode = 0x35;
      fields = U32 ∷ U64 ∷ [];
      rest = Nothing;
      make = λ v rest. Posix (posix.SemWait v.0 v.1.0);
    }

-- fd
abbrev pub sem_trywait : Row
sem_trywait =
    record {
      opcode = 0x36;
      fields = U32 ∷ [];
      rest = Nothing;
      make = λ v rest. Posix (posix.SemTrywait v.0);
    }

-- fd
abbrev pub sem_getvalue : Row
sem_getvalue =
    record {
      opcode = 0x37;
      fields = U32 ∷ [];
      rest = Nothing;
      make = λ v rest. Posix (posix.SemGetvalue v.0);
    }

-- flags, mode; the rest is the name
abbrev pub shm_open : Row
shm_open =
    record {
      opcode = 0x3c;
      fields = U32 ∷ U32 ∷ [];
      rest = Bytes;
      make = λ v rest. Posix (posix.ShmOpen v.0 v.1.0 rest);
    }

-- nothing; the rest is the name
abbrev pub shm_unlink : Row
shm_unlink = record { opcode = 0x3d; fields = []; rest = Bytes; make = λ v rest. Posix (posix.ShmUnlink rest) }

-- fd, length
abbrev pub ftruncate : Row
ftruncate =
    record {
      opcode = 0x3e;
      fields = U32 ∷ U64 ∷ [];
      rest = Nothing;
      make = λ v rest. Posix (posix.Ftruncate v.0 v.1.0);
    }

-- fd, offset, length
abbrev pub shm_read : Row
shm_read =
    record {
      opcode = 0x3f;
      fields = U32 ∷ U64 ∷ U32 ∷ [];
      rest = Nothing;
      make = λ v rest. Posix (posix.ShmRead v.0 v.1.0 v.1.1.0);
    }

-- fd, offset; the rest is the bytes
abbrev pub shm_write : Row
shm_write =
    record {
      opcode = 0x40;
      fields = U32 ∷ U64 ∷ [];
      rest = Bytes;
      make = λ v rest. Posix (posix.ShmWrite v.0 v.1.0 rest);
    }

-- fd
abbrev pub shm_stat : Row
shm_stat =
    record {
      opcode = 0x41;
      fields = U32 ∷ [];
      rest = Nothing;
      make = λ v rest. Posix (posix.ShmStat v.0);
    }

-- key, size, flags
abbrev pub shmget : Row
shmget =
    record {
      opcode = 0x46;
      fields = I32 ∷ U64 ∷ U32 ∷ [];
      rest = Nothing;
      make = λ v rest. Sysv (requests.Shmget v.0 v.1.0 v.1.1.0);
    }

-- id, flags
abbrev pub shmat : Row
shmat =
    record {
      opcode = 0x47;
      fields = U32 ∷ U32 ∷ [];
      rest = Nothing;
      make = λ v rest. Sysv (requests.Shmat v.0 v.1.0);
    }

-- attachment
abbrev pub shmdt : Row
shmdt =
    record {
      opcode = 0x48;
      fields = U32 ∷ [];
      rest = Nothing;
      make = λ v rest. Sysv (requests.Shmdt v.0);
    }

-- id
abbrev pub shmctl_stat : Row
shmctl_stat =
    record {
      opcode = 0x49;
      fields = U32 ∷ [];
      rest = Nothing;
      make = λ v rest. Sysv (requests.ShmctlStat v.0);
    }

-- id, uid, gid, mode
abbrev pub shmctl_set : Row
shmctl_set =
    record {
      opcode = 0x4a;
      fields = U32 ∷ U32 ∷ U32 ∷ U32 ∷ [];
      rest = Nothing;
      make = λ v rest. Sysv (requests.ShmctlSet v.0 v.1.0 v.1.1.0 v.1.1.1.0);
    }

-- id
abbrev pub shmctl_rmid : Row
shmctl_rmid =
    record {
      opcode = 0x4b;
      fields = U32 ∷ [];
      rest = Nothing;
      make = λ v rest. Sysv (requests.ShmctlRmid v.0);
    }

-- attachment, offset, length
abbrev pub attached_read : Row
attached_read =
    record {
      opcode = 0x4c;
      fields = U32 ∷ U64 ∷ U32 ∷ [];
      rest = Nothing;
      make = λ v rest. Sysv (requests.AttachedRead v.0 v.1.0 v.1.1.0);
    }

-- attachment, offset; the rest is the bytes
abbrev pub attached_write : Row
attached_write =
    record {
      opcode = 0x4d;
      fields = U32 ∷ U64 ∷ [];
      rest = Bytes;
      make = λ v rest. Sysv (requests.AttachedWrite v.0 v.1.0 rest);
    }

abbrev pub rows : List Row
rows =
    hello ∷ interrupt ∷ close
    ∷ msgget ∷ msgsnd ∷ msgrcv ∷ msgctl_stat ∷ msgctl_set ∷ msgctl_rmid
    ∷ semget ∷ semop ∷ semctl_get_val ∷ semctl_get_pid ∷ semctl_get_ncnt ∷ semctl_get_zcnt
    ∷ semctl_set_val ∷ semctl_get_all ∷ semctl_set_all
    ∷ semctl_stat ∷ semctl_set ∷ semctl_rmid
    ∷ mq_open ∷ mq_unlink ∷ mq_send ∷ mq_receive ∷ mq_notify ∷ mq_getattr ∷ mq_setattr
    ∷ sem_open ∷ sem_unlink ∷ sem_post ∷ sem_wait ∷ sem_trywait ∷ sem_getvalue
    ∷ shm_open ∷ shm_unlink ∷ ftruncate ∷ shm_read ∷ shm_write ∷ shm_stat
    ∷ shmget ∷ shmat ∷ shmdt ∷ shmctl_stat ∷ shmctl_set ∷ shmctl_rmid ∷ attached_read ∷ attached_write ∷ []

-- the row of an opcode among rows, if it has one
abbrev pub row_among : List Row → ℕ → Option Row
row_among [] opcode = None
row_among (row ∷ others) opcode = if opcode == row.opcode then Some row else row_among others opcode

abbrev pub row_of : ℕ → Option Row
row_of opcode = row_among rows opcode

-- a request taken apart: its row, the numbers of the fields, and the rest
pub record Parts : Type 0 where
  pub row : Row
  pub values : Values row.fields
  pub rest : List ℕ

abbrev pub parts_of : PlainKind → Parts
parts_of (Hello cred) = record { row = hello; values = (cred.uid, (cred.gid, tt)); rest = [] }
parts_of Interrupt = record { row = interrupt; values = tt; rest = [] }
parts_of (Posix (posix.Close fd)) = record { row = close; values = (fd, tt); rest = [] }
parts_of (Sysv (requests.Msgget key flags)) = record { row = msgget; values = (key, (flags, tt)); rest = [] }
parts_of (Sysv (requests.Msgsnd id flags mtype text)) =
    record { row = msgsnd; values = (id, (flags, (mtype, tt))); rest = text }
parts_of (Sysv (requests.Msgrcv id flags size mtype)) =
    record { row = msgrcv; values = (id, (flags, (size, (mtype, tt)))); rest = [] }
parts_of (Sysv (requests.MsgctlStat id)) = record { row = msgctl_stat; values = (id, tt); rest = [] }
parts_of (Sysv (requests.MsgctlSet id uid gid mode qbytes)) =
    record { row = msgctl_set; values = (id, (uid, (gid, (mode, (qbytes, tt))))); rest = [] }
parts_of (Sysv (requests.MsgctlRmid id)) = record { row = msgctl_rmid; values = (id, tt); rest = [] }
parts_of (Sysv (requests.Semget key nsems flags)) =
    record { row = semget; values = (key, (nsems, (flags, tt))); rest = [] }
parts_of (Sysv (requests.Semop id timeout operations)) =
    record { row = semop; values = (id, (timeout, tt)); rest = operations }
parts_of (Sysv (requests.SemctlGetVal id num)) = record { row = semctl_get_val; values = (id, (num, tt)); rest = [] }
parts_of (Sysv (requests.SemctlGetPid id num)) = record { row = semctl_get_pid; values = (id, (num, tt)); rest = [] }
parts_of (Sysv (requests.SemctlGetNcnt id num)) =
    record { row = semctl_get_ncnt; values = (id, (num, tt)); rest = [] }
parts_of (Sysv (requests.SemctlGetZcnt id num)) =
    record { row = semctl_get_zcnt; values = (id, (num, tt)); rest = [] }
parts_of (Sysv (requests.SemctlSetVal id num value)) =
    record { row = semctl_set_val; values = (id, (num, (value, tt))); rest = [] }
parts_of (Sysv (requests.SemctlGetAll id)) = record { row = semctl_get_all; values = (id, tt); rest = [] }
parts_of (Sysv (requests.SemctlSetAll id values)) =
    record { row = semctl_set_all; values = (id, tt); rest = values }
parts_of (Sysv (requests.SemctlStat id)) = record { row = semctl_stat; values = (id, tt); rest = [] }
parts_of (Sysv (requests.SemctlSet id uid gid mode)) =
    record { row = semctl_set; values = (id, (uid, (gid, (mode, tt)))); rest = [] }
parts_of (Sysv (requests.SemctlRmid id)) = record { row = semctl_rmid; values = (id, tt); rest = [] }
parts_of (Sysv (requests.Shmget key size flags)) =
    record { row = shmget; values = (key, (size, (flags, tt))); rest = [] }
parts_of (Sysv (requests.Shmat id flags)) = record { row = shmat; values = (id, (flags, tt)); rest = [] }
parts_of (Sysv (requests.Shmdt attachment)) = record { row = shmdt; values = (attachment, tt); rest = [] }
parts_of (Sysv (requests.ShmctlStat id)) = record { row = shmctl_stat; values = (id, tt); rest = [] }
parts_of (Sysv (requests.ShmctlSet id uid gid mode)) =
    record { row = shmctl_set; values = (id, (uid, (gid, (mode, tt)))); rest = [] }
parts_of (Sysv (requests.ShmctlRmid id)) = record { row = shmctl_rmid; values = (id, tt); rest = [] }
parts_of (Sysv (requests.AttachedRead attachment offset length)) =
    record { row = attached_read; values = (attachment, (offset, (length, tt))); rest = [] }
parts_of (Sysv (requests.AttachedWrite attachment offset bytes)) =
    record { row = attached_write; values = (attachment, (offset, tt)); rest = bytes }
parts_of (Posix (posix.MqOpen flags mode attr maxmsg msgsize name)) =
    record { row = mq_open; values = (flags, (mode, (attr, (maxmsg, (msgsize, tt))))); rest = name }
parts_of (Posix (posix.MqUnlink name)) = record { row = mq_unlink; values = tt; rest = name }
parts_of (Posix (posix.MqSend fd deadline priority text)) =
    record { row = mq_send; values = (fd, (deadline, (priority, tt))); rest = text }
parts_of (Posix (posix.MqReceive fd deadline size)) =
    record { row = mq_receive; values = (fd, (deadline, (size, tt))); rest = [] }
parts_of (Posix (posix.MqNotify fd kind cookie)) =
    record { row = mq_notify; values = (fd, (kind, (cookie, tt))); rest = [] }
parts_of (Posix (posix.MqGetattr fd)) = record { row = mq_getattr; values = (fd, tt); rest = [] }
parts_of (Posix (posix.MqSetattr fd flags)) = record { row = mq_setattr; values = (fd, (flags, tt)); rest = [] }
parts_of (Posix (posix.SemOpen flags mode value name)) =
    record { row = sem_open; values = (flags, (mode, (value, tt))); rest = name }
parts_of (Posix (posix.SemUnlink name)) = record { row = sem_unlink; values = tt; rest = name }
parts_of (Posix (posix.SemPost fd)) = record { row = sem_post; values = (fd, tt); rest = [] }
parts_of (Posix (posix.SemWait fd deadline)) = record { row = sem_wait; values = (fd, (deadline, tt)); rest = [] }
parts_of (Posix (posix.SemTrywait fd)) = record { row = sem_trywait; values = (fd, tt); rest = [] }
parts_of (Posix (posix.SemGetvalue fd)) = record { row = sem_getvalue; values = (fd, tt); rest = [] }
parts_of (Posix (posix.ShmOpen flags mode name)) = record { row = shm_open; values = (flags, (mode, tt)); rest = name }
parts_of (Posix (posix.ShmUnlink name)) = record { row = shm_unlink; values = tt; rest = name }
parts_of (Posix (posix.Ftruncate fd length)) = record { row = ftruncate; values = (fd, (length, tt)); rest = [] }
parts_of (Posix (posix.ShmRead fd offset length)) =
    record { row = shm_read; values = (fd, (offset, (length, tt))); rest = [] }
parts_of (Posix (posix.ShmWrite fd offset bytes)) =
    record { row = shm_write; values = (fd, (offset, tt)); rest = bytes }
parts_of (Posix (posix.ShmStat fd)) = record { row = shm_stat; values = (fd, tt); rest = [] }
