-- The numbers that IPC_STAT answers, in their order: what is alike for every kind, and what each of them has.
use Rattle.std.specs.Prelude.{ℕ, List, [], ◌∷◌, length}
use Rattle.ipc_base.specs.declared.field.Field.{Field}
use Rattle.ipc_base.specs.declared.field.Field.TheVariants.{I32, U32, U64}
use Rattle.shm_segment.specs.SysSegment.{SysSegment}
use Rattle.sysv_msg.specs.Queue.{Queue, byte_count}
use Rattle.sysv_sem.specs.Set.{Set}
use Rattle.ipc_state.specs.Keyed.{KeyedEntry}

-- key, owner, creator, mode
abbrev pub perm_fields : {X : Type 0} → KeyedEntry X → ℕ → List Field
perm_fields e mode =
    I32 e.bound ∷ U32 e.perm.uid ∷ U32 e.perm.gid ∷ U32 e.perm.cuid ∷ U32 e.perm.cgid ∷ U32 mode ∷ []

-- times of the last send, receive and change; who sent and received last; the most bytes, how many messages there are,
-- and how many bytes
abbrev pub queue_fields : Queue → List Field
queue_fields q =
    U64 q.stime ∷ U64 q.rtime ∷ U64 q.ctime ∷ U32 q.lspid ∷ U32 q.lrpid ∷ U32 q.qbytes ∷ U32 (length q.messages)
    ∷ U32 (byte_count q.messages) ∷ []

-- times of the last list of operations and of the last change; how many semaphores there are
abbrev pub set_fields : Set → List Field
set_fields s = U64 s.otime ∷ U64 s.ctime ∷ U32 (length s.semaphores) ∷ []

-- times of the last attach, of the last detach and of the last change; who made it, and who attached or detached it
-- last; how many have it attached, and how many bytes there are
abbrev pub segment_fields : ℕ → SysSegment → List Field
segment_fields attachments x =
    U64 x.atime ∷ U64 x.dtime ∷ U64 x.ctime ∷ U32 x.cpid.0 ∷ U32 x.lpid.0 ∷ U32 attachments
    ∷ U64 (length x.memory.bytes) ∷ []
