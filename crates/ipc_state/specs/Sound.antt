-- What holds of each part of the state by itself, after every event: numbers rise and are never given twice, no limit
-- is passed, each key is the key of one object that is there, and no object holds more than it may. What holds between
-- parts is told where calls are put together.
use Rattle.std.specs.Prelude.{◌≡◌, ⊤, ℕ, ◌^◌, ◌<◌, ◌≤◌, pos, int_lt, Bool, true, false, nat_lt}
use Rattle.std.specs.Prelude.{length, All, sum_by, IsTrue, option_map, unwrap_or, is_some, List}
use Rattle.std.specs.FinMap as fin
use Rattle.ipc_base.specs.Table.{keys_of, EachValue, IsRising}
use Rattle.sem_undo.specs.Undo.{Key, Undo, IsSoundUndo}
use Rattle.ipc_limits.specs.declared.limits.Limits.{Limits}
use Rattle.ipc_limits.specs.Limits.{longest_body, adjustment_limit, exceeds, message_limit, queue_bytes_limit}
use Rattle.ipc_wire.specs.Reply.{PlainBody, body_bytes}
use Rattle.ipc_keys.specs.declared.check.NameKind.{NameKind}
use Rattle.ipc_keys.specs.declared.check.NameKind.TheVariants as names
use Rattle.posix_mq.specs.Queue.{Queue as Mq, PlainMessage as MqMessage}
use Rattle.posix_sem.specs.Semaphore.{sem_value_max}
use Rattle.shm_segment.specs.Segment.{Segment}
use Rattle.shm_segment.specs.SysSegment.{SysSegment}
use Rattle.sysv_msg.specs.Queue.{Queue, PlainMessage, byte_count}
use Rattle.sysv_sem.specs.Operation.{most_value}
use Rattle.sysv_sem.specs.Set.{Set}
use Rattle.ipc_state.specs.declared.processes.Process.{Process}
use Rattle.ipc_state.specs.Descriptors.{Table}
use Rattle.ipc_state.specs.Numbered.{Numbered, AreNumbered, entry_of}
use Rattle.ipc_state.specs.declared.objects.Entry.{Entry}
use Rattle.ipc_state.specs.declared.parked.ObjectKind.{ObjectKind}
use Rattle.ipc_state.specs.declared.parked.ObjectKind.TheVariants as kinds
use Rattle.ipc_state.specs.Bound.{AreBound, ObjectsOf}
use Rattle.ipc_state.specs.Keyed.{Keyed}
use Rattle.ipc_state.specs.Kinds.{Content, Objects, Those, is_bound_so, no_bound, same_bound}
use Rattle.ipc_state.specs.Named.{Named}
use Rattle.ipc_state.specs.Opening.{is_registered, is_sound_descriptor, stays}
use Rattle.ipc_state.specs.State.{State, mq_bytes, named_of, objects_in}
use Rattle.ipc_state.specs.Waiting.{AreSoundWaits}

-- a message has a type above 0 and at most msgmax bytes
pub record IsSoundMessage (limits : Limits) (m : PlainMessage) : Type 0 where
  pub above : IsTrue (int_lt (pos 0) m.mtype)
  pub short : length m.text ≤ limits.msgmax

-- a queue holds no more bytes and no more messages than msgmnb, and no more messages than their limit
pub record IsSoundMsgQueue (limits : Limits) (q : Queue) : Type 0 where
  pub bytes : byte_count q.messages ≤ limits.msgmnb
  pub count : length q.messages ≤ limits.msgmnb
  pub limit : exceeds (length q.messages) (message_limit limits) ≡ false
  pub qbytes : q.qbytes ≤ limits.msgmnb
  pub messages : All (IsSoundMessage limits) q.messages

-- each number of a queue fits in a field of four bytes
pub record HasNumbers (q : Queue) : Type 0 where
  pub bytes : byte_count q.messages < 2 ^ 32
  pub count : length q.messages < 2 ^ 32
  pub qbytes : q.qbytes < 2 ^ 32

-- a set has at least one semaphore and at most semmsl, and each a value of at most 32767
pub record IsSoundSemset (limits : Limits) (s : Set) : Type 0 where
  pub some : 0 < length s.semaphores
  pub few : length s.semaphores ≤ limits.semmsl
  pub values : All (λ x. x.value ≤ most_value) s.semaphores

-- a System V segment has at least one byte and at most shmmax
abbrev pub IsSoundShm : Limits → SysSegment → Type 0
IsSoundShm limits s = (0 < length s.memory.bytes) × (length s.memory.bytes ≤ limits.shmmax)

-- how many semaphores the sets have together
abbrev pub semaphore_count : Keyed Set → ℕ
semaphore_count o = sum_by (λ e. length e.1.object.semaphores) o.entries

-- a set has the semaphore
abbrev pub has_semaphore : Keyed Set → Key → Bool
has_semaphore sets k =
    unwrap_or (option_map (λ e. nat_lt k.1 (length e.object.semaphores)) (entry_of sets k.0)) false

-- each adjustment is at a semaphore that is there
abbrev pub AreAt : Keyed Set → Undo → Type 0
AreAt sets undo = (k : Key) → is_some (fin.get undo k) ≡ true → has_semaphore sets k ≡ true

-- a process has no more adjustments than their limit
abbrev pub AreFew : Limits → Undo → Type 0
AreFew limits undo = exceeds (fin.len undo) (adjustment_limit limits) ≡ false

-- each of these processes has adjustments, if only none, and nobody else has any; they are at semaphores of these sets,
-- each is in its range and not 0, and there are few
pub record AreAdjustments (limits : Limits) (connected : List ℕ) (sets : Keyed Set) (undo : List (ℕ × Undo))
    : Type 0 where
  pub pids : keys_of undo ≡ connected
  pub each : EachValue (AreAt sets) undo
  pub kept : EachValue IsSoundUndo undo
  pub few : EachValue (AreFew limits) undo

-- a message of a POSIX queue has a priority below 32768 and at most msgsize bytes
pub record IsSoundMqMessage (msgsize : ℕ) (m : MqMessage) : Type 0 where
  pub priority : m.priority < 32768
  pub short : length m.text ≤ msgsize

-- a POSIX queue may hold as many messages, and as long ones, as was asked for, within the limits; it holds no more
pub record IsSoundMq (limits : Limits) (q : Mq) : Type 0 where
  pub maxmsg : (0 < q.maxmsg) × (q.maxmsg ≤ limits.maxmsg)
  pub msgsize : (0 < q.msgsize) × (q.msgsize ≤ limits.msgsize)
  pub count : length q.messages ≤ q.maxmsg
  pub messages : All (IsSoundMqMessage q.msgsize) q.messages

-- each object is sound, there are no more than the most, each is bound as it may be, by one test, and stays, by another
pub record AreHeld {B X : Type 0} (same : B → B → Bool) (none : B) (most : ℕ) (IsSoundOne : X → Type 0)
    (is_proper does_stay : ℕ × Entry B X → Bool) (o : ObjectsOf B X) : Type 0 where
  pub bound : AreBound same none most IsSoundOne o
  pub forms : All (λ e. is_proper e ≡ true) o.entries
  pub stay : All (λ e. does_stay e ≡ true) o.entries

-- how many bytes the segments with a name have together, and those of System V
abbrev pub segment_bytes : Named Segment → ℕ
segment_bytes o = sum_by (λ e. length e.1.object.bytes) o.entries

abbrev pub shm_bytes : Keyed SysSegment → ℕ
shm_bytes o = sum_by (λ e. length e.1.object.memory.bytes) o.entries

-- how many objects of a kind there may be
abbrev pub most_of : Limits → ObjectKind → ℕ
most_of limits kinds.MsgQueue = limits.msgmni
most_of limits kinds.Semset = limits.semmni
most_of limits kinds.Shm = limits.shmmni
most_of limits (kinds.Named names.Mq) = limits.queues
most_of limits (kinds.Named names.Psem) = limits.named_semaphores
most_of limits (kinds.Named names.Pshm) = limits.segments

-- an object of a kind by itself: the value of a semaphore is no greater than the greatest
abbrev pub IsSoundContent : Limits → (kind : ObjectKind) → Content kind → Type 0
IsSoundContent limits kinds.MsgQueue q = IsSoundMsgQueue limits q
IsSoundContent limits kinds.Semset s = IsSoundSemset limits s
IsSoundContent limits kinds.Shm x = IsSoundShm limits x
IsSoundContent limits (kinds.Named names.Mq) q = IsSoundMq limits q
IsSoundContent limits (kinds.Named names.Psem) value = value ≤ sem_value_max
IsSoundContent limits (kinds.Named names.Pshm) x = ⊤

-- whoever is registered with a queue has it open; the queues count no more bytes than their limit
pub record AreSoundMqs (limits : Limits) (processes : List (ℕ × Process)) (o : Named Mq) : Type 0 where
  pub registered : All (λ e. is_registered processes e ≡ true) o.entries
  pub bytes : exceeds (mq_bytes o) (queue_bytes_limit limits) ≡ false

-- those of a kind together: the sets have no more semaphores, and the segments no more bytes, than the limits say
abbrev pub AreSoundTogether : Limits → List (ℕ × Process) → (kind : ObjectKind) → Those kind → Type 0
AreSoundTogether limits processes kinds.MsgQueue o = ⊤
AreSoundTogether limits processes kinds.Semset o = semaphore_count o ≤ limits.semmns
AreSoundTogether limits processes kinds.Shm o = shm_bytes o ≤ limits.shmall
AreSoundTogether limits processes (kinds.Named names.Mq) o = AreSoundMqs limits processes o
AreSoundTogether limits processes (kinds.Named names.Psem) o = ⊤
AreSoundTogether limits processes (kinds.Named names.Pshm) o = segment_bytes o ≤ limits.segment_bytes

-- the objects of a kind, each by itself and all together
pub record AreSound (limits : Limits) (processes : List (ℕ × Process)) (kind : ObjectKind)
    (o : Those kind) : Type 0 where
  pub held : AreHeld (same_bound kind) (no_bound kind) (most_of limits kind) (IsSoundContent limits kind)
      (λ e. is_bound_so kind e.1.bound e.1.perm e.1.object) (stays kind processes) o
  pub together : AreSoundTogether limits processes kind o

-- the numbers of a process's descriptors rise, each below the limit; what each is open on is there
pub record AreSoundDescriptors (limits : Limits) (o : Objects) (table : Table) : Type 0 where
  pub numbers : IsRising 0 (keys_of table) limits.descriptors
  pub each : All (λ d. is_sound_descriptor o d.1 ≡ true) table

-- pids rise, and each process's descriptors are sound
pub record AreSoundProcesses (limits : Limits) (o : Objects) (processes : Numbered Process) : Type 0 where
  pub numbered : AreNumbered limits.processes processes
  pub descriptors : All (λ p. AreSoundDescriptors limits o p.1.descriptors) processes.entries

-- each part is sound
pub record HasSoundParts (limits : Limits) (s : State) : Type 0 where
  pub processes : AreSoundProcesses limits (objects_in s) s.processes
  pub wait : AreSoundWaits limits s.wait
  pub undo : AreAdjustments limits (keys_of s.processes.entries) s.semset s.undo
  pub msg : AreSound limits s.processes.entries kinds.MsgQueue s.msg
  pub semset : AreSound limits s.processes.entries kinds.Semset s.semset
  pub shm : AreSound limits s.processes.entries kinds.Shm s.shm
  pub named : (kind : NameKind) → AreSound limits s.processes.entries (kinds.Named kind) (named_of s kind)

-- the body of a reply is no longer than the longest one
abbrev pub FitsBody : Limits → PlainBody → Type 0
FitsBody limits body = length (body_bytes body) ≤ longest_body limits
