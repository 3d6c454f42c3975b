-- What is known of numbers once they are read, marks, and what a tree is of.
use Rattle.std.specs.Prelude.{◌≡◌, ℕ, zero, suc, ◌-◌, ◌<◌, ◌≤◌, ◌^◌, ◌↔◌, List, [], ◌∷◌, ◌++◌, length}
use Rattle.std.specs.Prelude.{ℤ, take, drop, Option, Some, None, slice_get, slice_index, map, unwrap_or}
use Rattle.std.specs.Prelude.{Bool, nat_eq, nat_le, ◌==◌, ◌%◌, if◌then◌else◌, true, All}
use Rattle.std.specs.List.{flat_map, fold}
use Rattle.std.specs.FinMap as fin
use Rattle.std.specs.Int.{w16, w32, w64, cast_signed}
use Rattle.ipc_base.specs.declared.identity.Moment.{Moment}
use Rattle.ipc_limits.specs.declared.limits.Limits.{Limits}
use Rattle.ipc_base.specs.declared.objects.Mark.{Mark}
use Rattle.ipc_base.specs.Objects.{PlainObjects}
use Rattle.ipc_base.specs.Table.{value_at, with_value}
use Rattle.ipc_wire.specs.Request.{PlainRequest, Interrupt}
use Rattle.ipc_wire.specs.Stream.{PlainFrame, frame_of}
use Rattle.ipc_wire.specs.Stream.PlainFrame.{Whole}
use Rattle.sem_undo.specs.Undo.{Undo, entry_of as row_entry}
use Rattle.sem_undo.specs.declared.undo.UndoRow.{UndoRow}
use Rattle.posix_mq.specs.Queue.{Queue as Mq, PlainMessage as MqMessage}
use Rattle.posix_mq.specs.declared.queue.Registration.{Registration}
use Rattle.shm_segment.specs.Segment.{Segment}
use Rattle.shm_segment.specs.SysSegment.{SysSegment}
use Rattle.shm_segment.specs.declared.sys_segment.ShmStat.{ShmStat}
use Rattle.sysv_msg.specs.Queue.{Queue, PlainMessage}
use Rattle.sysv_sem.specs.declared.set.Semaphore.{Semaphore}
use Rattle.sysv_sem.specs.Set.{Set}
use Rattle.ipc_perm.specs.declared.perm.Perm.{Perm}
use Rattle.ipc_keys.specs.declared.check.NameKind.TheVariants as names
use Rattle.ipc_state.specs.declared.parked.ObjectKind.{ObjectKind}
use Rattle.ipc_state.specs.declared.parked.ObjectKind.TheVariants as kinds
use Rattle.ipc_state.specs.declared.parked.Awaited.{Awaited}
use Rattle.ipc_state.specs.declared.parked.Awaited.TheVariants as awaited
use Rattle.ipc_state.specs.declared.descriptors.Descriptor.{Descriptor}
use Rattle.ipc_state.specs.declared.processes.Process.{Process}
use Rattle.ipc_state.specs.Keyed.{KeyedEntry}
use Rattle.ipc_state.specs.Named.{NamedEntry, is_own}
use Rattle.ipc_state.specs.Descriptors.{Table}
use Rattle.ipc_state.specs.declared.numbered.Item.{Item}
use Rattle.ipc_state.specs.declared.state.Numbers.{Numbers}
use Rattle.ipc_image.specs.Saved.{LaterObjects}
use Rattle.ipc_state.specs.Opening.{object_as}
use Rattle.ipc_state.specs.State.{State}
use Rattle.ipc_state.specs.Tables.{item_row}
use Rattle.ipc_state.specs.Waiting.{PlainWaiting, awaited_by}
use Rattle.ipc_image.specs.declared.state_objects.OwnObject.{OwnObject}
use Rattle.ipc_image.specs.declared.state_objects.OwnObject.TheVariants as thing
use Rattle.ipc_image.specs.declared.format.Format.{Format}
use Rattle.ipc_image.specs.Kind.{FitsIn}
use Rattle.ipc_image.specs.Saved.{Adjustment, process_bytes, waiting_bytes, message_bytes, queue_object, FitsQueue}
use Rattle.ipc_image.specs.Saved.{semaphore_bytes, set_object, FitsSet, mq_message_bytes, mq_object, FitsMq, saved_in}
use Rattle.ipc_image.specs.Saved.{psem_object, FitsPsem, pshm_object, FitsSegment, shm_object, FitsShm, later_in}

-- ---- what was added

-- with these after those that are there
abbrev pub with_more : {S X : Type 0} → (S → List X) → (S → List X → S) → S → List X → S
with_more items put s xs = put s (items s ++ xs)

-- what `items` finds is what `put` put there
pub record IsPlace {S X : Type 0} (items : S → List X) (put : S → List X → S) : Type 0 where
  pub same : (s : S) → put s (items s) ≡ s
  pub found : (s : S) (xs : List X) → items (put s xs) ≡ xs
  pub again : (s : S) (xs ys : List X) → put (put s xs) ys ≡ put s ys

-- the processes of a state, its queues, its semaphore sets, its POSIX queues, its named semaphores, its segments, and
-- its System V segments
abbrev pub put_processes : State × Limits → List (ℕ × Process) → State × Limits
put_processes s xs = (record s.0 { processes = record { next = s.0.processes.next; entries = xs } }, s.1)

abbrev pub put_queues : State × Limits → List (ℕ × KeyedEntry Queue) → State × Limits
put_queues s xs = (record s.0 { msg = record { next = s.0.msg.next; entries = xs } }, s.1)

abbrev pub put_sets : State × Limits → List (ℕ × KeyedEntry Set) → State × Limits
put_sets s xs = (record s.0 { semset = record { next = s.0.semset.next; entries = xs } }, s.1)

abbrev pub put_mqs : State × Limits → List (ℕ × NamedEntry Mq) → State × Limits
put_mqs s xs = (record s.0 { mq = record { next = s.0.mq.next; entries = xs } }, s.1)

abbrev pub put_psems : State × Limits → List (ℕ × NamedEntry ℕ) → State × Limits
put_psems s xs = (record s.0 { psem = record { next = s.0.psem.next; entries = xs } }, s.1)

abbrev pub put_segments : State × Limits → List (ℕ × NamedEntry Segment) → State × Limits
put_segments s xs = (record s.0 { pshm = record { next = s.0.pshm.next; entries = xs } }, s.1)

abbrev pub put_shms : State × Limits → List (ℕ × KeyedEntry SysSegment) → State × Limits
put_shms s xs = (record s.0 { shm = record { next = s.0.shm.next; entries = xs } }, s.1)

-- those of each later kind after those that are there
abbrev pub with_more_later : State × Limits → LaterObjects → State × Limits
with_more_later s o =
    with_more (λ t. t.0.shm.entries) put_shms
    (with_more (λ t. t.0.pshm.entries) put_segments
    (with_more (λ t. t.0.psem.entries) put_psems
    (with_more (λ t. t.0.mq.entries) put_mqs s o.mq.entries) o.psem.entries) o.pshm.entries) o.shm.entries

-- with an adjustment of a process, if the process is there; with all of these
abbrev pub attached : List (ℕ × Undo) → Adjustment → List (ℕ × Undo)
attached undo x =
    with_value nat_eq undo x.0 (fin.insert (unwrap_or (value_at nat_eq undo x.0) fin.empty) x.1.0 x.1.1)

abbrev pub all_attached : List (ℕ × Undo) → List Adjustment → List (ℕ × Undo)
all_attached undo xs = fold attached undo xs

-- ---- marks

-- the bytes of the first of some things
abbrev pub first_bytes : {X : Type 0} → (X → List ℕ) → ℕ → List X → List ℕ
first_bytes bytes_of n xs = flat_map bytes_of (take n xs)

-- the mark has the bytes of the first of them
abbrev pub IsMarkIn : {X : Type 0} → (X → List ℕ) → List X → Mark → Type 0
IsMarkIn bytes_of xs m = m.bytes ≡ length (first_bytes bytes_of m.parts xs)

-- it is a mark of the one at a place; past the last, of one of those that follow
abbrev pub MarkAt : {X : Type 0} → (X → Mark → Type 0) → (ℕ → Mark → Type 0) → List X → ℕ → Mark → Type 0
MarkAt IsMark next [] at m = next at m
MarkAt IsMark next (x ∷ xs) zero m = IsMark x m
MarkAt IsMark next (x ∷ xs) (suc at) m = MarkAt IsMark next xs at m

-- of the messages of a queue, of a set's semaphores, or of the messages of a POSIX queue
abbrev pub IsMarkOfQueue : Bool → ℕ × KeyedEntry Queue → Mark → Type 0
IsMarkOfQueue marks e m = IsMarkIn (message_bytes marks) e.1.object.messages m

abbrev pub IsMarkOfSet : ℕ × KeyedEntry Set → Mark → Type 0
IsMarkOfSet e m = IsMarkIn semaphore_bytes e.1.object.semaphores m

abbrev pub IsMarkOfMq : ℕ × NamedEntry Mq → Mark → Type 0
IsMarkOfMq e m = IsMarkIn mq_message_bytes e.1.object.messages m

-- an object without a list has any
abbrev pub IsAnyMark : {X : Type 0} → X → Mark → Type 0
IsAnyMark e m = Unit {0}

-- of the one at a place among those of later kinds
abbrev pub IsMarkOfLater : LaterObjects → ℕ → Mark → Type 0
IsMarkOfLater o =
    MarkAt IsMarkOfMq
    (MarkAt IsAnyMark
    (MarkAt IsAnyMark (MarkAt IsAnyMark (λ at m. Unit {0}) o.shm.entries) o.pshm.entries) o.psem.entries) o.mq.entries

-- of the one at a place after the four objects that every state has
abbrev pub IsMarkAfter : Format → State → ℕ → Mark → Type 0
IsMarkAfter form s =
    MarkAt (IsMarkOfQueue form.marks) (MarkAt IsMarkOfSet (IsMarkOfLater (later_in s)) s.semset.entries) s.msg.entries

-- it is a mark of the i-th object; those of objects without a list are never looked at
pub record IsMarkOf (form : Format) (s : State) (i : ℕ) (m : Mark) : Type 0 where
  pub processes : i ≡ 1 → IsMarkIn process_bytes s.processes.entries m
  pub waits : i ≡ 2 → IsMarkIn waiting_bytes s.wait m
  pub things : 4 ≤ i → IsMarkAfter form s (i - 4) m

-- this object stands at a place, and the marks there are of it
pub record Stands (objects : PlainObjects) (IsMark : ℕ → Mark → Type 0) (at : ℕ) (o : ℕ × List ℕ)
    (IsOfIt : Mark → Type 0) : Type 0 where
  pub object : slice_get objects at ≡ Some o
  pub marks : (m : Mark) → IsMark at m ↔ IsOfIt m

-- the object of what has one
abbrev pub object_of : Bool → OwnObject → ℕ × List ℕ
object_of marks (thing.MsgQueue q) = queue_object marks (item_row q.now)
object_of marks (thing.Semset e) = set_object (item_row e.now)
object_of marks (thing.Mq e) = mq_object (item_row e.now)
object_of marks (thing.Psem e) = psem_object (item_row e.now)
object_of marks (thing.Pshm e) = pshm_object (item_row e.now)
object_of marks (thing.Shm e) = shm_object (item_row e.now)

-- each of its numbers has its place
abbrev pub FitsOwnObject : OwnObject → Type 0
FitsOwnObject (thing.MsgQueue q) = FitsIn FitsQueue (item_row q.now)
FitsOwnObject (thing.Semset e) = FitsIn FitsSet (item_row e.now)
FitsOwnObject (thing.Mq e) = FitsIn FitsMq (item_row e.now)
FitsOwnObject (thing.Psem e) = FitsIn FitsPsem (item_row e.now)
FitsOwnObject (thing.Pshm e) = FitsIn FitsSegment (item_row e.now)
FitsOwnObject (thing.Shm e) = FitsIn FitsShm (item_row e.now)

-- the mark is of its parts
abbrev pub IsMarkOfOwnObject : Bool → OwnObject → Mark → Type 0
IsMarkOfOwnObject marks (thing.MsgQueue q) m = IsMarkOfQueue marks (item_row q.now) m
IsMarkOfOwnObject marks (thing.Semset e) m = IsMarkOfSet (item_row e.now) m
IsMarkOfOwnObject marks (thing.Mq e) m = IsMarkOfMq (item_row e.now) m
IsMarkOfOwnObject marks (thing.Psem e) m = Unit {0}
IsMarkOfOwnObject marks (thing.Pshm e) m = Unit {0}
IsMarkOfOwnObject marks (thing.Shm e) m = Unit {0}

-- this is the i-th object, and of what it is each number has its place
pub record IsFound (form : Format) (s : State) (i : ℕ) (o : ℕ × List ℕ) (IsOfIt : Mark → Type 0) (Fits : Type 0)
    : Type 0 where
  pub stands : Stands (drop 4 (saved_in form s)) (IsMarkAfter form s) (i - 4) o IsOfIt
  pub object : slice_get (saved_in form s) i ≡ Some o
  pub short : length o.1 < 2 ^ 64
  pub fits : Fits

-- ---- what a tree is of, and what has these numbers and these parts

-- with these descriptors
abbrev pub process_from : List ℕ → Table → ℕ × Process
process_from ns descriptors = (
  slice_index ns 0,
  record {
    cred = record { uid = slice_index ns 1; gid = slice_index ns 2 };
    descriptors = descriptors;
  },
)

-- the kind of this number; a number that is none of a kind is taken for that of the last
abbrev pub kind_from : ℕ → ObjectKind
kind_from number =
    if number == 1
    then kinds.MsgQueue
    else if number == 2
    then kinds.Semset
    else if number == 3
    then kinds.Named names.Mq
    else if number == 4
    then kinds.Named names.Psem
    else if number == 5
    then kinds.Named names.Pshm
    else kinds.Shm

abbrev pub descriptor_of : List ℕ → ℕ × Descriptor
descriptor_of ns = (
  slice_index ns 0,
  record { on = object_as (kind_from (slice_index ns 1)) (slice_index ns 2); flags = slice_index ns 3 },
)

-- the adjustment of a process that a row is
abbrev pub of_process : ℕ → UndoRow → Adjustment
of_process pid row = (pid, row_entry row)

abbrev pub adjustment_of : List ℕ → Adjustment
adjustment_of ns = (slice_index ns 0, ((slice_index ns 1, slice_index ns 2), cast_signed w16 (slice_index ns 3)))

-- the request of which this is the frame; where it is none's, any one
abbrev pub request_in : PlainFrame → PlainRequest
request_in (Whole used request) = request
request_in _ = record { serial = 0; kind = Interrupt }

abbrev pub awaited_or_any : Option Awaited → Awaited
awaited_or_any on = unwrap_or on (awaited.MsgQueue (record { 0 = 0 }))

abbrev pub deadline_from : ℕ → Option Moment
deadline_from n = if n == 2 ^ 64 - 1 then None else Some (record { 0 = n })

abbrev pub waiting_from : List ℕ → PlainRequest → PlainWaiting
waiting_from ns request =
    record {
      pid = record { 0 = slice_index ns 0 };
      on = awaited_or_any (awaited_by request.kind);
      deadline = deadline_from (slice_index ns 1);
      call = request;
    }

abbrev pub waiting_of : List ℕ × List ℕ → PlainWaiting
waiting_of t = waiting_from t.0 (request_in (frame_of t.1))

abbrev pub message_from : List ℕ → ℤ → PlainMessage
message_from text mtype = record { mtype = mtype; text = text }

abbrev pub message_of : List ℕ × List ℕ → PlainMessage
message_of t = message_from t.1 (cast_signed w64 (slice_index t.0 0))

abbrev pub perm_from : List ℕ → Perm
perm_from ns =
    record {
      uid = slice_index ns 1;
      gid = slice_index ns 2;
      cuid = slice_index ns 3;
      cgid = slice_index ns 4;
      mode = slice_index ns 5;
    }

-- of an object with a name, which whoever made it owns
abbrev pub own_perm : ℕ → ℕ → ℕ → Perm
own_perm uid gid mode = record { uid = uid; gid = gid; cuid = uid; cgid = gid; mode = mode }

abbrev pub with_messages : Queue → List PlainMessage → Queue
with_messages q messages = record q { messages = messages }

abbrev pub queue_from : List ℕ → List PlainMessage → Queue
queue_from ns messages =
    record {
      messages = messages;
      qbytes = slice_index ns 5;
      stime = slice_index ns 0;
      rtime = slice_index ns 1;
      ctime = slice_index ns 2;
      lspid = slice_index ns 3;
      lrpid = slice_index ns 4;
    }

abbrev pub semaphore_from : List ℕ → Semaphore
semaphore_from ns = record { value = slice_index ns 0; pid = record { 0 = slice_index ns 1 } }

abbrev pub with_semaphores : Set → List Semaphore → Set
with_semaphores s semaphores = record s { semaphores = semaphores }

abbrev pub set_from : List ℕ → List Semaphore → Set
set_from ns semaphores = record { semaphores = semaphores; otime = slice_index ns 0; ctime = slice_index ns 1 }

-- who is registered, by the four numbers from this place on
abbrev pub registration_from : List ℕ → Option Registration
registration_from ns =
    if slice_index ns 0 == 0 then None
    else Some (record {
      pid = record { 0 = slice_index ns 1 };
      descriptor = slice_index ns 2;
      sends = slice_index ns 0 == 2;
      cookie = slice_index ns 3;
    })

abbrev pub with_mq_messages : Mq → List MqMessage → Mq
with_mq_messages q messages = record q { messages = messages }

abbrev pub mq_message_of : List ℕ × List ℕ → MqMessage
mq_message_of t = record { priority = slice_index t.0 0; text = t.1 }

abbrev pub mq_from : List ℕ × List ℕ → List MqMessage → NamedEntry Mq
mq_from t messages =
    record {
      bound = t.1;
      perm = own_perm (slice_index t.0 0) (slice_index t.0 1) (slice_index t.0 2);
      object = record {
        messages = messages;
        maxmsg = slice_index t.0 3;
        msgsize = slice_index t.0 4;
        registration = registration_from (drop 5 t.0);
      };
    }

abbrev pub psem_from : List ℕ × List ℕ → NamedEntry ℕ
psem_from t =
    record {
      bound = t.1;
      perm = own_perm (slice_index t.0 0) (slice_index t.0 1) (slice_index t.0 2);
      object = slice_index t.0 3;
    }

abbrev pub segment_from : List ℕ × List ℕ → NamedEntry Segment
segment_from t =
    record {
      bound = take (slice_index t.0 3) t.1;
      perm = own_perm (slice_index t.0 0) (slice_index t.0 1) (slice_index t.0 2);
      object = record { bytes = drop (slice_index t.0 3) t.1 };
    }

-- who may use a System V segment, whose mode has a tenth bit if it is marked; and what it tells of itself
abbrev pub shm_perm : List ℕ → Perm
shm_perm ns =
    record {
      uid = slice_index ns 1;
      gid = slice_index ns 2;
      cuid = slice_index ns 3;
      cgid = slice_index ns 4;
      mode = slice_index ns 5 % 512;
    }

abbrev pub shm_stat : List ℕ → ShmStat
shm_stat ns =
    record {
      size = 0;
      atime = record { 0 = slice_index ns 6 };
      dtime = record { 0 = slice_index ns 7 };
      ctime = record { 0 = slice_index ns 8 };
      cpid = record { 0 = slice_index ns 9 };
      lpid = record { 0 = slice_index ns 10 };
      is_marked = nat_le 512 (slice_index ns 5);
    }

abbrev pub shm_from : List ℕ × List ℕ → KeyedEntry SysSegment
shm_from t =
    record {
      bound = cast_signed w32 (slice_index t.0 0);
      perm = shm_perm t.0;
      object = record {
        memory = record { bytes = t.1 };
        atime = slice_index t.0 6;
        dtime = slice_index t.0 7;
        ctime = slice_index t.0 8;
        cpid = record { 0 = slice_index t.0 9 };
        lpid = record { 0 = slice_index t.0 10 };
        is_marked = nat_le 512 (slice_index t.0 5);
      };
    }

-- what is known of the sizes of a sound object with a name, and of the object
pub record IsSmallNamed {X : Type 0} (IsSmallObject : X → Type 0) (e : NamedEntry X) : Type 0 where
  pub own : is_own e.perm ≡ true
  pub name : length e.bound < 2 ^ 32
  pub object : IsSmallObject e.object

-- of a POSIX queue
pub record IsSmallMq (q : Mq) : Type 0 where
  pub count : length q.messages < 2 ^ 32
  pub texts : All (λ m. length m.text < 2 ^ 32) q.messages

-- the objects of later kinds that have these tables
abbrev pub seen_later : Numbers → List (Item (NamedEntry Mq)) → List (Item (NamedEntry ℕ))
    → List (Item (NamedEntry Segment)) → List (Item (KeyedEntry SysSegment)) → LaterObjects
seen_later n mqs sems segments shms =
    record {
      mq = record { next = n.next_mq; entries = map item_row mqs };
      psem = record { next = n.next_psem; entries = map item_row sems };
      pshm = record { next = n.next_pshm; entries = map item_row segments };
      shm = record { next = n.next_shm; entries = map item_row shms };
    }

-- the state that has these tables, and these objects of later kinds
abbrev pub seen_state : Numbers → List (Item Process) → List PlainWaiting → List (Item Undo)
    → List (Item (KeyedEntry Queue)) → List (Item (KeyedEntry Set)) → LaterObjects → State
seen_state n processes waits undo queues sets later =
    record {
      clock = n.clock.0;
      processes = record { next = n.next_pid; entries = map item_row processes };
      wait = waits;
      undo = map item_row undo;
      msg = record { next = n.next_msg_queue; entries = map item_row queues };
      semset = record { next = n.next_semset; entries = map item_row sets };
      mq = later.mq;
      psem = later.psem;
      pshm = later.pshm;
      shm = later.shm;
    }
