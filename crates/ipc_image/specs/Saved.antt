-- The state as objects, each of them some bytes under a number: what a checkpoint keeps. There are four that every
-- state has, and one for each message queue, semaphore set, POSIX queue, named semaphore, segment and System V
-- segment. Of a call that waits the object on which it waits is not kept: its request says it.
use Rattle.std.specs.Prelude.{◌≡◌, ◌+◌, ◌*◌, ◌-◌, ◌<◌, ◌≤◌, ◌^◌, ℕ, ℤ, List, [], ◌∷◌, ◌++◌}
use Rattle.std.specs.Prelude.{length, map, take, slice_index, All, FitsSigned, Option, Some, None, IfSome, nat_eq}
use Rattle.std.specs.Prelude.{Bool, if◌then◌else◌, true, false, ⊤}
use Rattle.std.specs.FinMap as fin
use Rattle.std.specs.Int.{w16, w32, w64, cast_unsigned}
use Rattle.std.specs.List.{flat_map, IsDistinct}
use Rattle.ipc_base.specs.declared.identity.Moment.{Moment}
use Rattle.ipc_limits.specs.declared.limits.Limits.{Limits}
use Rattle.ipc_base.specs.Objects.{PlainObjects}
use Rattle.ipc_base.specs.Table.{keys_of}
use Rattle.ipc_wait.specs.Waits.{HaveDistinctPids}
use Rattle.ipc_wire.specs.Spelling.{HasFrame, request_bytes}
use Rattle.sem_undo.specs.Undo.{Key, Undo, IsKept}
use Rattle.posix_mq.specs.Queue.{Queue as Mq, PlainMessage as MqMessage}
use Rattle.posix_mq.specs.declared.queue.Registration.{Registration}
use Rattle.posix_sem.specs.Semaphore.{sem_value_max}
use Rattle.shm_segment.specs.Segment.{Segment}
use Rattle.shm_segment.specs.SysSegment.{SysSegment}
use Rattle.sysv_msg.specs.Queue.{Queue, PlainMessage}
use Rattle.sysv_sem.specs.Operation.{most_value}
use Rattle.sysv_sem.specs.declared.set.Semaphore.{Semaphore}
use Rattle.sysv_sem.specs.Set.{Set}
use Rattle.ipc_perm.specs.declared.perm.Perm.{Perm}
use Rattle.ipc_keys.specs.declared.check.NameKind.TheVariants as names
use Rattle.ipc_state.specs.declared.parked.ObjectKind.{ObjectKind}
use Rattle.ipc_state.specs.declared.parked.ObjectKind.TheVariants as kinds
use Rattle.ipc_state.specs.declared.descriptors.Descriptor.{Descriptor}
use Rattle.ipc_state.specs.Keyed.{Keyed, KeyedEntry}
use Rattle.ipc_state.specs.Named.{Named, NamedEntry, is_own}
use Rattle.ipc_state.specs.declared.processes.Process.{Process}
use Rattle.ipc_engine.specs.Sound.{IsSound}
use Rattle.ipc_state.specs.State.{State, start}
use Rattle.ipc_state.specs.Waiting.{PlainWaiting, awaited_by}
use Rattle.ipc_base.specs.declared.field.Size.{Size}
use Rattle.ipc_base.specs.declared.field.Size.TheVariants.{Two, Four, Eight}
use Rattle.ipc_base.specs.Numbers.{fields_bytes, FitFields}
use Rattle.ipc_image.specs.declared.format.Format.{Format}
use Rattle.ipc_image.specs.Format.{format, has_shms}
use Rattle.ipc_image.specs.Kind.{object_in, FitsIn}
use Rattle.ipc_image.specs.Shape.{Shape, Fields, Texts, Tree, IsTree, bytes_in}

-- ---- the four that every state has

-- the clock, the next pid, and the next number of each of six kinds: message queues, semaphore sets, POSIX queues,
-- named semaphores, segments, System V segments
abbrev pub clock_sizes : List Size
clock_sizes = Eight ∷ Four ∷ Four ∷ Four ∷ Four ∷ Four ∷ Four ∷ Four ∷ []

abbrev pub clock_numbers : State → List ℕ
clock_numbers s =
    s.clock ∷ s.processes.next ∷ s.msg.next ∷ s.semset.next ∷ s.mq.next ∷ s.psem.next ∷ s.pshm.next ∷ s.shm.next ∷ []

abbrev pub count_bytes : ℕ → List ℕ
count_bytes n = fields_bytes (Four ∷ []) (n ∷ [])

-- how many of some things there are, and each of them
abbrev pub counted_bytes : {X : Type 0} → (X → List ℕ) → List X → List ℕ
counted_bytes bytes_of xs = count_bytes (length xs) ++ flat_map bytes_of xs

-- the number of a kind of objects
abbrev pub kind_number : ObjectKind → ℕ
kind_number kinds.MsgQueue = 1
kind_number kinds.Semset = 2
kind_number (kinds.Named names.Mq) = 3
kind_number (kinds.Named names.Psem) = 4
kind_number (kinds.Named names.Pshm) = 5
kind_number kinds.Shm = 6

-- a descriptor: its number, the kind and the number of what it is open on, and its flags
abbrev pub descriptor_sizes : List Size
descriptor_sizes = Four ∷ Four ∷ Four ∷ Four ∷ []

abbrev pub descriptor_shape : Shape
descriptor_shape = Fields descriptor_sizes

abbrev pub descriptor_numbers : ℕ × Descriptor → List ℕ
descriptor_numbers d = d.0 ∷ kind_number d.1.on.kind ∷ d.1.on.number ∷ d.1.flags ∷ []

abbrev pub descriptor_bytes : ℕ × Descriptor → List ℕ
descriptor_bytes = bytes_in descriptor_shape descriptor_numbers

-- a process: its pid, its user, its group, how many descriptors it has, and each of them
abbrev pub process_sizes : List Size
process_sizes = Four ∷ Four ∷ Four ∷ Four ∷ []

abbrev pub process_shape : Shape
process_shape = Texts process_sizes (λ ns. 16 * slice_index ns 3)

abbrev pub process_numbers : ℕ × Process → List ℕ
process_numbers p = p.0 ∷ p.1.cred.uid ∷ p.1.cred.gid ∷ length p.1.descriptors ∷ []

abbrev pub process_tree : ℕ × Process → Tree process_shape
process_tree p = (process_numbers p, flat_map descriptor_bytes p.1.descriptors)

abbrev pub process_bytes : ℕ × Process → List ℕ
process_bytes = bytes_in process_shape process_tree

-- how many processes there are, and each of them, by pid
abbrev pub processes_bytes : List (ℕ × Process) → List ℕ
processes_bytes processes = counted_bytes process_bytes processes

-- a deadline as a number, of which the greatest is none
abbrev pub deadline_number : Option Moment → ℕ
deadline_number None = 2 ^ 64 - 1
deadline_number (Some deadline) = deadline.0

-- a call that waits: its pid, its deadline, how long its request is, and the request: its frame without the length
abbrev pub waiting_sizes : List Size
waiting_sizes = Four ∷ Eight ∷ Four ∷ []

abbrev pub waiting_shape : Shape
waiting_shape = Texts waiting_sizes (λ ns. slice_index ns 2)

abbrev pub waiting_numbers : PlainWaiting → List ℕ
waiting_numbers w = w.pid.0 ∷ deadline_number w.deadline ∷ length (request_bytes w.call) ∷ []

abbrev pub waiting_tree : PlainWaiting → Tree waiting_shape
waiting_tree w = (waiting_numbers w, request_bytes w.call)

abbrev pub waiting_bytes : PlainWaiting → List ℕ
waiting_bytes = bytes_in waiting_shape waiting_tree

-- how many calls wait, and each of them, in the order in which they came
abbrev pub waits_bytes : List PlainWaiting → List ℕ
waits_bytes calls = counted_bytes waiting_bytes calls

-- an adjustment of a process: its pid, and the set, the number and the adjustment
abbrev pub Adjustment : Type 0
Adjustment = ℕ × (Key × ℤ)

abbrev pub adjustment_sizes : List Size
adjustment_sizes = Four ∷ Four ∷ Two ∷ Two ∷ []

abbrev pub adjustment_shape : Shape
adjustment_shape = Fields adjustment_sizes

abbrev pub adjustment_numbers : Adjustment → List ℕ
adjustment_numbers x = x.0 ∷ x.1.0.0 ∷ x.1.0.1 ∷ cast_unsigned w16 x.1.1 ∷ []

abbrev pub adjustment_bytes : Adjustment → List ℕ
adjustment_bytes = bytes_in adjustment_shape adjustment_numbers

-- those of one process, and those of all, by pid, set and number
abbrev pub adjustments_of : ℕ × Undo → List Adjustment
adjustments_of p = map (λ a. (p.0, a)) (fin.entries p.1)

abbrev pub adjustments_in : List (ℕ × Undo) → List Adjustment
adjustments_in undo = flat_map adjustments_of undo

-- how many adjustments there are, and each of them
abbrev pub adjustments_bytes : List (ℕ × Undo) → List ℕ
adjustments_bytes undo = counted_bytes adjustment_bytes (adjustments_in undo)

-- ---- objects with a key

-- key, uid, gid, cuid, cgid, mode
abbrev pub head_sizes : List Size
head_sizes = Four ∷ Four ∷ Four ∷ Four ∷ Four ∷ Four ∷ []

abbrev pub head_numbers : ℤ → Perm → List ℕ
head_numbers key p = cast_unsigned w32 key ∷ p.uid ∷ p.gid ∷ p.cuid ∷ p.cgid ∷ p.mode ∷ []

-- these, its own numbers, how many parts it has, and each of them
abbrev pub entry_bytes : {X P : Type 0} → List Size → (X → List ℕ) → (P → List ℕ) → (X → List P) → KeyedEntry X
    → List ℕ
entry_bytes sizes numbers part_bytes parts e =
    fields_bytes head_sizes (head_numbers e.bound e.perm)
    ++ (fields_bytes sizes (numbers e.object) ++ counted_bytes part_bytes (parts e.object))

-- ---- message queues

-- stime, rtime, ctime, lspid, lrpid, qbytes
abbrev pub queue_sizes : List Size
queue_sizes = Eight ∷ Eight ∷ Eight ∷ Four ∷ Four ∷ Four ∷ []

abbrev pub queue_numbers : Queue → List ℕ
queue_numbers q = q.stime ∷ q.rtime ∷ q.ctime ∷ q.lspid ∷ q.lrpid ∷ q.qbytes ∷ []

-- A message: its type, how long its text is, and the text. With marks it has before the length how often it was taken,
-- and by which token, by whom and when it was, each 0 as long as nobody has it; none is taken yet.
abbrev pub message_sizes : Bool → List Size
message_sizes marks = if marks then Eight ∷ Four ∷ Eight ∷ Four ∷ Eight ∷ Four ∷ [] else Eight ∷ Four ∷ []

abbrev pub message_numbers : Bool → PlainMessage → List ℕ
message_numbers marks m =
    if marks
    then cast_unsigned w64 m.mtype ∷ 0 ∷ 0 ∷ 0 ∷ 0 ∷ length m.text ∷ []
    else cast_unsigned w64 m.mtype ∷ length m.text ∷ []

abbrev pub message_shape : Bool → Shape
message_shape marks = Texts (message_sizes marks) (λ ns. slice_index ns (if marks then 5 else 1))

abbrev pub message_tree : (marks : Bool) → PlainMessage → Tree (message_shape marks)
message_tree marks m = (message_numbers marks m, m.text)

abbrev pub message_bytes : Bool → PlainMessage → List ℕ
message_bytes marks = bytes_in (message_shape marks) (message_tree marks)

-- its messages, the oldest first
abbrev pub messages_of : Queue → List PlainMessage
messages_of q = q.messages

-- with marks, the token that a queue gives next: as none was given yet, the first one
abbrev pub token_bytes : Bool → List ℕ
token_bytes marks = if marks then fields_bytes (Eight ∷ []) (1 ∷ []) else []

-- how many messages, and with marks the next token, and each message
abbrev pub messages_bytes : Bool → List PlainMessage → List ℕ
messages_bytes marks messages =
    count_bytes (length messages) ++ (token_bytes marks ++ flat_map (message_bytes marks) messages)

abbrev pub queue_bytes : Bool → KeyedEntry Queue → List ℕ
queue_bytes marks e =
    fields_bytes head_sizes (head_numbers e.bound e.perm)
    ++ (fields_bytes queue_sizes (queue_numbers e.object) ++ messages_bytes marks (messages_of e.object))

-- its object
abbrev pub queue_object : Bool → ℕ × KeyedEntry Queue → ℕ × List ℕ
queue_object marks = object_in (2 ^ 32) (queue_bytes marks)

-- ---- semaphore sets

-- otime, ctime
abbrev pub set_sizes : List Size
set_sizes = Eight ∷ Eight ∷ []

abbrev pub set_numbers : Set → List ℕ
set_numbers s = s.otime ∷ s.ctime ∷ []

-- a semaphore: its value, and who changed it last
abbrev pub semaphore_sizes : List Size
semaphore_sizes = Two ∷ Four ∷ []

abbrev pub semaphore_shape : Shape
semaphore_shape = Fields semaphore_sizes

abbrev pub semaphore_numbers : Semaphore → List ℕ
semaphore_numbers x = x.value ∷ x.pid.0 ∷ []

abbrev pub semaphore_bytes : Semaphore → List ℕ
semaphore_bytes = bytes_in semaphore_shape semaphore_numbers

abbrev pub semaphores_of : Set → List Semaphore
semaphores_of s = s.semaphores

abbrev pub set_bytes : KeyedEntry Set → List ℕ
set_bytes = entry_bytes set_sizes set_numbers semaphore_bytes semaphores_of

-- its object
abbrev pub set_object : ℕ × KeyedEntry Set → ℕ × List ℕ
set_object = object_in (2 * 2 ^ 32) set_bytes

-- ---- POSIX queues

-- who is registered: 0 if nobody is, else 1 if no frame is sent and 2 if one is; who it is, by which descriptor, and
-- the cookie, each 0 if nobody is
abbrev pub registration_numbers : Option Registration → List ℕ
registration_numbers None = 0 ∷ 0 ∷ 0 ∷ 0 ∷ []
registration_numbers (Some r) = (if r.sends then 2 else 1) ∷ r.pid.0 ∷ r.descriptor ∷ r.cookie ∷ []

-- uid, gid, mode, maxmsg, msgsize, the four of the registration, how many messages there are, how long the name is
abbrev pub mq_sizes : List Size
mq_sizes = Four ∷ Four ∷ Four ∷ Four ∷ Four ∷ Four ∷ Four ∷ Four ∷ Four ∷ Four ∷ Four ∷ []

abbrev pub mq_numbers : NamedEntry Mq → List ℕ
mq_numbers e =
    e.perm.uid ∷ e.perm.gid ∷ e.perm.mode ∷ e.object.maxmsg ∷ e.object.msgsize
    ∷ registration_numbers e.object.registration ++ length e.object.messages ∷ length e.bound ∷ []

-- these, and the name
abbrev pub mq_shape : Shape
mq_shape = Texts mq_sizes (λ ns. slice_index ns 10)

abbrev pub mq_tree : NamedEntry Mq → Tree mq_shape
mq_tree e = (mq_numbers e, e.bound)

-- a message: its priority, how long its text is, and the text
abbrev pub mq_message_sizes : List Size
mq_message_sizes = Four ∷ Four ∷ []

abbrev pub mq_message_shape : Shape
mq_message_shape = Texts mq_message_sizes (λ ns. slice_index ns 1)

abbrev pub mq_message_tree : MqMessage → Tree mq_message_shape
mq_message_tree m = (m.priority ∷ length m.text ∷ [], m.text)

abbrev pub mq_message_bytes : MqMessage → List ℕ
mq_message_bytes = bytes_in mq_message_shape mq_message_tree

-- its messages, the oldest first
abbrev pub mq_messages : Mq → List MqMessage
mq_messages q = q.messages

abbrev pub mq_bytes : NamedEntry Mq → List ℕ
mq_bytes e = bytes_in mq_shape mq_tree e ++ flat_map mq_message_bytes (mq_messages e.object)

-- its object
abbrev pub mq_object : ℕ × NamedEntry Mq → ℕ × List ℕ
mq_object = object_in (3 * 2 ^ 32) mq_bytes

-- ---- named semaphores

-- uid, gid, mode, value, how long the name is
abbrev pub psem_sizes : List Size
psem_sizes = Four ∷ Four ∷ Four ∷ Four ∷ Four ∷ []

abbrev pub psem_numbers : NamedEntry ℕ → List ℕ
psem_numbers e = e.perm.uid ∷ e.perm.gid ∷ e.perm.mode ∷ e.object ∷ length e.bound ∷ []

-- these, and the name
abbrev pub psem_shape : Shape
psem_shape = Texts psem_sizes (λ ns. slice_index ns 4)

abbrev pub psem_tree : NamedEntry ℕ → Tree psem_shape
psem_tree e = (psem_numbers e, e.bound)

abbrev pub psem_bytes : NamedEntry ℕ → List ℕ
psem_bytes = bytes_in psem_shape psem_tree

-- its object
abbrev pub psem_object : ℕ × NamedEntry ℕ → ℕ × List ℕ
psem_object = object_in (4 * 2 ^ 32) psem_bytes

-- ---- segments

-- uid, gid, mode, how long the name is, how many bytes it has
abbrev pub segment_sizes : List Size
segment_sizes = Four ∷ Four ∷ Four ∷ Four ∷ Eight ∷ []

abbrev pub segment_numbers : NamedEntry Segment → List ℕ
segment_numbers e = e.perm.uid ∷ e.perm.gid ∷ e.perm.mode ∷ length e.bound ∷ length e.object.bytes ∷ []

-- these, the name, and the bytes
abbrev pub segment_shape : Shape
segment_shape = Texts segment_sizes (λ ns. slice_index ns 3 + slice_index ns 4)

abbrev pub segment_tree : NamedEntry Segment → Tree segment_shape
segment_tree e = (segment_numbers e, e.bound ++ e.object.bytes)

abbrev pub segment_bytes : NamedEntry Segment → List ℕ
segment_bytes = bytes_in segment_shape segment_tree

-- its object
abbrev pub pshm_object : ℕ × NamedEntry Segment → ℕ × List ℕ
pshm_object = object_in (5 * 2 ^ 32) segment_bytes

-- ---- System V segments

-- the nine bits of a mode, with a tenth one if the segment is marked
abbrev pub mode_with : ℕ → Bool → ℕ
mode_with mode is_marked = if is_marked then mode + 512 else mode

-- key, uid, gid, cuid, cgid, mode, atime, dtime, ctime, cpid, lpid, how many bytes it has
abbrev pub shm_sizes : List Size
shm_sizes = Four ∷ Four ∷ Four ∷ Four ∷ Four ∷ Four ∷ Eight ∷ Eight ∷ Eight ∷ Four ∷ Four ∷ Eight ∷ []

abbrev pub shm_numbers : KeyedEntry SysSegment → List ℕ
shm_numbers e =
    cast_unsigned w32 e.bound ∷ e.perm.uid ∷ e.perm.gid ∷ e.perm.cuid ∷ e.perm.cgid
    ∷ mode_with e.perm.mode e.object.is_marked
    ∷ e.object.atime ∷ e.object.dtime ∷ e.object.ctime ∷ e.object.cpid.0 ∷ e.object.lpid.0
    ∷ length e.object.memory.bytes ∷ []

-- these, and the bytes
abbrev pub shm_shape : Shape
shm_shape = Texts shm_sizes (λ ns. slice_index ns 11)

abbrev pub shm_tree : KeyedEntry SysSegment → Tree shm_shape
shm_tree e = (shm_numbers e, e.object.memory.bytes)

abbrev pub shm_bytes : KeyedEntry SysSegment → List ℕ
shm_bytes = bytes_in shm_shape shm_tree

-- its object
abbrev pub shm_object : ℕ × KeyedEntry SysSegment → ℕ × List ℕ
shm_object = object_in (6 * 2 ^ 32) shm_bytes

-- ---- all of it

-- the objects of the kinds after the semaphore sets: those with a name, and the System V segments
pub record LaterObjects : Type 0 where
  pub mq : Named Mq
  pub psem : Named ℕ
  pub pshm : Named Segment
  pub shm : Keyed SysSegment

abbrev pub later_in : State → LaterObjects
later_in s = record { mq = s.mq; psem = s.psem; pshm = s.pshm; shm = s.shm }

-- each kind by number
abbrev pub later_objects : LaterObjects → PlainObjects
later_objects o =
    map mq_object o.mq.entries
    ++ (map psem_object o.psem.entries ++ (map pshm_object o.pshm.entries ++ map shm_object o.shm.entries))

-- the bytes of the first: the clock, the next pid, and the next number of each kind that the version has
abbrev pub clock_bytes : Format → State → List ℕ
clock_bytes form s = fields_bytes (take (2 + form.numbers) clock_sizes) (take (2 + form.numbers) (clock_numbers s))

-- the objects: the clock, the processes, the waiting calls, the adjustments, the queues by identifier, the semaphore
-- sets by identifier, and those of later kinds
unfoldable pub saved_in : Format → State → PlainObjects
saved_in form s =
    (0, clock_bytes form s) ∷ (1, processes_bytes s.processes.entries)
    ∷ (2, waits_bytes s.wait) ∷ (3, adjustments_bytes s.undo)
    ∷ map (queue_object form.marks) s.msg.entries ++ (map set_object s.semset.entries ++ later_objects (later_in s))

abbrev pub saved : State → PlainObjects
saved = saved_in format

-- A version without System V segments has a state without one, in which none has been made.
abbrev pub HasKindsOf : Format → State → Type 0
HasKindsOf form s = has_shms form ≡ false → s.shm ≡ start.shm

-- ---- each number has its place

abbrev pub FitsDescriptor : ℕ × Descriptor → Type 0
FitsDescriptor d = IsTree descriptor_shape (descriptor_numbers d)

abbrev pub FitsProcess : ℕ × Process → Type 0
FitsProcess p = IsTree process_shape (process_tree p) × All FitsDescriptor p.1.descriptors

-- an adjustment, and not 0
abbrev pub FitsAdjustment : Adjustment → Type 0
FitsAdjustment x = IsKept x.1.1 × IsTree adjustment_shape (adjustment_numbers x)

-- its request has a frame and waits on that object; a deadline is not the number that stands for no deadline
pub record FitsWaiting (w : PlainWaiting) : Type 0 where
  pub tree : IsTree waiting_shape (waiting_tree w)
  pub frame : HasFrame w.call
  pub on : awaited_by w.call.kind ≡ Some w.on
  pub deadline : IfSome w.deadline (λ deadline. deadline.0 < 2 ^ 64 - 1)

abbrev pub FitsMessage : PlainMessage → Type 0
FitsMessage m = FitsSigned w64 m.mtype × IsTree (message_shape false) (message_tree false m)

abbrev pub FitsSemaphore : Semaphore → Type 0
FitsSemaphore x = (x.value ≤ most_value) × IsTree semaphore_shape (semaphore_numbers x)

-- of an object with a key, and its parts
pub record FitsEntry {X P : Type 0} (sizes : List Size) (own : X → List ℕ) (FitsPart : P → Type 0)
    (parts_of : X → List P) (e : KeyedEntry X) : Type 0 where
  pub key : FitsSigned w32 e.bound
  pub head : FitFields head_sizes (head_numbers e.bound e.perm)
  pub numbers : FitFields sizes (own e.object)
  pub count : length (parts_of e.object) < 2 ^ 32
  pub parts : All FitsPart (parts_of e.object)

abbrev pub FitsQueue : KeyedEntry Queue → Type 0
FitsQueue = FitsEntry queue_sizes queue_numbers FitsMessage messages_of

abbrev pub FitsSet : KeyedEntry Set → Type 0
FitsSet = FitsEntry set_sizes set_numbers FitsSemaphore semaphores_of

abbrev pub FitsMqMessage : MqMessage → Type 0
FitsMqMessage m = IsTree mq_message_shape (mq_message_tree m)

-- of an object with a name, and of what it is; whoever made it owns it, so that the owner's numbers tell of both
pub record FitsNamed {X : Type 0} (shape : Shape) (tree_of : NamedEntry X → Tree shape) (FitsObject : X → Type 0)
    (e : NamedEntry X) : Type 0 where
  pub own : is_own e.perm ≡ true
  pub tree : IsTree shape (tree_of e)
  pub object : FitsObject e.object

abbrev pub FitsMq : NamedEntry Mq → Type 0
FitsMq = FitsNamed mq_shape mq_tree (λ q. All FitsMqMessage (mq_messages q))

abbrev pub FitsPsem : NamedEntry ℕ → Type 0
FitsPsem = FitsNamed psem_shape psem_tree (λ value. value ≤ sem_value_max)

abbrev pub FitsSegment : NamedEntry Segment → Type 0
FitsSegment = FitsNamed segment_shape segment_tree (λ x. ⊤)

-- of a System V segment; its mode has nine bits, so that a tenth one tells of the mark
pub record FitsShm (e : KeyedEntry SysSegment) : Type 0 where
  pub key : FitsSigned w32 e.bound
  pub mode : e.perm.mode < 512
  pub tree : IsTree shm_shape (shm_tree e)

-- of those of later kinds
pub record FitLater (o : LaterObjects) : Type 0 where
  pub mqs : All (FitsIn FitsMq) o.mq.entries
  pub psems : All (FitsIn FitsPsem) o.psem.entries
  pub segments : All (FitsIn FitsSegment) o.pshm.entries
  pub shms : All (FitsIn FitsShm) o.shm.entries

-- of the state
pub record HasAllPlaces (s : State) : Type 0 where
  pub clock : FitFields clock_sizes (clock_numbers s)
  pub count : length s.processes.entries < 2 ^ 32
  pub processes : All FitsProcess s.processes.entries
  pub wait_count : length s.wait < 2 ^ 32
  pub waits : All FitsWaiting s.wait
  -- no process has two calls that wait
  pub pids : HaveDistinctPids s.wait
  pub adjustment_count : length (adjustments_in s.undo) < 2 ^ 32
  pub adjustments : All FitsAdjustment (adjustments_in s.undo)
  -- each process has an entry of adjustments, which may be empty, and nobody else has; pids differ
  pub undo_pids : keys_of s.undo ≡ keys_of s.processes.entries
  pub distinct : IsDistinct nat_eq (keys_of s.undo)
  pub queues : All (FitsIn FitsQueue) s.msg.entries
  pub sets : All (FitsIn FitsSet) s.semset.entries
  pub later : FitLater (later_in s)

-- the objects of a device of that version stand for a sound state
pub record StandForStateIn (form : Format) (limits : Limits) (s : State) (objects : PlainObjects) : Type 0 where
  pub sound : IsSound limits s
  pub places : HasAllPlaces s
  pub kinds : HasKindsOf form s
  pub are : objects ≡ saved_in form s

abbrev pub StandForState : Limits → State → PlainObjects → Type 0
StandForState = StandForStateIn format
