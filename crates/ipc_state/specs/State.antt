-- The state of the server between two events (sysvipc(7)): what it knows of processes and objects. All of it
-- lasts; nothing in it tells how it is kept.
use Rattle.std.specs.Prelude.{ℕ, ◌+◌, ◌*◌, ℤ, Bool, max, if◌then◌else◌, sum_by, List, Option, Some, None, [], ◌∷◌}
use Rattle.std.specs.Prelude.{◌++◌, option_map}
use Rattle.std.specs.Prelude.{false, is_some, unwrap_or, nat_eq, nat_le, length}
use Rattle.std.specs.List.{fold, list_any}
use Rattle.std.specs.FinMap as fin
use Rattle.ipc_base.specs.declared.identity.Cred.{Cred}
use Rattle.ipc_limits.specs.declared.limits.Limits.{Limits}
use Rattle.ipc_limits.specs.Limits.{exceeds, has_rules_of_three, queue_bytes_limit}
use Rattle.ipc_base.specs.Table.{value_at, with_value, seen_as, without as without_value}
use Rattle.ipc_keys.specs.declared.check.NameKind.{NameKind}
use Rattle.ipc_keys.specs.declared.check.NameKind.TheVariants as names
use Rattle.ipc_wait.specs.Waits.{waiting_call_of, calls_due, calls_left, without}
use Rattle.ipc_wire.specs.Posix as posix
use Rattle.ipc_wire.specs.Request.{PlainKind, Posix}
use Rattle.posix_mq.specs.Queue.{Queue as Mq}
use Rattle.sysv_msg.specs.Queue.{Queue, new_queue}
use Rattle.sem_undo.specs.Undo.{Key, Undo, cleared}
use Rattle.shm_segment.specs.Segment.{Segment, empty_segment}
use Rattle.shm_segment.specs.SysSegment.{SysSegment, new_segment}
use Rattle.sysv_sem.specs.Set.{Set, new_set, after_exit}
use Rattle.ipc_perm.specs.declared.perm.Perm.{Perm}
use Rattle.ipc_perm.specs.Perm.{perm_of}
use Rattle.ipc_state.specs.declared.descriptors.Descriptor.{Descriptor}
use Rattle.ipc_state.specs.declared.processes.Process.{Process}
use Rattle.ipc_state.specs.Descriptors.{Table, opened, with_flags}
use Rattle.ipc_state.specs.Numbered.{Numbered, none_yet, entry_of, is_full, with_entry, with_new, without_entry}
use Rattle.ipc_state.specs.declared.parked.ObjectKind.{ObjectKind}
use Rattle.ipc_state.specs.declared.parked.ObjectKind.TheVariants as kinds
use Rattle.ipc_state.specs.Attached.{detached_all, detached_by, detached_each}
use Rattle.ipc_state.specs.Bound.{holding, putting, unbound}
use Rattle.ipc_state.specs.Keyed.{Keyed, KeyedEntry}
use Rattle.ipc_state.specs.Kinds.{BoundOf, Content, EntryOf, Objects, Those, each_open, no_bound, of_kind, parted}
use Rattle.ipc_state.specs.Kinds.{with_kind}
use Rattle.ipc_state.specs.Named.{Named}
use Rattle.ipc_state.specs.Opening.{is_by, is_on, opened_as, still_open}
use Rattle.ipc_state.specs.Opening.{without_registrations, descriptors_of, descriptor_at, with_table}
use Rattle.ipc_state.specs.Waiting.{PlainWaiting}

pub record State : Type 0 where
  -- the greatest moment so far
  pub clock : ℕ
  -- the connected processes, by pid
  pub processes : Numbered Process
  -- the calls that wait, in the order in which they came
  pub wait : List PlainWaiting
  -- the adjustments of each process, by pid
  pub undo : List (ℕ × Undo)
  -- the message queues
  pub msg : Keyed Queue
  -- the semaphore sets
  pub semset : Keyed Set
  -- the System V segments
  pub shm : Keyed SysSegment
  -- the POSIX message queues
  pub mq : Named Mq
  -- the named semaphores, each with its value
  pub psem : Named ℕ
  -- the segments with a name
  pub pshm : Named Segment

-- nothing has happened yet
abbrev pub start : State
start =
    record {
      clock = 0;
      processes = none_yet;
      wait = [];
      undo = [];
      msg = none_yet;
      semset = none_yet;
      shm = none_yet;
      mq = none_yet;
      psem = none_yet;
      pshm = none_yet;
    }

-- the state as the moment comes
abbrev pub at_moment : State → ℕ → State
at_moment s moment = record s { clock = max s.clock moment }

-- ---- calls that wait

-- whether a call of the process waits
abbrev pub is_waiting : State → ℕ → Bool
is_waiting s pid = is_some (waiting_call_of (record { 0 = pid }) s.wait)

-- with one call more, at the end
abbrev pub with_waiting : State → PlainWaiting → State
with_waiting s w = record s { wait = s.wait ++ w ∷ [] }

-- without the call of the process
abbrev pub without_waiting : State → ℕ → State
without_waiting s pid = record s { wait = without (record { 0 = pid }) s.wait }

-- the calls whose deadline has come, in order
abbrev pub due_calls : State → List PlainWaiting
due_calls s = calls_due (record { 0 = s.clock }) s.wait

-- without them
abbrev pub without_due : State → State
without_due s = record s { wait = calls_left (record { 0 = s.clock }) s.wait }

-- ---- adjustments

-- the adjustments of a process: none if no process has the number
abbrev pub undo_of : State → ℕ → Undo
undo_of s pid = unwrap_or (value_at nat_eq s.undo pid) fin.empty

-- with other adjustments of a process, if it is there
abbrev pub with_undo : State → ℕ → Undo → State
with_undo s pid undo = record s { undo = with_value nat_eq s.undo pid undo }

-- the sets after an adjustment of a process that exits was added; one of a set that is not there is dropped
abbrev pub adjusted : ℕ → Keyed Set → Key × ℤ → Keyed Set
adjusted pid sets a =
    unwrap_or (option_map (λ e. with_entry sets a.0.0 (holding e (after_exit e.object a.0.1 a.1 (record { 0 = pid }))))
    (entry_of sets a.0.0)) sets

-- all of a process, by rising set and number
abbrev pub undone : Keyed Set → ℕ × Undo → Keyed Set
undone sets p = fold (adjusted p.0) sets (fin.entries p.1)

-- no process has an adjustment any more at the semaphore of this number of a set, or at any of the set
abbrev pub without_adjustments : ℕ → Option ℕ → State → State
without_adjustments set num s = record s { undo = seen_as (cleared set num) s.undo }

-- ---- registrations

-- without the registrations that this process made, or any, by this descriptor, or any
abbrev pub deregistered_by : Option ℕ → Option ℕ → State → State
deregistered_by pid fd s = record s { mq = without_registrations (is_by pid fd) s.mq }

-- ---- objects of a kind

-- those of every kind
abbrev pub objects_in : State → Objects
objects_in s =
    record { msg = s.msg; semset = s.semset; shm = s.shm; named = record { mq = s.mq; psem = s.psem; pshm = s.pshm } }

-- those of a kind
abbrev pub objects_of : State → (kind : ObjectKind) → Those kind
objects_of s kind = of_kind (objects_in s) kind

abbrev pub named_of : State → (kind : NameKind) → Those (kinds.Named kind)
named_of s kind = objects_of s (kinds.Named kind)

-- with others
abbrev pub with_objects : State → Objects → State
with_objects s o =
    record s {
      msg = o.msg;
      semset = o.semset;
      shm = o.shm;
      mq = o.named.mq;
      psem = o.named.psem;
      pshm = o.named.pshm;
    }

abbrev pub with_objects_of : State → (kind : ObjectKind) → Those kind → State
with_objects_of s kind others = with_objects s (with_kind (objects_in s) kind others)

-- objects go that do not stay by themselves and on which no descriptor is open
abbrev pub swept : State → State
swept s = with_objects s (each_open (λ kind. still_open kind s.processes.entries) (objects_in s))

-- with another object of a kind at a number, if it is there, bound as before
abbrev pub with_object_of : State → (kind : ObjectKind) → ℕ → Content kind → State
with_object_of s kind n x = with_objects_of s kind (putting (objects_of s kind) n x)

-- with a new object of a kind
abbrev pub with_entry_of : State → (kind : ObjectKind) → EntryOf kind → State
with_entry_of s kind e = with_objects_of s kind (with_new (objects_of s kind) e)

-- with a new object of a kind, bound so, of this owner and mode
abbrev pub with_new_of : State → (kind : ObjectKind) → BoundOf kind → Cred → ℕ → Content kind → State
with_new_of s kind bound cred mode x =
    with_entry_of s kind (record { bound = bound; perm = perm_of cred mode; object = x })

-- an object of a kind is bound to none any more, and goes, if it is not open
abbrev pub unlinked : State → (kind : ObjectKind) → ℕ → State
unlinked s kind n = swept (with_objects_of s kind (unbound (parted kind) (no_bound kind) (objects_of s kind) n))

-- an object of a kind is taken out
abbrev pub removed : State → (kind : ObjectKind) → ℕ → State
removed s kind n = with_objects_of s kind (without_entry (objects_of s kind) n)

-- ---- processes

-- whether a process has this number
abbrev pub is_process : State → ℕ → Bool
is_process s pid = is_some (entry_of s.processes pid)

-- the user and the group of a process; those of nobody where no process has the number
abbrev pub cred_of : State → ℕ → Cred
cred_of s pid = unwrap_or (option_map (λ p. p.cred) (entry_of s.processes pid)) (record { uid = 65534; gid = 65534 })

-- no process can be added: there are as many as the limit says, or no number is left
abbrev pub has_all_processes : Limits → State → Bool
has_all_processes limits s = is_full limits.processes s.processes

-- a process comes, under the next number
abbrev pub with_process : State → Cred → State
with_process s cred =
    record s {
      processes = with_new s.processes (record { cred = cred; descriptors = [] });
      undo = s.undo ++ (s.processes.next, fin.empty) ∷ [];
    }

-- without the process and its call that waits; its adjustments are added, and it detaches what it has attached
abbrev pub without_process : State → ℕ → State
without_process s pid =
    without_waiting (record s {
      processes = without_entry s.processes pid;
      undo = without_value nat_eq s.undo pid;
      semset = undone s.semset (pid, undo_of s pid);
      shm = detached_all s.clock pid s.shm (descriptors_of s.processes.entries pid);
    }) pid

-- the process leaves, with its descriptors and registrations
abbrev pub exit : State → ℕ → State
exit s pid = swept (deregistered_by (Some pid) None (without_process s pid))

-- the number of the next process after a restart: on version 3 it is 1, and numbers are unique only until then
abbrev pub next_pid_after : Limits → State → ℕ
next_pid_after limits s = if has_rules_of_three limits then 1 else s.processes.next

-- The server has stopped and begun anew: no call waits, nobody is registered, the adjustments of all processes are
-- added, each detaches what it has attached, and no process is left, so that an object without a name goes, and a
-- segment that is marked. The clock, the next numbers of objects and all else of the objects stay.
abbrev pub restart : Limits → State → State
restart limits s =
    swept (deregistered_by None None (record s {
      processes = record { next = next_pid_after limits s; entries = [] };
      wait = [];
      undo = [];
      semset = fold undone s.semset s.undo;
      shm = detached_each s.clock s.shm s.processes.entries;
    }))

-- ---- descriptors

-- a process has as many descriptors as the limit says
abbrev pub has_all_descriptors : Limits → State → ℕ → Bool
has_all_descriptors limits s pid = nat_le limits.descriptors (length (descriptors_of s.processes.entries pid))

-- with another table of descriptors of a process, if it is there
abbrev pub with_descriptors : State → ℕ → Table → State
with_descriptors s pid table = record s { processes = with_table s.processes pid table }

-- with a descriptor more of a process, under the lowest number that it does not use
abbrev pub with_descriptor : State → ℕ → Descriptor → State
with_descriptor s pid d = with_descriptors s pid (opened (descriptors_of s.processes.entries pid) d)

-- with other flags at a descriptor of a process, if the number is in use
abbrev pub with_descriptor_flags : State → ℕ → ℕ → ℕ → State
with_descriptor_flags s pid fd flags =
    with_descriptors s pid (with_flags (descriptors_of s.processes.entries pid) fd flags)

-- without a descriptor of a process
abbrev pub without_descriptor : State → ℕ → ℕ → State
without_descriptor s pid fd =
    with_descriptors s pid (without_value nat_eq (descriptors_of s.processes.entries pid) fd)

-- without the descriptor; the segment that was attached by it is detached
abbrev pub let_go : State → ℕ → ℕ → State
let_go s pid fd =
    record (without_descriptor s pid fd) {
      shm = detached_by s.clock pid s.shm (descriptor_at s.processes.entries pid fd);
    }

-- a descriptor is closed, or an attachment detached: the registration by it goes, and the object, if it does not stay
-- by itself and is no longer open
abbrev pub closed : State → ℕ → ℕ → State
closed s pid fd = swept (deregistered_by (Some pid) (Some fd) (let_go s pid fd))

-- ---- POSIX message queues

-- no queue can be added: there are as many as the limit says, or no number is left
abbrev pub has_all_mqs : Limits → State → Bool
has_all_mqs limits s = is_full limits.queues s.mq

-- how many bytes a queue counts that may hold so many messages, each of at most so many bytes: 8 more for each
abbrev pub bytes_of_mq : ℕ → ℕ → ℕ
bytes_of_mq maxmsg msgsize = maxmsg * (8 + msgsize)

-- how many all queues count, those without a name too
abbrev pub mq_bytes : Named Mq → ℕ
mq_bytes o = sum_by (λ e. bytes_of_mq e.1.object.maxmsg e.1.object.msgsize) o.entries

-- with one more that counts so many, they would count more than their limit
abbrev pub has_all_mq_bytes : Limits → State → ℕ → Bool
has_all_mq_bytes limits s bytes = exceeds (mq_bytes s.mq + bytes) (queue_bytes_limit limits)

-- with another queue at a number, if it is there, under the same name
abbrev pub with_mq : State → ℕ → Mq → State
with_mq s n q = with_object_of s (kinds.Named names.Mq) n q

-- with a new queue of this name, owner and mode
abbrev pub with_new_mq : State → List ℕ → Cred → ℕ → Mq → State
with_new_mq s name cred mode q = with_new_of s (kinds.Named names.Mq) name cred mode q

-- ---- named semaphores

-- none can be added: there are as many as the limit says, or no number is left
abbrev pub has_all_psems : Limits → State → Bool
has_all_psems limits s = is_full limits.named_semaphores s.psem

-- another value at a number, if it is there, under the same name
abbrev pub with_psem : State → ℕ → ℕ → State
with_psem s n value = with_object_of s (kinds.Named names.Psem) n value

-- with a new semaphore of this name, owner, mode and value
abbrev pub with_new_psem : State → List ℕ → Cred → ℕ → ℕ → State
with_new_psem s name cred mode value = with_new_of s (kinds.Named names.Psem) name cred mode value

-- ---- segments with a name

-- none can be added: there are as many as the limit says, or no number is left
abbrev pub has_all_pshms : Limits → State → Bool
has_all_pshms limits s = is_full limits.segments s.pshm

-- another segment at a number, if it is there, under the same name
abbrev pub with_pshm : State → ℕ → Segment → State
with_pshm s n x = with_object_of s (kinds.Named names.Pshm) n x

-- with a new segment of this name, owner and mode, which has no bytes
abbrev pub with_new_pshm : State → List ℕ → Cred → ℕ → State
with_new_pshm s name cred mode = with_new_of s (kinds.Named names.Pshm) name cred mode empty_segment

-- ---- calls that wait on POSIX queues

-- what a process asks for is a receive from the queue of this number
abbrev pub receives_from : State → ℕ → ℕ → PlainKind → Bool
receives_from s n pid (Posix (posix.MqReceive fd deadline size)) =
    unwrap_or (option_map (λ d. is_on (opened_as names.Mq n) d.on) (descriptor_at s.processes.entries pid fd)) false
receives_from s n pid kind = false

-- a receive from it waits
abbrev pub receiver_waits : State → ℕ → Bool
receiver_waits s n = list_any (λ (w : PlainWaiting). receives_from s n w.pid.0 w.call.kind) s.wait

-- ---- message queues of msgget(2)

-- the queue that an identifier has
abbrev pub msg_queue_of : State → ℕ → Option (KeyedEntry Queue)
msg_queue_of s id = entry_of s.msg id

-- the state with another queue at an identifier that it has
abbrev pub with_msg_queue : State → ℕ → KeyedEntry Queue → State
with_msg_queue s id e = record s { msg = with_entry s.msg id e }

-- the state with a new queue
abbrev pub with_new_msg_queue : Limits → State → ℤ → Perm → State
with_new_msg_queue limits s key perm =
    record s { msg = with_new s.msg (record { bound = key; perm = perm; object = new_queue limits.msgmnb s.clock }) }

-- ---- semaphore sets

-- the set that an identifier has
abbrev pub semset_of : State → ℕ → Option (KeyedEntry Set)
semset_of s id = entry_of s.semset id

-- the state with another set at an identifier that it has
abbrev pub with_semset : State → ℕ → KeyedEntry Set → State
with_semset s id e = record s { semset = with_entry s.semset id e }

-- the state with a new set of so many semaphores
abbrev pub with_new_semset : State → ℤ → Perm → ℕ → State
with_new_semset s key perm nsems =
    record s { semset = with_new s.semset (record { bound = key; perm = perm; object = new_set nsems s.clock }) }

-- ---- System V segments

-- the segment that an identifier has
abbrev pub shm_of : State → ℕ → Option (KeyedEntry SysSegment)
shm_of s id = entry_of s.shm id

-- the state with another segment at an identifier that it has
abbrev pub with_shm : State → ℕ → KeyedEntry SysSegment → State
with_shm s id e = record s { shm = with_entry s.shm id e }

-- the state with a new segment of so many bytes, which a process makes
abbrev pub with_new_shm : State → ℤ → Perm → ℕ → ℕ → State
with_new_shm s key perm pid size =
    record s {
      shm = with_new s.shm
          (record { bound = key; perm = perm; object = new_segment size (record { 0 = pid }) s.clock });
    }
