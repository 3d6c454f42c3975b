-- What a call changes as far as other calls wait for it. What comes of a call that waits depends on the limits, who
-- made it and the object on which it waits, for a set with the adjustments there, for what a descriptor is open on with
-- that descriptor, and on nothing else of the state.
use Rattle.std.specs.Prelude.{◌≡◌, ℕ, Bool, true, false, ◌&&◌, ◌||◌, if◌then◌else◌, is_some, nat_eq, unwrap_or}
use Rattle.std.specs.Prelude.{List, Option, Some, None, option_map, option_and_then}
use Rattle.std.specs.FinMap as fin
use Rattle.std.specs.List.{list_any}
use Rattle.ipc_keys.specs.declared.check.NameKind.TheVariants as names
use Rattle.posix_mq.specs.Queue.{Queue as Mq}
use Rattle.posix_mq.specs.declared.queue.Registration.{Registration}
use Rattle.sem_undo.specs.Undo.{Undo, adjustment}
use Rattle.ipc_state.specs.declared.parked.Awaited.{Awaited}
use Rattle.ipc_state.specs.declared.parked.Awaited.TheVariants as awaited
use Rattle.ipc_state.specs.declared.parked.Object.{Object}
use Rattle.ipc_state.specs.declared.parked.ObjectKind.{ObjectKind}
use Rattle.ipc_state.specs.declared.parked.ObjectKind.TheVariants as kinds
use Rattle.ipc_state.specs.declared.processes.Process.{Process}
use Rattle.ipc_state.specs.Kinds.{Content, EntryOf}
use Rattle.ipc_state.specs.Numbered.{entry_of}
use Rattle.ipc_state.specs.Opening.{descriptor_at, is_by, is_on, is_or_any, object_as, opened_as, same_kind}
use Rattle.ipc_state.specs.State.{State, objects_of, undo_of}

-- the object that a request of the process names, if it names one; an identifier does, whether it has an object or not
abbrev pub object_of : State → ℕ → Awaited → Option Object
object_of s pid (awaited.MsgQueue id) = Some (record { kind = kinds.MsgQueue; number = id.0 })
object_of s pid (awaited.Semset id) = Some (record { kind = kinds.Semset; number = id.0 })
object_of s pid (awaited.Descriptor fd) = option_map (λ d. d.on) (descriptor_at s.processes.entries pid fd)

-- the object of a kind that has a number
abbrev pub object_at : State → (kind : ObjectKind) → ℕ → Option (Content kind)
object_at s kind n = option_map (λ e. e.object) (entry_of (objects_of s kind) n)

-- the POSIX queue of a number
abbrev pub mq_object : State → ℕ → Option Mq
mq_object s n = object_at s (kinds.Named names.Mq) n

-- the value of the named semaphore of a number
abbrev pub psem_value : State → ℕ → Option ℕ
psem_value s n = object_at s (kinds.Named names.Psem) n

-- whether calls that name a descriptor may wait on an object of the kind
abbrev pub is_awaited : ObjectKind → Bool
is_awaited (kinds.Named names.Mq) = true
is_awaited (kinds.Named names.Psem) = true
is_awaited kind = false

-- what a request of the process names is there
abbrev pub is_there : ℕ → Awaited → State → Bool
is_there pid (awaited.MsgQueue id) s = is_some (entry_of s.msg id.0)
is_there pid (awaited.Semset id) s = is_some (entry_of s.semset id.0)
is_there pid (awaited.Descriptor fd) s = is_some (descriptor_at s.processes.entries pid fd)

-- it is in the second state as it is in the first; a set, with the adjustments at its semaphores; a descriptor, with
-- the object on which it is open, if calls may wait on one
abbrev pub IsAsBefore : ℕ → Awaited → State → State → Type 0
IsAsBefore pid (awaited.MsgQueue id) before after = entry_of after.msg id.0 ≡ entry_of before.msg id.0
IsAsBefore pid (awaited.Semset id) before after =
    (entry_of after.semset id.0 ≡ entry_of before.semset id.0)
    × ((pid num : ℕ) → adjustment (undo_of after pid) (id.0, num) ≡ adjustment (undo_of before pid) (id.0, num))
IsAsBefore pid (awaited.Descriptor fd) before after =
    (descriptor_at after.processes.entries pid fd ≡ descriptor_at before.processes.entries pid fd)
    × ((kind : ObjectKind) (n : ℕ) → is_awaited kind ≡ true
    → object_of before pid (awaited.Descriptor fd) ≡ Some (object_as kind n)
    → object_at after kind n ≡ object_at before kind n)

-- ---- what an object is

-- an object that is in the second state is in the first, with what it is bound to, whose it is and what it holds
abbrev pub IsSameIn : Object → State → State → Type 0
IsSameIn o before after =
    (e : EntryOf o.kind) → entry_of (objects_of after o.kind) o.number ≡ Some e
    → entry_of (objects_of before o.kind) o.number ≡ Some e

-- whether a registration, if there is one, is by this process, or any, and by this descriptor, or any
abbrev pub is_made_by : Option ℕ → Option ℕ → Option Registration → Bool
is_made_by pid fd r = unwrap_or (option_map (is_by pid fd) r) false

-- who is registered with the queue of a number, if it is there
abbrev pub registration_of : State → ℕ → Option Registration
registration_of s n = option_and_then (λ e. e.object.registration) (entry_of s.mq n)

-- the object that a close of a descriptor changes: the queue on which it is open, if the process is registered by it,
-- or the segment that it detaches
abbrev pub is_segment : ObjectKind → Bool
is_segment kind = same_kind kind kinds.Shm

abbrev pub is_queue : ObjectKind → Bool
is_queue (kinds.Named names.Mq) = true
is_queue kind = false

abbrev pub parted_from : State → ℕ → ℕ → Object → Option Object
parted_from s pid fd o =
    if is_segment o.kind || is_queue o.kind && is_made_by (Some pid) (Some fd) (registration_of s o.number)
    then Some o else None

abbrev pub closed_on : State → ℕ → ℕ → Option Object
closed_on s pid fd = option_and_then (parted_from s pid fd) (object_of s pid (awaited.Descriptor fd))

-- whether a process, or any, has an adjustment at a set
abbrev pub is_adjusted_in : ℕ → Undo → Bool
is_adjusted_in n undo = list_any (λ a. nat_eq a.0.0 n) (fin.entries undo)

abbrev pub is_adjusted : Option ℕ → List (ℕ × Undo) → ℕ → Bool
is_adjusted pid undo n = list_any (λ p. is_or_any pid p.0 && is_adjusted_in n p.1) undo

-- whether a process, or any, has an object open
abbrev pub is_opened_by : Option ℕ → List (ℕ × Process) → Object → Bool
is_opened_by pid processes this =
    list_any (λ p. is_or_any pid p.0 && list_any (λ d. is_on this d.1.on) p.1.descriptors) processes

-- whether the exit of a process, or of each, changes an object: a set at which it has an adjustment, a segment that it
-- has attached, or a queue with which it is registered
abbrev pub changes_by_exit : Option ℕ → State → Object → Bool
changes_by_exit pid s o =
    list_any (λ e. is_on (object_as kinds.Semset e.0) o && is_adjusted pid s.undo e.0) s.semset.entries
    || list_any (λ e. is_on (object_as kinds.Shm e.0) o
    && is_opened_by pid s.processes.entries (object_as kinds.Shm e.0)) s.shm.entries
    || list_any (λ e. is_on (opened_as names.Mq e.0) o && is_made_by pid None e.1.object.registration) s.mq.entries
