-- What keeps an object with a name (mq_overview(7)): it is there while it has a name, or while a descriptor of some
-- process is open on it. A System V segment that is marked (shmctl(2)) is there while one is. Who is registered with a
-- queue (mq_notify(3)) is so by a descriptor.
use Rattle.std.specs.Prelude.{ℕ, Bool, true, false, ◌||◌, ◌&&◌, nat_eq, if◌then◌else◌, List, [], option_map}
use Rattle.std.specs.Prelude.{Option, Some, None, is_some, unwrap_or, count_by, sum_by}
use Rattle.std.specs.List.{list_any}
use Rattle.ipc_base.specs.Table.{value_at, seen_as}
use Rattle.ipc_keys.specs.declared.check.NameKind.{NameKind}
use Rattle.ipc_keys.specs.declared.check.NameKind.TheVariants as names
use Rattle.posix_mq.specs.Queue.{Queue as Mq}
use Rattle.posix_mq.specs.declared.queue.Registration.{Registration}
use Rattle.ipc_state.specs.declared.descriptors.Descriptor.{Descriptor}
use Rattle.ipc_state.specs.declared.objects.Entry.{Entry}
use Rattle.ipc_state.specs.declared.parked.Object.{Object}
use Rattle.ipc_state.specs.declared.parked.ObjectKind.{ObjectKind}
use Rattle.ipc_state.specs.declared.parked.ObjectKind.TheVariants as kinds
use Rattle.ipc_state.specs.declared.processes.Process.{Process}
use Rattle.ipc_state.specs.Descriptors.{Table}
use Rattle.ipc_state.specs.Bound.{kept_if}
use Rattle.ipc_state.specs.Kinds.{EntryOf, Objects, Those, has_access, keeps, of_kind}
use Rattle.ipc_state.specs.Named.{Named, NamedEntry}
use Rattle.ipc_state.specs.Numbered.{Numbered, entry_of, with_entry}

-- whether two kinds are one
abbrev pub same_name_kind : NameKind → NameKind → Bool
same_name_kind names.Mq names.Mq = true
same_name_kind names.Psem names.Psem = true
same_name_kind names.Pshm names.Pshm = true
same_name_kind kind this = false

abbrev pub same_kind : ObjectKind → ObjectKind → Bool
same_kind kinds.MsgQueue kinds.MsgQueue = true
same_kind kinds.Semset kinds.Semset = true
same_kind kinds.Shm kinds.Shm = true
same_kind (kinds.Named kind) (kinds.Named this) = same_name_kind kind this
same_kind kind this = false

-- whether what it is open on is this
abbrev pub is_on : Object → Object → Bool
is_on this on = same_kind on.kind this.kind && nat_eq on.number this.number

-- whether some descriptor of these processes is open on it
abbrev pub is_open : List (ℕ × Process) → Object → Bool
is_open processes this = list_any (λ p. list_any (λ d. is_on this d.1.on) p.1.descriptors) processes

-- how many are
abbrev pub open_count : List (ℕ × Process) → Object → ℕ
open_count processes this = sum_by (λ p. count_by (λ d. is_on this d.1.on) p.1.descriptors) processes

-- an object of a kind, as a descriptor is open on it
abbrev pub object_as : ObjectKind → ℕ → Object
object_as kind n = record { kind = kind; number = n }

abbrev pub opened_as : NameKind → ℕ → Object
opened_as kind n = object_as (kinds.Named kind) n

-- whether an object of the kind stays by itself, by this test, or a descriptor is open on it
abbrev pub stays_by : {B X : Type 0} → (Entry B X → Bool) → ObjectKind → List (ℕ × Process) → ℕ × Entry B X → Bool
stays_by test kind processes e = test e.1 || is_open processes (object_as kind e.0)

abbrev pub stays : (kind : ObjectKind) → List (ℕ × Process) → ℕ × EntryOf kind → Bool
stays kind processes e = stays_by (λ (d : EntryOf kind). keeps kind d.bound d.object) kind processes e

-- those that stay
abbrev pub still_open : (kind : ObjectKind) → List (ℕ × Process) → Those kind → Those kind
still_open kind processes o = kept_if (stays kind processes) o

-- ---- registrations

-- the number, or any
abbrev pub is_or_any : Option ℕ → ℕ → Bool
is_or_any None n = true
is_or_any (Some m) n = nat_eq m n

-- made by this process, or any, by this descriptor, or any
abbrev pub is_by : Option ℕ → Option ℕ → Registration → Bool
is_by pid fd r = is_or_any pid r.pid.0 && is_or_any fd r.descriptor

-- the one that is there, unless it is such a one
abbrev pub unless_so : (Registration → Bool) → Option Registration → Option Registration
unless_so goes None = None
unless_so goes (Some r) = if goes r then None else Some r

-- an entry without it, if it is such a one
abbrev pub deregistered : (Registration → Bool) → NamedEntry Mq → NamedEntry Mq
deregistered goes e = record e { object = record e.object { registration = unless_so goes e.object.registration } }

-- the queues without those that are such
abbrev pub without_registrations : (Registration → Bool) → Named Mq → Named Mq
without_registrations goes o = record { next = o.next; entries = seen_as (deregistered goes) o.entries }

-- ---- descriptors

-- the descriptors of a process: none if no process has the number
abbrev pub descriptors_of : List (ℕ × Process) → ℕ → Table
descriptors_of processes pid = unwrap_or (option_map (λ p. p.descriptors) (value_at nat_eq processes pid)) []

-- what a descriptor of a process is
abbrev pub descriptor_at : List (ℕ × Process) → ℕ → ℕ → Option Descriptor
descriptor_at processes pid fd = value_at nat_eq (descriptors_of processes pid) fd

-- the processes with another table of descriptors of one, if it is there
abbrev pub with_table : Numbered Process → ℕ → Table → Numbered Process
with_table processes pid table =
    unwrap_or (option_map (λ p. with_entry processes pid (record p { descriptors = table })) (entry_of processes pid))
    processes

-- what it is open on is there
abbrev pub is_there_for : Objects → Object → Bool
is_there_for o on = is_some (entry_of (of_kind o on.kind) on.number)

-- what a descriptor is open on is there, and it may be open so
abbrev pub is_sound_descriptor : Objects → Descriptor → Bool
is_sound_descriptor o d = is_there_for o d.on && has_access d.on.kind d.flags

-- a registration, if there is one, is by a descriptor that is open on the queue of this number
abbrev pub is_by_descriptor : List (ℕ × Process) → ℕ → Option Registration → Bool
is_by_descriptor processes n None = true
is_by_descriptor processes n (Some r) =
    unwrap_or (option_map (λ d. is_on (opened_as names.Mq n) d.on) (descriptor_at processes r.pid.0 r.descriptor)) false

-- whoever is registered with the queue has it open, by the descriptor of the registration
abbrev pub is_registered : List (ℕ × Process) → ℕ × NamedEntry Mq → Bool
is_registered processes e = is_by_descriptor processes e.0 e.1.object.registration
