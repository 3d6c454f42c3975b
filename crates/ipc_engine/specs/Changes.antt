-- Which objects an event changes, and which may be otherwise than when the state was saved. An object is what a device
-- keeps of it: what it is bound to, whose it is and what it holds. Processes with their descriptors, adjustments and
-- calls that wait are no objects here.
use Rattle.std.specs.Prelude.{◌≡◌, ◌==◌, ◌+◌, ℕ, Bool, true, false, not, ◌&&◌, ◌||◌, if◌then◌else◌}
use Rattle.std.specs.Prelude.{List, Option, Some, None, is_some, option_map, unwrap_or, length, nat_eq}
use Rattle.std.specs.FinMap as fin
use Rattle.std.specs.List.{list_any}
use Rattle.ipc_limits.specs.declared.limits.Limits.{Limits}
use Rattle.sem_undo.specs.Undo.{Undo}
use Rattle.ipc_keys.specs.declared.check.NameKind.TheVariants as names
use Rattle.posix_mq.specs.Queue.{Queue as Mq}
use Rattle.ipc_wire.specs.Request.{PlainKind}
use Rattle.ipc_state.specs.declared.parked.Object.{Object}
use Rattle.ipc_state.specs.declared.parked.ObjectKind.{ObjectKind}
use Rattle.ipc_state.specs.declared.parked.ObjectKind.TheVariants as kinds
use Rattle.ipc_state.specs.declared.processes.Process.{Process}
use Rattle.ipc_state.specs.Finish.{Tried, Finishes, Waits}
use Rattle.ipc_state.specs.Named.{NamedEntry}
use Rattle.ipc_state.specs.Opening.{is_on, is_there_for, object_as}
use Rattle.ipc_state.specs.State.{State, is_waiting, objects_in}
use Rattle.ipc_state.specs.Touching.{IsSameIn, changes_by_exit, is_made_by, is_segment}
use Rattle.ipc_engine.specs.Event.{PlainEvent, Call, Exit, Restart}
use Rattle.ipc_engine.specs.Settling.{touched_by}
use Rattle.ipc_engine.specs.Step.{due, tried}

-- whether an object is this one, if there is one
abbrev pub is_one : Option Object → Object → Bool
is_one None o = false
is_one (Some this) o = is_on this o

-- what a call changes that comes to this: its own object, unless it is refused or has to wait
abbrev pub changes_if_done : Option Object → Tried → Object → Bool
changes_if_done touched (Finishes f) o = not (is_some f.errno) && is_one touched o
changes_if_done touched Waits o = false

-- what a process changes by what it asks; those that go on by it wait on the same object
abbrev pub changes_by_call : Limits → State → ℕ → PlainKind → Object → Bool
changes_by_call limits s pid kind o =
    not (is_waiting s pid) && changes_if_done (touched_by s pid kind) (tried limits s pid false kind) o

-- what an event changes: a call its own object; an exit and a restart the sets that they adjust, the segments that they
-- detach, and the queues that lose a registration; any other none
abbrev pub changes : Limits → State → PlainEvent → Object → Bool
changes limits s (Call pid request moment) o = changes_by_call limits (due moment s).state pid request.kind o
changes limits s (Exit pid moment) o = changes_by_exit (Some pid) s o
changes limits s Restart o = changes_by_exit None s o
changes limits s e o = false

-- whether a process has adjustments, whether it has attached a segment, and whether it is registered with a queue; if
-- none of them, its exit changes nothing
abbrev pub has_adjustments : ℕ → List (ℕ × Undo) → Bool
has_adjustments pid undo = list_any (λ p. nat_eq pid p.0 && not (length (fin.entries p.1) == 0)) undo

abbrev pub has_attachments : ℕ → List (ℕ × Process) → Bool
has_attachments pid processes =
    list_any (λ p. nat_eq pid p.0 && list_any (λ d. is_segment d.1.on.kind) p.1.descriptors) processes

abbrev pub is_registered_with : ℕ → List (ℕ × NamedEntry Mq) → Bool
is_registered_with pid queues = list_any (λ e. is_made_by (Some pid) None e.1.object.registration) queues

abbrev pub may_leave_changes : ℕ → State → Bool
may_leave_changes pid s =
    has_adjustments pid s.undo || has_attachments pid s.processes.entries || is_registered_with pid s.mq.entries

-- ---- marks

-- how many objects there may be
abbrev pub most_objects : Limits → ℕ
most_objects l = l.msgmni + l.semmni + l.queues + l.named_semaphores + l.segments + l.shmmni

-- whether an object is there
unfoldable pub is_object : State → Object → Bool
is_object s o = is_there_for (objects_in s) o

abbrev pub is_marked : List Object → Object → Bool
is_marked marks o = list_any (is_on o) marks

-- what is not marked is as it was in the first state, or gone
abbrev pub IsTracked : List Object → State → State → Type 0
IsTracked marks before after = (o : Object) → is_marked marks o ≡ false → IsSameIn o before after

-- These are marked besides: no other that was not, and none is forgotten that is there.
pub record HasMarked (s : State) (more : Object → Bool) (before after : List Object) : Type 0 where
  pub only : (o : Object) → is_marked after o ≡ true → (is_marked before o || more o) ≡ true
  pub kept : (o : Object) → is_there_for (objects_in s) o ≡ true → is_marked before o ≡ true → is_marked after o ≡ true
  pub marked : (o : Object) → more o ≡ true → is_marked after o ≡ true

-- the kinds by number, as a device has them; what every state has is of kind 0
abbrev pub kind_of : ℕ → Option ObjectKind
kind_of kind =
    if kind == 1
    then Some kinds.MsgQueue
    else if kind == 2
    then Some kinds.Semset
    else if kind == 3
    then Some (kinds.Named names.Mq)
    else if kind == 4
    then Some (kinds.Named names.Psem)
    else if kind == 5
    then Some (kinds.Named names.Pshm)
    else if kind == 6
    then Some kinds.Shm
    else None

-- whether an object counts as changed: one of kind 0 does always
abbrev pub is_changed : List Object → ℕ → ℕ → Bool
is_changed marks kind number =
    kind == 0 || unwrap_or (option_map (λ k. is_marked marks (object_as k number)) (kind_of kind)) false
