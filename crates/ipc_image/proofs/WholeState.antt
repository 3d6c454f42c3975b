-- A state is known by its objects, and what was read of objects makes one.
use Rattle.std.proofs.Common.{◌≡◌, ℕ, ◌*◌, ◌<◌, ◌^◌, Bool, true, false, List, ◌∷◌, ◌++◌, length, map, drop, Option, Some, refl, sym, ap, subst, ◌∙◌, arith}
use Rattle.std.specs.Prelude.{All, slice_get, unwrap_or, nat_eq}
use Rattle.std.specs.List.{IsDistinct}
use Rattle.ipc_limits.specs.declared.limits.Limits.{Limits}
use Rattle.ipc_base.specs.Objects.{PlainObjects}
use Rattle.ipc_base.specs.Table.{keys_of}
use Rattle.sem_undo.specs.Undo.{Undo}
use Rattle.sysv_msg.specs.Queue.{Queue}
use Rattle.sysv_sem.specs.Set.{Set}
use Rattle.ipc_state.specs.Keyed.{KeyedEntry}
use Rattle.ipc_state.specs.declared.processes.Process.{Process}
use Rattle.ipc_state.specs.declared.state.Numbers.{Numbers}
use Rattle.ipc_state.specs.Restored.{with_numbers, with_waits}
use Rattle.ipc_state.specs.State.{State, start}
use Rattle.ipc_state.specs.Waiting.{PlainWaiting}
use Rattle.ipc_wait.specs.Waits.{HaveDistinctPids}
use Rattle.ipc_image.specs.declared.format.Format.{Format}
use Rattle.ipc_image.specs.Format.{IsFormat}
use Rattle.ipc_image.specs.Kind.{FitsIn, IsOther}
use Rattle.ipc_image.specs.Relations.Restored.{IsClockOf}
use Rattle.ipc_image.specs.Saved.{clock_bytes, process_shape, process_tree, process_bytes, processes_bytes, FitsProcess}
use Rattle.ipc_image.specs.Saved.{message_shape, message_tree, message_bytes, FitsMessage, messages_of, queue_sizes, queue_numbers, queue_bytes, queue_object}
use Rattle.ipc_image.specs.Saved.{FitsQueue, semaphore_shape, semaphore_numbers, semaphore_bytes, FitsSemaphore, semaphores_of, set_sizes, set_numbers}
use Rattle.ipc_image.specs.Saved.{set_bytes, set_object, FitsSet, waits_bytes, FitsWaiting}
use Rattle.ipc_image.specs.Saved.{LaterObjects, later_in, later_objects, FitLater, saved_in, HasAllPlaces, HasKindsOf}
use Rattle.ipc_image.specs.Saved.{adjustment_shape, adjustment_numbers, adjustment_bytes, adjustments_in, adjustments_bytes, FitsAdjustment}
use Rattle.ipc_image.specs.SavedParts.{queue_from, set_from, with_more, with_more_later, put_processes, put_queues, put_sets}
use Rattle.ipc_image.specs.Relations.Trees.{process_one, message_one, semaphore_one, adjustment_one}
use Rattle.ipc_image.proofs.Attaching.{undo_one}
use Rattle.ipc_image.specs.Relations.Entries.{entry_one}
use Rattle.ipc_image.specs.Relations.Marked.{queue_one as marked_one}
use Rattle.ipc_image.specs.Relations.Shapes.{plain_one, counted_one}
use Rattle.ipc_image.proofs.LaterObjects.{LaterLists, listed, later_one, of-later-kinds}
use Rattle.ipc_image.proofs.ReadKinds.{object_at, objects_one, later-both}
use Rattle.ipc_image.proofs.RestoredParts.{clock_one}
use Rattle.ipc_image.proofs.SavedObjects.{things}
use Rattle.ipc_image.proofs.WaitingCalls.{waits_one}

-- the objects of a state, each in its place
pub record HasParts (form : Format) (s : State) (objects : PlainObjects) : Type 0 where
  pub clock : slice_get objects 0 ≡ Some (0, clock_bytes form s)
  pub processes : slice_get objects 1 ≡ Some (1, processes_bytes s.processes.entries)
  pub calls : slice_get objects 2 ≡ Some (2, waits_bytes s.wait)
  pub adjustments : slice_get objects 3 ≡ Some (3, adjustments_bytes s.undo)
  pub things : drop 4 objects ≡ things form.marks s

pub parts_of : (form : Format) (s : State) (objects : PlainObjects) → objects ≡ saved_in form s → HasParts form s objects
unfolding saved_in
parts_of form s objects are = record {
  clock = ap (λ (os : PlainObjects). slice_get os 0) are;
  processes = ap (λ (os : PlainObjects). slice_get os 1) are;
  calls = ap (λ (os : PlainObjects). slice_get os 2) are;
  adjustments = ap (λ (os : PlainObjects). slice_get os 3) are;
  things = ap (λ (os : PlainObjects). drop 4 os) are;
}

pub are_saved : (form : Format) (s : State) (objects : PlainObjects) → HasParts form s objects → objects ≡ saved_in form s
unfolding saved_in
are_saved form s objects parts =
    let next : ℕ → List ℕ → PlainObjects → PlainObjects = λ n bytes os. (n, bytes) ∷ os in
    object_at objects 0 _ parts.clock ∙ ap (next 0 (clock_bytes form s))
    (object_at objects 1 _ parts.processes ∙ ap (next 1 (processes_bytes s.processes.entries)) (object_at objects 2 _ parts.calls
    ∙ ap (next 2 (waits_bytes s.wait)) (object_at objects 3 _ parts.adjustments ∙ ap (next 3 (adjustments_bytes s.undo)) parts.things)))

-- what stands in a place is one thing
pub same_object : (objects : PlainObjects) (i : ℕ) (a b : List ℕ) → slice_get objects i ≡ Some (i, a) → slice_get objects i ≡ Some (i, b) → a ≡ b
same_object objects i a b is also =
    ap (λ (o : Option (ℕ × List ℕ)). (unwrap_or o (i, a)).1) (sym is ∙ also)

-- ---- added

-- the state that has these
abbrev pub state_of : Numbers → List (ℕ × Process) → List PlainWaiting → List (ℕ × Undo) → List (ℕ × KeyedEntry Queue) → List (ℕ × KeyedEntry Set)
    → LaterObjects → State
state_of n ps ws us es fs o =
    record {
      clock = n.clock.0;
      processes = record { next = n.next_pid; entries = ps };
      wait = ws;
      undo = us;
      msg = record { next = n.next_msg_queue; entries = es };
      semset = record { next = n.next_semset; entries = fs };
      mq = record { next = n.next_mq; entries = o.mq.entries };
      psem = record { next = n.next_psem; entries = o.psem.entries };
      pshm = record { next = n.next_pshm; entries = o.pshm.entries };
      shm = record { next = n.next_shm; entries = o.shm.entries };
    }

-- with these adjustments
abbrev pub put_undo : State × Limits → List (ℕ × Undo) → State × Limits
put_undo s us = (record s.0 { undo = us }, s.1)

pub all-added : (n : Numbers) (limits : Limits) (one two three four five six seven : State × Limits) (ps : List (ℕ × Process)) (ws : List PlainWaiting)
    (us : List (ℕ × Undo)) (es : List (ℕ × KeyedEntry Queue)) (fs : List (ℕ × KeyedEntry Set)) (o : LaterObjects) → one ≡ (with_numbers start n, limits)
    → two ≡ with_more (λ s. s.0.processes.entries) put_processes one ps → three ≡ (with_waits two.0 ws, two.1) → four ≡ put_undo three us
    → five ≡ with_more (λ s. s.0.msg.entries) put_queues four es → six ≡ with_more (λ s. s.0.semset.entries) put_sets five fs
    → seven ≡ with_more_later six o → seven ≡ (state_of n ps ws us es fs o, limits)
all-added n limits one two three four five six seven ps ws us es fs o from processes waits undo queues sets later =
    later ∙ ap (λ (s : State × Limits). with_more_later s o) (sets ∙ ap (λ (s : State × Limits). put_sets s (s.0.semset.entries ++ fs))
    (queues ∙ ap (λ (s : State × Limits). put_queues s (s.0.msg.entries ++ es)) (undo ∙ ap (λ (s : State × Limits). put_undo s us)
    (waits ∙ ap (λ (s : State × Limits). let t : State × Limits = (with_waits s.0 ws, s.1) in t)
    (processes ∙ ap (λ (s : State × Limits). put_processes s (s.0.processes.entries ++ ps)) from)))))

-- the processes are those that were read
pub processes_added : (n : Numbers) (limits : Limits) (one two : State × Limits) (three : State) (ps : List (ℕ × Process)) (ws : List PlainWaiting)
    → one ≡ (with_numbers start n, limits) → two ≡ with_more (λ s. s.0.processes.entries) put_processes one ps → three ≡ with_waits two.0 ws
    → three.processes.entries ≡ ps
processes_added n limits one two three ps ws from processes waits =
    ap (λ (s : State). s.processes.entries) waits
    ∙ ap (λ (s : State × Limits). s.0.processes.entries) (processes ∙ ap (λ (s : State × Limits). put_processes s (s.0.processes.entries ++ ps)) from)

-- no two lists of processes have the same bytes
pub processes_one : (ps qs : List (ℕ × Process)) → length ps < 2 ^ 32 → length qs < 2 ^ 32 → All FitsProcess ps → All FitsProcess qs
    → processes_bytes ps ≡ processes_bytes qs → ps ≡ qs
processes_one = counted_one process_bytes FitsProcess (plain_one process_shape process_tree FitsProcess (λ p fit. fit.0) process_one)

-- adjustments that were read for these processes
pub record AreAdjustmentsRead (ps : List (ℕ × Process)) (us : List (ℕ × Undo)) (object : List ℕ) : Type 0 where
  pub count : length (adjustments_in us) < 2 ^ 32
  pub fit : All FitsAdjustment (adjustments_in us)
  pub bytes : object ≡ adjustments_bytes us
  pub pids : keys_of us ≡ keys_of ps

-- the objects are those of the state that they make; its numbers have their places, if no two processes have the same pid
pub all_restored : (form : Format) (objects : PlainObjects) (n : Numbers) (ps : List (ℕ × Process)) (ws : List PlainWaiting) (us : List (ℕ × Undo))
    (es : List (ℕ × KeyedEntry Queue)) (fs : List (ℕ × KeyedEntry Set)) (o : LaterObjects) (s : State) (clock processes calls adjustments : List ℕ)
    → slice_get objects 0 ≡ Some (0, clock) → slice_get objects 1 ≡ Some (1, processes) → slice_get objects 2 ≡ Some (2, calls)
    → slice_get objects 3 ≡ Some (3, adjustments) → AreAdjustmentsRead ps us adjustments → IsClockOf form n clock
    → length ps < 2 ^ 32 → All FitsProcess ps → processes ≡ processes_bytes ps
    → length ws < 2 ^ 32 → All FitsWaiting ws → HaveDistinctPids ws → calls ≡ waits_bytes ws → All (FitsIn FitsQueue) es → All (FitsIn FitsSet) fs
    → FitLater o → drop 4 objects ≡ map (queue_object form.marks) es ++ (map set_object fs ++ later_objects o) → s ≡ state_of n ps ws us es fs o
    → (IsDistinct nat_eq (keys_of s.undo) → HasAllPlaces s) × (objects ≡ saved_in form s)
all_restored form objects n ps ws us es fs o s clock processes calls adjustments at0 at1 at2 at3 adjusted of few fit read less fits distinct heard places
    holds later others is =
    let t : State = state_of n ps ws us es fs o in
    let numbers = of t refl refl refl refl refl refl refl refl in
    let all : IsDistinct nat_eq (keys_of us) → HasAllPlaces t = λ apart. record {
      clock = numbers.0;
      count = few;
      processes = fit;
      wait_count = less;
      waits = fits;
      pids = distinct;
      adjustment_count = adjusted.count;
      adjustments = adjusted.fit;
      undo_pids = adjusted.pids;
      distinct = apart;
      queues = places;
      sets = holds;
      later = record { mqs = later.mqs; psems = later.psems; segments = later.segments; shms = later.shms };
    } in
    let parts : HasParts form t objects = record {
      clock = at0 ∙ ap (λ (l : List ℕ). let o : Option (ℕ × List ℕ) = Some (0, l) in o) numbers.1;
      processes = at1 ∙ ap (λ (l : List ℕ). let o : Option (ℕ × List ℕ) = Some (1, l) in o) read;
      calls = at2 ∙ ap (λ (l : List ℕ). let o : Option (ℕ × List ℕ) = Some (2, l) in o) heard;
      adjustments = at3 ∙ ap (λ (l : List ℕ). let o : Option (ℕ × List ℕ) = Some (3, l) in o) adjusted.bytes;
      things = others;
    } in
    (subst (λ (u : State). IsDistinct nat_eq (keys_of u.undo) → HasAllPlaces u) (sym is) all, are_saved form t objects parts ∙ ap (saved_in form) (sym is))

-- ---- told apart

-- a state with these processes, waiting calls, adjustments, queues, semaphore sets, and objects of later kinds
abbrev with_parts : State → List (ℕ × Process) → List PlainWaiting → List (ℕ × Undo) → List (ℕ × KeyedEntry Queue) → List (ℕ × KeyedEntry Set)
    → LaterObjects → State
with_parts u ps ws us es fs o =
    record {
      clock = u.clock;
      processes = record { next = u.processes.next; entries = ps };
      wait = ws;
      undo = us;
      msg = record { next = u.msg.next; entries = es };
      semset = record { next = u.semset.next; entries = fs };
      mq = record { next = u.mq.next; entries = o.mq.entries };
      psem = record { next = u.psem.next; entries = o.psem.entries };
      pshm = record { next = u.pshm.next; entries = o.pshm.entries };
      shm = record { next = u.shm.next; entries = o.shm.entries };
    }

-- two queues with the same bytes, and two semaphore sets
queue_one : (marks : Bool) (e f : KeyedEntry Queue) → FitsQueue e → FitsQueue f → queue_bytes marks e ≡ queue_bytes marks f → e ≡ f
queue_one true = marked_one
queue_one false =
    entry_one queue_sizes queue_numbers (message_bytes false) FitsMessage messages_of
    (plain_one (message_shape false) (message_tree false) FitsMessage (λ m fit. fit.1) message_one)
    queue_from (λ q. refl)

set_one : (e f : KeyedEntry Set) → FitsSet e → FitsSet f → set_bytes e ≡ set_bytes f → e ≡ f
set_one =
    entry_one set_sizes set_numbers semaphore_bytes FitsSemaphore semaphores_of
    (plain_one semaphore_shape semaphore_numbers FitsSemaphore (λ x fit. fit.1) semaphore_one) set_from (λ s. refl)

-- what follows the queues, and what follows the semaphore sets, is of other kinds
abbrev pub sets_and_later : State → PlainObjects
sets_and_later s = map set_object s.semset.entries ++ later_objects (later_in s)

pub after-queues : (s : State) → IsOther (2 ^ 32) (sets_and_later s)
after-queues s =
    later-both (2 ^ 32) (2 * 2 ^ 32) set_bytes s.semset.entries (later_objects (later_in s)) (omega arith)
    (of-later-kinds (2 ^ 32) (later_in s) (omega arith))

pub after-sets : (s : State) → IsOther (2 * 2 ^ 32) (later_objects (later_in s))
after-sets s = of-later-kinds (2 * 2 ^ 32) (later_in s) (omega arith)

-- two states
pub saved_once : (form : Format) → IsFormat form → (s t : State) → HasAllPlaces s → HasAllPlaces t → HasKindsOf form s → HasKindsOf form t
    → saved_in form s ≡ saved_in form t → s ≡ t
saved_once form known s t at also has kinds same =
    let objects : PlainObjects = saved_in form t in
    let ps : List (ℕ × Process) = s.processes.entries in
    let qs : List (ℕ × Process) = t.processes.entries in
    let mine = parts_of form s objects (sym same) in
    let its = parts_of form t objects refl in
    let clock = clock_one form known s t at.clock also.clock has kinds (same_object objects 0 _ _ mine.clock its.clock) in
    let processes = processes_one ps qs at.count also.count at.processes also.processes (same_object objects 1 _ _ mine.processes its.processes) in
    let waits = waits_one s.wait t.wait at.wait_count also.wait_count at.waits also.waits (same_object objects 2 _ _ mine.calls its.calls) in
    let adjustments = counted_one adjustment_bytes FitsAdjustment
    (plain_one adjustment_shape adjustment_numbers FitsAdjustment (λ x fit. fit.1) adjustment_one) (adjustments_in s.undo) (adjustments_in t.undo)
    at.adjustment_count also.adjustment_count at.adjustments also.adjustments (same_object objects 3 _ _ mine.adjustments its.adjustments) in
    let undo = undo_one s.undo t.undo at.distinct
    (at.undo_pids ∙ ap (λ (l : List (ℕ × Process)). keys_of l) processes ∙ sym also.undo_pids) adjustments in
    let queues = objects_one (2 ^ 32) (queue_bytes form.marks) FitsQueue (queue_one form.marks) s.msg.entries t.msg.entries (sets_and_later s)
    (sets_and_later t) at.queues also.queues (after-queues s) (after-queues t) (sym mine.things ∙ its.things) in
    let sets = objects_one (2 * 2 ^ 32) set_bytes FitsSet set_one s.semset.entries t.semset.entries (later_objects (later_in s))
    (later_objects (later_in t)) at.sets also.sets (after-sets s) (after-sets t) queues.1 in
    let later = later_one (later_in s) (later_in t) at.later also.later sets.1 in
    ap (λ (u : State). with_parts u ps s.wait s.undo s.msg.entries s.semset.entries (later_in s)) clock
    ∙ ap (λ (l : List (ℕ × Process)). with_parts t l s.wait s.undo s.msg.entries s.semset.entries (later_in s)) processes
    ∙ ap (λ (ws : List PlainWaiting). with_parts t qs ws s.undo s.msg.entries s.semset.entries (later_in s)) waits
    ∙ ap (λ (us : List (ℕ × Undo)). with_parts t qs t.wait us s.msg.entries s.semset.entries (later_in s)) undo
    ∙ ap (λ (es : List (ℕ × KeyedEntry Queue)). with_parts t qs t.wait t.undo es s.semset.entries (later_in s)) queues.0
    ∙ ap (λ (fs : List (ℕ × KeyedEntry Set)). with_parts t qs t.wait t.undo t.msg.entries fs (later_in s)) sets.0
    ∙ ap (λ (o : LaterLists). with_parts t qs t.wait t.undo t.msg.entries t.semset.entries (listed (later_in t) o)) later

-- what was read is the state, if one has these objects
pub restored_once : (form : Format) → IsFormat form → (s t : State) (objects : PlainObjects) (ps : List (ℕ × Process)) (processes : List ℕ)
    → HasAllPlaces s → HasKindsOf form s → HasKindsOf form t → objects ≡ saved_in form s
    → (IsDistinct nat_eq (keys_of t.undo) → HasAllPlaces t) × (objects ≡ saved_in form t) → slice_get objects 1 ≡ Some (1, processes)
    → length ps < 2 ^ 32 → All FitsProcess ps → processes ≡ processes_bytes ps → keys_of t.undo ≡ keys_of ps → s ≡ t
restored_once form known s t objects ps processes all has kinds are made at1 few fit read pids =
    let same = processes_one s.processes.entries ps all.count few all.processes fit
    (same_object objects 1 _ _ (parts_of form s objects are).processes at1 ∙ read) in
    let apart : IsDistinct nat_eq (keys_of t.undo) =
    subst (IsDistinct nat_eq) (all.undo_pids ∙ ap (λ (l : List (ℕ × Process)). keys_of l) same ∙ sym pids) all.distinct in
    saved_once form known s t all (made.0 apart) has kinds (sym are ∙ made.1)
