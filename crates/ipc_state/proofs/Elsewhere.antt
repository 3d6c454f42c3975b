-- What other calls wait for stays as it is as an object with a name changes, comes or loses its name, and as the
-- descriptors of a process change.
use Rattle.std.proofs.Common.{◌≡◌, ◌≢◌, ℕ, Bool, true, false, cond, List, [], ◌∷◌, Option, Some, None, refl, sym, ap, subst, ◌∙◌, arith}
use Rattle.std.specs.Prelude.{nat_eq, is_some, option_map, unwrap_or}
use Rattle.std.specs.FinMap as fin
use Rattle.std.proofs.lemmas.Bool.Decides.{nat_tests}
use Rattle.ipc_limits.specs.declared.limits.Limits.{Limits}
use Rattle.ipc_base.specs.Table.{IsRising, value_at, without}
use Rattle.ipc_base.proofs.CallerLemmas.{at-map, at-with, other-push, other-with, rising-found, rising-gone, value_at-without}
use Rattle.posix_mq.specs.Queue.{Queue as Mq}
use Rattle.posix_mq.specs.declared.queue.Registration.{Registration}
use Rattle.ipc_state.specs.declared.descriptors.Descriptor.{Descriptor}
use Rattle.ipc_state.specs.declared.objects.Entry.{Entry}
use Rattle.ipc_keys.specs.declared.check.NameKind.TheVariants as names
use Rattle.sem_undo.specs.Undo.{Undo, adjustment}
use Rattle.sysv_msg.specs.Queue.{Queue}
use Rattle.sysv_sem.specs.Set.{Set}
use Rattle.ipc_state.specs.declared.parked.Awaited.{Awaited}
use Rattle.ipc_state.specs.declared.parked.Awaited.TheVariants as awaited
use Rattle.ipc_state.specs.declared.parked.Object.{Object}
use Rattle.ipc_state.specs.declared.parked.ObjectKind.{ObjectKind}
use Rattle.ipc_state.specs.declared.parked.ObjectKind.TheVariants as kinds
use Rattle.ipc_state.specs.declared.processes.Process.{Process}
use Rattle.ipc_state.specs.Descriptors.{Table}
use Rattle.ipc_state.specs.Attached.{detached_all, detached_by}
use Rattle.ipc_state.specs.Bound.{ObjectsOf, holding, putting, rebound, unbound, without_bound}
use Rattle.ipc_state.specs.Keyed.{Keyed, KeyedEntry}
use Rattle.ipc_state.specs.Kinds.{Content, EntryOf, Objects, Those, each_open, has_access, may_open, no_bound, of_kind, parted, with_kind}
use Rattle.ipc_state.specs.Named.{NamedEntry}
use Rattle.ipc_state.specs.Numbered.{entry_of, with_entry, with_new}
use Rattle.ipc_state.specs.Opening.{deregistered, descriptors_of, descriptor_at, is_by}
use Rattle.ipc_state.specs.Opening.{is_on, is_open, is_there_for, object_as, opened_as, still_open}
use Rattle.ipc_state.specs.Opening.{with_table, without_registrations}
use Rattle.ipc_state.specs.Sound.{HasSoundParts}
use Rattle.ipc_state.specs.State.{State, closed, exit, objects_in, objects_of, undo_of, undone, unlinked, with_descriptors, with_entry_of, with_object_of}
use Rattle.ipc_state.specs.Touching.{IsAsBefore, changes_by_exit, closed_on, is_adjusted, is_adjusted_in, is_awaited, is_there, object_at, object_of}
use Rattle.ipc_state.proofs.Changes.{closed-stays, on_of, own-unadjusted, unadjusted, unadjusted-none, undone-apart, unregistered}
use Rattle.ipc_state.proofs.SoundMqs.{both_true, each-holds, either, first, is_on-same, kept-open, put-holds, sound-of, without_goers}
use Rattle.ipc_state.proofs.SoundOpening as opening
use Rattle.ipc_state.proofs.SoundOpening.{opens}

-- the object of an entry, and the descriptors of a process
abbrev object_in : {B X : Type 0} → Option (Entry B X) → Option X
object_in r = option_map (λ e. e.object) r

abbrev table_in : Option Process → Table
table_in r = unwrap_or (option_map (λ (q : Process). q.descriptors) r) []

-- as before at one change and at the next, as before at both
pub before-then : (pid : ℕ) (on : Awaited) (s t u : State) → IsAsBefore pid on s t → IsAsBefore pid on t u → IsAsBefore pid on s u
before-then pid (awaited.MsgQueue id) s t u first second = second ∙ first
before-then pid (awaited.Semset id) s t u first second = (second.0 ∙ first.0, λ p num. second.1 p num ∙ first.1 p num)
before-then pid (awaited.Descriptor fd) s t u first second = (
  second.0 ∙ first.0,
  λ kind n may is. second.1 kind n may (ap on_of first.0 ∙ is) ∙ first.1 kind n may is,
)

on_it : (this on : Object) → on ≡ this → is_on this on ≡ true
on_it this on is = subst (λ (k : Object). is_on this k ≡ true) (sym is) (is_on-same this)

module _ (this : Object) where
  opens-it : (table : Table) (k : ℕ) → on_of (value_at nat_eq table k) ≡ Some this → opens this table ≡ true
  opens-it [] k is = cc
  opens-it (d ∷ ds) k is = by_test (nat_eq d.0 k) is (opens-it ds k)
    where
      by_test : (b : Bool) → on_of (cond b (Some d.1) (value_at nat_eq ds k)) ≡ Some this
          → (on_of (value_at nat_eq ds k) ≡ Some this → opens this ds ≡ true) → opens this (d ∷ ds) ≡ true
      by_test true is rest = let one : d.1.on ≡ this = cc in first (is_on this d.1.on) (opens this ds) (on_it this d.1.on one)
      by_test false is rest = either (is_on this d.1.on) (opens this ds) (rest is)

  -- an object on which a descriptor is open, is open
  open-by : (ps : List (ℕ × Process)) (p k : ℕ) → on_of (descriptor_at ps p k) ≡ Some this → is_open ps this ≡ true
  open-by [] p k is = cc
  open-by (e ∷ es) p k is = by_test (nat_eq e.0 p) is (open-by es p k)
    where
      by_test : (b : Bool) → on_of (value_at nat_eq (table_in (cond b (Some e.1) (value_at nat_eq es p))) k) ≡ Some this
          → (on_of (descriptor_at es p k) ≡ Some this → is_open es this ≡ true) → is_open (e ∷ es) this ≡ true
      by_test true is rest = first (opens this e.1.descriptors) (is_open es this) (opens-it e.1.descriptors k is)
      by_test false is rest = either (opens this e.1.descriptors) (is_open es this) (rest is)

-- bound to none any more it is the same, if it becomes nothing else
same-unbound : {B X : Type 0} (f : X → X) (none : B) → ((x : X) → f x ≡ x) → (o : ObjectsOf B X) (n m : ℕ)
    → object_in (entry_of (unbound f none o n) m) ≡ object_in (entry_of o m)
same-unbound {B} {X} f none kept o n m = same (entry_of o n) refl
  where
    same : (r : Option (Entry B X)) → entry_of o n ≡ r → object_in (entry_of (without_bound f none o n r) m) ≡ object_in (entry_of o m)
    same None is = refl
    same (Some e) is = by_number (nat_eq m n) refl
      where
        by_number : (b : Bool) → nat_eq m n ≡ b → object_in (entry_of (with_entry o n (rebound f e none)) m) ≡ object_in (entry_of o m)
        by_number true at =
            let one : m ≡ n = grind (arith, nat_tests) in
            subst (λ (k : ℕ). object_in (entry_of (with_entry o n (rebound f e none)) k) ≡ object_in (entry_of o k)) (sym one)
            (ap object_in (at-with o.entries n (rebound f e none) e is) ∙ (ap (λ (x : X). Some x) (kept e.object) ∙ sym (ap object_in is)))
        by_number false at =
            let other : m ≢ n = λ one. grind (arith, nat_tests) in
            ap object_in (other-with o.entries n m (rebound f e none) other)

-- an object on which calls may wait becomes nothing else
parted-same : (kind : ObjectKind) → is_awaited kind ≡ true → (x : Content kind) → parted kind x ≡ x
parted-same kinds.MsgQueue may x = refl
parted-same kinds.Semset may x = refl
parted-same kinds.Shm may x = cc
parted-same (kinds.Named kind) may x = refl

-- others of a kind that may be open leave the queues and the sets of System V
pub open-msg : (o : Objects) (kind : ObjectKind) (m : Those kind) → may_open kind ≡ true → (with_kind o kind m).msg ≡ o.msg
open-msg o kinds.MsgQueue m may = cc
open-msg o kinds.Semset m may = cc
open-msg o kinds.Shm m may = refl
open-msg o (kinds.Named kind) m may = refl

pub open-semset : (o : Objects) (kind : ObjectKind) (m : Those kind) → may_open kind ≡ true → (with_kind o kind m).semset ≡ o.semset
open-semset o kinds.MsgQueue m may = cc
open-semset o kinds.Semset m may = cc
open-semset o kinds.Shm m may = refl
open-semset o (kinds.Named kind) m may = refl

-- what a call may wait on is what it was
abbrev Same : State → ℕ → ℕ → (kind : ObjectKind) → Those kind → Type 0
Same s p fd kind o =
    (m : ℕ) → is_awaited kind ≡ true → object_of s p (awaited.Descriptor fd) ≡ Some (object_as kind m) → object_in (entry_of o m) ≡ object_at s kind m

-- another object of a kind that may be open in the place of one
pub elsewhere-object : (s : State) (kind : ObjectKind) (n : ℕ) (x : Content kind) (p : ℕ) (on : Awaited) → may_open kind ≡ true
    → (is_awaited kind ≡ true → Some (object_as kind n) ≢ object_of s p on) → IsAsBefore p on s (with_object_of s kind n x)
elsewhere-object s kind n x p (awaited.MsgQueue id) may apart =
    ap (λ (t : Keyed Queue). entry_of t id.0) (open-msg (objects_in s) kind (putting (objects_of s kind) n x) may)
elsewhere-object s kind n x p (awaited.Semset id) may apart = (
  ap (λ (t : Keyed Set). entry_of t id.0) (open-semset (objects_in s) kind (putting (objects_of s kind) n x) may),
  λ pid num. refl,
)
elsewhere-object s kind n x p (awaited.Descriptor fd) may apart = (
  refl,
  put-holds (Same s p fd) (objects_in s) kind (putting those n x) (λ other m may is. refl)
      (λ m may is. by_entry m (λ same. apart may (ap (λ (k : ℕ). Some (object_as kind k)) (sym same) ∙ sym is)) (entry_of those n)),
)
  where
    those : Those kind
    those = objects_of s kind

    by_entry : (m : ℕ) → m ≢ n → (r : Option (EntryOf kind))
        → object_in (entry_of (unwrap_or (option_map (λ (e : EntryOf kind). with_entry those n (holding e x)) r) those) m) ≡ object_at s kind m
    by_entry m other None = refl
    by_entry m other (Some e) = ap object_in (other-with those.entries n m (holding e x) other)

-- other descriptors of another process
pub elsewhere-table : (s : State) (pid : ℕ) (table : Table) (p : ℕ) (on : Awaited) → p ≢ pid → IsAsBefore p on s (with_descriptors s pid table)
elsewhere-table s pid table p (awaited.MsgQueue id) other = refl
elsewhere-table s pid table p (awaited.Semset id) other = (refl, λ q num. refl)
elsewhere-table s pid table p (awaited.Descriptor fd) other = (
  ap (λ (r : Option Process). value_at nat_eq (table_in r) fd) (opening.table-other s.processes pid table p other),
  λ kind m may is. refl,
)

-- so it has the same objects
pub table-objects : (s : State) (pid : ℕ) (table : Table) (p : ℕ) → p ≢ pid → (on : Awaited) → object_of (with_descriptors s pid table) p on ≡ object_of s p on
table-objects s pid table p other (awaited.MsgQueue id) = refl
table-objects s pid table p other (awaited.Semset id) = refl
table-objects s pid table p other (awaited.Descriptor fd) = ap on_of (elsewhere-table s pid table p (awaited.Descriptor fd) other).0

module _ (limits : Limits) (s : State) (h : HasSoundParts limits s) where
  -- what a descriptor is open on is there
  there-for : (p fd : ℕ) (this : Object) → object_of s p (awaited.Descriptor fd) ≡ Some this → is_there_for (objects_in s) this ≡ true
  there-for p fd this is = by_value (descriptor_at s.processes.entries p fd) refl is
    where
      by_value : (r : Option Descriptor) → descriptor_at s.processes.entries p fd ≡ r → on_of r ≡ Some this
          → is_there_for (objects_in s) this ≡ true
      by_value None found is = cc
      by_value (Some d) found is =
          let on : d.on ≡ this = cc in
          subst (λ (k : Object). is_there_for (objects_in s) k ≡ true) on
          (both_true (is_there_for (objects_in s) d.on) (has_access d.on.kind d.flags)
          (opening.descriptor-sound limits (objects_in s) s.processes.entries p fd d h.processes.descriptors found)).0

  -- a new object of a kind that may be open
  pub elsewhere-new : (kind : ObjectKind) (e : EntryOf kind) (p : ℕ) (on : Awaited) → may_open kind ≡ true → IsAsBefore p on s (with_entry_of s kind e)
  elsewhere-new kind e p (awaited.MsgQueue id) may =
      ap (λ (t : Keyed Queue). entry_of t id.0) (open-msg (objects_in s) kind (with_new (objects_of s kind) e) may)
  elsewhere-new kind e p (awaited.Semset id) may = (
    ap (λ (t : Keyed Set). entry_of t id.0) (open-semset (objects_in s) kind (with_new (objects_of s kind) e) may),
    λ pid num. refl,
  )
  elsewhere-new kind e p (awaited.Descriptor fd) may = (
    refl,
    put-holds (Same s p fd) (objects_in s) kind (with_new those e) (λ other m may is. refl) (λ m may is.
        let numbers = (sound-of limits s h kind).held.bound.numbered.numbers in
        let below = (rising-found 1 those.entries those.next m numbers (there-for p fd (object_as kind m) is)).1 in
        ap object_in (other-push those.entries those.next m e (λ same. absurd (omega (arith, same, below))))),
  )
    where
      those : Those kind
      those = objects_of s kind

  -- it stays so if objects go that are not open
  swept-same : (left : List (ℕ × Process)) (o : Objects) (p fd : ℕ)
      → descriptor_at left p fd ≡ descriptor_at s.processes.entries p fd → ((kind : ObjectKind) → Same s p fd kind (of_kind o kind))
      → (kind : ObjectKind) → Same s p fd kind (of_kind (each_open (λ other. still_open other left) o) kind)
  swept-same left o p fd same all =
      each-holds (Same s p fd) o (λ other. still_open other left) (λ kind _ m may is.
      ap object_in (kept-open limits kind left (of_kind o kind) m (open-by (object_as kind m) left p fd (ap on_of same ∙ is))) ∙ all kind m may is)
      (λ kind _. all kind)

  -- what an object of a kind that may be open is bound to goes, and it, if it is not open
  pub elsewhere-unlinked : (kind : ObjectKind) (n p : ℕ) (on : Awaited) → may_open kind ≡ true → IsAsBefore p on s (unlinked s kind n)
  elsewhere-unlinked kind n p (awaited.MsgQueue id) may =
      ap (λ (t : Keyed Queue). entry_of t id.0) (open-msg (objects_in s) kind (unbound (parted kind) (no_bound kind) (objects_of s kind) n) may)
  elsewhere-unlinked kind n p (awaited.Semset id) may = (
    ap (λ (t : Keyed Set). entry_of t id.0) (open-semset (objects_in s) kind (unbound (parted kind) (no_bound kind) (objects_of s kind) n) may),
    λ pid num. refl,
  )
  elsewhere-unlinked kind n p (awaited.Descriptor fd) may = (
    refl,
    swept-same s.processes.entries (with_kind (objects_in s) kind (unbound (parted kind) (no_bound kind) (objects_of s kind) n)) p fd refl
        (put-holds (Same s p fd) (objects_in s) kind (unbound (parted kind) (no_bound kind) (objects_of s kind) n) (λ other m may is. refl)
        (λ m awaits is. same-unbound (parted kind) (no_bound kind) (parted-same kind awaits) (objects_of s kind) n m)),
  )

  -- a queue is the same, with whoever is registered with it
  same-queues : (p fd : ℕ) (goes : Registration → Bool)
      → ((m : ℕ) (e : NamedEntry Mq) → object_of s p (awaited.Descriptor fd) ≡ Some (opened_as names.Mq m) → entry_of s.mq m ≡ Some e → deregistered goes e ≡ e)
      → Same s p fd (kinds.Named names.Mq) (without_registrations goes s.mq)
  same-queues p fd goes stay m may is = ap object_in (at-map (deregistered goes) s.mq.entries m) ∙ by_entry (entry_of s.mq m) refl
    where
      by_entry : (r : Option (NamedEntry Mq)) → entry_of s.mq m ≡ r → object_in (option_map (deregistered goes) r) ≡ object_in r
      by_entry None found = refl
      by_entry (Some e) found = ap (λ (d : NamedEntry Mq). Some d.object) (stay m e is found)

  -- a descriptor that is closed by another process, with the registration by it
  pub elsewhere-closed : (pid fd p : ℕ) (on : Awaited) → p ≢ pid → closed_on s pid fd ≢ object_of s p on → IsAsBefore p on s (closed s pid fd)
  elsewhere-closed pid fd p (awaited.MsgQueue id) other apart = refl
  elsewhere-closed pid fd p (awaited.Semset id) other apart = (refl, λ q num. refl)
  elsewhere-closed pid fd p (awaited.Descriptor k) other apart =
      let table : Table = without nat_eq (descriptors_of s.processes.entries pid) fd in
      let those : Objects = with_kind (objects_in s) kinds.Shm (detached_by s.clock pid s.shm (descriptor_at s.processes.entries pid fd)) in
      let same : descriptor_at (with_table s.processes pid table).entries p k ≡ descriptor_at s.processes.entries p k =
      ap (λ (r : Option Process). value_at nat_eq (table_in r) k) (opening.table-other s.processes pid table p other) in (
        same,
        swept-same (with_table s.processes pid table).entries (without_goers (is_by (Some pid) (Some fd)) those) p k same
            (put-holds (Same s p k) those (kinds.Named names.Mq) (without_registrations (is_by (Some pid) (Some fd)) s.mq)
            (put-holds (Same s p k) (objects_in s) kinds.Shm those.shm (λ kind m may is. refl) (λ m may is. cc))
            (same-queues p k (is_by (Some pid) (Some fd))
            (λ m e is found. closed-stays s pid fd m e (h.named names.Mq).together.registered found (λ one. apart (one ∙ sym is))))),
      )

  -- what another process names, as one leaves that changes no such object
  pub elsewhere-exit : (pid p : ℕ) (on : Awaited) → p ≢ pid
      → ((o : Object) → object_of s p on ≡ Some o → changes_by_exit (Some pid) s o ≡ false) → is_there p on s ≡ true → IsAsBefore p on s (exit s pid)
  elsewhere-exit pid p (awaited.MsgQueue id) other none there = refl
  elsewhere-exit pid p (awaited.Semset id) other none there =
      let apart : is_adjusted (Some pid) s.undo id.0 ≡ false = by_entry (entry_of s.semset id.0) refl there in
      let own : is_adjusted_in id.0 (undo_of s pid) ≡ false = own-unadjusted s.undo pid id.0 apart in
      (undone-apart s.semset (pid, undo_of s pid) id.0 own, λ q num. by_pid q num own (nat_eq q pid) refl)
    where
      this : Object
      this = object_as kinds.Semset id.0

      by_entry : (r : Option (KeyedEntry Set)) → entry_of s.semset id.0 ≡ r → is_some r ≡ true → is_adjusted (Some pid) s.undo id.0 ≡ false
      by_entry None found some = cc
      by_entry (Some e) found some = unadjusted s this limits h (Some pid) (none this refl) id.0 refl e found

      none-left : (r : Option Undo) → is_some r ≡ false → unwrap_or r fin.empty ≡ fin.empty
      none-left None gone = refl
      none-left (Some u) gone = cc

      by_pid : (q num : ℕ) → is_adjusted_in id.0 (undo_of s pid) ≡ false → (b : Bool) → nat_eq q pid ≡ b
          → adjustment (unwrap_or (value_at nat_eq (without nat_eq s.undo pid) q) fin.empty) (id.0, num) ≡ adjustment (undo_of s q) (id.0, num)
      by_pid q num own false is =
          ap (λ (r : Option Undo). adjustment (unwrap_or r fin.empty) (id.0, num)) (value_at-without s.undo pid q (λ same. grind (arith, nat_tests)))
      by_pid q num own true is =
          let it : q ≡ pid = grind (arith, nat_tests) in
          let keys = subst (λ (ks : List ℕ). IsRising 1 ks s.processes.next) (sym h.undo.pids) h.processes.numbered.numbers in
          ap (λ (k : ℕ). adjustment (unwrap_or (value_at nat_eq (without nat_eq s.undo pid) k) fin.empty) (id.0, num)) it
          ∙ (ap (λ (u : Undo). adjustment u (id.0, num)) (none-left _ (rising-gone 1 s.undo s.processes.next pid keys))
          ∙ (unadjusted-none (undo_of s pid) id.0 num own ∙ ap (λ (k : ℕ). adjustment (undo_of s k) (id.0, num)) (sym it)))
  elsewhere-exit pid p (awaited.Descriptor k) other none there =
      let left : List (ℕ × Process) = without nat_eq s.processes.entries pid in
      let sets : Objects = with_kind (objects_in s) kinds.Semset (undone s.semset (pid, undo_of s pid)) in
      let those : Objects = with_kind sets kinds.Shm (detached_all s.clock pid s.shm (descriptors_of s.processes.entries pid)) in
      let same : descriptor_at left p k ≡ descriptor_at s.processes.entries p k =
      ap (λ (r : Option Process). value_at nat_eq (table_in r) k) (value_at-without s.processes.entries pid p other) in (
        same,
        swept-same left (without_goers (is_by (Some pid) None) those) p k same
            (put-holds (Same s p k) those (kinds.Named names.Mq) (without_registrations (is_by (Some pid) None) s.mq)
            (put-holds (Same s p k) sets kinds.Shm those.shm
            (put-holds (Same s p k) (objects_in s) kinds.Semset sets.semset (λ kind m may is. refl) (λ m may is. cc)) (λ m may is. cc))
            (same-queues p k (is_by (Some pid) None)
            (λ m e is found. unregistered s (opened_as names.Mq m) limits h (Some pid) (none (opened_as names.Mq m) is) m refl e found))),
      )
