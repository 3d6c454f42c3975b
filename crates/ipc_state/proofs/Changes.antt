-- Each object stays what it is, but for the one that a call, a close or an exit changes; it may go.
use Rattle.std.proofs.Common.{◌≡◌, ◌≢◌, ℕ, ℤ, pos, ◌+◌, Bool, true, false, cond, List, [], ◌∷◌, Option, Some, None, length, refl, sym, ap, subst, ◌∙◌, arith}
use Rattle.std.specs.Prelude.{◌&&◌, ◌||◌, All, nat_eq, filter, is_some, option_map, option_and_then, unwrap_or, if◌then◌else◌}
use Rattle.std.specs.FinMap as fin
use Rattle.std.specs.FinMap.{find, get-empty, get-entries, len-empty, len-entries}
use Rattle.std.specs.Ordering.{is_eq}
use Rattle.std.specs.declared.cmp.Ordering.{Ordering}
use Rattle.std.specs.declared.cmp.Ordering.TheVariants.{Less, Equal, Greater}
use Rattle.std.specs.List.{fold, list_any}
use Rattle.std.proofs.lemmas.Bool.Decides.{nat_tests}
use Rattle.ipc_limits.specs.declared.limits.Limits.{Limits}
use Rattle.ipc_base.specs.Table.{IsRising, keys_of, value_at}
use Rattle.ipc_base.proofs.CallerLemmas.{at-map, keys_of-with_value, other-push, other-with, rising-found, same_key}
use Rattle.ipc_keys.specs.declared.check.NameKind.TheVariants as names
use Rattle.posix_mq.specs.Queue.{Queue as Mq}
use Rattle.posix_mq.specs.declared.queue.Registration.{Registration}
use Rattle.sem_undo.specs.Undo.{Key, Undo, adjustment, key_cmp}
use Rattle.sem_undo.proofs.CallerLemmas.{key_apart}
use Rattle.shm_segment.specs.SysSegment.{SysSegment}
use Rattle.sysv_sem.specs.Set.{Set}
use Rattle.ipc_state.specs.declared.descriptors.Descriptor.{Descriptor}
use Rattle.ipc_state.specs.declared.parked.Awaited.TheVariants as awaited
use Rattle.ipc_state.specs.declared.parked.Object.{Object}
use Rattle.ipc_state.specs.declared.parked.ObjectKind.{ObjectKind}
use Rattle.ipc_state.specs.declared.parked.ObjectKind.TheVariants as kinds
use Rattle.ipc_state.specs.declared.processes.Process.{Process}
use Rattle.ipc_state.specs.Attached.{detached_all, detached_by, detached_each}
use Rattle.ipc_state.specs.Bound.{holding, putting, rebound, without_bound}
use Rattle.ipc_state.specs.Keyed.{Keyed, KeyedEntry}
use Rattle.ipc_state.specs.Kinds.{Content, EntryOf, Objects, Those, each_open, may_open, no_bound, of_kind, parted, with_kind}
use Rattle.ipc_state.specs.Named.{Named, NamedEntry}
use Rattle.ipc_state.specs.Numbered.{entry_of, with_entry, with_new}
use Rattle.ipc_state.specs.Opening.{deregistered, descriptor_at, descriptors_of, is_by, is_by_descriptor, is_on}
use Rattle.ipc_state.specs.Opening.{is_registered, object_as, opened_as, same_kind, stays}
use Rattle.ipc_state.specs.Opening.{still_open, unless_so, without_registrations}
use Rattle.ipc_state.specs.Sound.{HasSoundParts}
use Rattle.ipc_state.specs.State.{State, adjusted, closed, exit, objects_in, objects_of, restart, undo_of, undone, unlinked, with_entry_of, with_object_of}
use Rattle.ipc_state.specs.State.{with_objects_of}
use Rattle.ipc_state.specs.Touching.{IsSameIn, changes_by_exit, closed_on, is_adjusted, is_adjusted_in, is_made_by, is_opened_by, is_queue, is_segment}
use Rattle.ipc_state.specs.Touching.{object_of, parted_from, registration_of}
use Rattle.ipc_state.proofs.Adjusting.{adjusted-by, all-undone-keeps, seen-keys, undone-keeps}
use Rattle.ipc_state.proofs.Detaching.{AreDetached, all-apart, all-detached, by-detached, each-apart, each-detached, on-apart}
use Rattle.ipc_state.proofs.Numbering.{neither}
use Rattle.ipc_state.proofs.SoundMqs.{both_true, each-holds, is_on-same, put-holds, sound-of}
use Rattle.ipc_state.proofs.SoundOpening.{All-found}

-- ---- tables

-- what is found among those that are left is found among all
at-left : {X : Type 0} (test : ℕ × X → Bool) (low high : ℕ) (es : List (ℕ × X)) (k : ℕ) (x : X) → IsRising low (keys_of es) high
    → value_at nat_eq (filter test es) k ≡ Some x → value_at nat_eq es k ≡ Some x
at-left test low high [] k x h is = is
at-left {X} test low high (e ∷ es) k x h is = by_tests (nat_eq e.0 k) (test e) refl is (at-left test (e.0 + 1) high es k x h.1)
  where
    by_tests : (b passes : Bool) → nat_eq e.0 k ≡ b → value_at nat_eq (cond passes (e ∷ filter test es) (filter test es)) k ≡ Some x
        → (value_at nat_eq (filter test es) k ≡ Some x → value_at nat_eq es k ≡ Some x) → cond b (Some e.1) (value_at nat_eq es k) ≡ Some x
    by_tests true true at is rest = sym (rw at refl) ∙ is
    by_tests true false at is rest =
        let there = rising-found (e.0 + 1) es high k h.1 (ap is_some (rest is)) in
        let here : e.0 ≡ k = grind (arith, nat_tests) in
        absurd (omega (arith, there.0, here))
    by_tests false true at is rest = rest (sym (rw at refl) ∙ is)
    by_tests false false at is rest = rest is

-- a test that no entry passes fails at what is found
any-at : {X : Type 0} (test : ℕ × X → Bool) (es : List (ℕ × X)) (k : ℕ) (x : X) → value_at nat_eq es k ≡ Some x → list_any test es ≡ false
    → test (k, x) ≡ false
any-at test [] k x is none = cc
any-at {X} test (e ∷ es) k x is none =
    let both = neither (test e) (list_any test es) none in by_key (nat_eq e.0 k) refl is both.0 (λ later. any-at test es k x later both.1)
  where
    by_key : (b : Bool) → nat_eq e.0 k ≡ b → cond b (Some e.1) (value_at nat_eq es k) ≡ Some x → test e ≡ false
        → (value_at nat_eq es k ≡ Some x → test (k, x) ≡ false) → test (k, x) ≡ false
    by_key true at is here rest =
        let key : k ≡ e.0 = grind (arith, nat_tests) in
        let it : x ≡ e.1 = cc in
        (λ i. test (key i, it i)) ∙ here
    by_key false at is here rest = rest is

-- ---- registrations

-- what a descriptor is open on
abbrev pub on_of : Option Descriptor → Option Object
on_of r = option_map (λ (d : Descriptor). d.on) r

-- a registration that nobody of these has made stays
pub unmade-stays : (pid fd : Option ℕ) (r : Option Registration) → is_made_by pid fd r ≡ false → unless_so (is_by pid fd) r ≡ r
unmade-stays pid fd None is = refl
unmade-stays pid fd (Some r) is = ap (λ (b : Bool). if b then None else Some r) is

module _ (s : State) (pid fd m : ℕ) (e : NamedEntry Mq) where
  abbrev queue : Object
  queue = opened_as names.Mq m

  -- who is registered by a descriptor has the queue open by it
  closed-made : entry_of s.mq m ≡ Some e → is_by_descriptor s.processes.entries m e.object.registration ≡ true
      → is_made_by (Some pid) (Some fd) e.object.registration ≡ true → closed_on s pid fd ≡ Some queue
  closed-made found registered made =
      ap (option_and_then (parted_from s pid fd)) (open-on e.object.registration registered made)
      ∙ ap (λ (b : Bool). if b then Some queue else None)
      (ap (λ (r : Option (NamedEntry Mq)). is_made_by (Some pid) (Some fd) (option_and_then (λ (d : NamedEntry Mq). d.object.registration) r)) found ∙ made)
    where
      by_kind : (kind : ObjectKind) → same_kind kind (kinds.Named names.Mq) ≡ true → kind ≡ kinds.Named names.Mq
      by_kind kinds.MsgQueue is = cc
      by_kind kinds.Semset is = cc
      by_kind kinds.Shm is = cc
      by_kind (kinds.Named names.Mq) is = refl
      by_kind (kinds.Named names.Psem) is = cc
      by_kind (kinds.Named names.Pshm) is = cc

      by_value : (v : Option Descriptor) → unwrap_or (option_map (λ (d : Descriptor). is_on queue d.on) v) false ≡ true → on_of v ≡ Some queue
      by_value None is = cc
      by_value (Some d) is =
          let both = both_true (same_kind d.on.kind (kinds.Named names.Mq)) (nat_eq d.on.number m) is in
          let number : d.on.number ≡ m = grind (arith, nat_tests, both.1) in
          λ i. Some (record { kind = by_kind d.on.kind both.0 i; number = number i })

      open-on : (r : Option Registration) → is_by_descriptor s.processes.entries m r ≡ true → is_made_by (Some pid) (Some fd) r ≡ true
          → object_of s pid (awaited.Descriptor fd) ≡ Some queue
      open-on None registered made = cc
      open-on (Some r) registered made =
          let both = both_true (nat_eq pid r.pid.0) (nat_eq fd r.descriptor) made in
          let by_pid : r.pid.0 ≡ pid = grind (arith, nat_tests, both.0) in
          let by_fd : r.descriptor ≡ fd = grind (arith, nat_tests, both.1) in
          (λ i. on_of (descriptor_at s.processes.entries (sym by_pid i) (sym by_fd i)))
          ∙ by_value (descriptor_at s.processes.entries r.pid.0 r.descriptor) registered

  -- so it stays, if the close changes another object
  pub closed-stays : All (λ d. is_registered s.processes.entries d ≡ true) s.mq.entries → entry_of s.mq m ≡ Some e → closed_on s pid fd ≢ Some queue
      → deregistered (is_by (Some pid) (Some fd)) e ≡ e
  closed-stays all found apart =
      ap (λ (r : Option Registration). let d : NamedEntry Mq = record e { object = record e.object { registration = r } } in d)
      (unmade-stays (Some pid) (Some fd) e.object.registration (by_test (is_made_by (Some pid) (Some fd) e.object.registration) refl))
    where
      by_test : (b : Bool) → is_made_by (Some pid) (Some fd) e.object.registration ≡ b → is_made_by (Some pid) (Some fd) e.object.registration ≡ false
      by_test false made = made
      by_test true made =
          absurd (apart (closed-made found (All-found (λ (d : ℕ × NamedEntry Mq). is_registered s.processes.entries d ≡ true) s.mq.entries m e all found) made))

-- ---- adjustments

-- what an exit does not adjust
adjusted-apart : (pid : ℕ) (sets : Keyed Set) (a : Key × ℤ) (n : ℕ) → nat_eq a.0.0 n ≡ false → entry_of (adjusted pid sets a) n ≡ entry_of sets n
adjusted-apart pid sets a n other =
    adjusted-by (λ (o : Keyed Set). entry_of o n ≡ entry_of sets n) pid sets a
    (λ e is. other-with sets.entries a.0.0 n _ (λ same. grind (arith, nat_tests))) refl

fold-apart : (pid : ℕ) (sets : Keyed Set) (adjustments : List (Key × ℤ)) (n : ℕ) → list_any (λ (a : Key × ℤ). nat_eq a.0.0 n) adjustments ≡ false
    → entry_of (fold (adjusted pid) sets adjustments) n ≡ entry_of sets n
fold-apart pid sets [] n none = refl
fold-apart pid sets (a ∷ more) n none =
    let both = neither (nat_eq a.0.0 n) (list_any (λ (b : Key × ℤ). nat_eq b.0.0 n) more) none in
    fold-apart pid (adjusted pid sets a) more n both.1 ∙ adjusted-apart pid sets a n both.0

pub undone-apart : (sets : Keyed Set) (p : ℕ × Undo) (n : ℕ) → is_adjusted_in n p.1 ≡ false → entry_of (undone sets p) n ≡ entry_of sets n
undone-apart sets p n none = fold-apart p.0 sets (fin.entries p.1) n none

all-undone-apart : (sets : Keyed Set) (undo : List (ℕ × Undo)) (n : ℕ) → is_adjusted None undo n ≡ false → entry_of (fold undone sets undo) n ≡ entry_of sets n
all-undone-apart sets [] n none = refl
all-undone-apart sets (p ∷ ps) n none =
    let both = neither (is_adjusted_in n p.1) (is_adjusted None ps n) none in
    all-undone-apart (undone sets p) ps n both.1 ∙ undone-apart sets p n both.0

-- no adjustment of a process is at a set, if none of its is
pub own-unadjusted : (undo : List (ℕ × Undo)) (pid n : ℕ) → is_adjusted (Some pid) undo n ≡ false
    → is_adjusted_in n (unwrap_or (value_at nat_eq undo pid) fin.empty) ≡ false
own-unadjusted undo pid n none = by_value (value_at nat_eq undo pid) refl
  where
    nowhere : (es : List (Key × ℤ)) → length es ≡ 0 → list_any (λ (a : Key × ℤ). nat_eq a.0.0 n) es ≡ false
    nowhere [] none = refl
    nowhere (e ∷ es) none = cc

    by_value : (r : Option Undo) → value_at nat_eq undo pid ≡ r → is_adjusted_in n (unwrap_or r fin.empty) ≡ false
    by_value None is = nowhere (fin.entries (fin.empty {R = key_cmp})) (sym (len-entries (fin.empty {R = key_cmp})) ∙ len-empty key_cmp ℤ)
    by_value (Some u) is =
        sym (ap (λ (b : Bool). b && is_adjusted_in n u) (same_key pid))
        ∙ any-at (λ (p : ℕ × Undo). nat_eq pid p.0 && is_adjusted_in n p.1) undo pid u is none

-- so there is none at any semaphore of it
pub unadjusted-none : (u : Undo) (n num : ℕ) → is_adjusted_in n u ≡ false → adjustment fin.empty (n, num) ≡ adjustment u (n, num)
unadjusted-none u n num none =
    ap (λ (r : Option ℤ). unwrap_or r (pos 0)) (get-empty key_cmp (n, num) ∙ sym (get-entries u (n, num) ∙ nowhere (fin.entries u) none))
  where
    nowhere : (es : List (Key × ℤ)) → list_any (λ (a : Key × ℤ). nat_eq a.0.0 n) es ≡ false → find key_cmp (n, num) es ≡ None
    nowhere [] none = refl
    nowhere (e ∷ es) none =
        let both = neither (nat_eq e.0.0 n) (list_any (λ (a : Key × ℤ). nat_eq a.0.0 n) es) none in
        by_order (key_cmp (n, num) e.0) refl both.0 (nowhere es both.1)
      where
        by_order : (r : Ordering) → key_cmp (n, num) e.0 ≡ r → nat_eq e.0.0 n ≡ false → find key_cmp (n, num) es ≡ None
            → cond (is_eq r) (Some e.1) (find key_cmp (n, num) es) ≡ None
        by_order Less is apart later = later
        by_order Greater is apart later = later
        by_order Equal is apart later =
            let one : n ≡ e.0.0 = ap (λ (k : Key). k.0) (key_apart (n, num) e.0 is) in
            absurd (grind (arith, nat_tests))

-- an object that a process has not open, is open by none of its descriptors
own-unopened : (ps : List (ℕ × Process)) (pid : ℕ) (this : Object) → is_opened_by (Some pid) ps this ≡ false
    → list_any (λ (d : ℕ × Descriptor). is_on this d.1.on) (descriptors_of ps pid) ≡ false
own-unopened ps pid this none = by_value (value_at nat_eq ps pid) refl
  where
    by_value : (r : Option Process) → value_at nat_eq ps pid ≡ r
        → list_any (λ (d : ℕ × Descriptor). is_on this d.1.on) (unwrap_or (option_map (λ (p : Process). p.descriptors) r) []) ≡ false
    by_value None is = refl
    by_value (Some p) is =
        sym (ap (λ (b : Bool). b && list_any (λ (d : ℕ × Descriptor). is_on this d.1.on) p.descriptors) (same_key pid))
        ∙ any-at (λ (q : ℕ × Process). nat_eq pid q.0 && list_any (λ (d : ℕ × Descriptor). is_on this d.1.on) q.1.descriptors) ps pid p is none

-- a segment of this number
on-segment : (on : Object) (n : ℕ) → same_kind on.kind kinds.Shm ≡ true → on.number ≡ n → on ≡ object_as kinds.Shm n
on-segment on n same number = λ i. record { kind = by_kind on.kind same i; number = number i }
  where
    by_kind : (kind : ObjectKind) → same_kind kind kinds.Shm ≡ true → kind ≡ kinds.Shm
    by_kind kinds.MsgQueue is = cc
    by_kind kinds.Semset is = cc
    by_kind kinds.Shm is = refl
    by_kind (kinds.Named kind) is = cc

-- ---- each object

-- an object is what it is in a state, if it is one of these of a kind
abbrev Stays : State → Object → (kind : ObjectKind) → Those kind → Type 0
Stays s o kind those = (n : ℕ) → o ≡ object_as kind n → (e : EntryOf kind) → entry_of those n ≡ Some e → entry_of (objects_of s kind) n ≡ Some e

-- the numbers of a kind that may be open rise
abbrev AreRising : (kind : ObjectKind) → Those kind → Type 0
AreRising kind those = may_open kind ≡ true → IsRising 1 (keys_of those.entries) those.next

module _ (s : State) (o : Object) where
  -- with others of a kind
  put-stays : (kind : ObjectKind) (m : Those kind) → Stays s o kind m → (k : ObjectKind) → Stays s o k (of_kind (with_kind (objects_in s) kind m) k)
  put-stays kind m one = put-holds (Stays s o) (objects_in s) kind m (λ k n is e at. at) one

  pub same_in-put : (kind : ObjectKind) (m : Those kind) → ((n : ℕ) → o ≡ object_as kind n → entry_of m n ≡ entry_of (objects_of s kind) n)
      → IsSameIn o s (with_objects_of s kind m)
  same_in-put kind m one = put-stays kind m (λ n is e at. sym (one n is) ∙ at) o.kind o.number refl

  -- an object of another number
  other : (kind : ObjectKind) (n m : ℕ) → Some (object_as kind n) ≢ Some o → o ≡ object_as kind m → m ≢ n
  other kind n m apart is same = apart (ap (λ (k : ℕ). Some (object_as kind k)) (sym same) ∙ ap (λ (this : Object). Some this) (sym is))

  -- another object in the place of one
  pub same_in-object : (kind : ObjectKind) (n : ℕ) (x : Content kind) → Some (object_as kind n) ≢ Some o → IsSameIn o s (with_object_of s kind n x)
  same_in-object kind n x apart =
      same_in-put kind (putting those n x) (λ m is. by_entry m (other kind n m apart is) (entry_of those n))
    where
      those : Those kind
      those = objects_of s kind

      by_entry : (m : ℕ) → m ≢ n → (r : Option (EntryOf kind))
          → entry_of (unwrap_or (option_map (λ (e : EntryOf kind). with_entry those n (holding e x)) r) those) m ≡ entry_of those m
      by_entry m other None = refl
      by_entry m other (Some e) = other-with those.entries n m (holding e x) other

  -- one more
  pub same_in-new : (kind : ObjectKind) (e : EntryOf kind) → Some (object_as kind (objects_of s kind).next) ≢ Some o → IsSameIn o s (with_entry_of s kind e)
  same_in-new kind e apart =
      let those = objects_of s kind in
      same_in-put kind (with_new those e) (λ m is. other-push those.entries those.next m e (other kind those.next m apart is))

  -- some of them are left
  swept-stays : (left : List (ℕ × Process)) (os : Objects) → ((kind : ObjectKind) → AreRising kind (of_kind os kind))
      → ((kind : ObjectKind) → Stays s o kind (of_kind os kind))
      → (kind : ObjectKind) → Stays s o kind (of_kind (each_open (λ k. still_open k left) os) kind)
  swept-stays left os rising all =
      each-holds (Stays s o) os (λ k. still_open k left)
      (λ kind may n is e at. all kind n is e (at-left (stays kind left) 1 (of_kind os kind).next (of_kind os kind).entries n e (rising kind may) at))
      (λ kind _. all kind)

  module _ (limits : Limits) (h : HasSoundParts limits s) where
    rising : (kind : ObjectKind) → AreRising kind (objects_of s kind)
    rising kind may = (sound-of limits s h kind).held.bound.numbered.numbers

    -- one loses what it is bound to
    pub same_in-unlinked : (kind : ObjectKind) (n : ℕ) → Some (object_as kind n) ≢ Some o → IsSameIn o s (unlinked s kind n)
    same_in-unlinked kind n apart =
        swept-stays s.processes.entries (with_kind (objects_in s) kind (left (entry_of those n)))
        (put-holds AreRising (objects_in s) kind (left (entry_of those n)) rising (still (entry_of those n)))
        (put-stays kind (left (entry_of those n)) (λ m is e at. sym (elsewhere m (other kind n m apart is) (entry_of those n)) ∙ at)) o.kind o.number refl
      where
        those : Those kind
        those = objects_of s kind

        left : Option (EntryOf kind) → Those kind
        left r = without_bound (parted kind) (no_bound kind) those n r

        elsewhere : (m : ℕ) → m ≢ n → (r : Option (EntryOf kind)) → entry_of (left r) m ≡ entry_of those m
        elsewhere m other None = refl
        elsewhere m other (Some e) = other-with those.entries n m (rebound (parted kind) e (no_bound kind)) other

        still : (r : Option (EntryOf kind)) → AreRising kind (left r)
        still None may = rising kind may
        still (Some e) may =
            subst (λ (ks : List ℕ). IsRising 1 ks those.next) (sym (keys_of-with_value nat_eq those.entries n (rebound (parted kind) e (no_bound kind))))
            (rising kind may)

    -- sets and segments are others, registrations go, and objects that are not open
    left-stays : (left : List (ℕ × Process)) (sets : Keyed Set) (segments : Keyed SysSegment) (goes : Registration → Bool) → Stays s o kinds.Semset sets
        → AreDetached limits s.processes.entries s.shm segments → Stays s o kinds.Shm segments
        → ((m : ℕ) → o ≡ opened_as names.Mq m → (d : NamedEntry Mq) → entry_of s.mq m ≡ Some d → deregistered goes d ≡ d) → (kind : ObjectKind)
        → Stays s o kind (of_kind (each_open (λ k. still_open k left) (with_kind (with_kind (with_kind (objects_in s) kinds.Semset sets) kinds.Shm segments)
        (kinds.Named names.Mq) (without_registrations goes s.mq))) kind)
    left-stays left sets segments goes same detached alike stay =
        let mqs : Named Mq = without_registrations goes s.mq in
        let those : Objects = with_kind (objects_in s) kinds.Semset sets in
        let os : Objects = with_kind those kinds.Shm segments in
        swept-stays left (with_kind os (kinds.Named names.Mq) mqs)
        (put-holds AreRising os (kinds.Named names.Mq) mqs
        (put-holds AreRising those kinds.Shm segments (put-holds AreRising (objects_in s) kinds.Semset sets rising (λ may. cc))
        (λ may. subst (λ (n : ℕ). IsRising 1 (keys_of segments.entries) n) (sym detached.next)
        (subst (λ (ks : List ℕ). IsRising 1 ks s.shm.next) (sym detached.keys) (rising kinds.Shm may))))
        (λ may. subst (λ (ks : List ℕ). IsRising 1 ks s.mq.next) (sym (seen-keys (deregistered goes) s.mq.entries)) (rising (kinds.Named names.Mq) may)))
        (put-holds (Stays s o) os (kinds.Named names.Mq) mqs (put-holds (Stays s o) those kinds.Shm segments (put-stays kinds.Semset sets same) alike)
        (λ m is e at. by_entry m is e (entry_of s.mq m) refl (sym (at-map (deregistered goes) s.mq.entries m) ∙ at)))
      where
        by_entry : (m : ℕ) → o ≡ opened_as names.Mq m → (e : NamedEntry Mq) (r : Option (NamedEntry Mq)) → entry_of s.mq m ≡ r
            → option_map (deregistered goes) r ≡ Some e → entry_of s.mq m ≡ Some e
        by_entry m is e None found at = cc
        by_entry m is e (Some d) found at = found ∙ (ap (λ (f : NamedEntry Mq). Some f) (sym (stay m is d found)) ∙ at)

    -- a descriptor is closed, and its segment detached
    closed-apart : (pid fd : ℕ) → closed_on s pid fd ≢ Some o
        → Stays s o kinds.Shm (detached_by s.clock pid s.shm (descriptor_at s.processes.entries pid fd))
    closed-apart pid fd apart n is e at = by_value (descriptor_at s.processes.entries pid fd) refl at
      where
        changes : (d : Descriptor) → descriptor_at s.processes.entries pid fd ≡ Some d → is_segment d.on.kind ≡ true → closed_on s pid fd ≡ Some d.on
        changes d found segment =
            ap (λ (v : Option Descriptor). option_and_then (parted_from s pid fd) (on_of v)) found
            ∙ ap (λ (b : Bool). if b || is_queue d.on.kind && is_made_by (Some pid) (Some fd) (registration_of s d.on.number) then Some d.on else None) segment

        by_value : (v : Option Descriptor) → descriptor_at s.processes.entries pid fd ≡ v → entry_of (detached_by s.clock pid s.shm v) n ≡ Some e
            → entry_of s.shm n ≡ Some e
        by_value None found at = at
        by_value (Some d) found at = by_test (is_on (object_as kinds.Shm n) d.on) refl
          where
            by_test : (b : Bool) → is_on (object_as kinds.Shm n) d.on ≡ b → entry_of s.shm n ≡ Some e
            by_test true on =
                let both = both_true (same_kind d.on.kind kinds.Shm) (nat_eq d.on.number n) on in
                let one : d.on ≡ object_as kinds.Shm n = on-segment d.on n both.0 (grind (arith, nat_tests, both.1)) in
                absurd (apart (changes d found both.0 ∙ (ap (λ (this : Object). Some this) (one ∙ sym is))))
            by_test false other = sym (on-apart s.clock n pid s.shm d.on other) ∙ at

    pub same_in-closed : (pid fd : ℕ) → closed_on s pid fd ≢ Some o → IsSameIn o s (closed s pid fd)
    same_in-closed pid fd apart =
        left-stays (closed s pid fd).processes.entries s.semset (detached_by s.clock pid s.shm (descriptor_at s.processes.entries pid fd))
        (is_by (Some pid) (Some fd)) (λ n is e at. at)
        (by-detached limits s.processes.entries s.shm s.clock pid (descriptor_at s.processes.entries pid fd)) (closed-apart pid fd apart)
        (λ m is d found. closed-stays s pid fd m d (h.named names.Mq).together.registered found
        (λ one. apart (one ∙ ap (λ (this : Object). Some this) (sym is)))) o.kind o.number refl

    -- ---- a process leaves, or all

    -- what is so of the object alone
    at-object : (this : Object) (b : Bool) → o ≡ this → (is_on this o && b) ≡ false → b ≡ false
    at-object this b is none =
        sym (ap (λ (c : Bool). c && b) (subst (λ (k : Object). is_on this k ≡ true) (sym is) (is_on-same this))) ∙ none

    module _ (pid : Option ℕ) (none : changes_by_exit pid s o ≡ false) where
      unchanged : (list_any (λ (e : ℕ × KeyedEntry Set). is_on (object_as kinds.Semset e.0) o && is_adjusted pid s.undo e.0) s.semset.entries ≡ false)
          × ((list_any (λ (e : ℕ × KeyedEntry SysSegment).
          is_on (object_as kinds.Shm e.0) o && is_opened_by pid s.processes.entries (object_as kinds.Shm e.0)) s.shm.entries ≡ false)
          × (list_any (λ (e : ℕ × NamedEntry Mq). is_on (opened_as names.Mq e.0) o && is_made_by pid None e.1.object.registration) s.mq.entries ≡ false))
      unchanged = let both = neither _ _ none in let keyed = neither _ _ both.0 in (keyed.0, (keyed.1, both.1))

      -- a set that is there has no adjustment of it
      pub unadjusted : (n : ℕ) → o ≡ object_as kinds.Semset n → (e : KeyedEntry Set) → entry_of s.semset n ≡ Some e → is_adjusted pid s.undo n ≡ false
      unadjusted n is e found =
          at-object (object_as kinds.Semset n) (is_adjusted pid s.undo n) is
          (any-at (λ (e : ℕ × KeyedEntry Set). is_on (object_as kinds.Semset e.0) o && is_adjusted pid s.undo e.0) s.semset.entries n e found unchanged.0)

      -- a segment is not attached by it
      unattached : (n : ℕ) → o ≡ object_as kinds.Shm n → (e : KeyedEntry SysSegment) → entry_of s.shm n ≡ Some e
          → is_opened_by pid s.processes.entries (object_as kinds.Shm n) ≡ false
      unattached n is e found =
          at-object (object_as kinds.Shm n) (is_opened_by pid s.processes.entries (object_as kinds.Shm n)) is
          (any-at (λ (e : ℕ × KeyedEntry SysSegment).
          is_on (object_as kinds.Shm e.0) o && is_opened_by pid s.processes.entries (object_as kinds.Shm e.0)) s.shm.entries n e found unchanged.1.0)

      -- and a queue no registration
      pub unregistered : (m : ℕ) → o ≡ opened_as names.Mq m → (d : NamedEntry Mq) → entry_of s.mq m ≡ Some d → deregistered (is_by pid None) d ≡ d
      unregistered m is d found =
          ap (λ (r : Option Registration). let e : NamedEntry Mq = record d { object = record d.object { registration = r } } in e)
          (unmade-stays pid None d.object.registration (at-object (opened_as names.Mq m) (is_made_by pid None d.object.registration) is
          (any-at (λ (e : ℕ × NamedEntry Mq).
          is_on (opened_as names.Mq e.0) o && is_made_by pid None e.1.object.registration) s.mq.entries m d found unchanged.1.1)))

      sets-stay : (sets : Keyed Set) → ((n : ℕ) → is_adjusted pid s.undo n ≡ false → entry_of sets n ≡ entry_of s.semset n)
          → ((n : ℕ) → entry_of s.semset n ≡ None → entry_of sets n ≡ None) → Stays s o kinds.Semset sets
      sets-stay sets apart gone n is e at = by_entry (entry_of s.semset n) refl
        where
          by_entry : (r : Option (KeyedEntry Set)) → entry_of s.semset n ≡ r → entry_of s.semset n ≡ Some e
          by_entry None found = let no = gone n found in cc
          by_entry (Some d) found = sym (apart n (unadjusted n is d found)) ∙ at

      segments-stay : (segments : Keyed SysSegment) → AreDetached limits s.processes.entries s.shm segments
          → ((n : ℕ) → is_opened_by pid s.processes.entries (object_as kinds.Shm n) ≡ false → entry_of segments n ≡ entry_of s.shm n)
          → Stays s o kinds.Shm segments
      segments-stay segments detached apart n is e at = by_entry (entry_of s.shm n) refl
        where
          by_entry : (r : Option (KeyedEntry SysSegment)) → entry_of s.shm n ≡ r → entry_of s.shm n ≡ Some e
          by_entry None found = let no = sym (ap is_some at) ∙ (detached.there n ∙ ap is_some found) in cc
          by_entry (Some d) found = sym (apart n (unattached n is d found)) ∙ at

      exit-stays : (left : List (ℕ × Process)) (sets : Keyed Set) (segments : Keyed SysSegment)
          → ((n : ℕ) → is_adjusted pid s.undo n ≡ false → entry_of sets n ≡ entry_of s.semset n)
          → ((n : ℕ) → entry_of s.semset n ≡ None → entry_of sets n ≡ None) → AreDetached limits s.processes.entries s.shm segments
          → ((n : ℕ) → is_opened_by pid s.processes.entries (object_as kinds.Shm n) ≡ false → entry_of segments n ≡ entry_of s.shm n) → (kind : ObjectKind)
          → Stays s o kind (of_kind (each_open (λ k. still_open k left) (with_kind (with_kind (with_kind (objects_in s) kinds.Semset sets) kinds.Shm segments)
          (kinds.Named names.Mq) (without_registrations (is_by pid None) s.mq))) kind)
      exit-stays left sets segments apart gone detached alike =
          left-stays left sets segments (is_by pid None) (sets-stay sets apart gone) detached (segments-stay segments detached alike) unregistered

    -- what is not there does not come
    still-gone : (n q : ℕ) (sets : Keyed Set) (a : Key × ℤ) → entry_of sets n ≡ None → entry_of (adjusted q sets a) n ≡ None
    still-gone n q sets a none =
        adjusted-by (λ (os : Keyed Set). entry_of os n ≡ None) q sets a
        (λ e is. other-with sets.entries a.0.0 n _ (λ same. let both = ap (entry_of sets) same in cc) ∙ none) none

    pub same_in-exit : (pid : ℕ) → changes_by_exit (Some pid) s o ≡ false → IsSameIn o s (exit s pid)
    same_in-exit pid none =
        exit-stays (Some pid) none (exit s pid).processes.entries (undone s.semset (pid, undo_of s pid))
        (detached_all s.clock pid s.shm (descriptors_of s.processes.entries pid))
        (λ n is. undone-apart s.semset (pid, undo_of s pid) n (own-unadjusted s.undo pid n is))
        (λ n gone. undone-keeps (λ (os : Keyed Set). entry_of os n ≡ None) (λ q os a. still-gone n q os a) s.semset (pid, undo_of s pid) gone)
        (all-detached limits s.processes.entries s.shm s.clock pid (descriptors_of s.processes.entries pid))
        (λ n is. all-apart s.clock n pid s.shm (descriptors_of s.processes.entries pid) (own-unopened s.processes.entries pid (object_as kinds.Shm n) is))
        o.kind o.number refl

    pub same_in-restart : changes_by_exit None s o ≡ false → IsSameIn o s (restart limits s)
    same_in-restart none =
        exit-stays None none [] (fold undone s.semset s.undo) (detached_each s.clock s.shm s.processes.entries) (λ n is. all-undone-apart s.semset s.undo n is)
        (λ n gone. all-undone-keeps (λ (os : Keyed Set). entry_of os n ≡ None) (λ q os a. still-gone n q os a) s.semset s.undo gone)
        (each-detached limits s.processes.entries s.shm s.clock s.processes.entries) (λ n is. each-apart s.clock n s.shm s.processes.entries is)
        o.kind o.number refl
