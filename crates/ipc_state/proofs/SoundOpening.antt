-- POSIX queues, and the descriptors that are open on them, stay sound as queues come and change and lose their names, and
-- as descriptors are opened, changed and closed.
use Rattle.std.proofs.Common.{◌≡◌, ◌≢◌, ℕ, ◌<◌, pos, Bool, true, false, cond, List, [], ◌∷◌, length, Option, Some, None, inl, refl, sym, ap, subst, ◌∙◌, arith}
use Rattle.std.specs.Prelude.{⊤, ◌+◌, ◌-◌, ◌≤◌, All, is_some, not, ◌||◌, ◌&&◌, nat_eq, nat_lt, option_map, sum_by, unwrap_or, if◌then◌else◌}
use Rattle.std.specs.List.{list_any}
use Rattle.std.specs.Ordering.{int_eq}
use Rattle.std.specs.Result.{is_ok}
use Rattle.std.proofs.lemmas.Bool.Decides.{nat_tests}
use Rattle.std.proofs.lemmas.List.Sums.{sum_by-append, sum_by-cons}
use Rattle.std.proofs.lemmas.List.Elements.{All-nil, All-cons, All-head, All-tail, All-push}
use Rattle.ipc_base.specs.declared.identity.Cred.{Cred}
use Rattle.ipc_limits.specs.declared.limits.Limits.{Limits}
use Rattle.ipc_limits.specs.Limits.{exceeds, queue_bytes_limit}
use Rattle.ipc_limits.proofs.CallerLemmas.{exceeds-less}
use Rattle.ipc_base.specs.Table.{keys_of, value_at, with_value, with_entry as with_row, without}
use Rattle.ipc_base.proofs.CallerLemmas.{All-value_at, All-with_value, at-with, entry-other, is_some-append, is_some-with_value, keys_of-with_value}
use Rattle.ipc_base.proofs.CallerLemmas.{other-with, rising-entry, rising-without, value_at-without}
use Rattle.std.proofs.lemmas.Nat.{and_le_r}
use Rattle.ipc_perm.specs.declared.perm.Perm.{Perm}
use Rattle.ipc_perm.specs.Perm.{perm_of}
use Rattle.ipc_keys.specs.Names.{check_name, is_none}
use Rattle.ipc_keys.specs.declared.check.NameKind.TheVariants as names
use Rattle.posix_mq.specs.Queue.{Queue as Mq}
use Rattle.posix_mq.specs.declared.queue.Registration.{Registration}
use Rattle.shm_segment.specs.Segment.{Segment}
use Rattle.shm_segment.specs.SysSegment.{SysSegment, marked}
use Rattle.sysv_sem.specs.Set.{Set}
use Rattle.ipc_state.specs.declared.descriptors.Descriptor.{Descriptor}
use Rattle.ipc_state.specs.declared.objects.Entry.{Entry}
use Rattle.ipc_state.specs.declared.parked.Object.{Object}
use Rattle.ipc_state.specs.declared.parked.ObjectKind.{ObjectKind}
use Rattle.ipc_state.specs.declared.parked.ObjectKind.TheVariants as kinds
use Rattle.ipc_state.specs.Keyed.{KeyedEntry}
use Rattle.ipc_state.specs.Named.{NamedEntry, is_own}
use Rattle.ipc_state.specs.declared.processes.Process.{Process}
use Rattle.ipc_state.specs.Descriptors.{Table, lowest_unused, opened, with_flags}
use Rattle.ipc_state.specs.Bound.{ObjectsOf, holding, number_of, permitting, rebound, unbound, without_bound}
use Rattle.ipc_state.specs.Kinds.{BoundOf, Content, EntryOf, Objects, Those, each_open, has_access, is_bound_so, keeps, may_open, no_bound, of_kind, parted}
use Rattle.ipc_state.specs.Kinds.{same_bound, with_kind}
use Rattle.ipc_state.specs.Numbered.{Numbered, entry_of, is_full, with_entry, with_new, without_entry, AreNumbered}
use Rattle.ipc_state.specs.Opening.{descriptors_of, descriptor_at, is_by, is_by_descriptor}
use Rattle.ipc_state.specs.Opening.{is_on, is_open, is_sound_descriptor, is_there_for, object_as, opened_as, stays, still_open, unless_so}
use Rattle.ipc_state.specs.Opening.{deregistered, with_table}
use Rattle.ipc_state.specs.State.{bytes_of_mq, mq_bytes}
use Rattle.ipc_state.specs.Sound.{AreSound, AreSoundDescriptors, AreSoundTogether, IsSoundContent, most_of, segment_bytes, semaphore_count, shm_bytes}
use Rattle.ipc_state.proofs.Binding.{entry-mode, entry-sound, unbound-bound, with_entry-bound, with_new-bound, without_entry-bound}
use Rattle.ipc_state.proofs.Numbering.{sum-with, with_entry-numbered}
use Rattle.ipc_state.proofs.EntryKeys.{all_without}
use Rattle.ipc_state.proofs.Opening.{few, unused}
use Rattle.ipc_state.proofs.SoundMqs.{AreAllHeld, Has, HasThose, IsRegistered, MayGo, all-left, both_true, bounds_of, each-there, either, first}
use Rattle.ipc_state.proofs.SoundMqs.{left_by, may-go, or-second, put-holds, sound-by, swept-held, told}

or-first : (a a' b : Bool) → (a ≡ true → a' ≡ true) → (a || b) ≡ true → (a' || b) ≡ true
or-first true a' b step h = first a' b (step refl)
or-first false a' b step h = either a' b h

-- what holds of each entry holds with another in the place of one
All-put : {X : Type 0} (P : ℕ × X → Type 0) (es : List (ℕ × X)) (n : ℕ) (x : X) → All P es → P (n, x) → All P (with_value nat_eq es n x)
All-put P [] n x all new = all
All-put {X} P (e ∷ es) n x all new = by_test (nat_eq e.0 n) refl (All-put P es n x (All-tail P e es all) new)
  where
    by_test : (b : Bool) → nat_eq e.0 n ≡ b → All P (with_value nat_eq es n x) → All P (cond b ((e.0, x) ∷ es) (e ∷ with_value nat_eq es n x))
    by_test true is rest =
        let same : e.0 ≡ n = grind (arith, nat_tests) in
        All-cons P (e.0, x) es (subst (λ (k : ℕ). P (k, x)) (sym same) new) (All-tail P e es all)
    by_test false is rest = All-cons P e _ (All-head P e es all) rest

-- what holds of each holds of one that is found
pub All-found : {X : Type 0} (P : ℕ × X → Type 0) (es : List (ℕ × X)) (n : ℕ) (x : X) → All P es → value_at nat_eq es n ≡ Some x → P (n, x)
All-found P [] n x all is = cc
All-found {X} P (e ∷ es) n x all is = by_test (nat_eq e.0 n) refl is (All-found P es n x (All-tail P e es all))
  where
    by_test : (b : Bool) → nat_eq e.0 n ≡ b → cond b (Some e.1) (value_at nat_eq es n) ≡ Some x → (value_at nat_eq es n ≡ Some x → P (n, x)) → P (n, x)
    by_test true same is rest =
        let number : e.0 ≡ n = grind (arith, nat_tests) in
        let value : e.1 ≡ x = cc in
        subst (λ (k : ℕ). P (k, x)) number (subst (λ (v : X). P (e.0, v)) value (All-head P e es all))
    by_test false other is rest = rest is

-- and with one more at its place
All-row : {X : Type 0} (P : ℕ × X → Type 0) (es : List (ℕ × X)) (n : ℕ) (x : X) → All P es → P (n, x) → All P (with_row es n x)
All-row P [] n x all new = All-cons P (n, x) [] new (All-nil P)
All-row {X} P (e ∷ es) n x all new = by_test (nat_lt n e.0) (All-row P es n x (All-tail P e es all) new)
  where
    by_test : (b : Bool) → All P (with_row es n x) → All P (cond b ((n, x) ∷ e ∷ es) (e ∷ with_row es n x))
    by_test true rest = All-cons P (n, x) (e ∷ es) new all
    by_test false rest = All-cons P e _ (All-head P e es all) rest

-- ---- objects that change

-- who makes an object owns it
own-new : (cred : Cred) (mode : ℕ) → is_own (perm_of cred mode) ≡ true
own-new cred mode = let same : (n : ℕ) → nat_eq n n ≡ true = (λ n. grind (arith, nat_tests)) in rw (same cred.uid) (same cred.gid)

-- the mode of a new object has nine bits
pub perm_of-mode : (cred : Cred) (flags : ℕ) → (perm_of cred flags).mode < 512
perm_of-mode cred flags = omega (arith, and_le_r flags 511)

-- a new object of a kind may be bound so
abbrev pub MayBind : (kind : ObjectKind) → BoundOf kind → Content kind → Type 0
MayBind kinds.MsgQueue key q = ⊤
MayBind kinds.Semset key s = ⊤
MayBind kinds.Shm key x = x.is_marked ≡ false
MayBind (kinds.Named kind) name x = is_ok (check_name kind name) ≡ true

pub bound-new : (kind : ObjectKind) (b : BoundOf kind) (cred : Cred) (mode : ℕ) (x : Content kind) → MayBind kind b x
    → is_bound_so kind b (perm_of cred mode) x ≡ true
bound-new kinds.MsgQueue b cred mode x may = refl
bound-new kinds.Semset b cred mode x may = refl
bound-new kinds.Shm b cred mode x may = first _ _ (ap not may)
bound-new (kinds.Named kind) b cred mode x may = rw (either (is_none b) _ may) (own-new cred mode)

-- what is bound to none any more is bound so too
bound-none : (kind : ObjectKind) (b : BoundOf kind) (perm : Perm) (x : Content kind) → is_bound_so kind b perm x ≡ true
    → is_bound_so kind (no_bound kind) perm (parted kind x) ≡ true
bound-none kinds.MsgQueue b perm x so = refl
bound-none kinds.Semset b perm x so = refl
bound-none kinds.Shm b perm x so = refl
bound-none (kinds.Named kind) b perm x so = (both_true _ _ so).1

-- what holds of what an entry becomes holds when it is bound to none
unbound-all : {B X : Type 0} (f : X → X) (none : B) (o : ObjectsOf B X) (n : ℕ) (Q : ℕ × Entry B X → Type 0)
    → ((e : ℕ × Entry B X) → Q e → Q (e.0, rebound f e.1 none)) → All Q o.entries → All Q (unbound f none o n).entries
unbound-all {B} {X} f none o n Q step all = by_entry (entry_of o n) refl
  where
    by_entry : (r : Option (Entry B X)) → entry_of o n ≡ r → All Q (without_bound f none o n r).entries
    by_entry None is = all
    by_entry (Some e) is = All-put Q o.entries n (rebound f e none) all (step (n, e) (All-found Q o.entries n e all is))

-- each number that is in use is in use after one is bound to none
unbound-there : {B X : Type 0} (f : X → X) (none : B) (o : ObjectsOf B X) (n m : ℕ) → is_some (entry_of o m) ≡ true
    → is_some (entry_of (unbound f none o n) m) ≡ true
unbound-there {B} {X} f none o n m there = by_there (entry_of o n)
  where
    by_there : (r : Option (Entry B X)) → is_some (entry_of (without_bound f none o n r) m) ≡ true
    by_there None = there
    by_there (Some e) = is_some-with_value nat_eq o.entries n m (rebound f e none) ∙ there

-- and all together have as much
unbound-sum : {B X : Type 0} (f : X → X) (none : B) (size : X → ℕ) → ((x : X) → size (f x) ≡ size x) → (o : ObjectsOf B X) (n : ℕ)
    → sum_by (λ e. size e.1.object) (unbound f none o n).entries ≡ sum_by (λ e. size e.1.object) o.entries
unbound-sum {B} {X} f none size same o n = by_entry (entry_of o n) refl
  where
    by_entry : (r : Option (Entry B X)) → entry_of o n ≡ r
        → sum_by (λ e. size e.1.object) (without_bound f none o n r).entries ≡ sum_by (λ e. size e.1.object) o.entries
    by_entry None is = refl
    by_entry (Some e) is = omega (arith, same e.object, sum-with (λ (d : Entry B X). size d.object) o.entries n e (rebound f e none) is)

-- without one they have no more
without-sum : {X : Type 0} (size : X → ℕ) (es : List (ℕ × X)) (n : ℕ) → sum_by (λ e. size e.1) (without nat_eq es n) ≤ sum_by (λ e. size e.1) es
without-sum size [] n = omega arith
without-sum {X} size (e ∷ es) n = by_test (nat_eq e.0 n) (without-sum size es n)
  where
    all : ℕ × X → ℕ
    all d = size d.1

    by_test : (b : Bool) → sum_by all (without nat_eq es n) ≤ sum_by all es → sum_by all (cond b es (e ∷ without nat_eq es n)) ≤ sum_by all (e ∷ es)
    by_test true rest = omega (arith, sum_by-cons all e es)
    by_test false rest = omega (arith, sum_by-cons all e es, sum_by-cons all e (without nat_eq es n), rest)

-- ---- objects of a kind

abbrev semaphores : Set → ℕ
semaphores x = length x.semaphores

abbrev bytes : Segment → ℕ
bytes x = length x.bytes

abbrev memory : SysSegment → ℕ
memory x = length x.memory.bytes

abbrev room : Mq → ℕ
room q = bytes_of_mq q.maxmsg q.msgsize

-- An object may stand in the place of one, and a new one may come, as far as those of the kind are sound together: sets
-- have no more semaphores, and segments and queues no more bytes, than the limits say, and whoever is registered with a queue has it open.
abbrev pub MayStandFor : Limits → List (ℕ × Process) → (kind : ObjectKind) → Those kind → ℕ → EntryOf kind → Content kind → Type 0
MayStandFor limits ps kinds.MsgQueue o n e q = ⊤
MayStandFor limits ps kinds.Semset o n e x = length x.semaphores ≡ length e.object.semaphores
MayStandFor limits ps kinds.Shm o n e x = (memory x ≡ memory e.object) × (x.is_marked ≡ e.object.is_marked)
MayStandFor limits ps (kinds.Named names.Mq) o n e q = (is_by_descriptor ps n q.registration ≡ true) × (room q ≡ room e.object)
MayStandFor limits ps (kinds.Named names.Psem) o n e value = ⊤
MayStandFor limits ps (kinds.Named names.Pshm) o n e x = segment_bytes o - length e.object.bytes + length x.bytes ≤ limits.segment_bytes

abbrev pub MayJoin : Limits → (kind : ObjectKind) → Those kind → Content kind → Type 0
MayJoin limits kinds.MsgQueue o q = ⊤
MayJoin limits kinds.Semset o x = semaphore_count o + length x.semaphores ≤ limits.semmns
MayJoin limits kinds.Shm o x = shm_bytes o + memory x ≤ limits.shmall
MayJoin limits (kinds.Named names.Mq) o q = (q.registration ≡ None) × (exceeds (mq_bytes o + room q) (queue_bytes_limit limits) ≡ false)
MayJoin limits (kinds.Named names.Psem) o value = ⊤
MayJoin limits (kinds.Named names.Pshm) o x = segment_bytes o + length x.bytes ≤ limits.segment_bytes

pub keeps-new : (kind : ObjectKind) (b : BoundOf kind) (x : Content kind) → MayBind kind b x → keeps kind b x ≡ true
keeps-new kinds.MsgQueue b x may = either _ _ refl
keeps-new kinds.Semset b x may = either _ _ refl
keeps-new kinds.Shm b x may = either _ _ (ap not may)
keeps-new (kinds.Named names.Mq) [] x may = cc
keeps-new (kinds.Named names.Psem) [] x may = cc
keeps-new (kinds.Named names.Pshm) [] x may = cc
keeps-new (kinds.Named kind) (c ∷ name) x may = refl

-- what an object becomes is sound
parted-sound : (limits : Limits) (kind : ObjectKind) (x : Content kind) → IsSoundContent limits kind x → IsSoundContent limits kind (parted kind x)
parted-sound limits kinds.MsgQueue x h = h
parted-sound limits kinds.Semset x h = h
parted-sound limits kinds.Shm x h = h
parted-sound limits (kinds.Named kind) x h = h

module _ (limits : Limits) (ps : List (ℕ × Process)) where
  keeps-put : (kind : ObjectKind) (o : Those kind) (n : ℕ) (e : EntryOf kind) (x : Content kind) → MayStandFor limits ps kind o n e x
      → keeps kind e.bound e.object ≡ true → keeps kind e.bound x ≡ true
  keeps-put kinds.MsgQueue o n e x may h = h
  keeps-put kinds.Semset o n e x may h = h
  keeps-put kinds.Shm o n e x may h = subst (λ (m : Bool). (not (int_eq e.bound (pos 0)) || not m) ≡ true) (sym may.1) h
  keeps-put (kinds.Named kind) o n e x may h = h

  bound-put : (kind : ObjectKind) (o : Those kind) (n : ℕ) (e : EntryOf kind) (x : Content kind) → MayStandFor limits ps kind o n e x
      → is_bound_so kind e.bound e.perm e.object ≡ true → is_bound_so kind e.bound e.perm x ≡ true
  bound-put kinds.MsgQueue o n e x may h = h
  bound-put kinds.Semset o n e x may h = h
  bound-put kinds.Shm o n e x may h = subst (λ (m : Bool). (not m || int_eq e.bound (pos 0)) ≡ true) (sym may.1) h
  bound-put (kinds.Named kind) o n e x may h = h

  together-put : (kind : ObjectKind) (o : Those kind) (n : ℕ) (e f : EntryOf kind) → entry_of o n ≡ Some e
      → MayStandFor limits ps kind o n e f.object → AreSoundTogether limits ps kind o → AreSoundTogether limits ps kind (with_entry o n f)
  together-put kinds.MsgQueue o n e f is may h = tt
  together-put kinds.Semset o n e f is may h = omega (arith, sum-with (λ (d : KeyedEntry Set). semaphores d.object) o.entries n e f is, may, h)
  together-put kinds.Shm o n e f is may h = omega (arith, sum-with (λ (d : KeyedEntry SysSegment). memory d.object) o.entries n e f is, may.0, h)
  together-put (kinds.Named names.Mq) o n e f is may h =
      record {
        registered = All-put (IsRegistered ps) o.entries n f h.registered may.0;
        bytes = exceeds-less (mq_bytes (with_entry o n f)) (mq_bytes o) (queue_bytes_limit limits)
            (omega (arith, sum-with (λ (d : NamedEntry Mq). room d.object) o.entries n e f is, may.1)) h.bytes;
      }
  together-put (kinds.Named names.Psem) o n e f is may h = tt
  together-put (kinds.Named names.Pshm) o n e f is may h = omega (arith, sum-with (λ (d : NamedEntry Segment). bytes d.object) o.entries n e f is, may)

  together-new : (kind : ObjectKind) (o : Those kind) (e : EntryOf kind) → MayJoin limits kind o e.object
      → AreSoundTogether limits ps kind o → AreSoundTogether limits ps kind (with_new o e)
  together-new kinds.MsgQueue o e may h = tt
  together-new kinds.Semset o e may h =
      omega (arith, sum_by-append (λ (d : ℕ × KeyedEntry Set). semaphores d.1.object) o.entries ((o.next, e) ∷ []), may)
  together-new kinds.Shm o e may h =
      omega (arith, sum_by-append (λ (d : ℕ × KeyedEntry SysSegment). memory d.1.object) o.entries ((o.next, e) ∷ []), may)
  together-new (kinds.Named names.Mq) o e may h =
      record {
        registered = All-push (IsRegistered ps) o.entries (o.next, e) h.registered (ap (λ (r : Option Registration). is_by_descriptor ps o.next r) may.0);
        bytes = exceeds-less (mq_bytes (with_new o e)) (mq_bytes o + room e.object) (queue_bytes_limit limits)
            (omega (arith, sum_by-append (λ (d : ℕ × NamedEntry Mq). room d.1.object) o.entries ((o.next, e) ∷ []))) may.1;
      }
  together-new (kinds.Named names.Psem) o e may h = tt
  together-new (kinds.Named names.Pshm) o e may h =
      omega (arith, sum_by-append (λ (d : ℕ × NamedEntry Segment). bytes d.1.object) o.entries ((o.next, e) ∷ []), may)

  together-unbound : (kind : ObjectKind) (o : Those kind) (n : ℕ) → AreSoundTogether limits ps kind o
      → AreSoundTogether limits ps kind (unbound (parted kind) (no_bound kind) o n)
  together-unbound kinds.MsgQueue o n h = tt
  together-unbound kinds.Semset o n h = omega (arith, unbound-sum (λ x. x) (pos 0) semaphores (λ x. refl) o n, h)
  together-unbound kinds.Shm o n h = omega (arith, unbound-sum marked (pos 0) memory (λ x. refl) o n, h)
  together-unbound (kinds.Named names.Mq) o n h =
      record {
        registered = unbound-all (λ x. x) [] o n (IsRegistered ps) (λ e r. r) h.registered;
        bytes = exceeds-less (mq_bytes (unbound (λ x. x) [] o n)) (mq_bytes o) (queue_bytes_limit limits)
            (omega (arith, unbound-sum (λ x. x) [] room (λ x. refl) o n)) h.bytes;
      }
  together-unbound (kinds.Named names.Psem) o n h = tt
  together-unbound (kinds.Named names.Pshm) o n h = omega (arith, unbound-sum (λ x. x) [] bytes (λ x. refl) o n, h)

  together-without : (kind : ObjectKind) (o : Those kind) (n : ℕ) → AreSoundTogether limits ps kind o
      → AreSoundTogether limits ps kind (without_entry o n)
  together-without kinds.MsgQueue o n h = tt
  together-without kinds.Semset o n h = omega (arith, without-sum (λ (d : KeyedEntry Set). semaphores d.object) o.entries n, h)
  together-without kinds.Shm o n h = omega (arith, without-sum (λ (d : KeyedEntry SysSegment). memory d.object) o.entries n, h)
  together-without (kinds.Named names.Mq) o n h =
      record {
        registered = all_without (IsRegistered ps) o.entries n h.registered;
        bytes = exceeds-less (mq_bytes (without_entry o n)) (mq_bytes o) (queue_bytes_limit limits)
            (without-sum (λ (d : NamedEntry Mq). room d.object) o.entries n) h.bytes;
      }
  together-without (kinds.Named names.Psem) o n h = tt
  together-without (kinds.Named names.Pshm) o n h = omega (arith, without-sum (λ (d : NamedEntry Segment). bytes d.object) o.entries n, h)

module _ (limits : Limits) (ps : List (ℕ × Process)) (kind : ObjectKind) (o : Those kind) (h : AreSound limits ps kind o) where
  abbrev Stays : ℕ × EntryOf kind → Type 0
  Stays d = stays kind ps d ≡ true

  abbrev Formed : ℕ × EntryOf kind → Type 0
  Formed d = is_bound_so kind d.1.bound d.1.perm d.1.object ≡ true

  -- another object at a number that is there, used by others
  pub put-sound : (n : ℕ) (e : EntryOf kind) (perm : Perm) (x : Content kind) → entry_of o n ≡ Some e → perm.mode < 512
      → is_bound_so kind e.bound perm x ≡ true → IsSoundContent limits kind x → MayStandFor limits ps kind o n e x
      → AreSound limits ps kind (with_entry o n (holding (permitting e perm) x))
  put-sound n e perm x is mode so good may =
      let f : EntryOf kind = holding (permitting e perm) x in
      let Bound' : EntryOf kind → Type 0 = λ (d : EntryOf kind). is_bound_so kind d.bound d.perm d.object ≡ true in
      record {
        held = record {
          bound = with_entry-bound (bounds_of kind) (most_of limits kind) (IsSoundContent limits kind) o n e f is (inl refl) mode good h.held.bound;
          forms = All-with_value nat_eq Bound' o.entries n f h.held.forms so;
          stay = All-put Stays o.entries n f h.held.stay (or-first (keeps kind e.bound e.object) (keeps kind e.bound x) (is_open ps (object_as kind n))
              (keeps-put limits ps kind o n e x may) (All-found Stays o.entries n e h.held.stay is));
        };
        together = together-put limits ps kind o n e f is may h.together;
      }

  -- what holds of one that is there
  pub content-of : (n : ℕ) (e : EntryOf kind) → entry_of o n ≡ Some e → IsSoundContent limits kind e.object
  content-of n e is = entry-sound (bounds_of kind) (most_of limits kind) (IsSoundContent limits kind) o n e is h.held.bound

  pub mode-of : (n : ℕ) (e : EntryOf kind) → entry_of o n ≡ Some e → e.perm.mode < 512
  mode-of n e is = entry-mode (bounds_of kind) (most_of limits kind) (IsSoundContent limits kind) o n e is h.held.bound

  -- another object, used by the same
  pub hold-sound : (n : ℕ) (e : EntryOf kind) (x : Content kind) → entry_of o n ≡ Some e → IsSoundContent limits kind x
      → MayStandFor limits ps kind o n e x → AreSound limits ps kind (with_entry o n (holding e x))
  hold-sound n e x is good may =
      put-sound n e e.perm x is (mode-of n e is)
      (bound-put limits ps kind o n e x may
      (All-value_at nat_eq (λ (d : EntryOf kind). is_bound_so kind d.bound d.perm d.object ≡ true) o.entries n e h.held.forms is)) good may

  -- a new one, bound to what names nothing
  pub new-sound : (e : EntryOf kind) → number_of (same_bound kind) (no_bound kind) o e.bound ≡ None → is_full (most_of limits kind) o ≡ false
      → e.perm.mode < 512 → is_bound_so kind e.bound e.perm e.object ≡ true → keeps kind e.bound e.object ≡ true → IsSoundContent limits kind e.object
      → MayJoin limits kind o e.object → AreSound limits ps kind (with_new o e)
  new-sound e unused room mode so stays-so good may =
      record {
        held = record {
          bound = with_new-bound (bounds_of kind) (most_of limits kind) (IsSoundContent limits kind) o e unused room mode good h.held.bound;
          forms = All-push Formed o.entries (o.next, e) h.held.forms so;
          stay = All-push Stays o.entries (o.next, e) h.held.stay (first _ _ stays-so);
        };
        together = together-new limits ps kind o e may h.together;
      }

  -- one is taken out
  pub without-sound : (n : ℕ) → AreSound limits ps kind (without_entry o n)
  without-sound n =
      record {
        held = record {
          bound = without_entry-bound (bounds_of kind) (most_of limits kind) (IsSoundContent limits kind) o n h.held.bound;
          forms = all_without Formed o.entries n h.held.forms;
          stay = all_without Stays o.entries n h.held.stay;
        };
        together = together-without limits ps kind o n h.together;
      }

  -- one is bound to none any more, and may have to go
  pub unbound-may-go : (n : ℕ) → MayGo limits ps kind (unbound (parted kind) (no_bound kind) o n)
  unbound-may-go n =
      record {
        bound = unbound-bound (bounds_of kind) (most_of limits kind) (IsSoundContent limits kind) (parted kind) o n (parted-sound limits kind) h.held.bound;
        forms = unbound-all (parted kind) (no_bound kind) o n Formed (λ e. bound-none kind e.1.bound e.1.perm e.1.object) h.held.forms;
        together = together-unbound limits ps kind o n h.together;
      }

module _ (limits : Limits) (ps : Numbered Process) (o : Objects) (h : AreAllHeld limits ps o) (kind : ObjectKind) where
  abbrev those : Those kind
  those = of_kind o kind

  -- others that are sound, each number that is in use among them, if the kind may be open
  pub others-held : (m : Those kind) → HasThose o kind m → AreSound limits ps.entries kind m → AreAllHeld limits ps (with_kind o kind m)
  others-held m all good =
      record {
        processes = record {
          numbered = h.processes.numbered;
          descriptors = each-there limits o (with_kind o kind m) ps.entries
              (λ on used may. put-holds (HasThose o) o kind m (λ other may n there. there) all on.kind may on.number) h.processes.descriptors;
        };
        objects = put-holds (AreSound limits ps.entries) o kind m h.objects good;
      }

  -- another entry at a number that is there
  pub put-all : (n : ℕ) (f : EntryOf kind) → AreSound limits ps.entries kind (with_entry those n f)
      → AreAllHeld limits ps (with_kind o kind (with_entry those n f))
  put-all n f = others-held (with_entry those n f) (λ may m there. is_some-with_value nat_eq those.entries n m f ∙ there)

  -- a new one
  pub new-all : (e : EntryOf kind) → AreSound limits ps.entries kind (with_new those e) → AreAllHeld limits ps (with_kind o kind (with_new those e))
  new-all e = others-held (with_new those e) (λ may m there. is_some-append nat_eq those.entries ((those.next, e) ∷ []) m there)

  -- one of a kind that is never open is taken out
  pub without-all : (n : ℕ) → may_open kind ≡ false → AreAllHeld limits ps (with_kind o kind (without_entry those n))
  without-all n never =
      others-held (without_entry those n) (λ may m there. let both : true ≡ false = sym may ∙ never in cc)
      (without-sound limits ps.entries kind those (h.objects kind) n)

  -- one is bound to none any more, and goes if it is not open
  pub unlinked-all : (n : ℕ)
      → AreAllHeld limits ps (each_open (λ other. still_open other ps.entries) (with_kind o kind (unbound (parted kind) (no_bound kind) those n)))
  unlinked-all n =
      swept-held limits ps o (with_kind o kind (unbound (parted kind) (no_bound kind) those n)) h.processes.numbered h.processes.descriptors
      (put-holds (HasThose o) o kind (unbound (parted kind) (no_bound kind) those n) (λ other may m there. there)
      (λ may. unbound-there (parted kind) (no_bound kind) those n))
      (put-holds (MayGo limits ps.entries) o kind (unbound (parted kind) (no_bound kind) those n)
      (λ other. may-go limits other ps.entries ps.entries (of_kind o other) (h.objects other) (h.objects other).together)
      (unbound-may-go limits ps.entries kind those (h.objects kind) n))

-- ---- descriptors

-- the descriptors of a process are sound; it has none, if it is not there
pub table-sound : (limits : Limits) (o : Objects) (ps : List (ℕ × Process)) (pid : ℕ) → All (Has limits o) ps
    → AreSoundDescriptors limits o (descriptors_of ps pid)
table-sound limits o ps pid all = by_value (value_at nat_eq ps pid) refl
  where
    by_value : (r : Option Process) → value_at nat_eq ps pid ≡ r → AreSoundDescriptors limits o (unwrap_or (option_map (λ (p : Process). p.descriptors) r) [])
    by_value None is = record { numbers = omega arith; each = All-nil _ }
    by_value (Some p) is = All-value_at nat_eq (λ (q : Process). AreSoundDescriptors limits o q.descriptors) ps pid p all is

-- what a descriptor of a process is, is sound
pub descriptor-sound : (limits : Limits) (o : Objects) (ps : List (ℕ × Process)) (pid fd : ℕ) (d : Descriptor) → All (Has limits o) ps
    → descriptor_at ps pid fd ≡ Some d → is_sound_descriptor o d ≡ true
descriptor-sound limits o ps pid fd d all is =
    All-value_at nat_eq (λ (c : Descriptor). is_sound_descriptor o c ≡ true) (descriptors_of ps pid) fd d (table-sound limits o ps pid all).each is

-- whether one of these is open on the object
abbrev pub opens : Object → Table → Bool
opens this table = list_any (λ (d : ℕ × Descriptor). is_on this d.1.on) table

-- each object on which one table is open, the other is; each number that is in use there, is in use here on the same
pub record Covers (old new : Table) : Type 0 where
  pub all : (n : Object) → opens n old ≡ true → opens n new ≡ true
  pub same : (fd : ℕ) (d : Descriptor) → value_at nat_eq old fd ≡ Some d → option_map (λ (c : Descriptor). c.on) (value_at nat_eq new fd) ≡ Some d.on

-- with another table of a process
module _ (ps : Numbered Process) (pid : ℕ) (table : Table) where
  abbrev put : Option Process → Numbered Process
  put r = unwrap_or (option_map (λ (p : Process). with_entry ps pid (record p { descriptors = table })) r) ps

  pub table-keys : keys_of (with_table ps pid table).entries ≡ keys_of ps.entries
  table-keys = by_process (entry_of ps pid)
    where
      by_process : (r : Option Process) → keys_of (put r).entries ≡ keys_of ps.entries
      by_process None = refl
      by_process (Some p) = keys_of-with_value nat_eq ps.entries pid (record p { descriptors = table })

  pub table-next : (with_table ps pid table).next ≡ ps.next
  table-next = by_process (entry_of ps pid)
    where
      by_process : (r : Option Process) → (put r).next ≡ ps.next
      by_process None = refl
      by_process (Some p) = refl

  -- another process is as before
  pub table-other : (other : ℕ) → other ≢ pid → entry_of (with_table ps pid table) other ≡ entry_of ps other
  table-other other apart = by_process (entry_of ps pid)
    where
      by_process : (r : Option Process) → entry_of (put r) other ≡ entry_of ps other
      by_process None = refl
      by_process (Some p) = other-with ps.entries pid other (record p { descriptors = table }) apart

  -- this one has the table, if it is there
  pub table-own : (p : Process) → entry_of ps pid ≡ Some p → entry_of (with_table ps pid table) pid ≡ Some (record p { descriptors = table })
  table-own p is =
      ap (λ (r : Option Process). entry_of (put r) pid) is ∙ at-with ps.entries pid (record p { descriptors = table }) p is

  pub table-none : entry_of ps pid ≡ None → with_table ps pid table ≡ ps
  table-none is = ap put is

  pub table-numbered : (most : ℕ) → AreNumbered most ps → AreNumbered most (with_table ps pid table)
  table-numbered most h = by_process (entry_of ps pid)
    where
      by_process : (r : Option Process) → AreNumbered most (put r)
      by_process None = h
      by_process (Some p) = with_entry-numbered most ps pid (record p { descriptors = table }) h

  pub table-each : (limits : Limits) (o : Objects) → All (Has limits o) ps.entries → AreSoundDescriptors limits o table
      → All (Has limits o) (with_table ps pid table).entries
  table-each limits o all good = by_process (entry_of ps pid)
    where
      by_process : (r : Option Process) → All (Has limits o) (put r).entries
      by_process None = all
      by_process (Some p) =
          All-with_value nat_eq (λ (q : Process). AreSoundDescriptors limits o q.descriptors) ps.entries pid (record p { descriptors = table }) all good

  -- it covers that of a process
  module _ (covers : Covers (descriptors_of ps.entries pid) table) where
    open-table : (n : Object) → is_open ps.entries n ≡ true → is_open (with_table ps pid table).entries n ≡ true
    open-table n used = by_process (entry_of ps pid) refl
      where
        found : (es : List (ℕ × Process)) (p : Process) → value_at nat_eq es pid ≡ Some p → (opens n p.descriptors ≡ true → opens n table ≡ true)
            → is_open es n ≡ true → is_open (with_value nat_eq es pid (record p { descriptors = table })) n ≡ true
        found [] p is step used = cc
        found (e ∷ es) p is step used = by_test (nat_eq e.0 pid) is (found es p)
          where
            by_test : (b : Bool) → cond b (Some e.1) (value_at nat_eq es pid) ≡ Some p
                → (value_at nat_eq es pid ≡ Some p → (opens n p.descriptors ≡ true → opens n table ≡ true) → is_open es n ≡ true
                → is_open (with_value nat_eq es pid (record p { descriptors = table })) n ≡ true)
                → is_open (cond b ((e.0, record p { descriptors = table }) ∷ es) (e ∷ with_value nat_eq es pid (record p { descriptors = table }))) n ≡ true
            by_test true is rest =
                let one : e.1 ≡ p = cc in
                or-first (opens n e.1.descriptors) (opens n table) (is_open es n)
                (subst (λ (q : Process). opens n q.descriptors ≡ true → opens n table ≡ true) (sym one) step) used
            by_test false is rest = or-second (opens n e.1.descriptors) (is_open es n) _ (rest is step) used

        by_process : (r : Option Process) → entry_of ps pid ≡ r → is_open (put r).entries n ≡ true
        by_process None is = used
        by_process (Some p) is =
            found ps.entries p is
            (subst (λ (r : Option Process). opens n (unwrap_or (option_map (λ (q : Process). q.descriptors) r) []) ≡ true → opens n table ≡ true) is
            (covers.all n)) used

    -- a registration by a descriptor is by one that is open on the same
    registered-table : (n : ℕ) (r : Registration) → told n r (entry_of ps r.pid.0) ≡ true → told n r (entry_of (with_table ps pid table) r.pid.0) ≡ true
    registered-table n r h = by_pid (nat_eq r.pid.0 pid) refl
      where
        on_same : (v w : Option Descriptor) → ((d : Descriptor) → v ≡ Some d → option_map (λ (c : Descriptor). c.on) w ≡ Some d.on)
            → unwrap_or (option_map (λ (d : Descriptor). is_on (opened_as names.Mq n) d.on) v) false ≡ true
            → unwrap_or (option_map (λ (d : Descriptor). is_on (opened_as names.Mq n) d.on) w) false ≡ true
        on_same None w same h = cc
        on_same (Some d) None same h = let none = same d refl in cc
        on_same (Some d) (Some c) same h =
            let on : Some c.on ≡ Some d.on = same d refl in
            let one : c.on ≡ d.on = cc in
            subst (λ (k : Object). is_on (opened_as names.Mq n) k ≡ true) (sym one) h

        by_process : (q : Option Process) → entry_of ps pid ≡ q → told n r (entry_of ps pid) ≡ true → told n r (entry_of (with_table ps pid table) pid) ≡ true
        by_process None is h = subst (λ (t : Numbered Process). told n r (entry_of t pid) ≡ true) (sym (table-none is)) h
        by_process (Some p) is h =
            subst (λ (q : Option Process). told n r q ≡ true) (sym (table-own p is))
            (on_same (value_at nat_eq (descriptors_of ps.entries pid) r.descriptor) (value_at nat_eq table r.descriptor) (covers.same r.descriptor) h)

        by_pid : (b : Bool) → nat_eq r.pid.0 pid ≡ b → told n r (entry_of (with_table ps pid table) r.pid.0) ≡ true
        by_pid true is =
            let same : r.pid.0 ≡ pid = grind (arith, nat_tests) in
            subst (λ (k : ℕ). told n r (entry_of ps k) ≡ true → told n r (entry_of (with_table ps pid table) k) ≡ true) (sym same)
            (by_process (entry_of ps pid) refl) h
        by_pid false is =
            let other : r.pid.0 ≢ pid = λ same. grind (arith, nat_tests) in
            subst (λ (q : Option Process). told n r q ≡ true) (sym (table-other r.pid.0 other)) h

    pub table-held : (limits : Limits) (o : Objects) → AreSoundDescriptors limits o table → AreAllHeld limits ps o
        → AreAllHeld limits (with_table ps pid table) o
    table-held limits o good h =
        record {
          processes = record {
            numbered = table-numbered limits.processes h.processes.numbered;
            descriptors = table-each limits o h.processes.descriptors good;
          };
          objects = λ kind. sound-by limits kind ps.entries (with_table ps pid table).entries (λ n. open-table (object_as kind n)) by_entry (of_kind o kind)
              (h.objects kind);
        }
      where
        by_entry : (e : ℕ × NamedEntry Mq) → IsRegistered ps.entries e → IsRegistered (with_table ps pid table).entries e
        by_entry e h = by_registration e.1.object.registration h
          where
            by_registration : (r : Option Registration) → is_by_descriptor ps.entries e.0 r ≡ true
                → is_by_descriptor (with_table ps pid table).entries e.0 r ≡ true
            by_registration None h = refl
            by_registration (Some r) h = registered-table e.0 r h

-- ---- descriptors that are opened and changed

opens-row : (n : Object) (es : Table) (fd : ℕ) (d : Descriptor) → opens n es ≡ true → opens n (with_row es fd d) ≡ true
opens-row n [] fd d h = cc
opens-row n (e ∷ es) fd d h = by_test (nat_lt fd e.0) (opens-row n es fd d)
  where
    by_test : (b : Bool) → (opens n es ≡ true → opens n (with_row es fd d) ≡ true) → opens n (cond b ((fd, d) ∷ e ∷ es) (e ∷ with_row es fd d)) ≡ true
    by_test true rest = either (is_on n d.on) (opens n (e ∷ es)) h
    by_test false rest = or-second (is_on n e.1.on) (opens n es) (opens n (with_row es fd d)) rest h

opens-value : (n : Object) (es : Table) (fd : ℕ) (d c : Descriptor) → value_at nat_eq es fd ≡ Some d → c.on ≡ d.on → opens n es ≡ true
    → opens n (with_value nat_eq es fd c) ≡ true
opens-value n [] fd d c is same h = cc
opens-value n (e ∷ es) fd d c is same h = by_test (nat_eq e.0 fd) is (λ later. opens-value n es fd d c later same)
  where
    by_test : (b : Bool) → cond b (Some e.1) (value_at nat_eq es fd) ≡ Some d
        → (value_at nat_eq es fd ≡ Some d → opens n es ≡ true → opens n (with_value nat_eq es fd c) ≡ true)
        → opens n (cond b ((e.0, c) ∷ es) (e ∷ with_value nat_eq es fd c)) ≡ true
    by_test true is rest =
        let one : e.1 ≡ d = cc in
        let on : c.on ≡ e.1.on = same ∙ ap (λ (k : Descriptor). k.on) (sym one) in
        or-first (is_on n e.1.on) (is_on n c.on) (opens n es) (λ u. subst (λ (k : Object). is_on n k ≡ true) (sym on) u) h
    by_test false is rest = or-second (is_on n e.1.on) (opens n es) _ (rest is) h

module _ (limits : Limits) (o : Objects) (table : Table) (good : AreSoundDescriptors limits o table) where
  abbrev Right : Descriptor → Type 0
  Right d = is_sound_descriptor o d ≡ true

  -- a descriptor more, where there are fewer than the limit says
  opened-covers : (d : Descriptor) → Covers table (opened table d)
  opened-covers d =
      record {
        all = λ n. opens-row n table (lowest_unused table) d;
        same = λ fd c is. ap (option_map (λ (k : Descriptor). k.on)) (entry-other table (lowest_unused table) fd d (λ at.
            let none = sym (unused 0 table limits.descriptors good.numbers) ∙ (ap (value_at nat_eq table) (sym at) ∙ is) in cc) ∙ is);
      }

  opened-sound : (d : Descriptor) → length table < limits.descriptors → is_sound_descriptor o d ≡ true → AreSoundDescriptors limits o (opened table d)
  opened-sound d fewer right =
      let low = lowest_unused table in
      record {
        numbers = rising-entry 0 table limits.descriptors low d good.numbers (omega arith) (omega (arith, few 0 table, fewer))
            (unused 0 table limits.descriptors good.numbers);
        each = All-row (λ (e : ℕ × Descriptor). is_sound_descriptor o e.1 ≡ true) table low d good.each right;
      }

  -- other flags of one
  module _ (fd flags : ℕ) where
    abbrev flagged : Option Descriptor → Table
    flagged r = unwrap_or (option_map (λ (d : Descriptor). with_value nat_eq table fd (record d { flags = flags })) r) table

    flags-covers : Covers table (with_flags table fd flags)
    flags-covers = by_value (value_at nat_eq table fd) refl
      where
        put : (d : Descriptor) → value_at nat_eq table fd ≡ Some d → (k : ℕ) (c : Descriptor) → value_at nat_eq table k ≡ Some c → (b : Bool) → nat_eq k fd ≡ b
            → option_map (λ (e : Descriptor). e.on) (value_at nat_eq (with_value nat_eq table fd (record d { flags = flags })) k) ≡ Some c.on
        put d is k c found true at =
            let same : k ≡ fd = grind (arith, nat_tests) in
            let both : Some d ≡ Some c = sym is ∙ (ap (value_at nat_eq table) (sym same) ∙ found) in
            let one : d ≡ c = cc in
            ap (λ (n : ℕ). option_map (λ (e : Descriptor). e.on) (value_at nat_eq (with_value nat_eq table fd (record d { flags = flags })) n)) same
            ∙ (ap (option_map (λ (e : Descriptor). e.on)) (at-with table fd (record d { flags = flags }) d is) ∙ ap (λ (e : Descriptor). Some e.on) one)
        put d is k c found false at =
            let other : k ≢ fd = λ same. grind (arith, nat_tests) in
            ap (option_map (λ (e : Descriptor). e.on)) (other-with table fd k (record d { flags = flags }) other ∙ found)

        by_value : (r : Option Descriptor) → value_at nat_eq table fd ≡ r → Covers table (flagged r)
        by_value None is = record { all = λ n h. h; same = λ k c found. ap (option_map (λ (e : Descriptor). e.on)) found }
        by_value (Some d) is =
            record {
              all = λ n. opens-value n table fd d (record d { flags = flags }) is refl;
              same = λ k c found. put d is k c found (nat_eq k fd) refl;
            }

    flags-sound : ((d : Descriptor) → value_at nat_eq table fd ≡ Some d → has_access d.on.kind flags ≡ true)
        → AreSoundDescriptors limits o (with_flags table fd flags)
    flags-sound right = by_value (value_at nat_eq table fd) refl
      where
        by_value : (r : Option Descriptor) → value_at nat_eq table fd ≡ r → AreSoundDescriptors limits o (flagged r)
        by_value None is = good
        by_value (Some d) is =
            let was : Right d = All-value_at nat_eq Right table fd d good.each is in
            let there = (both_true (is_there_for o d.on) (has_access d.on.kind d.flags) was).0 in
            record {
              numbers = rw keys_of-with_value good.numbers;
              each = All-with_value nat_eq Right table fd (record d { flags = flags }) good.each (rw there (right d is));
            }

module _ (limits : Limits) (ps : Numbered Process) (pid : ℕ) (o : Objects) (h : AreAllHeld limits ps o) where
  abbrev own-table : Table
  own-table = descriptors_of ps.entries pid

  good-table : AreSoundDescriptors limits o own-table
  good-table = table-sound limits o ps.entries pid h.processes.descriptors

  -- a process opens a descriptor
  pub opened-held : (d : Descriptor) → length own-table < limits.descriptors → is_sound_descriptor o d ≡ true
      → AreAllHeld limits (with_table ps pid (opened own-table d)) o
  opened-held d fewer right =
      table-held ps pid (opened own-table d) (opened-covers limits o own-table good-table d) limits o
      (opened-sound limits o own-table good-table d fewer right) h

  -- or changes the flags of one
  pub flags-held : (fd flags : ℕ) → ((d : Descriptor) → value_at nat_eq own-table fd ≡ Some d → has_access d.on.kind flags ≡ true)
      → AreAllHeld limits (with_table ps pid (with_flags own-table fd flags)) o
  flags-held fd flags right =
      table-held ps pid (with_flags own-table fd flags) (flags-covers limits o own-table good-table fd flags) limits o
      (flags-sound limits o own-table good-table fd flags right) h

  -- or closes one
  module _ (fd : ℕ) where
    abbrev shorter : Numbered Process
    shorter = with_table ps pid (without nat_eq own-table fd)

    abbrev goes : Registration → Bool
    goes = is_by (Some pid) (Some fd)

    pub closed-held : AreAllHeld limits shorter (left_by shorter.entries goes o)
    closed-held =
        let good : AreSoundDescriptors limits o (without nat_eq own-table fd) = record {
          numbers = rising-without 0 own-table limits.descriptors fd good-table.numbers;
          each = all_without (λ (e : ℕ × Descriptor). is_sound_descriptor o e.1 ≡ true) own-table fd good-table.each;
        } in
        all-left limits ps shorter goes o h (table-numbered ps pid (without nat_eq own-table fd) limits.processes h.processes.numbered)
        (table-each ps pid (without nat_eq own-table fd) limits o h.processes.descriptors good) by_entry
      where
        -- the other descriptors are as they were
        elsewhere : (p k : ℕ) → (nat_eq pid p && nat_eq fd k) ≡ false → descriptor_at shorter.entries p k ≡ descriptor_at ps.entries p k
        elsewhere p k apart = by_pid (nat_eq p pid) refl
          where
            by_process : (r : Option Process) → entry_of ps pid ≡ r → k ≢ fd → descriptor_at shorter.entries pid k ≡ descriptor_at ps.entries pid k
            by_process None is other = ap (λ (t : Numbered Process). descriptor_at t.entries pid k) (table-none ps pid (without nat_eq own-table fd) is)
            by_process (Some q) is other =
                ap (λ (r : Option Process). value_at nat_eq (unwrap_or (option_map (λ (p : Process). p.descriptors) r) []) k)
                (table-own ps pid (without nat_eq own-table fd) q is) ∙ value_at-without own-table fd k other

            both : nat_eq pid p ≡ true → nat_eq fd k ≡ false
            both is = rw is at apart

            by_pid : (b : Bool) → nat_eq p pid ≡ b → descriptor_at shorter.entries p k ≡ descriptor_at ps.entries p k
            by_pid true is =
                let same : p ≡ pid = grind (arith, nat_tests) in
                let here : nat_eq pid p ≡ true = grind (arith, nat_tests) in
                let other = both here in
                subst (λ (n : ℕ). descriptor_at shorter.entries n k ≡ descriptor_at ps.entries n k) (sym same)
                (by_process (entry_of ps pid) refl (λ at. grind (arith, nat_tests, other, at)))
            by_pid false is =
                let other : p ≢ pid = λ same. grind (arith, nat_tests) in
                ap (λ (r : Option Process). value_at nat_eq (unwrap_or (option_map (λ (p : Process). p.descriptors) r) []) k)
                (table-other ps pid (without nat_eq own-table fd) p other)

        by_entry : (e : ℕ × NamedEntry Mq) → IsRegistered ps.entries e → IsRegistered shorter.entries (e.0, deregistered goes e.1)
        by_entry e h = by_registration e.1.object.registration h
          where
            by_registration : (r : Option Registration) → is_by_descriptor ps.entries e.0 r ≡ true
                → is_by_descriptor shorter.entries e.0 (unless_so goes r) ≡ true
            by_registration None h = refl
            by_registration (Some r) h = by_test (goes r) refl
              where
                by_test : (b : Bool) → goes r ≡ b → is_by_descriptor shorter.entries e.0 (if b then None else Some r) ≡ true
                by_test true is = refl
                by_test false is =
                    ap (λ (v : Option Descriptor). unwrap_or (option_map (λ (d : Descriptor). is_on (opened_as names.Mq e.0) d.on) v) false)
                    (elsewhere r.pid.0 r.descriptor is) ∙ h
