-- Objects with a name, and the descriptors that are open on them, stay sound as processes come and go.
use Rattle.std.proofs.Common.{◌≡◌, ◌≢◌, ℕ, ◌<◌, ◌≤◌, Bool, true, false, cond, List, [], ◌∷◌, ◌++◌, Option, Some, None, refl, sym, ap, subst, ◌∙◌, arith}
use Rattle.std.proofs.Common.{get_or, length}
use Rattle.std.specs.Prelude.{All, is_some, not, ◌||◌, ◌&&◌, nat_eq, nat_lt, nat_le, map, option_map, sum_by, unwrap_or, if◌then◌else◌}
use Rattle.std.specs.Str.{bytes_eq}
use Rattle.std.specs.Bool.{Decides}
use Rattle.std.specs.List.{filter, list_all, list_any}
use Rattle.std.proofs.lemmas.Bool.{leb-true, le-leb}
use Rattle.std.proofs.lemmas.Bool.Decides.{nat_tests, Decides-by_and, Decides-and, Decides-int_eq, Decides-ltb}
use Rattle.std.proofs.lemmas.List.Elements.{All-nil, All-cons, All-head, All-tail, All-filter, All-push, All-weaker}
use Rattle.std.proofs.lemmas.List.Filters.{sum_by-filter_both}
use Rattle.std.proofs.lemmas.List.Sums.{sum_by-cons}
use Rattle.std.proofs.lemmas.List.Folds.{list_any-append}
use Rattle.std.proofs.lemmas.Slice.Eq.{bytes_eq-Decides}
use Rattle.ipc_base.specs.declared.identity.Cred.{Cred}
use Rattle.ipc_limits.specs.declared.limits.Limits.{Limits}
use Rattle.ipc_limits.specs.Limits.{queue_bytes_limit}
use Rattle.ipc_limits.proofs.CallerLemmas.{exceeds-less}
use Rattle.ipc_base.specs.Table.{value_at, without, seen_as}
use Rattle.ipc_base.proofs.CallerLemmas.{at-map, value_at-without}
use Rattle.ipc_perm.specs.declared.perm.Perm.{Perm}
use Rattle.ipc_keys.specs.Names.{is_none}
use Rattle.ipc_keys.specs.declared.check.NameKind.{NameKind}
use Rattle.ipc_keys.specs.declared.check.NameKind.TheVariants as names
use Rattle.posix_mq.specs.Queue.{Queue as Mq, PlainMessage}
use Rattle.posix_mq.specs.declared.queue.Registration.{Registration}
use Rattle.shm_segment.specs.Segment.{Segment}
use Rattle.shm_segment.specs.SysSegment.{SysSegment}
use Rattle.sysv_sem.specs.Set.{Set}
use Rattle.ipc_state.specs.declared.descriptors.Descriptor.{Descriptor}
use Rattle.ipc_state.specs.declared.parked.Object.{Object}
use Rattle.ipc_state.specs.declared.parked.ObjectKind.{ObjectKind}
use Rattle.ipc_state.specs.declared.parked.ObjectKind.TheVariants as kinds
use Rattle.ipc_state.specs.Keyed.{KeyedEntry}
use Rattle.ipc_state.specs.Named.{NamedEntry, Named, named, is_named_so, AreNamedObjects}
use Rattle.ipc_state.specs.declared.processes.Process.{Process}
use Rattle.ipc_state.specs.Descriptors.{Table}
use Rattle.ipc_state.specs.Directory.{Agrees}
use Rattle.ipc_state.specs.declared.objects.Entry.{Entry}
use Rattle.ipc_state.specs.Bound.{AreBound, ObjectsOf, bound_row, kept_if, number_of}
use Rattle.ipc_state.specs.Kinds.{BoundOf, Content, EntryOf, Objects, Those, each_open, has_access, is_bound_so, keeps, keeps_by, leaves, may_open, no_bound}
use Rattle.ipc_state.specs.Kinds.{of_kind, same_bound, with_kind}
use Rattle.ipc_state.specs.Numbered.{AreNumbered, Numbered, none_yet, entry_of, is_full, with_new, without_entry}
use Rattle.ipc_state.specs.Opening.{is_on, is_open, object_as, opened_as, same_kind, stays, still_open}
use Rattle.ipc_state.specs.Opening.{deregistered, is_by, unless_so, without_registrations}
use Rattle.ipc_state.specs.Opening.{is_there_for, is_sound_descriptor, is_by_descriptor, is_registered}
use Rattle.ipc_state.specs.Sound.{AreSound, AreSoundDescriptors, AreSoundProcesses, AreSoundTogether, HasSoundParts, IsSoundContent, IsSoundMq}
use Rattle.ipc_state.specs.Sound.{IsSoundMqMessage, most_of}
use Rattle.ipc_state.specs.State.{State, bytes_of_mq, mq_bytes, objects_of}
use Rattle.ipc_state.specs.Tests.{is_sound_mq, is_sound_mq_message}
use Rattle.ipc_state.proofs.EntryKeys.{Bounds, all_without, by_bound, each-decides, kept-at, names-same}
use Rattle.ipc_state.proofs.Binding.{none_yet-bound, kept_if-bound}
use Rattle.ipc_state.proofs.Numbering.{none-exceeds, seen-numbered, with_new-numbered, without_entry-numbered}

-- ---- what is left of a table

-- what has a number is found as before, if the test of it stands
pub at-kept : {X : Type 0} (test : ℕ × X → Bool) (es : List (ℕ × X)) (n : ℕ) → ((x : X) → test (n, x) ≡ true)
    → value_at nat_eq (filter test es) n ≡ value_at nat_eq es n
at-kept test [] n stands = refl
at-kept {X} test (e ∷ es) n stands = by_key (nat_eq e.0 n) refl (at-kept test es n stands)
  where
    by_key : (b : Bool) → nat_eq e.0 n ≡ b → value_at nat_eq (filter test es) n ≡ value_at nat_eq es n
        → value_at nat_eq (cond (test e) (e ∷ filter test es) (filter test es)) n ≡ cond b (Some e.1) (value_at nat_eq es n)
    by_key true same later =
        let key : e.0 ≡ n = grind (arith, nat_tests) in
        rw (ap (λ (k : ℕ). test (k, e.1)) key ∙ stands e.1) (rw same refl)
    by_key false apart later = by_test (test e)
      where
        by_test : (b : Bool) → value_at nat_eq (cond b (e ∷ filter test es) (filter test es)) n ≡ value_at nat_eq es n
        by_test true = rw apart later
        by_test false = later

-- each that is left passes the test
pub All-passed : {X : Type 0} (test : X → Bool) (xs : List X) → All (λ x. test x ≡ true) (filter test xs)
All-passed test [] = All-nil _
All-passed {X} test (x ∷ xs) = by_test (test x) refl (All-passed test xs)
  where
    by_test : (b : Bool) → test x ≡ b → All (λ (y : X). test y ≡ true) (filter test xs)
        → All (λ (y : X). test y ≡ true) (cond b (x ∷ filter test xs) (filter test xs))
    by_test true stands rest = All-cons (λ (y : X). test y ≡ true) x _ stands rest
    by_test false fails rest = rest

-- what is so of each entry as it was, is so of each without its registration
pub All-seen_as : {X Y : Type 0} (P : ℕ × X → Type 0) (Q : ℕ × Y → Type 0) (f : X → Y) → ((e : ℕ × X) → P e → Q (e.0, f e.1)) → (es : List (ℕ × X)) → All P es
    → All Q (seen_as f es)
All-seen_as P Q f step [] all = All-nil Q
All-seen_as P Q f step (e ∷ es) all =
    All-cons Q (e.0, f e.1) (seen_as f es) (step e (All-head P e es all)) (All-seen_as P Q f step es (All-tail P e es all))

-- ---- what descriptors are open on

pub either : (a b : Bool) → b ≡ true → (a || b) ≡ true
either true b h = refl
either false b h = h

pub first : (a b : Bool) → a ≡ true → (a || b) ≡ true
first a b h = rw h refl

pub or-second : (a b b' : Bool) → (b ≡ true → b' ≡ true) → (a || b) ≡ true → (a || b') ≡ true
or-second true b b' step h = refl
or-second false b b' step h = step h

pub both_true : (a b : Bool) → (a && b) ≡ true → (a ≡ true) × (b ≡ true)
both_true true b h = (refl, h)
both_true false b h = cc

pub is_some-map : {X Y : Type 0} (f : X → Y) (r : Option X) → is_some (option_map f r) ≡ is_some r
is_some-map f None = refl
is_some-map f (Some x) = refl

-- what is open on an object is on it
pub is_on-same : (on : Object) → is_on on on ≡ true
is_on-same on = rw (kind-itself on.kind) (grind (arith, nat_tests))
  where
    kind-itself : (kind : ObjectKind) → same_kind kind kind ≡ true
    kind-itself kinds.MsgQueue = refl
    kind-itself kinds.Semset = refl
    kind-itself kinds.Shm = refl
    kind-itself (kinds.Named names.Mq) = refl
    kind-itself (kinds.Named names.Psem) = refl
    kind-itself (kinds.Named names.Pshm) = refl

-- what is open so, is of a kind that may be open
access-opens : (kind : ObjectKind) (flags : ℕ) → has_access kind flags ≡ true → may_open kind ≡ true
access-opens kinds.MsgQueue flags is = cc
access-opens kinds.Semset flags is = cc
access-opens kinds.Shm flags is = refl
access-opens (kinds.Named kind) flags is = refl

-- an object of a kind that may be open is there among others too
abbrev pub IsThereToo : Objects → Objects → Object → Type 0
IsThereToo old new on = may_open on.kind ≡ true → is_there_for old on ≡ true → is_there_for new on ≡ true

-- each is on which a descriptor of these processes is open
abbrev pub AllThere : Objects → Objects → List (ℕ × Process) → Type 0
AllThere old new processes = (on : Object) → is_open processes on ≡ true → IsThereToo old new on

-- its descriptors are sound
abbrev pub Has : Limits → Objects → ℕ × Process → Type 0
Has limits o p = AreSoundDescriptors limits o p.1.descriptors

module _ (limits : Limits) (old new : Objects) where
  abbrev pub Good : Objects → ℕ × Descriptor → Type 0
  Good o d = is_sound_descriptor o d.1 ≡ true

  one-there : (d : Descriptor) → ((on : Object) → is_on on d.on ≡ true → IsThereToo old new on) → is_sound_descriptor old d ≡ true
      → is_sound_descriptor new d ≡ true
  one-there d all good =
      let h = both_true (is_there_for old d.on) _ good in rw (all d.on (is_on-same d.on) (access-opens d.on.kind d.flags h.1) h.0) h.1

  table-there : (table : Table) → ((on : Object) → list_any (λ (d : ℕ × Descriptor). is_on on d.1.on) table ≡ true → IsThereToo old new on)
      → All (Good old) table → All (Good new) table
  table-there [] all each = All-nil (Good new)
  table-there (d ∷ ds) all each =
      All-cons (Good new) d ds (one-there d.1 (λ on is. all on (first _ _ is)) (All-head (Good old) d ds each))
      (table-there ds (λ on is. all on (either _ _ is)) (All-tail (Good old) d ds each))

  pub each-there : (ps : List (ℕ × Process)) → AllThere old new ps → All (Has limits old) ps → All (Has limits new) ps
  each-there [] all each = All-nil (Has limits new)
  each-there (p ∷ ps) all each =
      let h = All-head (Has limits old) p ps each in
      All-cons (Has limits new) p ps (record { numbers = h.numbers; each = table-there p.1.descriptors (λ on is. all on (first _ _ is)) h.each })
      (each-there ps (λ on is. all on (either _ _ is)) (All-tail (Has limits old) p ps each))

-- ---- kinds

-- what the objects of a kind are bound to
pub decides_of : (kind : ObjectKind) (a b : BoundOf kind) → Decides (same_bound kind a b) (a ≡ b)
decides_of kinds.MsgQueue = Decides-int_eq
decides_of kinds.Semset = Decides-int_eq
decides_of kinds.Shm = Decides-int_eq
decides_of (kinds.Named kind) = bytes_eq-Decides

abbrev pub bounds_of : (kind : ObjectKind) → Bounds (BoundOf kind)
bounds_of kind = record { same = same_bound kind; decides = decides_of kind; none = no_bound kind }

-- an object that is bound to something stays, and each of a kind that is never open
pub bound-keeps : {B : Type 0} (b : Bounds B) (k : B) (leaves : Bool) → k ≢ b.none → keeps_by b.same b.none k leaves ≡ true
bound-keeps b k leaves some = first _ _ (by_test (b.same k b.none) refl)
  where
    by_test : (t : Bool) → b.same k b.none ≡ t → not t ≡ true
    by_test true is = absurd (some ((b.decides k b.none).0 is))
    by_test false is = refl

keeps-closed : (kind : ObjectKind) (b : BoundOf kind) (x : Content kind) → may_open kind ≡ false → keeps kind b x ≡ true
keeps-closed kinds.MsgQueue b x closed = either _ _ refl
keeps-closed kinds.Semset b x closed = either _ _ refl
keeps-closed kinds.Shm b x closed = cc
keeps-closed (kinds.Named kind) b x closed = cc

bound-closed : (kind : ObjectKind) (b : BoundOf kind) (perm : Perm) (x : Content kind) → may_open kind ≡ false → is_bound_so kind b perm x ≡ true
bound-closed kinds.MsgQueue b perm x closed = refl
bound-closed kinds.Semset b perm x closed = refl
bound-closed kinds.Shm b perm x closed = cc
bound-closed (kinds.Named kind) b perm x closed = cc

-- what holds of each kind with a name
pub on-names : (P : NameKind → Type 0) → P names.Mq → P names.Psem → P names.Pshm → (kind : NameKind) → P kind
on-names P mq psem pshm names.Mq = mq
on-names P mq psem pshm names.Psem = psem
on-names P mq psem pshm names.Pshm = pshm

-- what holds of those of each kind
pub on-kinds : (P : (kind : ObjectKind) → Those kind → Type 0) (o : Objects) → P kinds.MsgQueue o.msg → P kinds.Semset o.semset → P kinds.Shm o.shm
    → P (kinds.Named names.Mq) o.named.mq → P (kinds.Named names.Psem) o.named.psem → P (kinds.Named names.Pshm) o.named.pshm
    → (kind : ObjectKind) → P kind (of_kind o kind)
on-kinds P o msg semset shm mq psem pshm kinds.MsgQueue = msg
on-kinds P o msg semset shm mq psem pshm kinds.Semset = semset
on-kinds P o msg semset shm mq psem pshm kinds.Shm = shm
on-kinds P o msg semset shm mq psem pshm (kinds.Named names.Mq) = mq
on-kinds P o msg semset shm mq psem pshm (kinds.Named names.Psem) = psem
on-kinds P o msg semset shm mq psem pshm (kinds.Named names.Pshm) = pshm

module _ (P : (kind : ObjectKind) → Those kind → Type 0) (o : Objects) where
  abbrev Each : Type 0
  Each = (kind : ObjectKind) → P kind (of_kind o kind)

  -- and holds of others of a kind
  pub put-holds : (kind : ObjectKind) (m : Those kind) → Each → P kind m → (other : ObjectKind) → P other (of_kind (with_kind o kind m) other)
  put-holds kinds.MsgQueue m all one =
      on-kinds P (with_kind o kinds.MsgQueue m) one (all kinds.Semset) (all kinds.Shm) (all (kinds.Named names.Mq)) (all (kinds.Named names.Psem))
      (all (kinds.Named names.Pshm))
  put-holds kinds.Semset m all one =
      on-kinds P (with_kind o kinds.Semset m) (all kinds.MsgQueue) one (all kinds.Shm) (all (kinds.Named names.Mq)) (all (kinds.Named names.Psem))
      (all (kinds.Named names.Pshm))
  put-holds kinds.Shm m all one =
      on-kinds P (with_kind o kinds.Shm m) (all kinds.MsgQueue) (all kinds.Semset) one (all (kinds.Named names.Mq)) (all (kinds.Named names.Psem))
      (all (kinds.Named names.Pshm))
  put-holds (kinds.Named names.Mq) m all one =
      on-kinds P (with_kind o (kinds.Named names.Mq) m) (all kinds.MsgQueue) (all kinds.Semset) (all kinds.Shm) one (all (kinds.Named names.Psem))
      (all (kinds.Named names.Pshm))
  put-holds (kinds.Named names.Psem) m all one =
      on-kinds P (with_kind o (kinds.Named names.Psem) m) (all kinds.MsgQueue) (all kinds.Semset) (all kinds.Shm) (all (kinds.Named names.Mq)) one
      (all (kinds.Named names.Pshm))
  put-holds (kinds.Named names.Pshm) m all one =
      on-kinds P (with_kind o (kinds.Named names.Pshm) m) (all kinds.MsgQueue) (all kinds.Semset) (all kinds.Shm) (all (kinds.Named names.Mq))
      (all (kinds.Named names.Psem)) one

  -- and of what is made of those of each that may be open
  pub each-holds : (f : (kind : ObjectKind) → Those kind → Those kind) → ((kind : ObjectKind) → may_open kind ≡ true → P kind (f kind (of_kind o kind)))
      → ((kind : ObjectKind) → may_open kind ≡ false → P kind (of_kind o kind)) → (kind : ObjectKind) → P kind (of_kind (each_open f o) kind)
  each-holds f may never =
      on-kinds P (each_open f o) (never kinds.MsgQueue refl) (never kinds.Semset refl) (may kinds.Shm refl) (may (kinds.Named names.Mq) refl)
      (may (kinds.Named names.Psem) refl) (may (kinds.Named names.Pshm) refl)

-- what is left of some has together no more than all of them
pub fewer-sum : {X : Type 0} (size : X → ℕ) (test : ℕ × X → Bool) (es : List (ℕ × X)) → sum_by (λ e. size e.1) (filter test es) ≤ sum_by (λ e. size e.1) es
fewer-sum size test es = omega (arith, sum_by-filter_both test (λ e. not (test e)) (λ e. refl) (λ e. size e.1) es)

-- ---- registrations

-- what a descriptor of a process, if it is there, says of a registration with a queue
abbrev pub told : ℕ → Registration → Option Process → Bool
told n r p =
    unwrap_or
    (option_map (λ (d : Descriptor). is_on (opened_as names.Mq n) d.on)
    (value_at nat_eq (unwrap_or (option_map (λ (q : Process). q.descriptors) p) []) r.descriptor)) false

abbrev pub IsRegistered : List (ℕ × Process) → ℕ × NamedEntry Mq → Type 0
IsRegistered ps e = is_registered ps e ≡ true

-- after an exit, those of others are by descriptors that are open still
registered-exit : (ps : List (ℕ × Process)) (pid : ℕ) (e : ℕ × NamedEntry Mq) → IsRegistered ps e
    → IsRegistered (without nat_eq ps pid) (e.0, deregistered (is_by (Some pid) None) e.1)
registered-exit ps pid e h = by_registration e.1.object.registration h
  where
    left : List (ℕ × Process)
    left = without nat_eq ps pid

    by_registration : (r : Option Registration) → is_by_descriptor ps e.0 r ≡ true → is_by_descriptor left e.0 (unless_so (is_by (Some pid) None) r) ≡ true
    by_registration None h = refl
    by_registration (Some r) h = by_test (nat_eq pid r.pid.0) refl
      where
        by_test : (b : Bool) → nat_eq pid r.pid.0 ≡ b → is_by_descriptor left e.0 (if b && true then None else Some r) ≡ true
        by_test true same = refl
        by_test false apart =
            let other : r.pid.0 ≢ pid = λ same. grind (arith, nat_tests) in
            ap (told e.0 r) (value_at-without ps pid r.pid.0 other) ∙ h

-- nobody is left registered
none-registered : (ps : List (ℕ × Process)) (n : ℕ) (r : Option Registration) → is_by_descriptor ps n (unless_so (is_by None None) r) ≡ true
none-registered ps n None = refl
none-registered ps n (Some r) = refl

-- ---- a process more

module _ (ps more : List (ℕ × Process)) where
  pub registered-more : (e : ℕ × NamedEntry Mq) → IsRegistered ps e → IsRegistered (ps ++ more) e
  registered-more e h = by_registration e.1.object.registration h
    where
      by_registration : (r : Option Registration) → is_by_descriptor ps e.0 r ≡ true → is_by_descriptor (ps ++ more) e.0 r ≡ true
      by_registration None h = refl
      by_registration (Some r) h = found ps h
        where
          found : (qs : List (ℕ × Process)) → told e.0 r (value_at nat_eq qs r.pid.0) ≡ true → told e.0 r (value_at nat_eq (qs ++ more) r.pid.0) ≡ true
          found [] is = cc
          found (q ∷ qs) is = by_test (nat_eq q.0 r.pid.0) is (found qs)
            where
              by_test : (b : Bool) → told e.0 r (cond b (Some q.1) (value_at nat_eq qs r.pid.0)) ≡ true
                  → (told e.0 r (value_at nat_eq qs r.pid.0) ≡ true → told e.0 r (value_at nat_eq (qs ++ more) r.pid.0) ≡ true)
                  → told e.0 r (cond b (Some q.1) (value_at nat_eq (qs ++ more) r.pid.0)) ≡ true
              by_test true is later = is
              by_test false is later = later is

-- ---- names

-- without its registration an entry has the same name
seen-names : (goes : Registration → Bool) (es : List (ℕ × NamedEntry Mq)) → map bound_row (seen_as (deregistered goes) es) ≡ map bound_row es
seen-names goes [] = refl
seen-names goes (e ∷ es) = ap (λ (ks : List (List ℕ × ℕ)). bound_row e ∷ ks) (seen-names goes es)

pub named-deregistered : (goes : Registration → Bool) (o : Named Mq) (name : List ℕ) → named (without_registrations goes o) name ≡ named o name
named-deregistered goes o name = ap (λ (ks : List (List ℕ × ℕ)). if is_none name then None else value_at bytes_eq ks name) (seen-names goes o.entries)

-- what is left names as before, if only those go that are bound to none
pub named-left : {B X : Type 0} (b : Bounds B) (test : ℕ × Entry B X → Bool) → ((e : ℕ × Entry B X) → e.1.bound ≢ b.none → test e ≡ true)
    → (o : ObjectsOf B X) (k : B) → number_of b.same b.none (kept_if test o) k ≡ number_of b.same b.none o k
named-left {B} {X} b test stands o k =
    names-same (by_bound {X = X} b) o.entries (filter test o.entries) k (kept-at (by_bound {X = X} b) test stands o.entries k)

-- registrations are no matter of names
pub deregistered-sound : (limits : Limits) (goes : Registration → Bool) (most : ℕ) (o : Named Mq)
    → AreNamedObjects most (IsSoundMq limits) o → AreNamedObjects most (IsSoundMq limits) (without_registrations goes o)
deregistered-sound limits goes most o h =
    record {
      numbered = seen-numbered most (deregistered goes) o h.numbered;
      bounds = subst (λ (ks : List (List ℕ × ℕ)). All (λ (k : List ℕ × ℕ). k.0 ≢ [] → value_at bytes_eq ks k.0 ≡ Some k.1) ks)
          (sym (seen-names goes o.entries)) h.bounds;
      modes = All-seen_as (λ e. e.1.perm.mode < 512) (λ e. e.1.perm.mode < 512) (deregistered goes) (λ e m. m) o.entries h.modes;
      each = All-seen_as (λ e. IsSoundMq limits e.1.object) (λ e. IsSoundMq limits e.1.object) (deregistered goes)
          (λ e g. record { maxmsg = g.maxmsg; msgsize = g.msgsize; count = g.count; messages = g.messages }) o.entries h.each;
    }

-- the directory that named them names them still
pub agrees-again : {K : Type 0} (found new old : K → Option ℕ) → ((name : K) → new name ≡ old name) → Agrees found old → Agrees found new
agrees-again found new old same agree = λ positive name. agree (λ key n is. positive key n (same key ∙ is)) name ∙ sym (same name)

-- some of a list, by what its elements are
pub filter-seen : {X Y : Type 0} (test : Y → Bool) (row : X → Y) (xs : List X) → map row (filter (λ x. test (row x)) xs) ≡ filter test (map row xs)
filter-seen test row [] = refl
filter-seen {X} {Y} test row (x ∷ xs) = by_test (test (row x)) (filter-seen test row xs)
  where
    by_test : (b : Bool) → map row (filter (λ x. test (row x)) xs) ≡ filter test (map row xs)
        → map row (cond b (x ∷ filter (λ x. test (row x)) xs) (filter (λ x. test (row x)) xs))
        ≡ cond b (row x ∷ filter test (map row xs)) (filter test (map row xs))
    by_test true rest = ap (λ (ys : List Y). row x ∷ ys) rest
    by_test false rest = rest

-- a queue without its registration counts as many bytes
deregistered-bytes : (goes : Registration → Bool) (es : List (ℕ × NamedEntry Mq))
    → sum_by (λ e. bytes_of_mq e.1.object.maxmsg e.1.object.msgsize) (seen_as (deregistered goes) es)
    ≡ sum_by (λ e. bytes_of_mq e.1.object.maxmsg e.1.object.msgsize) es
deregistered-bytes goes [] = refl
deregistered-bytes goes (e ∷ es) =
    let size : ℕ × NamedEntry Mq → ℕ = λ e. bytes_of_mq e.1.object.maxmsg e.1.object.msgsize in
    omega (
      arith,
      sum_by-cons size (e.0, deregistered goes e.1) (seen_as (deregistered goes) es),
      sum_by-cons size e es,
      deregistered-bytes goes es,
    )

-- ---- objects that stay

-- objects of a kind of which some may have to go: all holds, but that each stays
pub record MayGo (limits : Limits) (ps : List (ℕ × Process)) (kind : ObjectKind) (o : Those kind) : Type 0 where
  pub bound : AreBound (same_bound kind) (no_bound kind) (most_of limits kind) (IsSoundContent limits kind) o
  pub forms : All (λ e. is_bound_so kind e.1.bound e.1.perm e.1.object ≡ true) o.entries
  pub together : AreSoundTogether limits ps kind o

module _ (limits : Limits) (kind : ObjectKind) where
  -- what is open is left as it is
  pub kept-open : (ps : List (ℕ × Process)) (o : Those kind) (n : ℕ) → is_open ps (object_as kind n) ≡ true
      → entry_of (still_open kind ps o) n ≡ entry_of o n
  kept-open ps o n used = at-kept (stays kind ps) o.entries n (λ e. either (keeps kind e.bound e.object) _ used)

  pub may-go : (ps qs : List (ℕ × Process)) (o : Those kind) → AreSound limits ps kind o → AreSoundTogether limits qs kind o → MayGo limits qs kind o
  may-go ps qs o h together = record { bound = h.held.bound; forms = h.held.forms; together = together }

  together-left : (ps : List (ℕ × Process)) (test : ℕ × EntryOf kind → Bool) (o : Those kind) → AreSoundTogether limits ps kind o
      → AreSoundTogether limits ps kind (kept_if test o)
  together-left ps test o = by_kind kind test o
    where
      by_kind : (k : ObjectKind) (test : ℕ × EntryOf k → Bool) (o : Those k) → AreSoundTogether limits ps k o → AreSoundTogether limits ps k (kept_if test o)
      by_kind kinds.MsgQueue test o h = tt
      by_kind kinds.Semset test o h = omega (arith, fewer-sum (λ (e : KeyedEntry Set). length e.object.semaphores) test o.entries, h)
      by_kind kinds.Shm test o h = omega (arith, fewer-sum (λ (e : KeyedEntry SysSegment). length e.object.memory.bytes) test o.entries, h)
      by_kind (kinds.Named names.Mq) test o h =
          record {
            registered = All-filter test (IsRegistered ps) o.entries h.registered;
            bytes = exceeds-less (mq_bytes (kept_if test o)) (mq_bytes o) (queue_bytes_limit limits)
                (fewer-sum (λ (e : NamedEntry Mq). bytes_of_mq e.object.maxmsg e.object.msgsize) test o.entries) h.bytes;
          }
      by_kind (kinds.Named names.Psem) test o h = tt
      by_kind (kinds.Named names.Pshm) test o h = omega (arith, fewer-sum (λ (e : NamedEntry Segment). length e.object.bytes) test o.entries, h)

  -- those that stay are sound, and all of a kind that is never open
  left-sound : (ps : List (ℕ × Process)) (o : Those kind) → MayGo limits ps kind o → AreSound limits ps kind (still_open kind ps o)
  left-sound ps o h =
      record {
        held = record {
          bound = kept_if-bound (bounds_of kind) (most_of limits kind) (IsSoundContent limits kind) (stays kind ps)
              (λ e some. first _ _ (bound-keeps (bounds_of kind) e.1.bound (leaves kind e.1.object) some)) o h.bound;
          forms = All-filter (stays kind ps) (λ (e : ℕ × EntryOf kind). is_bound_so kind e.1.bound e.1.perm e.1.object ≡ true) o.entries h.forms;
          stay = All-passed (stays kind ps) o.entries;
        };
        together = together-left ps (stays kind ps) o h.together;
      }

  pub never-open-sound : (ps : List (ℕ × Process)) (o : Those kind) → may_open kind ≡ false
      → AreBound (same_bound kind) (no_bound kind) (most_of limits kind) (IsSoundContent limits kind) o → AreSoundTogether limits ps kind o
      → AreSound limits ps kind o
  never-open-sound ps o never bound together =
      record {
        held = record {
          bound = bound;
          forms = λ k d within. let e = (get_or o.entries k d).1 in bound-closed kind e.bound e.perm e.object never;
          stay = λ k d within. first _ _ (keeps-closed kind (get_or o.entries k d).1.bound (get_or o.entries k d).1.object never);
        };
        together = together;
      }

  -- so are those that there are, where what was open is, and whoever is registered has it open
  pub sound-by : (ps qs : List (ℕ × Process)) → ((n : ℕ) → is_open ps (object_as kind n) ≡ true → is_open qs (object_as kind n) ≡ true)
      → ((e : ℕ × NamedEntry Mq) → IsRegistered ps e → IsRegistered qs e) → (o : Those kind) → AreSound limits ps kind o → AreSound limits qs kind o
  sound-by ps qs still step o h =
      record {
        held = record {
          bound = h.held.bound;
          forms = h.held.forms;
          stay = All-weaker (λ (e : ℕ × EntryOf kind). stays kind ps e ≡ true) (λ (e : ℕ × EntryOf kind). stays kind qs e ≡ true)
              (λ e. or-second (keeps kind e.1.bound e.1.object) _ _ (still e.0)) o.entries h.held.stay;
        };
        together = by_kind kind o h.together;
      }
    where
      by_kind : (k : ObjectKind) (o : Those k) → AreSoundTogether limits ps k o → AreSoundTogether limits qs k o
      by_kind kinds.MsgQueue o h = h
      by_kind kinds.Semset o h = h
      by_kind kinds.Shm o h = h
      by_kind (kinds.Named names.Mq) o h =
          record { registered = All-weaker (IsRegistered ps) (IsRegistered qs) step o.entries h.registered; bytes = h.bytes }
      by_kind (kinds.Named names.Psem) o h = h
      by_kind (kinds.Named names.Pshm) o h = h

-- none of any kind
pub none-sound : (limits : Limits) (kind : ObjectKind) → AreSound limits [] kind none_yet
none-sound limits kind =
    record {
      held = record {
        bound = none_yet-bound (bounds_of kind) (most_of limits kind) (IsSoundContent limits kind);
        forms = All-nil _;
        stay = All-nil _;
      };
      together = by_kind kind;
    }
  where
    by_kind : (k : ObjectKind) → AreSoundTogether limits [] k none_yet
    by_kind kinds.MsgQueue = tt
    by_kind kinds.Semset = omega arith
    by_kind kinds.Shm = omega arith
    by_kind (kinds.Named names.Mq) = record { registered = All-nil _; bytes = none-exceeds (queue_bytes_limit limits) }
    by_kind (kinds.Named names.Psem) = tt
    by_kind (kinds.Named names.Pshm) = omega arith

-- the objects, and the descriptors that are open on them
pub record AreAllHeld (limits : Limits) (ps : Numbered Process) (o : Objects) : Type 0 where
  pub processes : AreSoundProcesses limits o ps
  pub objects : (kind : ObjectKind) → AreSound limits ps.entries kind (of_kind o kind)

-- those of a state
pub sound-of : (limits : Limits) (s : State) → HasSoundParts limits s → (kind : ObjectKind) → AreSound limits s.processes.entries kind (objects_of s kind)
sound-of limits s h kinds.MsgQueue = h.msg
sound-of limits s h kinds.Semset = h.semset
sound-of limits s h kinds.Shm = h.shm
sound-of limits s h (kinds.Named kind) = h.named kind

-- each number that is in use there is in use here, if the kind may be open
abbrev pub HasThose : Objects → (kind : ObjectKind) → Those kind → Type 0
HasThose old kind o = may_open kind ≡ true → (n : ℕ) → is_some (entry_of (of_kind old kind) n) ≡ true → is_some (entry_of o n) ≡ true

-- with the queues without these registrations
abbrev pub without_goers : (Registration → Bool) → Objects → Objects
without_goers goes o = with_kind o (kinds.Named names.Mq) (without_registrations goes o.named.mq)

-- what processes leave, with these registrations
abbrev pub left_by : List (ℕ × Process) → (Registration → Bool) → Objects → Objects
left_by left goes o = each_open (λ kind. still_open kind left) (without_goers goes o)

module _ (limits : Limits) where
  -- those go that have to
  pub swept-held : (left : Numbered Process) (old o : Objects) → AreNumbered limits.processes left → All (Has limits old) left.entries
      → ((kind : ObjectKind) → HasThose old kind (of_kind o kind)) → ((kind : ObjectKind) → MayGo limits left.entries kind (of_kind o kind))
      → AreAllHeld limits left (each_open (λ kind. still_open kind left.entries) o)
  swept-held left old o numbered each those all =
      let ps = left.entries in
      let stay : (kind : ObjectKind) → Those kind → Those kind = λ kind. still_open kind ps in
      record {
        processes = record {
          numbered = numbered;
          descriptors = each-there limits old (each_open stay o) ps
              (λ on used may there. each-holds (λ kind m. (n : ℕ) → is_open ps (object_as kind n) ≡ true → may_open kind ≡ true
              → is_some (entry_of (of_kind old kind) n) ≡ true → is_some (entry_of m n) ≡ true) o stay
              (λ kind _ n used may there. ap is_some (kept-open limits kind ps (of_kind o kind) n used) ∙ those kind may n there)
              (λ kind never n used may there. those kind may n there) on.kind on.number used may there) each;
        };
        objects = each-holds (AreSound limits ps) o stay (λ kind _. left-sound limits kind ps (of_kind o kind) (all kind))
            (λ kind never. never-open-sound limits kind ps (of_kind o kind) never (all kind).bound (all kind).together);
      }

  -- if some processes are left, with what is open
  pub all-left : (ps left : Numbered Process) (goes : Registration → Bool) (o : Objects) → AreAllHeld limits ps o → AreNumbered limits.processes left
      → All (Has limits o) left.entries
      → ((e : ℕ × NamedEntry Mq) → IsRegistered ps.entries e → IsRegistered left.entries (e.0, deregistered goes e.1))
      → AreAllHeld limits left (left_by left.entries goes o)
  all-left ps left goes o h numbered each registered =
      let mq : Named Mq = without_registrations goes o.named.mq in
      let old = h.objects (kinds.Named names.Mq) in
      let same : (kind : ObjectKind) → AreSoundTogether limits left.entries kind (of_kind o kind) → MayGo limits left.entries kind (of_kind o kind) =
      (λ kind together. may-go limits kind ps.entries left.entries (of_kind o kind) (h.objects kind) together) in
      swept-held left o (without_goers goes o) numbered each
      (put-holds (HasThose o) o (kinds.Named names.Mq) mq (λ kind may n there. there)
      (λ may n there. ap is_some (at-map (deregistered goes) o.named.mq.entries n) ∙ (is_some-map (deregistered goes) (entry_of o.named.mq n) ∙ there)))
      (on-kinds (MayGo limits left.entries) (without_goers goes o)
      (same kinds.MsgQueue tt)
      (same kinds.Semset (h.objects kinds.Semset).together)
      (same kinds.Shm (h.objects kinds.Shm).together)
      (record {
        bound = deregistered-sound limits goes limits.queues o.named.mq old.held.bound;
        forms = All-seen_as (λ (e : ℕ × NamedEntry Mq). is_named_so names.Mq e ≡ true) (λ (e : ℕ × NamedEntry Mq). is_named_so names.Mq e ≡ true)
            (deregistered goes) (λ e f. f) o.named.mq.entries old.held.forms;
        together = record {
          registered = All-seen_as (IsRegistered ps.entries) (IsRegistered left.entries) (deregistered goes) registered o.named.mq.entries
              old.together.registered;
          bytes = exceeds-less (mq_bytes mq) (mq_bytes o.named.mq) (queue_bytes_limit limits)
              (omega (arith, deregistered-bytes goes o.named.mq.entries)) old.together.bytes;
        };
      })
      (same (kinds.Named names.Psem) tt)
      (same (kinds.Named names.Pshm) (h.objects (kinds.Named names.Pshm)).together))

  -- a process leaves
  pub exit-held : (ps : Numbered Process) (pid : ℕ) (o : Objects) → AreAllHeld limits ps o
      → AreAllHeld limits (without_entry ps pid) (left_by (without nat_eq ps.entries pid) (is_by (Some pid) None) o)
  exit-held ps pid o h =
      all-left ps (without_entry ps pid) (is_by (Some pid) None) o h (without_entry-numbered limits.processes ps pid h.processes.numbered)
      (all_without (Has limits o) ps.entries pid h.processes.descriptors) (registered-exit ps.entries pid)

  -- all leave
  pub restart-held : (next : ℕ) (ps : Numbered Process) (o : Objects) → AreNumbered {X = Process} limits.processes (record { next = next; entries = [] })
      → AreAllHeld limits ps o → AreAllHeld limits (record { next = next; entries = [] }) (left_by [] (is_by None None) o)
  restart-held next ps o numbered h =
      all-left ps (record { next = next; entries = [] }) (is_by None None) o h numbered (All-nil _)
      (λ e _. none-registered [] e.0 e.1.object.registration)

  -- one comes
  pub with_process-held : (ps : Numbered Process) (cred : Cred) (o : Objects) → is_full limits.processes ps ≡ false → AreAllHeld limits ps o
      → AreAllHeld limits (with_new ps (record { cred = cred; descriptors = [] })) o
  with_process-held ps cred o room h =
      let p : Process = record { cred = cred; descriptors = [] } in
      let more : List (ℕ × Process) = (ps.next, p) ∷ [] in
      record {
        processes = record {
          numbered = with_new-numbered limits.processes ps p room h.processes.numbered;
          descriptors = All-push (Has limits o) ps.entries (ps.next, p) h.processes.descriptors (record { numbers = omega arith; each = All-nil _ });
        };
        objects = λ kind. sound-by limits kind ps.entries (ps.entries ++ more) (λ n used. list_any-append (λ (q : ℕ × Process). list_any
            (λ (d : ℕ × Descriptor). is_on (object_as kind n) d.1.on) q.1.descriptors) ps.entries more ∙ first _ _ used)
            (registered-more ps.entries more) (of_kind o kind) (h.objects kind);
      }

-- ---- how it is told

-- some of a list, by what its elements are
pub any-seen : {X Y : Type 0} (test : Y → Bool) (row : X → Y) (xs : List X) → list_any (λ x. test (row x)) xs ≡ list_any test (map row xs)
any-seen test row [] = refl
any-seen test row (x ∷ xs) = ap (λ (b : Bool). test (row x) || b) (any-seen test row xs)

module _ (limits : Limits) where
  message-decides : (msgsize : ℕ) (m : PlainMessage) → Decides (is_sound_mq_message msgsize m) (IsSoundMqMessage msgsize m)
  message-decides msgsize m =
      let both = Decides-and (nat_lt m.priority 32768) (nat_le (length m.text) msgsize) (Decides-ltb m.priority 32768) (leb-true _ _, le-leb _ _) in
      (λ yes. let h = both.0 yes in record { priority = h.0; short = h.1 }, λ h. both.1 (h.priority, h.short))

  pub mq-decides : (q : Mq) → Decides (is_sound_mq limits q) (IsSoundMq limits q)
  mq-decides q =
      let messages = Decides-by_and (is_sound_mq_message q.msgsize) (IsSoundMqMessage q.msgsize) (list_all (is_sound_mq_message q.msgsize))
      (message-decides q.msgsize) refl (λ _ _. refl) q.messages in
      let most : (n m : ℕ) → Decides (nat_le n m) (n ≤ m) = (λ n m. (leb-true n m, le-leb n m)) in
      let all = Decides-and _ _ (Decides-ltb 0 q.maxmsg) (Decides-and _ _ (most q.maxmsg limits.maxmsg) (Decides-and _ _ (Decides-ltb 0 q.msgsize)
      (Decides-and _ _ (most q.msgsize limits.msgsize) (Decides-and _ _ (most (length q.messages) q.maxmsg) messages)))) in (
        λ yes. let h = all.0 yes in record {
          maxmsg = (h.0, h.1.0);
          msgsize = (h.1.1.0, h.1.1.1.0);
          count = h.1.1.1.1.0;
          messages = h.1.1.1.1.1;
        },
        λ h. all.1 (h.maxmsg.0, (h.maxmsg.1, (h.msgsize.0, (h.msgsize.1, (h.count, h.messages))))),
      )

-- a test of each of a list
pub all-tests : {X Y : Type 0} (test : Y → Bool) (row : X → Y) (xs : List X) → Decides (list_all (λ x. test (row x)) xs) (All (λ y. test y ≡ true) (map row xs))
all-tests test row xs = each-decides test (λ y. test y ≡ true) row xs (λ y. (λ yes. yes, λ yes. yes))

-- ---- a restart twice

module _ (f : NamedEntry Mq → NamedEntry Mq) (twice : (e : NamedEntry Mq) → f (f e) ≡ f e) (test : ℕ × NamedEntry Mq → Bool)
    (same : (n : ℕ) (e : NamedEntry Mq) → test (n, f e) ≡ test (n, e)) where
  left-again : (es : List (ℕ × NamedEntry Mq)) → filter test (seen_as f (filter test (seen_as f es))) ≡ filter test (seen_as f es)
  left-again [] = refl
  left-again (e ∷ es) = by_test (test (e.0, f e.1)) refl (left-again es)
    where
      by_test : (b : Bool) → test (e.0, f e.1) ≡ b → filter test (seen_as f (filter test (seen_as f es))) ≡ filter test (seen_as f es)
          → filter test (seen_as f (cond b ((e.0, f e.1) ∷ filter test (seen_as f es)) (filter test (seen_as f es))))
          ≡ cond b ((e.0, f e.1) ∷ filter test (seen_as f es)) (filter test (seen_as f es))
      by_test true stands rest =
          let again : test (e.0, f (f e.1)) ≡ true = same e.0 (f e.1) ∙ stands in
          rw again (ap (λ (d : NamedEntry Mq). let g : ℕ × NamedEntry Mq = (e.0, d) in g ∷ filter test (seen_as f (filter test (seen_as f es)))) (twice e.1)
          ∙ ap (λ (ds : List (ℕ × NamedEntry Mq)). let g : ℕ × NamedEntry Mq = (e.0, f e.1) in g ∷ ds) rest)
      by_test false goes rest = rest

none-again : (e : NamedEntry Mq) → deregistered (is_by None None) (deregistered (is_by None None) e) ≡ deregistered (is_by None None) e
none-again e = by_registration e.object.registration
  where
    with_it : Option Registration → NamedEntry Mq
    with_it r = record e { object = record e.object { registration = r } }

    by_registration : (r : Option Registration)
        → with_it (unless_so (is_by None None) (unless_so (is_by None None) r)) ≡ with_it (unless_so (is_by None None) r)
    by_registration None = refl
    by_registration (Some r) = refl

pub restarted-again : (o : Named Mq)
    → still_open (kinds.Named names.Mq) []
    (without_registrations (is_by None None) (still_open (kinds.Named names.Mq) [] (without_registrations (is_by None None) o)))
    ≡ still_open (kinds.Named names.Mq) [] (without_registrations (is_by None None) o)
restarted-again o =
    ap (λ (es : List (ℕ × NamedEntry Mq)). let p : Named Mq = record { next = o.next; entries = es } in p)
    (left-again (deregistered (is_by None None)) none-again (stays (kinds.Named names.Mq) []) (λ n e. refl) o.entries)

-- what is left when a test was made is left when it is made again
pub kept-again : {B X : Type 0} (test : ℕ × Entry B X → Bool) (o : ObjectsOf B X) → kept_if test (kept_if test o) ≡ kept_if test o
kept-again {B} {X} test o = ap (λ (es : List (ℕ × Entry B X)). let p : ObjectsOf B X = record { next = o.next; entries = es } in p) (filter-again o.entries)
  where
    filter-again : (es : List (ℕ × Entry B X)) → filter test (filter test es) ≡ filter test es
    filter-again [] = refl
    filter-again (e ∷ es) = by_test (test e) refl (filter-again es)
      where
        by_test : (b : Bool) → test e ≡ b → filter test (filter test es) ≡ filter test es
            → filter test (cond b (e ∷ filter test es) (filter test es)) ≡ cond b (e ∷ filter test es) (filter test es)
        by_test true stands rest = rw stands (ap (λ (fs : List (ℕ × Entry B X)). e ∷ fs) rest)
        by_test false goes rest = rest
