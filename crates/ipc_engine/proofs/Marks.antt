-- Marks of objects: each once, no more than there are objects, once those are gone that are not there.
use Rattle.std.proofs.Common.{◌≡◌, ℕ, ◌≤◌, Bool, true, false, not, cond, List, [], ◌∷◌, ◌++◌, length, map, Option, Some, is_some}
use Rattle.std.proofs.Common.{length-append, refl, sym, ap, subst, ◌∙◌, arith}
use Rattle.std.specs.Prelude.{◌&&◌, ◌||◌, filter, nat_eq, Result, Ok, Err}
use Rattle.std.specs.Cmp.{IsEquivalence}
use Rattle.std.specs.List.{AllByRecursion, IsDistinct, list_any}
use Rattle.std.specs.Result.{is_ok}
use Rattle.std.proofs.lemmas.Bool.Decides.{nat_tests}
use Rattle.std.proofs.lemmas.List.{length-map}
use Rattle.std.proofs.lemmas.List.Folds.{list_any-append}
use Rattle.std.proofs.lemmas.Map.Keys.{IsDistinct-cons, IsDistinct-from_apart, IsDistinct-head, IsDistinct-tail}
use Rattle.std.proofs.lemmas.Map.Made.{is_member-filter, length-le_from_is_member}
use Rattle.ipc_base.specs.declared.errno.Errno.{Errno}
use Rattle.ipc_limits.specs.declared.limits.Limits.{Limits}
use Rattle.ipc_base.specs.Table.{value_at}
use Rattle.ipc_keys.specs.declared.check.NameKind.TheVariants as names
use Rattle.ipc_wire.specs.declared.reply.Body.{Body}
use Rattle.ipc_wire.specs.Request.{PlainKind, Hello, Interrupt as Interrupts, Sysv, Posix}
use Rattle.posix_mq.specs.declared.queue.Registration.{Registration}
use Rattle.std.specs.Global.{Vec}
use Rattle.ipc_state.specs.declared.parked.Object.{Object}
use Rattle.ipc_state.specs.declared.parked.ObjectKind.{ObjectKind}
use Rattle.ipc_state.specs.declared.parked.ObjectKind.TheVariants as kinds
use Rattle.ipc_state.specs.Finish.{Tried, Finishes, Waits, finish_firing}
use Rattle.ipc_state.specs.Numbered.{Numbered}
use Rattle.ipc_state.specs.Opening.{is_on, is_there_for, object_as, same_kind}
use Rattle.ipc_state.specs.Sound.{HasSoundParts}
use Rattle.ipc_state.specs.State.{State, is_waiting, objects_in}
use Rattle.ipc_state.proofs.CallerLemmas.{is_on-same}
use Rattle.ipc_engine.specs.Changes.{HasMarked, changes_by_call, changes_if_done, is_marked, is_one, most_objects}
use Rattle.ipc_engine.specs.Step.{is_call}

-- ---- when two objects are one

kind-one : (k j : ObjectKind) → same_kind k j ≡ true → k ≡ j
kind-one kinds.MsgQueue kinds.MsgQueue is = refl
kind-one kinds.Semset kinds.Semset is = refl
kind-one kinds.Shm kinds.Shm is = refl
kind-one (kinds.Named names.Mq) (kinds.Named names.Mq) is = refl
kind-one (kinds.Named names.Psem) (kinds.Named names.Psem) is = refl
kind-one (kinds.Named names.Pshm) (kinds.Named names.Pshm) is = refl
kind-one k j is = cc

pub on-one : (a b : Object) → is_on a b ≡ true → b ≡ a
on-one a b is = by_kind (same_kind b.kind a.kind) refl is
  where
    by_kind : (c : Bool) → same_kind b.kind a.kind ≡ c → (c && nat_eq b.number a.number) ≡ true → b ≡ a
    by_kind false other is = cc
    by_kind true same is =
        let number : b.number ≡ a.number = grind (arith, nat_tests) in
        λ i. record { kind = kind-one b.kind a.kind same i; number = number i }

on-symm : (a b : Object) → is_on a b ≡ true → is_on b a ≡ true
on-symm a b is = subst (λ (k : Object). is_on k a ≡ true) (sym (on-one a b is)) (is_on-same a)

pub is_on-laws : IsEquivalence is_on
is_on-laws =
    record {
      refl = is_on-same;
      symm = λ x y. by_tests x y (is_on x y) (is_on y x) refl refl;
      congr = λ x y z is. ap (λ (k : Object). is_on k z) (sym (on-one x y is));
    }
  where
    by_tests : (x y : Object) (b c : Bool) → is_on x y ≡ b → is_on y x ≡ c → is_on x y ≡ is_on y x
    by_tests x y true c is other = is ∙ sym (on-symm x y is)
    by_tests x y false true is other = on-symm y x other ∙ sym other
    by_tests x y false false is other = is ∙ sym other

-- ---- how many

-- none are each once
pub none-once : IsDistinct is_on []
none-once = IsDistinct-from_apart is_on [] (λ i j d below within. absurd (omega arith))

-- those that are left are each once
pub left-once : (test : Object → Bool) (marks : List Object) → IsDistinct is_on marks → IsDistinct is_on (filter test marks)
left-once test [] once = once
left-once test (m ∷ ms) once =
    by_test (test m) (left-once test ms (IsDistinct-tail is_on m ms once)) (others ms (IsDistinct-head is_on m ms once))
  where
    others : (ks : List Object) → AllByRecursion (λ k. is_on m k ≡ false) ks → AllByRecursion (λ k. is_on m k ≡ false) (filter test ks)
    others [] all = all
    others (k ∷ ks) all = by_one (test k) (others ks all.1)
      where
        by_one : (b : Bool) → AllByRecursion (λ j. is_on m j ≡ false) (filter test ks)
            → AllByRecursion (λ j. is_on m j ≡ false) (cond b (k ∷ filter test ks) (filter test ks))
        by_one true rest = (all.0, rest)
        by_one false rest = rest

    by_test : (b : Bool) → IsDistinct is_on (filter test ms) → AllByRecursion (λ k. is_on m k ≡ false) (filter test ms)
        → IsDistinct is_on (cond b (m ∷ filter test ms) (filter test ms))
    by_test true rest apart = IsDistinct-cons is_on m (filter test ms) apart rest
    by_test false rest apart = rest

-- the objects of a kind
abbrev numbered_as : {X : Type 0} → ObjectKind → Numbered X → List Object
numbered_as kind o = map (λ e. object_as kind e.0) o.entries

-- what is there is one of them
there-listed : {X : Type 0} (kind : ObjectKind) (es : List (ℕ × X)) (n : ℕ) → is_some (value_at nat_eq es n) ≡ true
    → list_any (is_on (object_as kind n)) (map (λ (e : ℕ × X). object_as kind e.0) es) ≡ true
there-listed kind [] n there = cc
there-listed {X} kind (e ∷ es) n there = by_key (nat_eq e.0 n) refl there (there-listed kind es n)
  where
    by_key : (b : Bool) → nat_eq e.0 n ≡ b → is_some (cond b (Some e.1) (value_at nat_eq es n)) ≡ true
        → (is_some (value_at nat_eq es n) ≡ true
        → list_any (is_on (object_as kind n)) (map (λ (d : ℕ × X). object_as kind d.0) es) ≡ true)
        → (is_on (object_as kind n) (object_as kind e.0) || list_any (is_on (object_as kind n)) (map (λ (d : ℕ × X). object_as kind d.0) es)) ≡ true
    by_key true here there rest =
        let one : e.0 ≡ n = grind (arith, nat_tests) in
        let it : is_on (object_as kind n) (object_as kind e.0) ≡ true =
        subst (λ (k : ℕ). is_on (object_as kind n) (object_as kind k) ≡ true) (sym one) (is_on-same (object_as kind n)) in
        ap (λ (b : Bool). b || list_any (is_on (object_as kind n)) (map (λ (d : ℕ × X). object_as kind d.0) es)) it
    by_key false apart there rest = later (is_on (object_as kind n) (object_as kind e.0)) (rest there)
      where
        later : (b : Bool) → list_any (is_on (object_as kind n)) (map (λ (d : ℕ × X). object_as kind d.0) es) ≡ true
            → (b || list_any (is_on (object_as kind n)) (map (λ (d : ℕ × X). object_as kind d.0) es)) ≡ true
        later true is = refl
        later false is = is

or-right : (a b : Bool) → b ≡ true → (a || b) ≡ true
or-right true b is = refl
or-right false b is = is

both-right : (a b : Bool) → (a && b) ≡ true → b ≡ true
both-right true b is = is
both-right false b is = cc

pub and-swap : (a b : Bool) → (a && b) ≡ (b && a)
and-swap true true = refl
and-swap true false = refl
and-swap false true = refl
and-swap false false = refl

abbrev Sets : State → List Object
Sets s = numbered_as kinds.Semset s.semset

abbrev Mqs : State → List Object
Mqs s = numbered_as (kinds.Named names.Mq) s.mq

abbrev Psems : State → List Object
Psems s = numbered_as (kinds.Named names.Psem) s.psem

abbrev Pshms : State → List Object
Pshms s = numbered_as (kinds.Named names.Pshm) s.pshm

abbrev Shms : State → List Object
Shms s = numbered_as kinds.Shm s.shm

-- all objects
abbrev every : State → List Object
every s = numbered_as kinds.MsgQueue s.msg ++ (Sets s ++ (Mqs s ++ (Psems s ++ (Pshms s ++ Shms s))))

module _ (limits : Limits) (s : State) (h : HasSoundParts limits s) where
  every-few : length (every s) ≤ most_objects limits
  every-few =
      omega (
        arith,
        length-append (numbered_as kinds.MsgQueue s.msg) (Sets s ++ (Mqs s ++ (Psems s ++ (Pshms s ++ Shms s)))),
        length-append (Sets s) (Mqs s ++ (Psems s ++ (Pshms s ++ Shms s))),
        length-append (Mqs s) (Psems s ++ (Pshms s ++ Shms s)),
        length-append (Psems s) (Pshms s ++ Shms s),
        length-append (Pshms s) (Shms s),
        length-map s.msg.entries (λ e. object_as kinds.MsgQueue e.0),
        length-map s.semset.entries (λ e. object_as kinds.Semset e.0),
        length-map s.mq.entries (λ e. object_as (kinds.Named names.Mq) e.0),
        length-map s.psem.entries (λ e. object_as (kinds.Named names.Psem) e.0),
        length-map s.pshm.entries (λ e. object_as (kinds.Named names.Pshm) e.0),
        length-map s.shm.entries (λ e. object_as kinds.Shm e.0),
        h.msg.held.bound.numbered.count,
        h.semset.held.bound.numbered.count,
        (h.named names.Mq).held.bound.numbered.count,
        (h.named names.Psem).held.bound.numbered.count,
        (h.named names.Pshm).held.bound.numbered.count,
        h.shm.held.bound.numbered.count,
      )

  every-there : (o : Object) → is_there_for (objects_in s) o ≡ true → list_any (is_on o) (every s) ≡ true
  every-there o = by_kind o.kind o.number
    where
      left : (q : Object) (xs ys : List Object) → list_any (is_on q) xs ≡ true → list_any (is_on q) (xs ++ ys) ≡ true
      left q xs ys is = list_any-append (is_on q) xs ys ∙ ap (λ (b : Bool). b || list_any (is_on q) ys) is

      right : (q : Object) (xs ys : List Object) → list_any (is_on q) ys ≡ true → list_any (is_on q) (xs ++ ys) ≡ true
      right q xs ys is = list_any-append (is_on q) xs ys ∙ or-right (list_any (is_on q) xs) (list_any (is_on q) ys) is

      by_kind : (kind : ObjectKind) (n : ℕ) → is_there_for (objects_in s) (object_as kind n) ≡ true
          → list_any (is_on (object_as kind n)) (every s) ≡ true
      by_kind kinds.MsgQueue n there =
          left (object_as kinds.MsgQueue n) (numbered_as kinds.MsgQueue s.msg) (Sets s ++ (Mqs s ++ (Psems s ++ (Pshms s ++ Shms s))))
          (there-listed kinds.MsgQueue s.msg.entries n there)
      by_kind kinds.Semset n there =
          let q = object_as kinds.Semset n in
          right q (numbered_as kinds.MsgQueue s.msg) (Sets s ++ (Mqs s ++ (Psems s ++ (Pshms s ++ Shms s))))
          (left q (Sets s) (Mqs s ++ (Psems s ++ (Pshms s ++ Shms s))) (there-listed kinds.Semset s.semset.entries n there))
      by_kind (kinds.Named names.Mq) n there =
          let q = object_as (kinds.Named names.Mq) n in
          right q (numbered_as kinds.MsgQueue s.msg) (Sets s ++ (Mqs s ++ (Psems s ++ (Pshms s ++ Shms s))))
          (right q (Sets s) (Mqs s ++ (Psems s ++ (Pshms s ++ Shms s)))
          (left q (Mqs s) (Psems s ++ (Pshms s ++ Shms s)) (there-listed (kinds.Named names.Mq) s.mq.entries n there)))
      by_kind (kinds.Named names.Psem) n there =
          let q = object_as (kinds.Named names.Psem) n in
          right q (numbered_as kinds.MsgQueue s.msg) (Sets s ++ (Mqs s ++ (Psems s ++ (Pshms s ++ Shms s))))
          (right q (Sets s) (Mqs s ++ (Psems s ++ (Pshms s ++ Shms s)))
          (right q (Mqs s) (Psems s ++ (Pshms s ++ Shms s))
          (left q (Psems s) (Pshms s ++ Shms s) (there-listed (kinds.Named names.Psem) s.psem.entries n there))))
      by_kind (kinds.Named names.Pshm) n there =
          let q = object_as (kinds.Named names.Pshm) n in
          right q (numbered_as kinds.MsgQueue s.msg) (Sets s ++ (Mqs s ++ (Psems s ++ (Pshms s ++ Shms s))))
          (right q (Sets s) (Mqs s ++ (Psems s ++ (Pshms s ++ Shms s)))
          (right q (Mqs s) (Psems s ++ (Pshms s ++ Shms s))
          (right q (Psems s) (Pshms s ++ Shms s)
          (left q (Pshms s) (Shms s) (there-listed (kinds.Named names.Pshm) s.pshm.entries n there)))))
      by_kind kinds.Shm n there =
          let q = object_as kinds.Shm n in
          right q (numbered_as kinds.MsgQueue s.msg) (Sets s ++ (Mqs s ++ (Psems s ++ (Pshms s ++ Shms s))))
          (right q (Sets s) (Mqs s ++ (Psems s ++ (Pshms s ++ Shms s)))
          (right q (Mqs s) (Psems s ++ (Pshms s ++ Shms s))
          (right q (Psems s) (Pshms s ++ Shms s)
          (right q (Pshms s) (Shms s) (there-listed kinds.Shm s.shm.entries n there)))))

  abbrev there : Object → Bool
  there o = is_there_for (objects_in s) o

  -- who is among those that are there
  pub left-marked : (marks : List Object) (o : Object) → is_marked (filter there marks) o ≡ (is_marked marks o && there o)
  left-marked marks o = is_member-filter is_on-laws there o (λ x same. ap there (sym (on-one o x same))) marks

  -- they are no more than there may be objects
  pub left-few : (marks : List Object) → IsDistinct is_on marks → length (filter there marks) ≤ most_objects limits
  left-few marks once =
      let few = length-le_from_is_member is_on-laws (filter there marks) (every s) (left-once there marks once)
      (λ q is. every-there q (both-right (is_marked marks q) (there q) (sym (left-marked marks q) ∙ is))) in
      omega (arith, few, every-few)

or-none : (b : Bool) → (b || false) ≡ b
or-none true = refl
or-none false = refl

-- ---- what is marked besides

-- nothing
pub none-marked : (s : State) (more : Object → Bool) (marks : List Object) → ((o : Object) → more o ≡ false) → HasMarked s more marks marks
none-marked s more marks none =
    record {
      only = λ o is. ap (λ (b : Bool). b || more o) is;
      kept = λ o there is. is;
      marked = λ o yes. let no = none o in cc;
    }

-- these, after room was made
pub room-marked : (s : State) (more : Object → Bool) (before mid after : List Object)
    → ((o : Object) → is_marked mid o ≡ true → is_marked before o ≡ true)
    → ((o : Object) → is_there_for (objects_in s) o ≡ true → is_marked before o ≡ true → is_marked mid o ≡ true)
    → ((o : Object) → is_marked after o ≡ (is_marked mid o || more o)) → HasMarked s more before after
room-marked s more before mid after only kept same =
    record {
      only = λ o is. by_test (is_marked mid o) (is_marked before o) (more o) (only o) (sym (same o) ∙ is);
      kept = λ o there is. same o ∙ ap (λ (b : Bool). b || more o) (kept o there is);
      marked = λ o yes. same o ∙ or-right (is_marked mid o) (more o) yes;
    }
  where
    by_test : (a b c : Bool) → (a ≡ true → b ≡ true) → (a || c) ≡ true → (b || c) ≡ true
    by_test true b c was is = ap (λ (d : Bool). d || c) (was refl)
    by_test false b c was is = or-right b c is

-- the object of a call that is done
pub done-marks : (s : State) (r : Result (Body (Vec ℕ)) Errno) (fired : Option Registration) (t u : Option Object) (v : Tried) (o : Object)
    → Finishes (finish_firing s r fired) ≡ v → t ≡ u → (is_ok r && is_one t o) ≡ changes_if_done u v o
done-marks s r fired t u v o comes same =
    by_answer r ∙ (ap (λ (w : Tried). changes_if_done t w o) comes ∙ ap (λ (q : Option Object). changes_if_done q v o) same)
  where
    by_answer : (a : Result (Body (Vec ℕ)) Errno) → (is_ok a && is_one t o) ≡ changes_if_done t (Finishes (finish_firing s a fired)) o
    by_answer (Ok body) = refl
    by_answer (Err e) = refl

-- a call that has to wait changes nothing
pub waits-marks : (b : Bool) (u : Option Object) (v : Tried) (o : Object) → Waits ≡ v → b ≡ (b || changes_if_done u v o)
waits-marks b u v o comes = sym (or-none b) ∙ ap (λ (w : Tried). b || changes_if_done u w o) comes

-- what is no call changes nothing
pub no_call-marks : (limits : Limits) (s : State) (pid : ℕ) (kind : PlainKind) (o : Object) → is_call kind ≡ false → changes_by_call limits s pid kind o ≡ false
no_call-marks limits s pid (Hello cred) o is = and-swap (not (is_waiting s pid)) false
no_call-marks limits s pid Interrupts o is = and-swap (not (is_waiting s pid)) false
no_call-marks limits s pid (Sysv call) o is = cc
no_call-marks limits s pid (Posix call) o is = cc

-- a test of rows, told of what is kept
pub any-rows : {X Y : Type 0} (row : X → Y) (test : Y → Bool) (xs : List X) → list_any (λ (x : X). test (row x)) xs ≡ list_any test (map row xs)
any-rows row test [] = refl
any-rows row test (x ∷ xs) = ap (λ (b : Bool). test (row x) || b) (any-rows row test xs)

-- one more of a loop
pub or-more : (now before start far one this more : Bool) → now ≡ (before || one) → before ≡ (start || far) → one ≡ this → more ≡ (far || this)
    → now ≡ (start || more)
or-more now before start far one this more is was same next =
    is ∙ ((λ i. was i || same i) ∙ (by_test start ∙ ap (λ (b : Bool). start || b) (sym next)))
  where
    by_test : (b : Bool) → ((b || far) || this) ≡ (b || (far || this))
    by_test true = refl
    by_test false = refl

-- and a loop after another
pub or-twice : (now mid start a b : Bool) → mid ≡ (start || a) → now ≡ (mid || b) → now ≡ (start || (a || b))
or-twice now mid start a b first second = second ∙ (ap (λ (c : Bool). c || b) first ∙ by_test start)
  where
    by_test : (c : Bool) → ((c || a) || b) ≡ (c || (a || b))
    by_test true = refl
    by_test false = refl

pub or-thrice : (now later mid start a b c : Bool) → mid ≡ (start || a) → later ≡ (mid || b) → now ≡ (later || c) → now ≡ (start || (a || b || c))
or-thrice now later mid start a b c first second third =
    or-twice now later start (a || b) c (or-twice later mid start a b first second) third ∙ by_test start a
  where
    by_test : (d e : Bool) → (d || ((e || b) || c)) ≡ (d || (e || b || c))
    by_test true e = refl
    by_test false true = refl
    by_test false false = refl

-- one more mark, and one that is there
pub marked-push : (marks : List Object) (m o : Object) → is_marked (marks ++ m ∷ []) o ≡ (is_marked marks o || is_on m o)
marked-push marks m o =
    list_any-append (is_on o) marks (m ∷ []) ∙ ap (λ (b : Bool). is_marked marks o || b) (or-none (is_on o m) ∙ is_on-laws.symm o m)

pub marked-there : (marks : List Object) (m o : Object) → is_marked marks m ≡ true → is_marked marks o ≡ (is_marked marks o || is_on m o)
marked-there marks m o there = by_test (is_on m o) refl
  where
    by_test : (b : Bool) → is_on m o ≡ b → is_marked marks o ≡ (is_marked marks o || b)
    by_test false other = sym (or-none (is_marked marks o))
    by_test true same =
        let yes : is_marked marks o ≡ true = subst (λ (k : Object). is_marked marks k ≡ true) (sym (on-one m o same)) there in
        yes ∙ sym (ap (λ (b : Bool). b || true) yes)

pub both-left : (a b : Bool) → (a && b) ≡ true → a ≡ true
both-left true b is = refl
both-left false b is = cc
