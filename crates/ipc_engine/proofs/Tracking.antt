-- What an event does not change stays as it is, or goes: each object of which no call, no close and no exit is.
use Rattle.std.proofs.Common.{◌≡◌, ◌≢◌, ℕ, ℤ, zero, suc, ◌∷◌, arith, Bool, true, false, not}
use Rattle.std.proofs.Common.{List, Option, Some, None, [], get_or, length, refl, sym, ap, subst, ◌∙◌}
use Rattle.std.specs.Prelude.{All, find, is_some, nat_eq, option_map, unwrap_or, ◌&&◌, ◌||◌, ◌==◌, if◌then◌else◌}
use Rattle.std.specs.FinMap as fin
use Rattle.std.specs.List.{list_any}
use Rattle.std.proofs.lemmas.Bool.Decides.{nat_tests}
use Rattle.std.proofs.lemmas.List.Folds.{list_any_none}
use Rattle.std.proofs.lemmas.List.Elements.{All-filter}
use Rattle.ipc_base.specs.declared.errno.Errno.TheVariants.{EALREADY}
use Rattle.ipc_limits.specs.declared.limits.Limits.{Limits}
use Rattle.ipc_base.specs.Table.{value_at}
use Rattle.ipc_base.proofs.CallerLemmas.{choice, value_at-without}
use Rattle.ipc_wait.specs.Waits.{is_due, is_of, waiting_call_of, without}
use Rattle.ipc_wire.specs.Request.{PlainKind, PlainRequest, Hello, Interrupt as Interrupts, Sysv, Posix}
use Rattle.ipc_state.specs.declared.descriptors.Descriptor.{Descriptor}
use Rattle.ipc_state.specs.declared.parked.Awaited.{Awaited}
use Rattle.ipc_state.specs.declared.parked.Awaited.TheVariants as awaited
use Rattle.ipc_state.specs.declared.parked.Object.{Object}
use Rattle.ipc_state.specs.declared.processes.Process.{Process}
use Rattle.ipc_state.specs.Finish.{Finish, Tried, Finishes, Waits, IfFinishes, refused}
use Rattle.ipc_state.specs.Numbered.{entry_of}
use Rattle.ipc_state.specs.Keyed.{KeyedEntry}
use Rattle.ipc_state.specs.Named.{NamedEntry}
use Rattle.ipc_state.specs.Opening.{is_on, is_or_any, is_there_for, object_as, opened_as}
use Rattle.ipc_state.specs.Sound.{HasSoundParts}
use Rattle.ipc_state.specs.State.{State, exit, has_all_processes, is_waiting, objects_in, objects_of}
use Rattle.ipc_state.specs.Touching.{IsSameIn, changes_by_exit, is_adjusted, is_adjusted_in, is_made_by, is_opened_by, is_segment, object_of}
use Rattle.ipc_state.specs.Waiting.{PlainWaiting, IsSoundWaiting, awaited_by}
use Rattle.ipc_state.proofs.CallerLemmas.{elsewhere-exit, exit-sound, is_on-same, same_in-exit, same_in-restart}
use Rattle.sem_undo.specs.Undo.{Key, Undo}
use Rattle.shm_segment.specs.SysSegment.{SysSegment}
use Rattle.sysv_sem.specs.Set.{Set}
use Rattle.posix_mq.specs.Queue.{Queue as Mq}
use Rattle.ipc_keys.specs.declared.check.NameKind.TheVariants as names
use Rattle.ipc_state.specs.declared.parked.ObjectKind.TheVariants as kinds
use Rattle.ipc_engine.specs.Changes.{HasMarked, IsTracked, changes, changes_by_call, changes_if_done, has_adjustments, has_attachments, is_marked, is_one}
use Rattle.ipc_engine.specs.Changes.{is_registered_with, may_leave_changes}
use Rattle.ipc_engine.specs.Event.{PlainEvent, Connect, Call, Interrupt, Tick, Exit, Restart}
use Rattle.ipc_engine.specs.Settling.{OthersWait, touched_by}
use Rattle.ipc_engine.specs.Sound.{IsSound}
use Rattle.ipc_engine.specs.Step.{Step, asked, called, can_resume, due, interrupt, interrupted, joins, replied_or_joined, resumed, resumed_first}
use Rattle.ipc_engine.specs.Step.{replied, settle, settle_within, step, tried, waiting_on}
use Rattle.ipc_engine.proofs.Going.{all-waiting, left-apart, objects-after, others-after, there-of}
use Rattle.ipc_engine.proofs.Lists.{found-all, found-passes}
use Rattle.ipc_engine.proofs.Settled.{resumed-has}
use Rattle.ipc_engine.proofs.Soundness.{apart as exit-apart, due-sound, sound-settled, still-waits}
use Rattle.ipc_engine.proofs.Tries.{HasEnded, refused-state, tried-ended}

-- the object is this one
is_one-so : (touched : Option Object) (o : Object) → is_one touched o ≡ false → touched ≢ Some o
is_one-so None o off = λ is. cc
is_one-so (Some this) o off = λ is.
    let it : this ≡ o = cc in
    let so : is_on this o ≡ true = subst (λ (k : Object). is_on this k ≡ true) it (is_on-same this) in
    cc

-- ---- an exit that changes nothing

-- a test that none passes, since none passes another
none-of : {X : Type 0} (p q : X → Bool) → ((x : X) → q x ≡ false → p x ≡ false) → (xs : List X) → list_any q xs ≡ false → list_any p xs ≡ false
none-of p q fewer [] is = refl
none-of p q fewer (x ∷ xs) is = by_first (q x) refl (none-of p q fewer xs)
  where
    by_first : (b : Bool) → q x ≡ b → (list_any q xs ≡ false → list_any p xs ≡ false) → (p x || list_any p xs) ≡ false
    by_first true so rest = let no-first : (q x || list_any q xs) ≡ true = ap (λ (c : Bool). c || list_any q xs) so in cc
    by_first false no-first rest =
        let later : list_any q xs ≡ false = sym (ap (λ (c : Bool). c || list_any q xs) no-first) ∙ is in
        ap (λ (c : Bool). c || list_any p xs) (fewer x no-first) ∙ rest later

and-false : (b : Bool) → (b && false) ≡ false
and-false true = refl
and-false false = refl

-- a process that has no adjustments is none that adjusts a set
unadjusted : (undo : List (ℕ × Undo)) (pid n : ℕ) → has_adjustments pid undo ≡ false → is_adjusted (Some pid) undo n ≡ false
unadjusted undo pid n none =
    none-of (λ (p : ℕ × Undo). is_or_any (Some pid) p.0 && is_adjusted_in n p.1) (λ (p : ℕ × Undo). nat_eq pid p.0 && not (length (fin.entries p.1) == 0))
    (λ p off. by_owner (nat_eq pid p.0) (fin.entries p.1) off) undo none
  where
    by_rows : (es : List (Key × ℤ)) → not (length es == 0) ≡ false → list_any (λ (a : Key × ℤ). nat_eq a.0.0 n) es ≡ false
    by_rows [] off = refl
    by_rows (e ∷ es) off = absurd (grind (arith, nat_tests))

    by_owner : (b : Bool) (es : List (Key × ℤ)) → (b && not (length es == 0)) ≡ false → (b && list_any (λ (a : Key × ℤ). nat_eq a.0.0 n) es) ≡ false
    by_owner true es off = by_rows es off
    by_owner false es off = refl

-- and one that has attached no segment has none open
unopened : (ps : List (ℕ × Process)) (pid n : ℕ) → has_attachments pid ps ≡ false → is_opened_by (Some pid) ps (object_as kinds.Shm n) ≡ false
unopened ps pid n none =
    none-of (λ (p : ℕ × Process). is_or_any (Some pid) p.0 && list_any (λ (d : ℕ × Descriptor). is_on (object_as kinds.Shm n) d.1.on) p.1.descriptors)
    (λ (p : ℕ × Process). nat_eq pid p.0 && list_any (λ (d : ℕ × Descriptor). is_segment d.1.on.kind) p.1.descriptors)
    (λ p off. by_owner (nat_eq pid p.0) p.1.descriptors off) ps none
  where
    by_owner : (b : Bool) (table : List (ℕ × Descriptor)) → (b && list_any (λ (d : ℕ × Descriptor). is_segment d.1.on.kind) table) ≡ false
        → (b && list_any (λ (d : ℕ × Descriptor). is_on (object_as kinds.Shm n) d.1.on) table) ≡ false
    by_owner true table off =
        none-of (λ (d : ℕ × Descriptor). is_on (object_as kinds.Shm n) d.1.on) (λ (d : ℕ × Descriptor). is_segment d.1.on.kind)
        (λ d no. ap (λ (b : Bool). b && nat_eq d.1.on.number n) no) table off
    by_owner false table off = refl

none-of-three : (a b c : Bool) → (a || b || c) ≡ false → (a ≡ false) × ((b ≡ false) × (c ≡ false))
none-of-three true b c is = cc
none-of-three false true c is = cc
none-of-three false false c is = (refl, (refl, is))

-- so its exit changes no object, if it is registered with no queue
unchanged-by-exit : (s : State) (pid : ℕ) → may_leave_changes pid s ≡ false → (o : Object) → changes_by_exit (Some pid) s o ≡ false
unchanged-by-exit s pid none o = λ i. sets i || segments i || queues i
  where
    each : (has_adjustments pid s.undo ≡ false) × ((has_attachments pid s.processes.entries ≡ false) × (is_registered_with pid s.mq.entries ≡ false))
    each = none-of-three _ _ _ none

    sets : list_any (λ (e : ℕ × KeyedEntry Set). is_on (object_as kinds.Semset e.0) o && is_adjusted (Some pid) s.undo e.0) s.semset.entries ≡ false
    sets =
        list_any_none (λ (e : ℕ × KeyedEntry Set). is_on (object_as kinds.Semset e.0) o && is_adjusted (Some pid) s.undo e.0) s.semset.entries
        (λ k d i.
        let n = (get_or s.semset.entries k d).0 in
        ap (λ (b : Bool). is_on (object_as kinds.Semset n) o && b) (unadjusted s.undo pid n each.0) ∙ and-false (is_on (object_as kinds.Semset n) o))

    segments : list_any (λ (e : ℕ × KeyedEntry SysSegment). is_on (object_as kinds.Shm e.0) o
        && is_opened_by (Some pid) s.processes.entries (object_as kinds.Shm e.0)) s.shm.entries ≡ false
    segments =
        list_any_none (λ (e : ℕ × KeyedEntry SysSegment). is_on (object_as kinds.Shm e.0) o
        && is_opened_by (Some pid) s.processes.entries (object_as kinds.Shm e.0)) s.shm.entries
        (λ k d i.
        let n = (get_or s.shm.entries k d).0 in
        ap (λ (b : Bool). is_on (object_as kinds.Shm n) o && b) (unopened s.processes.entries pid n each.1.0) ∙ and-false (is_on (object_as kinds.Shm n) o))

    queues : list_any (λ (e : ℕ × NamedEntry Mq). is_on (opened_as names.Mq e.0) o && is_made_by (Some pid) None e.1.object.registration) s.mq.entries ≡ false
    queues =
        none-of (λ (e : ℕ × NamedEntry Mq). is_on (opened_as names.Mq e.0) o && is_made_by (Some pid) None e.1.object.registration)
        (λ (e : ℕ × NamedEntry Mq). is_made_by (Some pid) None e.1.object.registration)
        (λ e off. ap (λ (b : Bool). is_on (opened_as names.Mq e.0) o && b) off ∙ and-false (is_on (opened_as names.Mq e.0) o)) s.mq.entries each.1.1

module _ (limits : Limits) where
  -- ---- those that go on wait on what has changed

  module _ (q : Object → Bool) where
    -- it waits on nothing of which this is so
    abbrev IsElsewhere : State → PlainWaiting → Type 0
    IsElsewhere s w = (o : Object) → object_of s w.pid.0 w.on ≡ Some o → q o ≡ false

    abbrev pub RestWait : State → Type 0
    RestWait s = All (λ w. IsElsewhere s w → can_resume limits s w ≡ false) s.wait

    module _ (s : State) (h : HasSoundParts limits s) (rest : RestWait s) (w : PlainWaiting) (first : find (can_resume limits s) s.wait ≡ Some w) where
      first-sound : IsSoundWaiting w
      first-sound = found-all (can_resume limits s) IsSoundWaiting s.wait w h.wait.each first

      -- who goes on waited on one of which it is so
      first-on : (o : Object) × (object_of s w.pid.0 w.on ≡ Some o) × (q o ≡ true)
      first-on = by_object (object_of s w.pid.0 w.on) refl
        where
          not-elsewhere : ¬ IsElsewhere s w
          not-elsewhere elsewhere =
              let waits = found-all (can_resume limits s) (λ (v : PlainWaiting). IsElsewhere s v → can_resume limits s v ≡ false) s.wait w rest first in
              let off = waits elsewhere in
              let so = found-passes (can_resume limits s) s.wait w first in
              cc

          by_test : (o : Object) → object_of s w.pid.0 w.on ≡ Some o → (b : Bool) → q o ≡ b
              → (o : Object) × (object_of s w.pid.0 w.on ≡ Some o) × (q o ≡ true)
          by_test o is true so = (o, is, so)
          by_test o is false off =
              absurd (not-elsewhere (λ p at. let one : o ≡ p = (let both = sym is ∙ at in cc) in subst (λ (k : Object). q k ≡ false) one off))

          by_object : (r : Option Object) → object_of s w.pid.0 w.on ≡ r → (o : Object) × (object_of s w.pid.0 w.on ≡ Some o) × (q o ≡ true)
          by_object None is = absurd (not-elsewhere (λ p at. cc))
          by_object (Some o) is = by_test o is (q o) refl

      rest-resumed : RestWait (resumed limits s w).state
      rest-resumed =
          let r = resumed-has limits s w first-sound in
          let t = (resumed limits s w).state in
          let left = without w.pid s.wait in
          subst (λ (ws : List PlainWaiting). All (λ (v : PlainWaiting). IsElsewhere t v → can_resume limits t v ≡ false) ws) (sym r.wait)
          (λ k d i elsewhere.
          let v = get_or left k d in
          let waiting = all-waiting left k d i in
          let sound = All-filter (λ (v : PlainWaiting). not (is_of w.pid v)) IsSoundWaiting s.wait h.wait.each k d i in
          let same = r.objects v.pid.0 v.on (left-apart limits s w v.pid.0 waiting) in
          let before : IsElsewhere s v = λ o at. elsewhere o (same ∙ at) in
          let waits = All-filter (λ (v : PlainWaiting). not (is_of w.pid v))
          (λ (v : PlainWaiting). IsElsewhere s v → can_resume limits s v ≡ false) s.wait rest k d i before in
          let on = first-on in
          still-waits limits s t v sound (r.kept.creds v.pid.0)
          (r.others h v.pid.0 v.on waiting
          (λ one. let off = before on.0 (sym one ∙ on.1) in let so = on.2 in cc) (there-of limits s v sound waits)) ∙ waits)

    -- so nothing else becomes another
    within-same : (n : ℕ) (s : State) → HasSoundParts limits s → RestWait s → (o : Object) → q o ≡ false → IsSameIn o s (settle_within limits n s).state
    unfolding settle_within
    within-same zero s h rest o off = λ e is. is
    within-same (suc n) s h rest o off = by_found (find (can_resume limits s) s.wait) refl (λ t. within-same n t)
      where
        by_found : (r : Option PlainWaiting) → find (can_resume limits s) s.wait ≡ r
            → ((t : State) → HasSoundParts limits t → RestWait t → (p : Object) → q p ≡ false → IsSameIn p t (settle_within limits n t).state)
            → IsSameIn o s (resumed_first limits s r (settle_within limits n)).state
        by_found None first later = λ e is. is
        by_found (Some w) first later = λ e is.
            let r = resumed-has limits s w (first-sound s h rest w first) in
            let on = first-on s h rest w first in
            let t = (resumed limits s w).state in
            let apart : object_of s w.pid.0 w.on ≢ Some o =
            (λ at. let one : on.0 ≡ o = (let both = sym on.1 ∙ at in cc) in
            let so : q o ≡ true = subst (λ (k : Object). q k ≡ true) one on.2 in cc) in
            r.same h o apart e (later t (r.parts h) (rest-resumed s h rest w first) o off e is)

    pub settled-same : (s : State) → HasSoundParts limits s → RestWait s → (o : Object) → q o ≡ false → IsSameIn o s (settle limits s).state
    unfolding settle
    settled-same s h rest o off = within-same (length s.wait) s h rest o off

  -- ---- a call

  -- those that wait on another object than the one that a call may have changed
  others-rest : (s : State) (touches : Option Object) → OthersWait limits s touches → RestWait (is_one touches) s
  others-rest s None others = λ k d i elsewhere. others k d i
  others-rest s (Some changed) others = λ k d i elsewhere. others k d i (λ one.
      let off = elsewhere changed (sym one) in let so = is_on-same changed in cc)

  joins-same : (s : State) (pid : ℕ) (request : PlainRequest) (on : Option Awaited) (o : Object) → IsSameIn o s (joins s pid request on).state
  joins-same s pid request None o = λ e is. is
  joins-same s pid request (Some on) o =
      choice (λ (t : Step). IsSameIn o s t.state) (is_due (record { 0 = s.clock }) (waiting_on s pid request on)) _ _ (λ _ d is. is) (λ _ d is. is)

  module _ (s : State) (pid : ℕ) (request : PlainRequest) (h : IsSound limits s) (o : Object) where
    done-same : (t : Tried) → is_waiting s pid ≡ false → IfFinishes (HasEnded limits s pid (touched_by s pid request.kind)) t
        → IfFinishes (λ (f : Finish). is_some f.errno ≡ true → f.state ≡ s) t → changes_if_done (touched_by s pid request.kind) t o ≡ false
        → IsSameIn o s (replied_or_joined limits pid request s t).state
    done-same Waits free ended refuses off = joins-same s pid request (awaited_by request.kind) o
    done-same (Finishes f) free ended refuses off = by_errno (is_some f.errno) refl off
      where
        touches : Option Object
        touches = touched_by s pid request.kind

        by_errno : (b : Bool) → is_some f.errno ≡ b → (not b && is_one touches o) ≡ false → IsSameIn o s (settle limits f.state).state
        by_errno true fails off =
            let nothing : (settle limits f.state).state ≡ s =
            ap (λ (u : State). (settle limits u).state) (refuses fails) ∙ ap (λ (u : Step). u.state) (sound-settled limits s h) in
            subst (λ (u : State). IsSameIn o s u) (sym nothing) (λ e is. is)
        by_errno false done off = λ e is.
            let others = others-after limits s touches f h ended.good (objects-after limits s pid touches f free ended) in
            ended.good.same h.parts o (is_one-so touches o off) e
            (settled-same (is_one touches) f.state (ended.good.state h.parts) (others-rest f.state touches others) o off e is)

    called-same : changes_by_call limits s pid request.kind o ≡ false → IsSameIn o s (called limits pid request s).state
    called-same off = by_waiting (is_waiting s pid) refl off
      where
        by_waiting : (b : Bool) → is_waiting s pid ≡ b
            → (not b && changes_if_done (touched_by s pid request.kind) (tried limits s pid false request.kind) o) ≡ false
            → IsSameIn o s (if b then replied pid request.serial (refused s EALREADY) else replied_or_joined limits pid request s
            (tried limits s pid false request.kind)).state
        by_waiting true waits off = λ e is. is
        by_waiting false free off =
            done-same (tried limits s pid false request.kind) free (tried-ended limits s pid false request.kind free)
            (refused-state limits s pid false request.kind) off

  interrupt-same : (s : State) (pid serial : ℕ) (o : Object) → IsSameIn o s (interrupt pid serial s).state
  interrupt-same s pid serial o = by_call (waiting_call_of (record { 0 = pid }) s.wait)
    where
      by_call : (r : Option PlainWaiting) → IsSameIn o s (interrupted s pid r).state
      by_call None = λ e is. is
      by_call (Some w) = λ e is. is

  pub asked-same : (s : State) (pid : ℕ) (request : PlainRequest) → IsSound limits s → (o : Object) → changes_by_call limits s pid request.kind o ≡ false
      → IsSameIn o s (asked limits pid request request.kind s).state
  asked-same s pid request h o = by_kind request.kind refl
    where
      by_kind : (kind : PlainKind) → request.kind ≡ kind → changes_by_call limits s pid request.kind o ≡ false
          → IsSameIn o s (asked limits pid request kind s).state
      by_kind (Hello cred) is off = λ e at. at
      by_kind Interrupts is off = interrupt-same s pid request.serial o
      by_kind (Sysv call) is off = called-same s pid request h o off
      by_kind (Posix call) is off = called-same s pid request h o off

  -- ---- an exit

  -- those that wait on no object that it changes
  pub exit-rest : (s : State) (pid : ℕ) → IsSound limits s → RestWait (changes_by_exit (Some pid) s) (exit s pid)
  exit-rest s pid h = λ k d i elsewhere.
      let v = get_or (without (record { 0 = pid }) s.wait) k d in
      let sound = All-filter (λ (w : PlainWaiting). not (is_of (record { 0 = pid }) w)) IsSoundWaiting s.wait h.parts.wait.each k d i in
      let waits = All-filter (λ (w : PlainWaiting). not (is_of (record { 0 = pid }) w)) (λ (w : PlainWaiting). can_resume limits s w ≡ false) s.wait
      (λ j e l. (h.waits j e l).waits) k d i in
      let other : v.pid.0 ≢ pid = exit-apart limits pid s.wait k d i in
      still-waits limits s (exit s pid) v sound
      (ap (λ (r : Option Process). unwrap_or (option_map (λ (p : Process). p.cred) r) (record { uid = 65534; gid = 65534 }))
      (value_at-without s.processes.entries pid v.pid.0 other))
      (elsewhere-exit limits s h.parts pid v.pid.0 v.on other (λ o at. elsewhere o (exit-object s pid v.pid.0 v.on other ∙ at))
      (there-of limits s v sound waits))
      ∙ waits
    where
      exit-object : (s : State) (pid p : ℕ) (on : Awaited) → p ≢ pid → object_of (exit s pid) p on ≡ object_of s p on
      exit-object s pid p (awaited.MsgQueue id) other = refl
      exit-object s pid p (awaited.Semset id) other = refl
      exit-object s pid p (awaited.Descriptor fd) other =
          ap (λ (r : Option Process). option_map (λ (d : Descriptor). d.on) (value_at nat_eq (unwrap_or (option_map (λ (q : Process). q.descriptors) r) []) fd))
          (value_at-without s.processes.entries pid p other)

  -- all of them, if it changes none
  pub exit-waits : (s : State) (pid : ℕ) → IsSound limits s → may_leave_changes pid s ≡ false → OthersWait limits (exit s pid) None
  exit-waits s pid h none = λ k d i. exit-rest s pid h k d i (λ o at. unchanged-by-exit s pid none o)

  pub exited-same : (s : State) (pid : ℕ) → IsSound limits s → (o : Object) → changes_by_exit (Some pid) s o ≡ false
      → IsSameIn o s (settle limits (exit s pid)).state
  exited-same s pid h o off = λ e is.
      same_in-exit s o limits h.parts pid off e
      (settled-same (changes_by_exit (Some pid) s) (exit s pid) (exit-sound limits s pid h.parts) (exit-rest s pid h) o off e is)

  -- ---- each event

  pub step-same : (s : State) (e : PlainEvent) → IsSound limits s → (o : Object) → changes limits s e o ≡ false → IsSameIn o s (step limits s e).state
  step-same s (Connect cred serial moment) h o off =
      choice (λ (t : Step). IsSameIn o s t.state) (has_all_processes limits (due moment s).state) _ _ (λ _ d is. is) (λ _ d is. is)
  step-same s (Call pid request moment) h o off = asked-same (due moment s).state pid request (due-sound limits s moment h) o off
  step-same s (Interrupt pid serial moment) h o off = interrupt-same (due moment s).state pid serial o
  step-same s (Tick moment) h o off = λ e is. is
  step-same s (Exit pid moment) h o off = exited-same (due moment s).state pid (due-sound limits s moment h) o off
  step-same s Restart h o off = same_in-restart s o limits h.parts off

-- ---- marks

-- what is marked besides what an event changes tells what has changed since
pub tracked-on : (s t base : State) (more : Object → Bool) (before after : List Object) → HasMarked s more before after
    → ((o : Object) → more o ≡ false → IsSameIn o s t) → IsTracked before base s → IsTracked after base t
tracked-on s t base more before after m same was o off = by_test (more o) refl
  where
    by_test : (b : Bool) → more o ≡ b → IsSameIn o base t
    by_test true so = let marked = m.marked o so in cc
    by_test false none = λ e is.
        let there : entry_of (objects_of s o.kind) o.number ≡ Some e = same o none e is in
        was o (unmarked (is_marked before o) refl (ap is_some there)) e there
      where
        unmarked : (b : Bool) → is_marked before o ≡ b → is_there_for (objects_in s) o ≡ true → is_marked before o ≡ false
        unmarked false off there = off
        unmarked true so there = let kept = m.kept o there so in cc
