-- Which calls can go on when one object has changed: those that wait on it, and no other.
use Rattle.std.proofs.Common.{◌≡◌, ◌≢◌, ℕ, zero, suc, ◌⊎◌, inl, inr, Bool, true, false, not, List, [], ◌∷◌, ◌++◌}
use Rattle.std.proofs.Common.{Option, Some, None, is_some, get_or, length, length-append, ◌+◌, ◌*◌, ◌≤◌}
use Rattle.std.proofs.Common.{refl, sym, ap, subst, ◌∙◌, arith}
use Rattle.std.specs.Prelude.{All, find, nat_eq, if◌then◌else◌, Result, Ok, Err}
use Rattle.std.specs.Result.{is_ok}
use Rattle.std.specs.Global.{Vec}
use Rattle.std.proofs.lemmas.Bool.Decides.{nat_tests}
use Rattle.std.proofs.lemmas.List.Elements.{All-nil, All-cons, All-filter}
use Rattle.ipc_base.specs.declared.errno.Errno.{Errno}
use Rattle.ipc_limits.specs.declared.limits.Limits.{Limits}
use Rattle.ipc_base.proofs.CallerLemmas.{test_cases}
use Rattle.ipc_wait.specs.Waits.{waiting_call_of, is_of, without}
use Rattle.ipc_wait.proofs.CallerLemmas.{found-in}
use Rattle.ipc_wire.specs.Request.{PlainKind, Hello, Interrupt as Interrupts, Sysv, Posix}
use Rattle.ipc_wire.specs.declared.reply.Body.{Body}
use Rattle.posix_mq.specs.declared.queue.Registration.{Registration}
use Rattle.ipc_keys.specs.declared.check.NameKind.TheVariants as names
use Rattle.ipc_state.specs.declared.parked.Object.{Object}
use Rattle.ipc_state.specs.declared.parked.ObjectKind.{ObjectKind}
use Rattle.ipc_state.specs.declared.parked.ObjectKind.TheVariants as kinds
use Rattle.ipc_state.specs.Finish.{Finish, Tried, Finishes, Waits, IfFinishes, finish_firing, has_to_wait}
use Rattle.ipc_state.specs.Sound.{HasSoundParts}
use Rattle.ipc_state.specs.State.{State, is_process, is_waiting, without_waiting}
use Rattle.ipc_state.specs.Touching.{object_of, is_there}
use Rattle.ipc_state.specs.Waiting.{PlainWaiting, IsSoundWaiting}
use Rattle.ipc_state.proofs.CallerLemmas.{IsGood, same-connected}
use Rattle.sysv_calls.specs.Concern.{change_of, concerns, joined}
use Rattle.sysv_calls.specs.declared.concern.Change.{Change}
use Rattle.sysv_calls.proofs.CallerLemmas.{call-spares, posix-concerned, spared-both}
use Rattle.ipc_engine.specs.Event.{PlainOutcome}
use Rattle.ipc_engine.specs.Settling.{AreLinked, HaveSameObjects, OthersWait, RestWaits, SparedWait}
use Rattle.ipc_engine.specs.Sound.{IsSound}
use Rattle.ipc_engine.specs.Step.{silent, after, answered, resumed, resumed_first, settle_within, settle, can_resume, tried}
use Rattle.ipc_engine.proofs.Lists.{found-all, found-passes}
use Rattle.ipc_engine.proofs.Settled.{as-before, left-free, resumed-has, settle-nothing}
use Rattle.ipc_engine.proofs.Soundness.{still-waits}
use Rattle.ipc_engine.proofs.Tries.{HasEnded, refused-state, there-object, tried-there}

-- an object is the one that is named, or not
abbrev IsOrNot : Object → Option Object → Type 0
IsOrNot a o = (Some a ≡ o) ⊎ (Some a ≢ o)

-- a kind by a number
abbrev rank : ObjectKind → ℕ
rank kinds.MsgQueue = 0
rank kinds.Semset = 1
rank (kinds.Named names.Mq) = 2
rank (kinds.Named names.Psem) = 3
rank (kinds.Named names.Pshm) = 4
rank kinds.Shm = 5

abbrev of_rank : ℕ → ObjectKind
of_rank zero = kinds.MsgQueue
of_rank (suc zero) = kinds.Semset
of_rank (suc (suc zero)) = kinds.Named names.Mq
of_rank (suc (suc (suc zero))) = kinds.Named names.Psem
of_rank (suc (suc (suc (suc zero)))) = kinds.Named names.Pshm
of_rank (suc (suc (suc (suc (suc k))))) = kinds.Shm

known : (k : ObjectKind) → of_rank (rank k) ≡ k
known kinds.MsgQueue = refl
known kinds.Semset = refl
known (kinds.Named names.Mq) = refl
known (kinds.Named names.Psem) = refl
known (kinds.Named names.Pshm) = refl
known kinds.Shm = refl

same_object : (a : Object) (o : Option Object) → IsOrNot a o
same_object a None = inr (λ no. cc)
same_object a (Some b) = by_kind (test_cases (nat_eq (rank a.kind) (rank b.kind)))
  where
    by_number : rank a.kind ≡ rank b.kind → (nat_eq a.number b.number ≡ true) ⊎ (nat_eq a.number b.number ≡ false) → IsOrNot a (Some b)
    by_number one (inl is) =
        let kind : a.kind ≡ b.kind = sym (known a.kind) ∙ (ap of_rank one ∙ known b.kind) in
        let number : a.number ≡ b.number = grind (arith, nat_tests) in
        inl (λ i. Some (record { kind = kind i; number = number i }))
    by_number one (inr other) =
        inr (λ same. absurd (let it : a ≡ b = cc in let also : a.number ≡ b.number = ap (λ (c : Object). c.number) it in grind (arith, nat_tests)))

    by_kind : (nat_eq (rank a.kind) (rank b.kind) ≡ true) ⊎ (nat_eq (rank a.kind) (rank b.kind) ≡ false) → IsOrNot a (Some b)
    by_kind (inl is) = by_number (grind (arith, nat_tests)) (test_cases (nat_eq a.number b.number))
    by_kind (inr other) =
        inr (λ same. absurd (let it : a ≡ b = cc in let also : rank a.kind ≡ rank b.kind = ap (λ (c : Object). rank c.kind) it in grind (arith, nat_tests)))

-- each call of a list is found there by its process
pub all-waiting : (ws : List PlainWaiting) → All (λ (w : PlainWaiting). is_some (waiting_call_of w.pid ws) ≡ true) ws
all-waiting [] = All-nil _
all-waiting (w ∷ ws) =
    All-cons (λ (v : PlainWaiting). is_some (waiting_call_of v.pid (w ∷ ws)) ≡ true) w ws (by_test (is_of w.pid w) (waiting_call_of w.pid ws) (inl (grind
    (arith, nat_tests))))
    (λ k d i. by_test (is_of (get_or ws k d).pid w) (waiting_call_of (get_or ws k d).pid ws) (inr (all-waiting ws k d i)))
  where
    by_test : (b : Bool) (r : Option PlainWaiting) → (b ≡ true) ⊎ (is_some r ≡ true) → is_some (if b then Some w else r) ≡ true
    by_test true r is = refl
    by_test false r (inl is) = cc
    by_test false r (inr is) = is

opposite : (b : Bool) → not b ≡ false → b ≡ true
opposite true is = refl
opposite false is = cc

module _ (limits : Limits) where
  -- the object on which a call waits is there
  pub there-of : (s : State) (w : PlainWaiting) → IsSoundWaiting w → can_resume limits s w ≡ false → is_there w.pid.0 w.on s ≡ true
  there-of s w sound waits = tried-there limits s w.pid.0 true w.call.kind w.on sound.on (opposite _ waits)

  -- one that waits on another object than the one that a call may have changed has to
  after-waits : (s : State) (touches : Option Object) (f : Finish) (w : PlainWaiting) → IsGood limits s touches f → HasSoundParts limits s
      → IsSoundWaiting w → is_waiting s w.pid.0 ≡ true → can_resume limits s w ≡ false → touches ≢ object_of s w.pid.0 w.on
      → can_resume limits f.state w ≡ false
  after-waits s touches f w good h sound waiting waits apart =
      still-waits limits s f.state w sound (good.kept.creds w.pid.0) (good.others h w.pid.0 w.on waiting apart (there-of s w sound waits)) ∙ waits

  pub others-after : (s : State) (touches : Option Object) (f : Finish) → IsSound limits s → IsGood limits s touches f → HaveSameObjects s f.state
      → OthersWait limits f.state touches
  others-after s None f h good same =
      subst (λ (ws : List PlainWaiting). All (λ (w : PlainWaiting). can_resume limits f.state w ≡ false) ws) (sym good.wait)
      (λ k d i.
      let w = get_or s.wait k d in
      let sound = h.parts.wait.each k d i in
      let waits = (h.waits k d i).waits in
      after-waits s None f w good h.parts sound (all-waiting s.wait k d i) waits (there-object s w.pid.0 w.on (there-of s w sound waits)))
  others-after s (Some changed) f h good same =
      subst (λ (ws : List PlainWaiting). All (λ (w : PlainWaiting). Some changed ≢ object_of f.state w.pid.0 w.on → can_resume limits f.state w ≡ false) ws)
      (sym good.wait)
      (λ k d i apart.
      after-waits s (Some changed) f (get_or s.wait k d) good h.parts (h.parts.wait.each k d i) (all-waiting s.wait k d i) (h.waits k d i).waits
      (λ one. apart (one ∙ sym (same k d i))))

  -- one that had to wait has to wait on, if what another process's call has changed does not concern it
  pub spared-waits : (s : State) (pid : ℕ) (again : Bool) (kind : PlainKind) (f : Finish) → tried limits s pid again kind ≡ Finishes f
      → (other : ℕ) → other ≢ pid → (waits : PlainKind) → concerns (change_of kind) waits ≡ false
      → not (has_to_wait (tried limits s other true waits)) ≡ false → not (has_to_wait (tried limits f.state other true waits)) ≡ false
  spared-waits s pid again (Sysv call) f is other apart (Sysv waits) free had =
      ap not (call-spares limits s pid again call f is other apart waits free (opposite _ had))
  spared-waits s pid again (Sysv call) f is other apart (Posix waits) free had = let yes = posix-concerned (change_of (Sysv call)) waits in cc
  spared-waits s pid again (Sysv call) f is other apart (Hello cred) free had = cc
  spared-waits s pid again (Sysv call) f is other apart Interrupts free had = cc
  spared-waits s pid again (Posix call) f is other apart waits free had = cc
  spared-waits s pid again (Hello cred) f is other apart waits free had = cc
  spared-waits s pid again Interrupts f is other apart waits free had = cc

  -- so do all of them that wait, after a call
  pub spared-after : (s : State) (pid : ℕ) (kind : PlainKind) (f : Finish) → IsSound limits s → is_waiting s pid ≡ false
      → f.state.wait ≡ s.wait → tried limits s pid false kind ≡ Finishes f → SparedWait limits f.state (change_of kind)
  spared-after s pid kind f h free same is =
      subst (λ (ws : List PlainWaiting). All (λ (w : PlainWaiting). concerns (change_of kind) w.call.kind ≡ false → can_resume limits f.state w ≡ false) ws)
      (sym same)
      (λ k d i spared.
      let w = get_or s.wait k d in
      spared-waits s pid false kind f is w.pid.0
      (λ one. absurd (let waits : is_waiting s pid ≡ true = subst (λ (p : ℕ). is_waiting s p ≡ true) one (all-waiting s.wait k d i) in cc))
      w.call.kind spared (h.waits k d i).waits)

  -- what a call is refused that leaves this state, the state is the one before it, so that all wait still
  pub refused-waits : (s u : State) (pid : ℕ) (kind : PlainKind) (answer : Result (Body (Vec ℕ)) Errno) (fired : Option Registration) → IsSound limits s
      → tried limits s pid false kind ≡ Finishes (finish_firing u answer fired) → is_ok answer ≡ false → OthersWait limits u None
  refused-waits s u pid kind (Ok body) fired h is bad = cc
  refused-waits s u pid kind (Err e) fired h is bad =
      let same : u ≡ s = subst (IfFinishes (λ (f : Finish). is_some f.errno ≡ true → f.state ≡ s)) is (refused-state limits s pid false kind) refl in
      subst (λ (t : State). OthersWait limits t None) (sym same) (λ k d i. (h.waits k d i).waits)

  pub linked-after : (s : State) (touches : Option Object) (f : Finish) → IsSound limits s → IsGood limits s touches f → AreLinked f.state
  linked-after s touches f h good =
      subst (λ (ws : List PlainWaiting). All (λ (w : PlainWaiting). is_process f.state w.pid.0 ≡ true) ws) (sym good.wait)
      (λ k d i. same-connected s f.state (get_or s.wait k d).pid.0 good.kept ∙ (h.waits k d i).process)

  -- those that wait besides the process of a call that has ended are on their objects still
  pub objects-after : (s : State) (pid : ℕ) (touches : Option Object) (f : Finish) → is_waiting s pid ≡ false → HasEnded limits s pid touches f
      → HaveSameObjects s f.state
  objects-after s pid touches f free ended = λ k d i.
      let w = get_or s.wait k d in
      (ended.leaves w.pid.0).objects
      (λ same. absurd (let waits : is_waiting s pid ≡ true = subst (λ (p : ℕ). is_waiting s p ≡ true) same (all-waiting s.wait k d i) in cc)) w.on

  -- nothing has changed, and nobody goes on
  pub untouched-settled : (s : State) → OthersWait limits s None → settle limits s ≡ silent s
  untouched-settled s others = settle-nothing limits s others

  -- ---- one after another

  -- who waits besides one that has left is another
  pub left-apart : (s : State) (w : PlainWaiting) (pid : ℕ) → is_waiting (without_waiting s w.pid.0) pid ≡ true → pid ≢ w.pid.0
  left-apart s w pid waiting same =
      let yes : is_waiting (without_waiting s w.pid.0) w.pid.0 ≡ true =
      subst (λ (p : ℕ). is_waiting (without_waiting s w.pid.0) p ≡ true) same waiting in
      let no = left-free s w in
      cc

  module _ (s : State) (on : Object) (h : HasSoundParts limits s) (others : OthersWait limits s (Some on)) (w : PlainWaiting)
      (first : find (can_resume limits s) s.wait ≡ Some w) where
    first-sound : IsSoundWaiting w
    first-sound = found-all (can_resume limits s) IsSoundWaiting s.wait w h.wait.each first

    -- who goes on waited on the object
    first-on : Some on ≡ object_of s w.pid.0 w.on
    first-on = by_object (same_object on (object_of s w.pid.0 w.on))
      where
        by_object : (Some on ≡ object_of s w.pid.0 w.on) ⊎ (Some on ≢ object_of s w.pid.0 w.on) → Some on ≡ object_of s w.pid.0 w.on
        by_object (inl same) = same
        by_object (inr apart) =
            let waits = found-all (can_resume limits s) (λ (v : PlainWaiting). Some on ≢ object_of s v.pid.0 v.on → can_resume limits s v ≡ false)
            s.wait w others first in
            absurd (let no = waits apart in let yes = found-passes (can_resume limits s) s.wait w first in cc)

    pub others-resumed : OthersWait limits (resumed limits s w).state (Some on)
    others-resumed =
        let r = resumed-has limits s w first-sound in
        let t = (resumed limits s w).state in
        let rest = without w.pid s.wait in
        subst (λ (ws : List PlainWaiting). All (λ (v : PlainWaiting). Some on ≢ object_of t v.pid.0 v.on → can_resume limits t v ≡ false) ws) (sym r.wait)
        (λ k d i apart.
        let v = get_or rest k d in
        let waiting = all-waiting rest k d i in
        let sound = All-filter (λ (v : PlainWaiting). not (is_of w.pid v)) IsSoundWaiting s.wait h.wait.each k d i in
        let same = r.objects v.pid.0 v.on (left-apart s w v.pid.0 waiting) in
        let other : Some on ≢ object_of s v.pid.0 v.on = λ one. apart (one ∙ sym same) in
        let waits = All-filter (λ (v : PlainWaiting). not (is_of w.pid v))
        (λ (v : PlainWaiting). Some on ≢ object_of s v.pid.0 v.on → can_resume limits s v ≡ false) s.wait others k d i other in
        still-waits limits s t v sound (r.kept.creds v.pid.0)
        (r.others h v.pid.0 v.on waiting (λ one. other (first-on ∙ one)) (there-of s v sound waits)) ∙ waits)

  -- besides one that goes on, those have to wait that neither its change concerns nor those before
  pub spared-resumed : (s : State) (change : Change) (w : PlainWaiting) → HasSoundParts limits s → SparedWait limits s change
      → find (can_resume limits s) s.wait ≡ Some w → SparedWait limits (resumed limits s w).state (joined change (change_of w.call.kind))
  spared-resumed s change w h spared first =
      let r = resumed-has limits s w (found-all (can_resume limits s) IsSoundWaiting s.wait w h.wait.each first) in
      let t = (resumed limits s w).state in
      let rest = without w.pid s.wait in
      let more = joined change (change_of w.call.kind) in
      subst (λ (ws : List PlainWaiting). All (λ (v : PlainWaiting). concerns more v.call.kind ≡ false → can_resume limits t v ≡ false) ws) (sym r.wait)
      (λ k d i free.
      let v = get_or rest k d in
      let both = spared-both change (change_of w.call.kind) v.call.kind free in
      let sound = All-filter (λ (v : PlainWaiting). not (is_of w.pid v)) IsSoundWaiting s.wait h.wait.each k d i in
      let had = All-filter (λ (v : PlainWaiting). not (is_of w.pid v))
      (λ (v : PlainWaiting). concerns change v.call.kind ≡ false → can_resume limits s v ≡ false) s.wait spared k d i both.0 in
      by_tried v (left-apart s w v.pid.0 (all-waiting rest k d i)) both.1 (still-waits limits s left v sound refl
      (as-before v.pid.0 v.on s left refl refl refl refl (λ p q. refl) refl) ∙ had) (tried limits left w.pid.0 true w.call.kind) refl)
    where
      left : State
      left = without_waiting s w.pid.0

      by_tried : (v : PlainWaiting) → v.pid.0 ≢ w.pid.0 → concerns (change_of w.call.kind) v.call.kind ≡ false → can_resume limits left v ≡ false
          → (r : Tried) → tried limits left w.pid.0 true w.call.kind ≡ r → can_resume limits (answered w left r).state v ≡ false
      by_tried v apart free had (Finishes f) is = spared-waits left w.pid.0 true w.call.kind f is v.pid.0 apart v.call.kind free had
      by_tried v apart free had Waits is = had

  pub linked-resumed : (s : State) (w : PlainWaiting) → IsSoundWaiting w → AreLinked s → AreLinked (resumed limits s w).state
  linked-resumed s w sound linked =
      let r = resumed-has limits s w sound in
      let t = (resumed limits s w).state in
      subst (λ (ws : List PlainWaiting). All (λ (v : PlainWaiting). is_process t v.pid.0 ≡ true) ws) (sym r.wait)
      (All-filter (λ (v : PlainWaiting). not (is_of w.pid v)) (λ (v : PlainWaiting). is_process t v.pid.0 ≡ true) s.wait
      (λ k d i. same-connected s t (get_or s.wait k d).pid.0 r.kept ∙ linked k d i))

  pub within-none : (n : ℕ) (s : State) → find (can_resume limits s) s.wait ≡ None → settle_within limits n s ≡ silent s
  unfolding settle_within
  within-none zero s none = refl
  within-none (suc n) s none = ap (λ (r : Option PlainWaiting). resumed_first limits s r (settle_within limits n)) none

  pub within-some : (n : ℕ) (s : State) (w : PlainWaiting) → find (can_resume limits s) s.wait ≡ Some w
      → settle_within limits (suc n) s ≡ after (resumed limits s w) (settle_within limits n)
  unfolding settle_within
  within-some n s w first = ap (λ (r : Option PlainWaiting). resumed_first limits s r (settle_within limits n)) first

  pub within-all : (s : State) → settle limits s ≡ settle_within limits (length s.wait) s
  unfolding settle
  within-all s = refl

  pub within-nothing : (s : State) → settle_within limits 0 s ≡ silent s
  unfolding settle_within
  within-nothing s = refl

  -- one more has gone on
  pub record ResumesOne (s t : State) (among : Option Object) (old new : List PlainOutcome) : Type 0 where
    pub parts : HasSoundParts limits t
    pub linked : AreLinked t
    pub rest : RestWaits limits t among
    pub room : length new + 2 * length t.wait ≤ length old + 2 * length s.wait

  -- what waits on objects that have not changed has to wait on
  rest-resumed : (s : State) (among : Option Object) (w : PlainWaiting) → HasSoundParts limits s → RestWaits limits s among
      → find (can_resume limits s) s.wait ≡ Some w → RestWaits limits (resumed limits s w).state among
  rest-resumed s None w h rest first = λ k d i no. absurd (no tt)
  rest-resumed s (Some on) w h rest first = others-resumed s on h rest w first

  pub goes-on : (s t : State) (among : Option Object) (old new : List PlainOutcome) (w : PlainWaiting) → HasSoundParts limits s → AreLinked s
      → RestWaits limits s among
      → find (can_resume limits s) s.wait ≡ Some w → t ≡ (resumed limits s w).state → new ≡ old ++ (resumed limits s w).outcomes → ResumesOne s t among old new
  goes-on s t among old new w h linked rest-waits first is said =
      let now = resumed limits s w in
      let sound = found-all (can_resume limits s) IsSoundWaiting s.wait w h.wait.each first in
      let r = resumed-has limits s w sound in
      record {
        parts = subst (HasSoundParts limits) (sym is) (r.parts h);
        linked = subst (λ (u : State). AreLinked u) (sym is) (linked-resumed s w sound linked);
        rest = subst (λ (u : State). RestWaits limits u among) (sym is) (rest-resumed s among w h rest-waits first);
        room = omega (
          arith,
          ap length said,
          length-append old now.outcomes,
          r.few,
          ap (λ (u : State). length u.wait) is,
          ap length r.wait,
          (found-in (can_resume limits s) s.wait w h.wait.pids first).fewer,
        );
      }
