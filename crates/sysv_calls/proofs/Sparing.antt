-- A call that has come to its end leaves those waiting that its change does not concern.
use Rattle.std.proofs.Common.{◌≡◌, ◌≢◌, ◌∙◌, ℕ, ℤ, pos, Bool, true, false, not, nat_eq}
use Rattle.std.proofs.Common.{List, [], ◌∷◌, length, length-append, arith, get_or, refl, sym, ap, subst}
use Rattle.std.specs.Prelude.{All, ◌||◌, ◌≤◌, nat_lt, Option, Some, None, Ok, Err, unwrap_or, option_map, cond, bit_and, bit_or, ◌==◌}
use Rattle.std.specs.FinMap as fin
use Rattle.std.specs.FinMap.{get-remove}
use Rattle.std.specs.List.{fold}
use Rattle.std.proofs.lemmas.Bool.{eqb-false, eqb-true, not-false}
use Rattle.std.proofs.lemmas.Bool.Decides.{nat_tests}
use Rattle.std.proofs.lemmas.Nat.{and_comm}
use Rattle.std.proofs.lemmas.List.{get_or-set_other, length-set, map-set}
use Rattle.std.proofs.lemmas.List.Elements.{All-map, All-weaker}
use Rattle.std.proofs.lemmas.List.Sums.{sum_by-append}
use Rattle.ipc_base.specs.declared.errno.Errno.TheVariants.{ERANGE}
use Rattle.ipc_base.specs.declared.identity.Pid.{Pid}
use Rattle.ipc_limits.specs.declared.limits.Limits.{Limits}
use Rattle.ipc_limits.specs.Limits.{exceeds, message_limit}
use Rattle.ipc_base.specs.Table.{seen_as, value_at}
use Rattle.ipc_base.proofs.CallerLemmas.{at-map, at-with, other-with}
use Rattle.ipc_wire.specs.Posix.{PlainPosix}
use Rattle.ipc_wire.specs.Request.{PlainSysv, PlainKind, Sysv, Posix}
use Rattle.ipc_wire.specs.Request as requests
use Rattle.ipc_wire.specs.SemBufs.{operations_in}
use Rattle.sem_undo.specs.Undo.{Key, Undo, adjustment, cleared}
use Rattle.sem_undo.proofs.CallerLemmas.{key_total, key_other}
use Rattle.sysv_msg.specs.Queue.{PlainMessage, Queue, full, is_sought, sent, taken}
use Rattle.sysv_msg.proofs.CallerLemmas.{pick-added, pick-removed}
use Rattle.sysv_sem.specs.declared.operation.Operation.{Operation}
use Rattle.sysv_sem.specs.declared.operation.Trial.{Trial}
use Rattle.sysv_sem.specs.declared.set.Semaphore.{Semaphore}
use Rattle.sysv_sem.specs.Set.{Set, carried, values_of, with_value}
use Rattle.sysv_sem.proofs.CallerLemmas.{length-carried}
use Rattle.ipc_state.specs.declared.parked.Awaited.TheVariants as awaited
use Rattle.ipc_state.specs.Bits.{bit_of, bits_of}
use Rattle.ipc_state.specs.Bound.{holding}
use Rattle.ipc_state.specs.Finish.{Attempt, Fails, Blocks, Finish, Finishes, IfFinishes, done_firing, has_to_wait, ◌>>=◌}
use Rattle.ipc_state.specs.Keyed.{KeyedEntry}
use Rattle.ipc_state.specs.State.{State, cred_of, semset_of, undo_of, with_semset, without_adjustments}
use Rattle.ipc_state.specs.Steps.{seen}
use Rattle.ipc_state.proofs.CallerLemmas.{after, after-orelse, at-all, at-value, by-finish, is_blocked, waits-as-tested}
use Rattle.sysv_calls.specs.Access.{has, write}
use Rattle.sysv_calls.specs.Calls.{attempt}
use Rattle.sysv_calls.specs.declared.concern.Change.{Change}
use Rattle.sysv_calls.specs.declared.concern.Change.TheVariants.{Anything, Semaphores, Received, Sent}
use Rattle.sysv_calls.specs.Concern.{change_of, concerns, joined}
use Rattle.sysv_calls.specs.Msg.{except, msgrcv, msgsnd}
use Rattle.sysv_calls.specs.Sem.{semctl_setval, value_of}
use Rattle.sysv_calls.specs.Semop.{held_by, noted, notes_too_many, operated, operation_of, operations_of, performable, proceeding, semop, tried_list}
use Rattle.sysv_calls.proofs.Ending.{those}
use Rattle.sysv_calls.proofs.EveryCall.{never-waits}
use Rattle.sysv_calls.proofs.Families.{IsOther, by-waiting}
use Rattle.sysv_calls.proofs.Lists.{IsSameAt, met_at, same-met, value-carried}
use Rattle.sysv_calls.proofs.Reaching.{IsFound, Operates, operates, receives, semaphore-ends, sends}
use Rattle.sysv_calls.proofs.SemopCalls.{noted-apart, put-apart}
use Rattle.sysv_calls.proofs.Stopping.{refused-blocks, settled, settles}
use Rattle.sysv_calls.proofs.Waits.{still-receives, still-sends, waits-alike}
use Rattle.sysv_calls.proofs.Words.{AreApart, first-apart, named-apart, other-bit, second-apart, unnamed}

-- ---- lists

seen-blocked : {X Y : Type 0} (f : X → Y) (a : Attempt X) → is_blocked (seen f a) ≡ is_blocked a
seen-blocked f (Ok x) = refl
seen-blocked f (Err (Fails e)) = refl
seen-blocked f (Err Blocks) = refl

-- A set keeps its permissions, how many semaphores it has, and the values of those that share no bit with a word; and the
-- process the adjustments there.
record IsKept (other id word : ℕ) (s t : State) : Type 0 where
  before : KeyedEntry Set
  after : KeyedEntry Set
  was : semset_of s id ≡ Some before
  is : semset_of t id ≡ Some after
  cred : cred_of t other ≡ cred_of s other
  perm : after.perm ≡ before.perm
  long : length after.object.semaphores ≡ length before.object.semaphores
  value : (num : ℕ) → AreApart (bit_of num) word → get_or (values_of after.object) num 0 ≡ get_or (values_of before.object) num 0
  held : (num : ℕ) → AreApart (bit_of num) word → held_by t other id num ≡ held_by s other id num

module _ (limits : Limits) (other id timeout : ℕ) (bytes : List ℕ) where
  abbrev ops : List Operation
  ops = operations_of bytes

  -- whether a list has to wait, its tests say
  list-waits : (u : State) → has_to_wait (attempt limits u other true (requests.Semop id timeout bytes))
      ≡ is_blocked (met_at limits (cred_of u other) ops (held_by u other id) (semset_of u id) >>= settled ops)
  list-waits u =
      let tests = proceeding limits u (cred_of u other) other true id ops in
      waits-as-tested u (performable limits u (cred_of u other) other true id ops) _
      ∙ refused-blocks (notes_too_many limits u other id ops) tests
      ∙ sym (seen-blocked (λ found. tt) tests)
      ∙ ap is_blocked (sym (settles ops (tried_list limits u (cred_of u other) other true id ops)))

  -- so a list waits as before that names none of the others
  kept-waits : (word : ℕ) (s t : State) → IsKept other id word s t → AreApart (bits_of (operations_in bytes)) word
      → has_to_wait (attempt limits t other true (requests.Semop id timeout bytes))
      ≡ has_to_wait (attempt limits s other true (requests.Semop id timeout bytes))
  kept-waits word s t kept apart =
      let named : All (λ o. AreApart (bit_of o.num) word) ops =
      All-map (λ (o : Operation). AreApart (bit_of o.num) word) operation_of (operations_in bytes) (named-apart (operations_in bytes) word apart) in
      let Q : Operation → Type 0 = IsSameAt (values_of kept.before.object) (values_of kept.after.object) (held_by s other id) (held_by t other id) in
      let all : All Q ops = All-weaker (λ o. AreApart (bit_of o.num) word) Q
      (λ o free. let same : Q o = record { value = kept.value o.num free; adjustment = kept.held o.num free } in same) ops named in
      let same : met_at limits (cred_of t other) ops (held_by t other id) (semset_of t id)
      ≡ met_at limits (cred_of s other) ops (held_by s other id) (semset_of s id) =
      (λ i. met_at limits (kept.cred i) ops (held_by t other id) (kept.is i))
      ∙ same-met limits (cred_of s other) ops kept.before kept.after (held_by s other id) (held_by t other id) kept.perm kept.long all
      ∙ ap (met_at limits (cred_of s other) ops (held_by s other id)) (sym kept.was) in
      list-waits t ∙ ap (λ (a : Attempt Trial). is_blocked (a >>= settled ops)) same ∙ sym (list-waits s)

-- ---- what changes semaphores

-- the adjustments of a process after one was cleared, but at that semaphore
cleared-other : (u : Undo) (id num : ℕ) (k : Key) → k ≢ (id, num) → adjustment (cleared id (Some num) u) k ≡ adjustment u k
cleared-other u id num k apart =
    ap (λ (r : Option ℤ). unwrap_or r (pos 0)) (get-remove key_total u (id, num) k ∙ ap (λ (b : Bool). cond b None (fin.get u k)) (key_other k (id, num) apart))

cleared-each : (undo : List (ℕ × Undo)) (id num pid : ℕ) (k : Key) → k ≢ (id, num)
    → adjustment (those (seen_as (cleared id (Some num)) undo) pid) k ≡ adjustment (those undo pid) k
cleared-each undo id num pid k apart =
    ap (λ (r : Option Undo). adjustment (unwrap_or r fin.empty) k) (at-map (cleared id (Some num)) undo pid) ∙ by_value (value_at nat_eq undo pid)
  where
    by_value : (r : Option Undo) → adjustment (unwrap_or (option_map (cleared id (Some num)) r) fin.empty) k ≡ adjustment (unwrap_or r fin.empty) k
    by_value None = refl
    by_value (Some u) = cleared-other u id num k apart

module _ (limits : Limits) (s : State) (other : ℕ) where
  -- one that had to wait has to wait on
  abbrev StillWaits : PlainSysv → State → Type 0
  StillWaits waiting t = has_to_wait (attempt limits s other true waiting) ≡ true → has_to_wait (attempt limits t other true waiting) ≡ true

  module _ (n timeout : ℕ) (bytes : List ℕ) where
    abbrev waiting : PlainSysv
    waiting = requests.Semop n timeout bytes

    -- by whether it is a list on the set that has changed
    by-set : (id : ℕ) (t : State) → (n ≡ id → has_to_wait (attempt limits t other true waiting) ≡ has_to_wait (attempt limits s other true waiting))
        → (n ≢ id → has_to_wait (attempt limits t other true waiting) ≡ has_to_wait (attempt limits s other true waiting)) → StillWaits waiting t
    by-set id t one apart waits = by_id (nat_eq n id) refl
      where
        by_id : (b : Bool) → nat_eq n id ≡ b → has_to_wait (attempt limits t other true waiting) ≡ true
        by_id true is = one (eqb-true n id is) ∙ waits
        by_id false is = apart (eqb-false n id is) ∙ waits

    -- after a list of operations of another process
    operated-spares : (pid id : ℕ) (theirs : List ℕ) (found : KeyedEntry Set × List ℕ) → Operates limits s pid id (operations_of theirs) found → other ≢ pid
        → AreApart (bits_of (operations_in bytes)) (bits_of (operations_in theirs)) → StillWaits waiting (operated s pid id (operations_of theirs) found)
    operated-spares pid id theirs found ok another apart = by-set id t on_same on_other
      where
        os : List Operation
        os = operations_of theirs

        p : Pid
        p = record { 0 = pid }

        new : KeyedEntry Set
        new = holding found.0 (carried found.0.object found.1 os p s.clock)

        t : State
        t = operated s pid id os found

        kept : IsKept other id (bits_of (operations_in theirs)) s t
        kept = record {
          before = found.0;
          after = new;
          was = ok.there;
          is = at-with s.semset.entries id new found.0 ok.there;
          cred = refl;
          perm = refl;
          long = length-carried found.0.object (held_by s pid id) ok.done.0 os found.1 p s.clock ok.done.1;
          value = λ num free. value-carried num found.0.object (held_by s pid id) ok.done.0 os found.1 p s.clock ok.done.1
              (All-map (λ (o : Operation). o.num ≢ num) operation_of (operations_in theirs) (unnamed num (operations_in theirs) free));
          held = λ num free. ap (λ (r : Option Undo). adjustment (unwrap_or r fin.empty) (id, num))
              (other-with s.undo pid other (fold (noted id) (undo_of s pid) os) another);
        }

        on_same : n ≡ id → has_to_wait (attempt limits t other true waiting) ≡ has_to_wait (attempt limits s other true waiting)
        on_same same =
            subst (λ (m : ℕ). has_to_wait (attempt limits t other true (requests.Semop m timeout bytes))
            ≡ has_to_wait (attempt limits s other true (requests.Semop m timeout bytes))) (sym same)
            (kept-waits limits other id timeout bytes (bits_of (operations_in theirs)) s t kept apart)

        on_other : n ≢ id → has_to_wait (attempt limits t other true waiting) ≡ has_to_wait (attempt limits s other true waiting)
        on_other far =
            waits-alike limits s t other true true waiting (awaited.Semset (record { 0 = n })) refl refl (
              other-with s.semset.entries id n new far,
              λ q num.
                  put-apart s.undo pid (fold (noted id) (undo_of s pid) os) (n, num) (noted-apart id (undo_of s pid) os (n, num) far) q,
            )

    -- after SETVAL
    set-spares : (pid id num v : ℕ) (found : KeyedEntry Set × Semaphore) → IsFound s id num found → AreApart (bits_of (operations_in bytes)) (bit_of num)
        → StillWaits waiting
        (without_adjustments id (Some num) (with_semset s id (holding found.0 (with_value found.0.object num v (record { 0 = pid }) s.clock))))
    set-spares pid id num v found ok apart = by-set id t on_same on_other
      where
        x : Semaphore
        x = record { value = v; pid = record { 0 = pid } }

        new : KeyedEntry Set
        new = holding found.0 (with_value found.0.object num v (record { 0 = pid }) s.clock)

        t : State
        t = without_adjustments id (Some num) (with_semset s id new)

        kept : IsKept other id (bit_of num) s t
        kept = record {
          before = found.0;
          after = new;
          was = ok.there;
          is = at-with s.semset.entries id new found.0 ok.there;
          cred = refl;
          perm = refl;
          long = length-set found.0.object.semaphores num x;
          value = λ m free. ap (λ (l : List ℕ). get_or l m 0) (map-set (λ (y : Semaphore). y.value) found.0.object.semaphores num x)
              ∙ get_or-set_other (values_of found.0.object) num m v 0 (other-bit m num free);
          held = λ m free. cleared-each s.undo id num other (id, m) (λ same. other-bit m num free (ap (λ (k : Key). k.1) same));
        }

        on_same : n ≡ id → has_to_wait (attempt limits t other true waiting) ≡ has_to_wait (attempt limits s other true waiting)
        on_same same =
            subst (λ (m : ℕ). has_to_wait (attempt limits t other true (requests.Semop m timeout bytes))
            ≡ has_to_wait (attempt limits s other true (requests.Semop m timeout bytes))) (sym same)
            (kept-waits limits other id timeout bytes (bit_of num) s t kept apart)

        on_other : n ≢ id → has_to_wait (attempt limits t other true waiting) ≡ has_to_wait (attempt limits s other true waiting)
        on_other far =
            waits-alike limits s t other true true waiting (awaited.Semset (record { 0 = n })) refl refl (
              other-with s.semset.entries id n new far,
              λ q m.
                  cleared-each s.undo id num q (n, m) (λ same. far (ap (λ (k : Key). k.0) same)),
            )

-- ---- what a send changes

-- a full queue is full when one message more has come
full-sent : (limit : Option ℕ) (q : Queue) (m : PlainMessage) (pid moment bytes : ℕ) → full limit q bytes ≡ true
    → full limit (sent q m pid moment) bytes ≡ true
full-sent limit q m pid moment bytes is =
    let more = sum_by-append (λ (o : PlainMessage). length o.text) q.messages (m ∷ []) in
    let long = length-append q.messages (m ∷ []) in
    grown limit q.qbytes _ _ _ _ (omega arith) (omega arith) is
  where
    -- more bytes and more messages are too many where fewer are
    grown : (o : Option ℕ) (most less more n m : ℕ) → less ≤ more → n ≤ m
        → (nat_lt most less || nat_lt most n || exceeds n o) ≡ true → (nat_lt most more || nat_lt most m || exceeds m o) ≡ true
    grown None most less more n m le few is = grind (arith, nat_tests)
    grown (Some limit) most less more n m le few is = grind (arith, nat_tests)

-- ---- the law

-- a change concerns each POSIX call that waits: of those it tells nothing
pub posix-concerned : (change : Change) (call : PlainPosix) → concerns change (Posix call) ≡ true
posix-concerned Anything call = refl
posix-concerned (Semaphores word) call = refl
posix-concerned Received call = refl
posix-concerned (Sent mtype) call = refl

-- a test that says that they share free bit
apart-of : (a b : ℕ) → not (bit_and a b == 0) ≡ false → AreApart a b
apart-of a b is = eqb-true (bit_and a b) 0 (not-false (bit_and a b == 0) is)

-- two changes concern whom either concerns
pub spared-both : (change more : Change) (kind : PlainKind) → concerns (joined change more) kind ≡ false
    → (concerns change kind ≡ false) × (concerns more kind ≡ false)
spared-both (Semaphores word) (Semaphores others) kind is = by_kind kind is
  where
    not-of : (n : ℕ) → n ≡ 0 → not (n == 0) ≡ false
    not-of n none = ap (λ (m : ℕ). not (m == 0)) none

    by_kind : (k : PlainKind) → concerns (Semaphores (bit_or word others)) k ≡ false
        → (concerns (Semaphores word) k ≡ false) × (concerns (Semaphores others) k ≡ false)
    by_kind (Sysv (requests.Semop id timeout bytes)) free =
        let bits = bits_of (operations_in bytes) in
        let apart : AreApart (bit_or word others) bits = and_comm (bit_or word others) bits ∙ apart-of bits (bit_or word others) free in (
          not-of _ (and_comm bits word ∙ first-apart word others bits apart),
          not-of _ (and_comm bits others ∙ second-apart word others bits apart),
        )
    by_kind k free = cc
spared-both Received Received kind is = (is, is)
spared-both change more kind is = cc

-- when a call of a process has come to its end, those of the others have to wait on that its change does not concern
module _ (limits : Limits) (s : State) (pid : ℕ) (again : Bool) where
  abbrev Spares : PlainSysv → Type 0
  Spares call = (f : Finish) → attempt limits s pid again call ≡ Finishes f → (other : ℕ) → other ≢ pid
      → (waiting : PlainSysv) → concerns (change_of (Sysv call)) (Sysv waiting) ≡ false → StillWaits limits s other waiting f.state

  -- one that never waits does not
  never : (other : ℕ) (waiting : PlainSysv) (t : State) → IsOther waiting → StillWaits limits s other waiting t
  never other waiting t none waits = let not-so = never-waits limits s other true waiting none.never in cc

  list-spares : (id timeout : ℕ) (bytes : List ℕ) → Spares (requests.Semop id timeout bytes)
  list-spares id timeout bytes f is other apart =
      by-waiting (λ (w : PlainSysv). concerns (change_of (Sysv (requests.Semop id timeout bytes))) (Sysv w) ≡ false → StillWaits limits s other w f.state)
      (λ n flags mtype text free. cc) (λ n flags size mtype free. cc) with_list (λ w none free. never other w f.state none)
    where
      with_list : (n wait : ℕ) (theirs : List ℕ) → not (bit_and (bits_of (operations_in theirs)) (bits_of (operations_in bytes)) == 0) ≡ false
          → StillWaits limits s other (requests.Semop n wait theirs) f.state
      with_list n wait theirs free =
          let P : Finish → Type 0 = λ g. StillWaits limits s other (requests.Semop n wait theirs) g.state in
          subst (IfFinishes P) is (by-finish P s (semop limits s (cred_of s pid) pid again id bytes)
          (after {P = λ d. P (done_firing d.state d.body d.fired)} (at-all (operates limits s (cred_of s pid) pid again id (operations_of bytes)))
          (λ found ok. at-value _ (operated-spares limits s other n wait theirs pid id bytes found ok apart (apart-of _ _ free)))).holds (λ e waits. waits))

  value-spares : (id num : ℕ) (value : ℤ) → Spares (requests.SemctlSetVal id num value)
  value-spares id num value f is other apart =
      by-waiting (λ (w : PlainSysv). concerns (change_of (Sysv (requests.SemctlSetVal id num value))) (Sysv w) ≡ false → StillWaits limits s other w f.state)
      (λ n flags mtype text free. cc) (λ n flags size mtype free. cc) with_list (λ w none free. never other w f.state none)
    where
      with_list : (n wait : ℕ) (theirs : List ℕ) → not (bit_and (bits_of (operations_in theirs)) (bit_of num) == 0) ≡ false
          → StillWaits limits s other (requests.Semop n wait theirs) f.state
      with_list n wait theirs free =
          let P : Finish → Type 0 = λ g. StillWaits limits s other (requests.Semop n wait theirs) g.state in
          subst (IfFinishes P) is (by-finish P s (semctl_setval s (cred_of s pid) pid id num value)
          (after {P = λ d. P (done_firing d.state d.body d.fired)} (semaphore-ends {never = true} s (cred_of s pid) id num write)
          (λ found ok. after-orelse ERANGE {o = value_of value} (λ v known.
          at-value _ (set-spares limits s other n wait theirs pid id num v found ok (apart-of _ _ free))))).holds (λ e waits. waits))

  -- after a receive, which takes a message, each other receive that found none finds none
  receive-spares : (id flags size : ℕ) (mtype : ℤ) → Spares (requests.Msgrcv id flags size mtype)
  receive-spares id flags size mtype f is other apart =
      by-waiting (λ (w : PlainSysv). concerns Received (Sysv w) ≡ false → StillWaits limits s other w f.state) (λ n fs t text free. cc)
      with_receive (λ n wait theirs free. cc) (λ w none free. never other w f.state none)
    where
      with_receive : (n fs sz : ℕ) (t : ℤ) → false ≡ false → StillWaits limits s other (requests.Msgrcv n fs sz t) f.state
      with_receive n fs sz t free =
          let P : Finish → Type 0 = λ g. StillWaits limits s other (requests.Msgrcv n fs sz t) g.state in
          subst (IfFinishes P) is (by-finish P s (msgrcv s (cred_of s pid) pid again id flags size mtype)
          (after {P = λ d. P (done_firing d.state d.body d.fired)} (at-all (receives s (cred_of s pid) again id flags size mtype))
          (λ found ok. at-value _ (still-receives limits s other n fs sz t id found.0 (taken found.0.object found.1 pid s.clock) ok.there
          (pick-removed found.0.object.messages t (has fs except) found.1)))).holds (λ e waits. waits))

  -- after a send a full queue is full, and a receive finds none that does not look for its type
  send-spares : (id flags : ℕ) (mtype : ℤ) (text : List ℕ) → Spares (requests.Msgsnd id flags mtype text)
  send-spares id flags mtype text f is other apart =
      by-waiting (λ (w : PlainSysv). concerns (Sent mtype) (Sysv w) ≡ false → StillWaits limits s other w f.state) with_send with_receive
      (λ n wait theirs free. cc) (λ w none free. never other w f.state none)
    where
      m : PlainMessage
      m = record { mtype = mtype; text = text }

      with_send : (n fs : ℕ) (t : ℤ) (theirs : List ℕ) → false ≡ false → StillWaits limits s other (requests.Msgsnd n fs t theirs) f.state
      with_send n fs t theirs free =
          let P : Finish → Type 0 = λ g. StillWaits limits s other (requests.Msgsnd n fs t theirs) g.state in
          subst (IfFinishes P) is (by-finish P s (msgsnd limits s (cred_of s pid) pid again id flags mtype text)
          (after {P = λ d. P (done_firing d.state d.body d.fired)} (at-all (sends limits s (cred_of s pid) again id flags mtype text))
          (λ e ok. at-value _ (still-sends limits s other n fs t theirs id e (sent e.object m pid s.clock) ok.there
          (full-sent (message_limit limits) e.object m pid s.clock (length theirs))))).holds (λ e waits. waits))

      with_receive : (n fs sz : ℕ) (t : ℤ) → is_sought t (has fs except) mtype ≡ false → StillWaits limits s other (requests.Msgrcv n fs sz t) f.state
      with_receive n fs sz t free =
          let P : Finish → Type 0 = λ g. StillWaits limits s other (requests.Msgrcv n fs sz t) g.state in
          subst (IfFinishes P) is (by-finish P s (msgsnd limits s (cred_of s pid) pid again id flags mtype text)
          (after {P = λ d. P (done_firing d.state d.body d.fired)} (at-all (sends limits s (cred_of s pid) again id flags mtype text))
          (λ e ok. at-value _ (still-receives limits s other n fs sz t id e (sent e.object m pid s.clock) ok.there
          (pick-added e.object.messages t (has fs except) m free)))).holds (λ e waits. waits))

  pub call-spares : (call : PlainSysv) → Spares call
  call-spares (requests.Semop id timeout bytes) = list-spares id timeout bytes
  call-spares (requests.SemctlSetVal id num value) = value-spares id num value
  call-spares (requests.Msgrcv id flags size mtype) = receive-spares id flags size mtype
  call-spares (requests.Msgsnd id flags mtype text) = send-spares id flags mtype text
  call-spares call = λ f is other apart waiting free. cc
