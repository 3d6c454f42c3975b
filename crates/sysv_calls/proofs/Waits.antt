-- Whether a call has to wait depends on the limits, who makes it and its own object alone; and when a queue has changed, a
-- receive has to wait on that finds none still, and a send for which it is still full.
use Rattle.std.proofs.Common.{◌≡◌, ◌∙◌, ℕ, ℤ, pos, Bool, true, false, not, List, length, Option, Some, None, refl, sym, ap, subst}
use Rattle.std.specs.Prelude.{Ok, int_lt, nat_eq, nat_lt}
use Rattle.std.proofs.lemmas.Bool.{eqb-false, eqb-true}
use Rattle.std.proofs.lemmas.Option.{none-some}
use Rattle.ipc_base.specs.declared.errno.Errno.TheVariants.{E2BIG, EACCES, EAGAIN, EINVAL, ENOMSG}
use Rattle.ipc_base.specs.declared.identity.Cred.{Cred}
use Rattle.ipc_limits.specs.declared.limits.Limits.{Limits}
use Rattle.ipc_limits.specs.Limits.{message_limit}
use Rattle.ipc_base.proofs.CallerLemmas.{at-with, other-with}
use Rattle.ipc_perm.specs.declared.perm.Perm.{Perm}
use Rattle.ipc_perm.specs.Perm.{may}
use Rattle.ipc_wire.specs.Request.{PlainSysv, Sysv}
use Rattle.ipc_wire.specs.Request as requests
use Rattle.sysv_msg.specs.Queue.{Queue, full, pick}
use Rattle.sysv_sem.specs.declared.operation.Operation.{Operation}
use Rattle.sysv_sem.specs.Operation.{outcome}
use Rattle.sysv_sem.specs.Set.{Set, values_of}
use Rattle.ipc_state.specs.declared.parked.Awaited.{Awaited}
use Rattle.ipc_state.specs.declared.parked.Awaited.TheVariants as awaited
use Rattle.ipc_wire.specs.declared.reply.Body.TheVariants.{Empty}
use Rattle.ipc_state.specs.Finish.{Attempt, Done, Halt, ended, has_to_wait, refuse, stop, ◌orelse◌, ◌orstop◌, ◌>>◌, ◌>>=◌}
use Rattle.ipc_state.specs.Bound.{holding}
use Rattle.ipc_state.specs.Keyed.{Keyed, KeyedEntry}
use Rattle.ipc_state.specs.Numbered.{entry_of, last_number}
use Rattle.ipc_state.specs.State.{State, cred_of, semset_of, with_msg_queue}
use Rattle.ipc_state.specs.Touching.{IsAsBefore, is_there}
use Rattle.ipc_state.specs.Waiting.{awaited_by}
use Rattle.ipc_state.proofs.CallerLemmas.{AreAlike, alike-waits, is_blocked, orelse-alike, past-alike, same-alike}
use Rattle.ipc_state.proofs.CallerLemmas.{then-alike, waits-as-tested, waits-for}
use Rattle.sysv_calls.specs.Access.{accessible, gone, has, read, write}
use Rattle.sysv_calls.specs.Calls.{attempt}
use Rattle.sysv_calls.specs.Msg.{except, is_too_long, message_at, receivable, sendable, waits_or}
use Rattle.sysv_calls.specs.Semop.{held_by, notes_too_many, operable, operated, operations_of, performable, proceeding, tried_list}
use Rattle.sysv_calls.proofs.Families.{by-waiting}
use Rattle.sysv_calls.proofs.Stopping.{refused-blocks}
use Rattle.sysv_calls.proofs.Reaching.{operates, receives, sends}

-- ---- on what a call waits

-- what holds of that on which it waits holds of this
as-awaited : (P : Awaited → Type 0) {this on : Awaited} → Some this ≡ Some on → P on → P this
as-awaited P {this} {on} is = let same : this ≡ on = cc in subst P (sym same)

-- the same object for the same caller
accessible-alike : {X : Type 0} (o p : Keyed X) (c d : Cred) (again other : Bool) (id access : ℕ) → d ≡ c → entry_of p id ≡ entry_of o id
    → AreAlike (accessible other p d id access) (accessible again o c id access)
accessible-alike o p c d again other id access who same =
    subst (λ (b : Cred). AreAlike (accessible other p b id access) (accessible again o c id access)) (sym who)
    (orelse-alike (gone other) (gone again) same (λ e _. same-alike refl))

-- a list that is refused for what it would note does not wait
list-waits : (limits : Limits) (s : State) (pid : ℕ) (again : Bool) (id : ℕ) (ops : List Operation) (ends : KeyedEntry Set × List ℕ → Done)
    → has_to_wait (ended s (performable limits s (cred_of s pid) pid again id ops >>= (λ found. Ok (ends found))))
    ≡ has_to_wait (ended s (proceeding limits s (cred_of s pid) pid again id ops >>= (λ found. Ok (ends found))))
list-waits limits s pid again id ops ends =
    waits-as-tested s (performable limits s (cred_of s pid) pid again id ops) ends
    ∙ (refused-blocks (notes_too_many limits s pid id ops) (proceeding limits s (cred_of s pid) pid again id ops)
    ∙ sym (waits-as-tested s (proceeding limits s (cred_of s pid) pid again id ops) ends))

-- two states that have the same caller and the same object make the same call wait, whether it waited before or not
module _ (limits : Limits) (s t : State) (pid : ℕ) (again other : Bool) where
  abbrev IsAlike : PlainSysv → Type 0
  IsAlike call = (on : Awaited) → awaited_by (Sysv call) ≡ Some on → cred_of t pid ≡ cred_of s pid → IsAsBefore pid on s t
      → has_to_wait (attempt limits t pid other call) ≡ has_to_wait (attempt limits s pid again call)

  alike-send : (id flags : ℕ) (mtype : ℤ) (text : List ℕ) → IsAlike (requests.Msgsnd id flags mtype text)
  alike-send id flags mtype text on is who alike =
      let same : AreAlike (sendable limits t (cred_of t pid) other id flags mtype text) (sendable limits s (cred_of s pid) again id flags mtype text) =
      past-alike _ (past-alike _ (then-alike
      (accessible-alike s.msg t.msg (cred_of s pid) (cred_of t pid) again other id write who (as-awaited (λ (o : Awaited). IsAsBefore pid o s t) is alike))
      (λ e. same-alike refl))) in
      alike-waits s t _ _ same

  alike-receive : (id flags size : ℕ) (mtype : ℤ) → IsAlike (requests.Msgrcv id flags size mtype)
  alike-receive id flags size mtype on is who alike =
      let same : AreAlike (receivable t (cred_of t pid) other id flags size mtype) (receivable s (cred_of s pid) again id flags size mtype) =
      past-alike _ (then-alike
      (accessible-alike s.msg t.msg (cred_of s pid) (cred_of t pid) again other id read who (as-awaited (λ (o : Awaited). IsAsBefore pid o s t) is alike))
      (λ e. same-alike refl)) in
      alike-waits s t _ _ same

  operable-alike : (id : ℕ) (ops : List Operation) → cred_of t pid ≡ cred_of s pid → semset_of t id ≡ semset_of s id
      → AreAlike (operable limits t (cred_of t pid) other id ops) (operable limits s (cred_of s pid) again id ops)
  operable-alike id ops who same =
      subst (λ (b : Cred). AreAlike (operable limits t b other id ops) (operable limits s (cred_of s pid) again id ops)) (sym who)
      (past-alike _ (orelse-alike (gone other) (gone again) same (λ e _. same-alike refl)))

  alike-semop : (id timeout : ℕ) (operations : List ℕ) → IsAlike (requests.Semop id timeout operations)
  alike-semop id timeout operations on is who alike =
      let ops = operations_of operations in
      let as_before : IsAsBefore pid (awaited.Semset (record { 0 = id })) s t = as-awaited (λ (o : Awaited). IsAsBefore pid o s t) is alike in
      let held : held_by t pid id ≡ held_by s pid id = λ i num. as_before.1 pid num i in
      let met : AreAlike (tried_list limits t (cred_of t pid) pid other id ops) (tried_list limits s (cred_of s pid) pid again id ops) =
      then-alike (operable-alike id ops who as_before.0) (λ e. same-alike (λ i. Ok (e, outcome (values_of e.object) (held i) ops))) in
      let same : AreAlike (proceeding limits t (cred_of t pid) pid other id ops) (proceeding limits s (cred_of s pid) pid again id ops) =
      then-alike met (λ found. same-alike refl) in
      let after : State → KeyedEntry Set × List ℕ → Done = λ u found. record { state = operated u pid id ops found; body = Empty; fired = None } in
      list-waits limits t pid other id ops (after t) ∙ alike-waits s t (after s) (after t) same ∙ sym (list-waits limits s pid again id ops (after s))

  pub waits-alike : (call : PlainSysv) → IsAlike call
  waits-alike call = by-waiting IsAlike alike-send alike-receive alike-semop (λ call none on is. absurd (none-some on (sym none.never ∙ is))) call

-- what waits on an object finds it there
module _ (limits : Limits) (s : State) (pid : ℕ) (again : Bool) where
  abbrev IsThere : PlainSysv → Type 0
  IsThere call = (on : Awaited) → awaited_by (Sysv call) ≡ Some on → has_to_wait (attempt limits s pid again call) ≡ true → is_there pid on s ≡ true

  pub waits-there : (call : PlainSysv) → IsThere call
  waits-there =
      by-waiting IsThere
      (λ id flags mtype text on is waits. as-awaited IsFound (sym is) (waits-for s _ _ (sends limits s (cred_of s pid) again id flags mtype text) waits))
      (λ id flags size mtype on is waits. as-awaited IsFound (sym is) (waits-for s _ _ (receives s (cred_of s pid) again id flags size mtype) waits))
      (λ id timeout operations on is waits.
      as-awaited IsFound (sym is) (waits-for s _ _ (operates limits s (cred_of s pid) pid again id (operations_of operations)) waits))
      (λ call none on is. absurd (none-some on (sym none.never ∙ is)))
    where
      IsFound : Awaited → Type 0
      IsFound on = is_there pid on s ≡ true

-- ---- queues

-- what is blocked by its last steps on an entry is blocked on another with the same permissions, if its last steps are
still-blocked : {X : Type 0} (access : ℕ) (cred : Cred) (b : Bool) (e f : KeyedEntry Queue) (k : KeyedEntry Queue → Attempt X) → f.perm ≡ e.perm
    → (is_blocked (k e) ≡ true → is_blocked (k f) ≡ true)
    → is_blocked (refuse EINVAL b >> (refuse EACCES (not (may cred e.perm access)) >> Ok e >>= k)) ≡ true
    → is_blocked (refuse EINVAL b >> (refuse EACCES (not (may cred f.perm access)) >> Ok f >>= k)) ≡ true
still-blocked {X} access cred b e f k perm still is =
    subst (λ (p : Perm). is_blocked (refuse EINVAL b >> (refuse EACCES (not (may cred p access)) >> Ok f >>= k)) ≡ true) (sym perm)
    (by_tests b (not (may cred e.perm access)) is)
  where
    by_tests : (b1 b2 : Bool) → is_blocked (refuse EINVAL b1 >> (refuse EACCES b2 >> Ok e >>= k)) ≡ true
        → is_blocked (refuse EINVAL b1 >> (refuse EACCES b2 >> Ok f >>= k)) ≡ true
    by_tests true b2 is = cc
    by_tests false true is = cc
    by_tests false false is = still is

-- if none is picked where none was
still-none : {X : Type 0} (o p : Option ℕ) (h : Halt) (long other : ℕ → Bool) (x y : ℕ → X) → (o ≡ None → p ≡ None)
    → is_blocked (o orstop h >>= (λ at. refuse E2BIG (long at) >> Ok (x at))) ≡ true
    → is_blocked (p orstop h >>= (λ at. refuse E2BIG (other at) >> Ok (y at))) ≡ true
still-none None p h long other x y fewer is = rw (fewer refl) is
still-none {X} (Some at) p h long other x y fewer is = absurd (by_test (long at) is)
  where
    by_test : (b : Bool) → is_blocked {X = X} (refuse E2BIG b >> Ok (x at)) ≡ true → ⊥
    by_test true is = cc
    by_test false is = cc

-- if it is full where it was
still-full : {X : Type 0} (h : Halt) (b c : Bool) (x y : X) → (b ≡ true → c ≡ true) → is_blocked (stop h b >> Ok x) ≡ true
    → is_blocked (stop h c >> Ok y) ≡ true
still-full h true c x y more is = rw (more refl) is
still-full h false c x y more is = cc

-- a receive of a process that had to wait has to wait on when a queue has changed, if it finds no message where it found none
module _ (limits : Limits) (s : State) (other n flags size : ℕ) (mtype : ℤ) where
  abbrev receive : PlainSysv
  receive = requests.Msgrcv n flags size mtype

  -- its last steps, and its tests where the queue is found, or not
  abbrev found-receive : KeyedEntry Queue → Attempt (KeyedEntry Queue × ℕ)
  found-receive e = pick e.object.messages mtype (has flags except) orstop waits_or flags ENOMSG
      >>= (λ at. refuse E2BIG (is_too_long flags size (length (message_at e.object at).text)) >> Ok (e, at))

  abbrev IsReceiveBlocked : Option (KeyedEntry Queue) → Type 0
  IsReceiveBlocked o = is_blocked (refuse EINVAL (nat_lt last_number size)
      >> ((o orelse gone true >>= (λ e. refuse EACCES (not (may (cred_of s other) e.perm read)) >> Ok e)) >>= found-receive)) ≡ true

  pub still-receives : (id : ℕ) (e : KeyedEntry Queue) (q : Queue) → entry_of s.msg id ≡ Some e
      → (pick e.object.messages mtype (has flags except) ≡ None → pick q.messages mtype (has flags except) ≡ None)
      → has_to_wait (attempt limits s other true receive) ≡ true
      → has_to_wait (attempt limits (with_msg_queue s id (holding e q)) other true receive) ≡ true
  still-receives id e q there none waits = by_id (nat_eq n id) refl
    where
      t : State
      t = with_msg_queue s id (holding e q)

      tests : State → Attempt (KeyedEntry Queue × ℕ)
      tests u = receivable u (cred_of s other) true n flags size mtype

      on_same : n ≡ id → IsReceiveBlocked (entry_of t.msg n)
      on_same same =
          let before : IsReceiveBlocked (Some e) = subst IsReceiveBlocked (ap (entry_of s.msg) same ∙ there) (sym (waits-as-tested s (tests s) _) ∙ waits) in
          subst IsReceiveBlocked (sym (ap (entry_of t.msg) same ∙ at-with s.msg.entries id (holding e q) e there))
          (still-blocked read (cred_of s other) (nat_lt last_number size) e (holding e q) found-receive refl
          (still-none _ _ (waits_or flags ENOMSG) _ _ _ _ none) before)

      by_id : (b : Bool) → nat_eq n id ≡ b → has_to_wait (attempt limits t other true receive) ≡ true
      by_id true is = waits-as-tested t (tests t) _ ∙ on_same (eqb-true n id is)
      by_id false is =
          waits-alike limits s t other true true receive (awaited.MsgQueue (record { 0 = n })) refl refl
          (other-with s.msg.entries id n (holding e q) (eqb-false n id is)) ∙ waits

-- a send of a process, if the queue is full where it was
module _ (limits : Limits) (s : State) (other n flags : ℕ) (mtype : ℤ) (text : List ℕ) where
  abbrev send : PlainSysv
  send = requests.Msgsnd n flags mtype text

  abbrev found-send : KeyedEntry Queue → Attempt (KeyedEntry Queue)
  found-send e = stop (waits_or flags EAGAIN) (full (message_limit limits) e.object (length text)) >> Ok e

  abbrev IsSendBlocked : Option (KeyedEntry Queue) → Type 0
  IsSendBlocked o = is_blocked (refuse EINVAL (not (int_lt (pos 0) mtype)) >> (refuse EINVAL (nat_lt limits.msgmax (length text))
      >> ((o orelse gone true >>= (λ e. refuse EACCES (not (may (cred_of s other) e.perm write)) >> Ok e)) >>= found-send))) ≡ true

  pub still-sends : (id : ℕ) (e : KeyedEntry Queue) (q : Queue) → entry_of s.msg id ≡ Some e
      → (full (message_limit limits) e.object (length text) ≡ true → full (message_limit limits) q (length text) ≡ true)
      → has_to_wait (attempt limits s other true send) ≡ true
      → has_to_wait (attempt limits (with_msg_queue s id (holding e q)) other true send) ≡ true
  still-sends id e q there more waits = by_id (nat_eq n id) refl
    where
      t : State
      t = with_msg_queue s id (holding e q)

      tests : State → Attempt (KeyedEntry Queue)
      tests u = sendable limits u (cred_of s other) true n flags mtype text

      past : (b : Bool) (x y : Attempt (KeyedEntry Queue)) → (is_blocked x ≡ true → is_blocked y ≡ true) → is_blocked (refuse EINVAL b >> x) ≡ true
          → is_blocked (refuse EINVAL b >> y) ≡ true
      past true x y still is = cc
      past false x y still is = still is

      on_same : n ≡ id → IsSendBlocked (entry_of t.msg n)
      on_same same =
          let before : IsSendBlocked (Some e) = subst IsSendBlocked (ap (entry_of s.msg) same ∙ there) (sym (waits-as-tested s (tests s) _) ∙ waits) in
          subst IsSendBlocked (sym (ap (entry_of t.msg) same ∙ at-with s.msg.entries id (holding e q) e there))
          (past (not (int_lt (pos 0) mtype)) _ _ (still-blocked write (cred_of s other) (nat_lt limits.msgmax (length text)) e (holding e q) found-send refl
          (still-full (waits_or flags EAGAIN) (full (message_limit limits) e.object (length text)) (full (message_limit limits) q (length text)) e (holding e q)
          more)) before)

      by_id : (b : Bool) → nat_eq n id ≡ b → has_to_wait (attempt limits t other true send) ≡ true
      by_id true is = waits-as-tested t (tests t) _ ∙ on_same (eqb-true n id is)
      by_id false is =
          waits-alike limits s t other true true send (awaited.MsgQueue (record { 0 = n })) refl refl
          (other-with s.msg.entries id n (holding e q) (eqb-false n id is)) ∙ waits
