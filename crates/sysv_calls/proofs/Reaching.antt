-- What the steps of a call find, and what holds where its tests are passed.
use Rattle.std.proofs.Common.{◌≡◌, ℕ, zero, suc, ℤ, pos, negsuc, ◌*◌, ◌^◌, ◌<◌, Bool, true, false, List, [], ◌∷◌, length}
use Rattle.std.proofs.Common.{map, arith, Option, Some, None, refl, sym, ap, ◌∙◌}
use Rattle.std.specs.Prelude.{not, is_some, nat_le, nat_lt, int_lt, ◌≤◌, ◌==◌, slice_get, sum_by, All, if◌then◌else◌, Ok, Err}
use Rattle.std.proofs.lemmas.Bool.{eqb-true, leb-true, lt-ltb, ltb-false, ltb-true, not-false}
use Rattle.std.proofs.lemmas.List.Elements.{All-weaker}
use Rattle.std.proofs.lemmas.List.Sums.{AllPass-from_list_all, sum_by-cons}
use Rattle.std.proofs.lemmas.List.Concat.{length-flat_map}
use Rattle.ipc_base.specs.declared.field.Field.{Field}
use Rattle.ipc_base.specs.declared.field.Field.TheVariants.{U16}
use Rattle.ipc_base.specs.Numbers.{field_bytes, record_bytes}
use Rattle.std.proofs.lemmas.List.Quantifiers.{position-Some}
use Rattle.ipc_limits.specs.declared.limits.Limits.{Limits}
use Rattle.ipc_limits.specs.Limits.{ArePassed, message_limit}
use Rattle.ipc_limits.proofs.CallerLemmas.{passed-bounds}
use Rattle.ipc_base.specs.declared.errno.Errno.TheVariants.{EACCES, EEXIST, EFBIG, ENOENT, EINVAL, EAGAIN, ENOMSG, ENOSPC, EPERM, E2BIG, ERANGE}
use Rattle.ipc_base.specs.declared.identity.Cred.{Cred}
use Rattle.ipc_perm.specs.Perm.{may}
use Rattle.sysv_msg.specs.Queue.{Queue, PlainMessage, is_allowed, pick, full}
use Rattle.ipc_state.specs.Numbered.{entry_of, last_number, without_entry}
use Rattle.ipc_state.specs.Keyed.{Keyed, KeyedEntry, keyed}
use Rattle.sysv_sem.specs.declared.set.Semaphore.{Semaphore}
use Rattle.sysv_sem.specs.declared.operation.Operation.{Operation}
use Rattle.sysv_sem.specs.Operation.{Outcome, Done as IsDone, Blocks as Stops, Fails as IsRefused, most_value, outcome}
use Rattle.sysv_sem.specs.Set.{Set, values_of}
use Rattle.ipc_state.specs.Held.{zero_bytes}
use Rattle.ipc_state.specs.Held.Ready.{Nothing, Semset, Shm}
use Rattle.ipc_state.specs.State.{State, semset_of}
use Rattle.ipc_state.specs.Finish.{Attempt, Halt}
use Rattle.ipc_state.specs.Sound.{IsSoundMessage}
use Rattle.ipc_state.proofs.CallerLemmas.{AtEnd, after, after-orelse, after-orstop, after-refuse, after-stop, at-failure, at-halt, at-value, by-if_some}
use Rattle.ipc_state.proofs.CallerLemmas.{may-wait}
use Rattle.sysv_calls.specs.Access.{read, write, has, gone, accessible, owned, removed, sought}
use Rattle.sysv_calls.specs.Msg.{except, waits_or, sendable, receivable, is_too_long, message_at}
use Rattle.sysv_calls.specs.Needs.{segment_place, semset_place}
use Rattle.sysv_calls.specs.Sem.{count_of, semaphore, settable}
use Rattle.sysv_calls.specs.Relations.{Passes}
use Rattle.sysv_calls.specs.Semop.{decided, held_by, notes_too_many, operable, performable, proceeding, stopped_by}
use Rattle.ipc_state.specs.Steps.{seen}

module _ {X : Type 0} {never : Bool} where
  pub accessible-ends : (again : Bool) (o : Keyed X) (cred : Cred) (id access : ℕ)
      → AtEnd never (λ (e : KeyedEntry X). entry_of o id ≡ Some e) (accessible again o cred id access)
  accessible-ends again o cred id access = after-orelse (gone again) (λ e there. after-refuse EACCES (λ _. at-value e there))

  pub owned-ends : (o : Keyed X) (cred : Cred) (id : ℕ) → AtEnd never (λ (e : KeyedEntry X). entry_of o id ≡ Some e) (owned o cred id)
  owned-ends o cred id = after-orelse EINVAL (λ e there. after-refuse EPERM (λ _. at-value e there))

  -- what is left is all but that
  pub removed-ends : (o : Keyed X) (cred : Cred) (id : ℕ) → AtEnd never (λ (left : Keyed X). without_entry o id ≡ left) (removed o cred id)
  removed-ends o cred id = after (owned-ends o cred id) (λ e _. at-value (without_entry o id) refl)

  -- if a get finds nothing, no object has the key
  pub sought-ends : (o : Keyed X) (key : ℤ) (flags : ℕ) → AtEnd never (λ (found : Option ℕ). found ≡ None → keyed o key ≡ None) (sought o key flags)
  sought-ends o key flags =
      by-if_some {o = keyed o key} (λ id _. after-refuse EEXIST (λ _. at-value (Some id) (λ is. cc)))
      (λ none. after-refuse ENOENT (λ _. at-value None (λ _. none)))

module _ {X : Type 0} (o : Keyed X) (cred : Cred) (id : ℕ) (e : KeyedEntry X) where
  pub accessible-there : (access : ℕ) → accessible false o cred id access ≡ Ok e → entry_of o id ≡ Some e
  accessible-there access is = (accessible-ends {never = true} false o cred id access).holds e is

  pub owned-there : owned o cred id ≡ Ok e → entry_of o id ≡ Some e
  owned-there is = (owned-ends {never = true} o cred id).holds e is

-- ---- what holds where the tests of a call are passed

-- of a message that may be sent now, and of the queue
pub record Sends (limits : Limits) (s : State) (id : ℕ) (mtype : ℤ) (text : List ℕ) (e : KeyedEntry Queue) : Type 0 where
  pub message : IsSoundMessage limits (record { mtype = mtype; text = text })
  pub there : entry_of s.msg id ≡ Some e
  pub room : full (message_limit limits) e.object (length text) ≡ false

-- a send waits for a queue that is there alone
pub sends : (limits : Limits) (s : State) (cred : Cred) (again : Bool) (id flags : ℕ) (mtype : ℤ) (text : List ℕ)
    → AtEnd (not (is_some (entry_of s.msg id))) (Sends limits s id mtype text) (sendable limits s cred again id flags mtype text)
sends limits s cred again id flags mtype text =
    after-refuse EINVAL {b = not (int_lt (pos 0) mtype)} (λ above. after-refuse EINVAL {b = nat_lt limits.msgmax (length text)} (λ short.
    after (accessible-ends again s.msg cred id write) (λ e there. after-stop (may-wait there) (waits_or flags EAGAIN) (λ room.
    at-value e (record {
      message = record { above = not-false (int_lt (pos 0) mtype) above; short = ltb-false limits.msgmax (length text) short };
      there = there;
      room = room;
    })))))

-- of a queue from which a message may be received now, and of its place
pub record Receives (s : State) (id : ℕ) (found : KeyedEntry Queue × ℕ) : Type 0 where
  pub there : entry_of s.msg id ≡ Some found.0
  pub inside : found.1 < length found.0.object.messages

pub receives : (s : State) (cred : Cred) (again : Bool) (id flags size : ℕ) (mtype : ℤ)
    → AtEnd (not (is_some (entry_of s.msg id))) (Receives s id) (receivable s cred again id flags size mtype)
receives s cred again id flags size mtype =
    after-refuse EINVAL {b = nat_lt last_number size} (λ _. after (accessible-ends again s.msg cred id read) (λ e there.
    let ms = e.object.messages in
    let none : PlainMessage = record { mtype = pos 0; text = [] } in
    after-orstop (may-wait there) (waits_or flags ENOMSG) {o = pick ms mtype (has flags except)} (λ at picked.
    after-refuse E2BIG {b = is_too_long flags size (length (message_at e.object at).text)} (λ _.
    at-value (e, at) (record { there = there; inside = (position-Some (is_allowed ms mtype (has flags except)) ms at none picked).0 })))))

-- of a semaphore that was found
pub record IsFound (s : State) (id num : ℕ) (found : KeyedEntry Set × Semaphore) : Type 0 where
  pub there : semset_of s id ≡ Some found.0
  pub at : slice_get found.0.object.semaphores num ≡ Some found.1

pub semaphore-ends : {never : Bool} (s : State) (cred : Cred) (id num access : ℕ) → AtEnd never (IsFound s id num) (semaphore s cred id num access)
semaphore-ends s cred id num access =
    after-orelse EINVAL (λ e there. after-orelse EINVAL (λ x at. after-refuse EACCES (λ _. at-value (e, x) (record { there = there; at = at }))))

-- of a set of which all values may be set
pub record IsSettable (s : State) (id : ℕ) (to : List ℕ) (e : KeyedEntry Set) : Type 0 where
  pub there : semset_of s id ≡ Some e
  pub count : length to ≡ length e.object.semaphores
  pub values : All (λ v. v ≤ most_value) to

pub settable-ends : {never : Bool} (s : State) (cred : Cred) (id : ℕ) (values : List ℕ) → AtEnd never (IsSettable s id values) (settable s cred id values)
settable-ends s cred id values =
    after-orelse EINVAL (λ e there. after-refuse EINVAL (λ count. after-refuse EACCES (λ _. after-refuse ERANGE (λ few. at-value e (record {
      there = there;
      count = eqb-true _ _ (not-false _ count);
      values = All-weaker (λ v. nat_le v most_value ≡ true) (λ v. v ≤ most_value) (λ v is. leb-true v most_value is) values
          (AllPass-from_list_all (λ v. nat_le v most_value) values (not-false _ few));
    })))))

-- of a set of which operations may be tried
record IsOperable (limits : Limits) (s : State) (id : ℕ) (ops : List Operation) (e : KeyedEntry Set) : Type 0 where
  few : length ops ≤ limits.semopm
  there : semset_of s id ≡ Some e
  within : All (λ o. o.num < length e.object.semaphores) ops

operable-ends : {never : Bool} (limits : Limits) (s : State) (cred : Cred) (again : Bool) (id : ℕ) (ops : List Operation)
    → AtEnd never (IsOperable limits s id ops) (operable limits s cred again id ops)
operable-ends limits s cred again id ops =
    after-refuse EINVAL {b = length ops == 0} (λ _. after-orelse (gone again) (λ e there. after-refuse E2BIG {b = nat_lt limits.semopm (length ops)} (λ few.
    after-refuse EFBIG (λ within. after-refuse EACCES (λ _. at-value e (record {
      few = ltb-false limits.semopm (length ops) few;
      there = there;
      within = All-weaker (λ o. nat_lt o.num (length e.object.semaphores) ≡ true) (λ o. o.num < length e.object.semaphores)
          (λ o is. ltb-true o.num (length e.object.semaphores) is) ops
          (AllPass-from_list_all (λ o. nat_lt o.num (length e.object.semaphores)) ops (not-false _ within));
    }))))))

-- of a list of operations each of which can proceed, of its set, and of the values after it
record Proceeds (limits : Limits) (s : State) (pid id : ℕ) (ops : List Operation) (found : KeyedEntry Set × List ℕ) : Type 0 where
  few : length ops ≤ limits.semopm
  there : semset_of s id ≡ Some found.0
  within : All (λ o. o.num < length found.0.object.semaphores) ops
  done : (after : ℕ → ℤ) × (outcome (values_of found.0.object) (held_by s pid id) ops ≡ IsDone found.1 after)

-- of one that can be performed: it does not note too much either
pub record Operates (limits : Limits) (s : State) (pid id : ℕ) (ops : List Operation) (found : KeyedEntry Set × List ℕ) : Type 0 where
  pub few : length ops ≤ limits.semopm
  pub there : semset_of s id ≡ Some found.0
  pub within : All (λ o. o.num < length found.0.object.semaphores) ops
  pub done : (after : ℕ → ℤ) × (outcome (values_of found.0.object) (held_by s pid id) ops ≡ IsDone found.1 after)
  pub noted : notes_too_many limits s pid id ops ≡ false

decided-ends : {never : Bool} (ops : List Operation) (r : Outcome) → never ≡ false
    → AtEnd never (λ (values : List ℕ). (after : ℕ → ℤ) × (r ≡ IsDone values after)) (decided ops r)
decided-ends ops (IsDone values after) may = at-value values (after, refl)
decided-ends ops (Stops at) may = at-halt may (stopped_by (slice_get ops at))
decided-ends ops (IsRefused e) may = at-failure e

proceeds : (limits : Limits) (s : State) (cred : Cred) (pid : ℕ) (again : Bool) (id : ℕ) (ops : List Operation)
    → AtEnd (not (is_some (semset_of s id))) (Proceeds limits s pid id ops) (proceeding limits s cred pid again id ops)
proceeds limits s cred pid again id ops =
    after (after {P = Met} (operable-ends limits s cred again id ops) (λ e ok. at-value _ (ok, refl))) (λ found ok.
    after (decided-ends ops found.1 (may-wait ok.0.there)) (λ values done. at-value (found.0, values) (record {
      few = ok.0.few;
      there = ok.0.there;
      within = ok.0.within;
      done = (done.0, sym ok.1 ∙ done.1);
    })))
  where
    -- the set, and what the operations meet there
    Met : KeyedEntry Set × Outcome → Type 0
    Met found = IsOperable limits s id ops found.0 × (found.1 ≡ outcome (values_of found.0.object) (held_by s pid id) ops)

pub operates : (limits : Limits) (s : State) (cred : Cred) (pid : ℕ) (again : Bool) (id : ℕ) (ops : List Operation)
    → AtEnd (not (is_some (semset_of s id))) (Operates limits s pid id ops) (performable limits s cred pid again id ops)
operates limits s cred pid again id ops =
    after (proceeds limits s cred pid again id ops) (λ found ok.
    after-refuse ENOSPC {b = notes_too_many limits s pid id ops} (λ noted.
    at-value found (record { few = ok.few; there = ok.there; within = ok.within; done = ok.done; noted = noted })))

-- such a list has no more than a buffer has room for
pub operates-passes : (limits : Limits) (s : State) (pid id : ℕ) (ops : List Operation) (found : KeyedEntry Set × List ℕ) → ArePassed limits
    → Operates limits s pid id ops found → Passes limits s pid id ops found
operates-passes limits s pid id ops found checked ok =
    let most = (passed-bounds limits checked).semopm in
    record { few = omega (arith, most, ok.few); there = ok.there; within = ok.within; done = ok.done }

-- why an attempt stopped does not tell what is looked at
pub other-seen : {X Y Z : Type 0} (f : X → Y) (g : X → Z) (a : Attempt X) (h : Halt) → Err h ≡ seen f a → Err h ≡ seen g a
other-seen f g (Ok x) h is = cc
other-seen f g (Err k) h is = cc

pub ok-seen : {X Y Z : Type 0} (f : X → Y) (a : Attempt X) (y : Y) (z : Z) → Ok y ≡ seen f a → Ok z ≡ seen (λ (x : X). z) a
ok-seen f (Ok x) y z is = refl
ok-seen f (Err h) y z is = cc

-- a number that is within a limit
pub within-limit : (k most n : ℕ) → (if nat_le k most then Some k else None) ≡ Some n → (n ≡ k) × (k ≤ most)
within-limit k most n is = by_test (nat_le k most) refl is
  where
    by_test : (b : Bool) → nat_le k most ≡ b → (if b then Some k else None) ≡ Some n → (n ≡ k) × (k ≤ most)
    by_test true few is = (cc, leb-true k most few)
    by_test false few is = cc

pub count-few : (limits : Limits) (nsems : ℤ) (n : ℕ) → count_of limits nsems ≡ Some n → n ≤ limits.semmsl
count-few limits (pos k) n is = let c = within-limit k limits.semmsl n is in omega (arith, c.0, c.1)
count-few limits (negsuc k) n is = cc

-- each value of a semaphore takes two bytes
pub values-length : (xs : List Semaphore) → length (record_bytes (map (λ (x : Semaphore). U16 x.value) xs)) ≡ 2 * length xs
values-length xs =
    length-flat_map field_bytes (map (λ (x : Semaphore). U16 x.value) xs)
    ∙ sum-two xs
  where
    sum-two : (ys : List Semaphore) → sum_by (λ f. length (field_bytes f)) (map (λ (x : Semaphore). U16 x.value) ys) ≡ 2 * length ys
    sum-two [] = omega arith
    sum-two (y ∷ ys) =
        let rest : List Field = map (λ (x : Semaphore). U16 x.value) ys in
        omega (arith, sum_by-cons (λ f. length (field_bytes f)) (U16 y.value) rest, sum-two ys)

-- ---- what is reserved

-- a set of as many semaphores as one may have is
pub place-reserved : (limits : Limits) (key nsems : ℤ) (n : ℕ) → limits.semmsl ≤ 64 → count_of limits nsems ≡ Some n → 0 < n
    → semset_place key nsems ≡ Semset key n
place-reserved limits key (pos zero) n most is some = absurd (omega (arith, (within-limit zero limits.semmsl n is).0, some))
place-reserved limits key (pos (suc k)) n most is some =
    let same : n ≡ suc k = (within-limit (suc k) limits.semmsl n is).0 in
    let few : suc k ≤ limits.semmsl = (within-limit (suc k) limits.semmsl n is).1 in
    let inside : nat_lt k 64 ≡ true = lt-ltb k 64 (omega (arith, few, most)) in
    ap (λ (b : Bool). if b then Semset key (suc k) else Nothing) inside ∙ ap (Semset key) (sym same)
place-reserved limits key (negsuc k) n most is some = cc

-- so is a segment of as many bytes
pub segment-reserved : (limits : Limits) (key : ℤ) (size : ℕ) → limits.shmmax ≤ 2 ^ 20 → 0 < size → size ≤ limits.shmmax
    → segment_place key size ≡ Shm key (zero_bytes size)
segment-reserved limits key zero most some few = absurd (omega (arith, some))
segment-reserved limits key (suc k) most some few =
    let inside : nat_lt k (2 ^ 20) ≡ true = lt-ltb k (2 ^ 20) (omega (arith, few, most)) in
    ap (λ (b : Bool). if b then Shm key (zero_bytes (suc k)) else Nothing) inside
