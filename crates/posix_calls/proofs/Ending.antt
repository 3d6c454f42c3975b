-- What each call leaves and answers: from a sound state a sound one, with a body that fits; it changes no more than its own
-- object, and makes no more debts than it may. And those that wait on nothing never wait.
use Rattle.std.proofs.Common.{◌≡◌, ◌≢◌, ℕ, ℤ, ◌≤◌, Bool, true, false, not, List, [], ◌∷◌, length, Option, Some, None, refl, sym, ap, subst, ◌∙◌, arith}
use Rattle.std.proofs.Common.{cond, drop, length-append, take}
use Rattle.std.proofs.lemmas.List.{length-replicate, length-take}
use Rattle.ipc_base.specs.Table.{IsRising, keys_of, value_at}
use Rattle.std.specs.Prelude.{◌-◌, nat_le, nat_lt, replicate, sum_by, ◌==◌, ◌+◌}
use Rattle.std.specs.Prelude.{nat_eq, option_map, option_and_then, unwrap_or, is_some, slice_get, if◌then◌else◌}
use Rattle.std.specs.Int.RustNames.{bit_and}
use Rattle.std.specs.Result.{is_ok}
use Rattle.std.proofs.lemmas.Bool.Decides.{nat_tests}
use Rattle.std.proofs.lemmas.List.Elements.{All-get_or}
use Rattle.std.proofs.lemmas.Bool.{and_from, and_parts, eqb-true, not-false, not_from_false}
use Rattle.std.proofs.lemmas.List.Sums.{sum_by-append, sum_by-cons}
use Rattle.std.proofs.lemmas.Option.{get_or_from_slice_get, slice_get_within}
use Rattle.std.specs.Int.{w32, to_be_bytes}
use Rattle.std.proofs.lemmas.Nat.{and_assoc, and_mask}
use Rattle.std.proofs.lemmas.Nat.Bits.{and_pow}
use Rattle.ipc_base.specs.declared.errno.Errno.TheVariants.{EBADF, EBUSY, EINVAL, EMFILE, ENOSPC}
use Rattle.ipc_base.specs.declared.identity.Cred.{Cred}
use Rattle.ipc_limits.specs.declared.limits.Limits.{Limits}
use Rattle.ipc_base.specs.Numbers.{record_bytes}
use Rattle.ipc_base.proofs.CallerLemmas.{at-push, at-with, rising-found, same_key}
use Rattle.ipc_keys.specs.Names.{check_name}
use Rattle.ipc_keys.specs.declared.check.NameKind.{NameKind}
use Rattle.ipc_keys.specs.declared.check.NameKind.TheVariants as names
use Rattle.ipc_wire.specs.Posix.{PlainPosix}
use Rattle.ipc_wire.specs.Posix as requests
use Rattle.ipc_wire.specs.Request.{Posix}
use Rattle.ipc_wire.specs.Reply.{PlainBody}
use Rattle.ipc_wire.specs.declared.reply.Body.TheVariants.{Empty, Number, Record}
use Rattle.posix_mq.specs.Queue.{Queue as Mq, PlainMessage, deregistered, empty_queue, next_to_receive, received, received_message, registered, with_message}
use Rattle.posix_mq.specs.declared.queue.Registration.{Registration}
use Rattle.ipc_state.specs.declared.descriptors.Descriptor.{Descriptor}
use Rattle.ipc_state.specs.declared.parked.Awaited.{Awaited}
use Rattle.ipc_state.specs.declared.parked.Object.{Object}
use Rattle.ipc_state.specs.Descriptors.{lowest_unused}
use Rattle.ipc_state.specs.Numbered.{entry_of}
use Rattle.ipc_perm.specs.Perm.{perm_of}
use Rattle.ipc_state.specs.declared.parked.ObjectKind.TheVariants as kinds
use Rattle.ipc_state.specs.Kinds.{Content, EntryOf, Objects, Those, has_access, of_kind, with_kind}
use Rattle.ipc_state.specs.Opening.{descriptor_at, descriptors_of, is_by_descriptor, is_on, is_there_for, opened_as}
use Rattle.ipc_state.specs.Finish.{Done, answer, answer_firing, done_firing, ◌>>=◌}
use Rattle.ipc_state.specs.Sound.{FitsBody, HasSoundParts, IsSoundContent, IsSoundMq, IsSoundMqMessage, most_of}
use Rattle.ipc_state.specs.State.{State, bytes_of_mq, closed, cred_of, has_all_descriptors, is_waiting, unlinked, with_descriptor, with_descriptor_flags}
use Rattle.ipc_state.specs.State.{with_mq}
use Rattle.ipc_state.specs.State.{with_descriptors, with_new_of}
use Rattle.ipc_state.specs.Descriptors.{Table}
use Rattle.ipc_state.specs.Opening.{with_table}
use Rattle.ipc_state.specs.Descriptors.{opened as opened_table}
use Rattle.ipc_state.specs.Bound.{holding}
use Rattle.ipc_state.specs.Named.{Named, NamedEntry, named}
use Rattle.ipc_state.specs.Numbered.{Numbered, is_full, with_entry, with_new}
use Rattle.ipc_state.specs.declared.processes.Process.{Process}
use Rattle.posix_sem.specs.Semaphore.{post_answer, posted, sem_value_max, wait_answer, waited}
use Rattle.shm_segment.specs.Segment.{Segment, empty_segment, part, truncated, written}
use Rattle.ipc_state.specs.Sound.{segment_bytes}
use Rattle.ipc_state.specs.State.{named_of, objects_in, with_psem, with_pshm}
use Rattle.ipc_state.specs.Touching.{IsAsBefore, IsSameIn, closed_on, is_segment, object_of}
use Rattle.ipc_state.specs.Waiting.{may_wait}
use Rattle.ipc_state.proofs.CallerLemmas.{IsGood, as_before, same-but-table, same-objects, same-processes}
use Rattle.ipc_state.proofs.CallerLemmas.{AtEnd, after, after-refuse, after-then, at-all, at-some, at-value, by-if_some, by-test}
use Rattle.ipc_state.proofs.CallerLemmas.{table-objects, written-length}
use Rattle.ipc_state.proofs.CallerLemmas.{closed-sound, unlinked-sound, with_descriptor-sound, with_descriptor_flags-sound}
use Rattle.ipc_state.proofs.CallerLemmas.{descriptor-sound, mq-registered, received_mq-sound, sent_mq-sound}
use Rattle.ipc_state.proofs.CallerLemmas.{MayJoin, content-sound, with_new-sound, with_object-sound}
use Rattle.ipc_state.proofs.CallerLemmas.{same_in-closed, same_in-new, same_in-object, same_in-unlinked}
use Rattle.ipc_state.proofs.CallerLemmas.{before-then, elsewhere-closed, elsewhere-new, elsewhere-object, elsewhere-table, elsewhere-unlinked}
use Rattle.posix_calls.specs.Calls.{definition_of, made_object, made_or_cut, named_object, on_descriptor, option_made, touched}
use Rattle.posix_calls.specs.Mq.{Found, arrived, attr_fields, close, firing, given_up, is_own, is_to_notify, kept_flags}
use Rattle.posix_calls.specs.Mq.{message_body, mq_getattr, mq_notify, mq_open, mq_receive, mq_send, mq_setattr}
use Rattle.posix_calls.specs.Mq.{registering, registration}
use Rattle.posix_calls.specs.declared.psem.FoundPsem.{FoundPsem}
use Rattle.posix_calls.specs.Open.{access_of, asked_by, has, nonblock, opens, unlink, usable}
use Rattle.posix_calls.specs.Psem.{sem_getvalue, sem_open, sem_post, sem_trywait, sem_wait}
use Rattle.posix_calls.specs.Pshm.{FoundPshm, asked_of_pshm, cut_as, ftruncate, opened_pshm, segment_fields, shm_open, shm_read, shm_stat}
use Rattle.posix_calls.specs.Pshm.{shm_write, trunc}
use Rattle.posix_calls.specs.Registrations.{may_make, own, registrations}
use Rattle.posix_calls.proofs.Debts.{fewer-arrived, fewer-closed, fewer-given_up, fewer-unlinked, made-one, none-own, of-entry, put-mq}
use Rattle.posix_calls.proofs.Reaching.{IsOpen, attributes-ends, has-entry, open-ends, proper-ends, queue-sound, receives, sends, sought-ends}
use Rattle.posix_calls.proofs.Reaching.{unlinkable-ends, usable-ends}
use Rattle.posix_calls.proofs.Reaching.{IsOpenPshm, IsOpenPsem, lowers, open_pshm-ends, open_psem-ends, passed-ends, writable-ends}

same-some : {X : Type 0} {x y : X} → Some x ≡ Some y → x ≡ y
same-some is = cc

-- ---- flags

-- what is kept of the flags of an open has their access mode
kept-mode : (flags : ℕ) → (access_of flags == 3) ≡ false → not (nat_eq (bit_and (kept_flags flags) 3) 3) ≡ true
kept-mode flags is = rw (and_assoc 3 flags 2051) (not_from_false (nat_eq (bit_and flags 3) 3) is)

-- O_NONBLOCK or nothing leaves the access mode as it is
set-mode : (old flags : ℕ) → bit_and flags nonblock ≡ flags → bit_and (access_of old + flags) 3 ≡ bit_and old 3
set-mode old flags is =
    let bit = and_pow flags 11 in
    let low = and_mask old 2 in
    let all = and_mask (access_of old + flags) 2 in
    omega (arith, is, bit, low, all)

-- an access mode that is no write alone has no lowest bit
segment-mode : (flags : ℕ) → (bit_and flags 1 == 1) ≡ false → nat_eq (bit_and (access_of flags) 1) 0 ≡ true
segment-mode flags is =
    let low = and_mask flags 1 in
    let two = and_mask flags 2 in
    let all = and_mask (access_of flags) 1 in
    let other : bit_and flags 1 ≢ 1 = λ same. grind (arith, nat_tests) in
    let none : bit_and (access_of flags) 1 ≡ 0 = omega (arith, low, two, all, other) in
    grind (arith, nat_tests, none)

-- ---- lengths

-- those of a kind are what was put for it
put-kind : (o : Objects) (kind : NameKind) (those : Those (kinds.Named kind)) → of_kind (with_kind o (kinds.Named kind) those) (kinds.Named kind) ≡ those
put-kind o names.Mq those = refl
put-kind o names.Psem those = refl
put-kind o names.Pshm those = refl

-- a new object is there
new-there : {X : Type 0} (o : Named X) (e : NamedEntry X) → IsRising 1 (keys_of o.entries) o.next → is_some (entry_of (with_new o e) o.next) ≡ true
new-there {X} o e rising = ap is_some (at-push o.entries o.next e (none (entry_of o o.next) refl))
  where
    none : (r : Option (NamedEntry X)) → entry_of o o.next ≡ r → entry_of o o.next ≡ None
    none None is = is
    none (Some d) is = let below = (rising-found 1 o.entries o.next o.next rising (ap is_some is)).1 in absurd (omega (arith, below))

pub truncated-length : (x : Segment) (n : ℕ) → length (truncated n x).bytes ≡ n
truncated-length x n =
    let more : ℕ = n - length x.bytes in
    omega (arith, length-append (take n x.bytes) (replicate more 0), length-take n x.bytes, length-replicate {A = ℕ} more 0)

-- one of the segments has no more bytes than all
pub fewer-of : (o : Named Segment) (n : ℕ) (e : NamedEntry Segment) → entry_of o n ≡ Some e → length e.object.bytes ≤ segment_bytes o
fewer-of o n e is = found o.entries is
  where
    bytes : ℕ × NamedEntry Segment → ℕ
    bytes d = length d.1.object.bytes

    found : (es : List (ℕ × NamedEntry Segment)) → value_at nat_eq es n ≡ Some e → length e.object.bytes ≤ sum_by bytes es
    found [] is = cc
    found (d ∷ es) is = by_test (nat_eq d.0 n) is (found es)
      where
        by_test : (b : Bool) → cond b (Some d.1) (value_at nat_eq es n) ≡ Some e
            → (value_at nat_eq es n ≡ Some e → length e.object.bytes ≤ sum_by bytes es) → length e.object.bytes ≤ sum_by bytes (d ∷ es)
        by_test true is rest =
            let one : d.1 ≡ e = cc in
            omega (arith, sum_by-cons bytes d es, ap (λ (f : NamedEntry Segment). length f.object.bytes) one)
        by_test false is rest = omega (arith, sum_by-cons bytes d es, rest is)

-- what is put in the place of one is there
put-there : {X : Type 0} (o : Named X) (n : ℕ) (e : NamedEntry X) (x : X) → entry_of o n ≡ Some e
    → is_some (entry_of (unwrap_or (option_map (λ (f : NamedEntry X). with_entry o n (holding f x)) (entry_of o n)) o) n) ≡ true
put-there {X} o n e x is =
    ap (λ (r : Option (NamedEntry X)). is_some (entry_of (unwrap_or (option_map (λ (f : NamedEntry X). with_entry o n (holding f x)) r) o) n)) is
    ∙ ap is_some (at-with o.entries n (holding e x) e is)

-- ---- a segment that is cut to no bytes, or not

module _ (flags : ℕ) (s : State) (n : ℕ) (e : NamedEntry Segment) where
  abbrev cut_if : Bool → State
  cut_if b = if b then with_pshm s n (truncated 0 e.object) else s

  pub cut-sound : (limits : Limits) → entry_of s.pshm n ≡ Some e → HasSoundParts limits s → HasSoundParts limits (cut_as flags s n e)
  cut-sound limits there h = by_test (has flags trunc)
    where
      by_test : (b : Bool) → HasSoundParts limits (cut_if b)
      by_test true = with_object-sound limits s (kinds.Named names.Pshm) n e (truncated 0 e.object) there tt
          (omega (arith, (h.named names.Pshm).together, truncated-length e.object 0)) h
      by_test false = h

  cut-there : entry_of s.pshm n ≡ Some e → is_some (entry_of (cut_as flags s n e).pshm n) ≡ true
  cut-there there = by_test (has flags trunc)
    where
      by_test : (b : Bool) → is_some (entry_of (cut_if b).pshm n) ≡ true
      by_test true = put-there s.pshm n e (truncated 0 e.object) there
      by_test false = ap is_some there

  cut-elsewhere : (p : ℕ) (on : Awaited) → IsAsBefore p on s (cut_as flags s n e)
  cut-elsewhere p on = by_test (has flags trunc)
    where
      by_test : (b : Bool) → IsAsBefore p on s (cut_if b)
      by_test true = elsewhere-object s (kinds.Named names.Pshm) n (truncated 0 e.object) p on refl (λ no. cc)
      by_test false = as_before p on s

  cut-same_in : (o : Object) → made_or_cut flags s.pshm.next (Some n) ≢ Some o → IsSameIn o s (cut_as flags s n e)
  cut-same_in o = by_test (has flags trunc)
    where
      by_test : (b : Bool) → (if b then Some (opened_as names.Pshm n) else None) ≢ Some o → IsSameIn o s (cut_if b)
      by_test true apart = same_in-object s o (kinds.Named names.Pshm) n (truncated 0 e.object) apart
      by_test false apart = λ d is. is

-- all but the segments is as it was
pub cut-same : {X : Type 0} (f : State → X) → ((x : Segment) → (s : State) (n : ℕ) → f (with_pshm s n x) ≡ f s) → (flags : ℕ) (s : State) (n : ℕ)
    (e : NamedEntry Segment) → f (cut_as flags s n e) ≡ f s
cut-same f same flags s n e = by_test (has flags trunc)
  where
    by_test : (b : Bool) → f (if b then with_pshm s n (truncated 0 e.object) else s) ≡ f s
    by_test true = same (truncated 0 e.object) s n
    by_test false = refl

-- ---- a queue that is open

-- what a descriptor is open on is what a call by it may change
on-object : (s : State) (pid fd : ℕ) (d : Descriptor) (on : Object) → descriptor_at s.processes.entries pid fd ≡ Some d → d.on ≡ on
    → on_descriptor s pid fd ≡ Some on
on-object s pid fd d on at is = ap (option_map (λ (e : Descriptor). e.on)) at ∙ ap (λ (o : Object). Some o) is

-- a registration by that descriptor
registers-by : (s : State) (pid fd : ℕ) (f : Found) → IsOpen s pid fd f
    → unwrap_or (option_map (λ (d : Descriptor). is_on (opened_as names.Mq f.number) d.on) (descriptor_at s.processes.entries pid fd)) false ≡ true
registers-by s pid fd f o =
    ap (λ (r : Option Descriptor). unwrap_or (option_map (λ (d : Descriptor). is_on (opened_as names.Mq f.number) d.on) r) false) o.at
    ∙ (ap (is_on (opened_as names.Mq f.number)) o.on ∙ same_key f.number)

module _ (limits : Limits) where
  arrived-sound : (notifies : Bool) (q : Mq) (m : PlainMessage) → IsSoundMq limits (with_message q m) → IsSoundMq limits (arrived notifies q m)
  arrived-sound true q m good = record { maxmsg = good.maxmsg; msgsize = good.msgsize; count = good.count; messages = good.messages }
  arrived-sound false q m good = good

  given_up-sound : (own : Bool) (q : Mq) → IsSoundMq limits q → IsSoundMq limits (if own then deregistered q else q)
  given_up-sound true q good = record { maxmsg = good.maxmsg; msgsize = good.msgsize; count = good.count; messages = good.messages }
  given_up-sound false q good = good

  -- a message that is received is one of the queue's
  message-sound : (q : Mq) (m : PlainMessage) → received_message q ≡ Some m → IsSoundMq limits q → IsSoundMqMessage q.msgsize m
  message-sound q m is good = by_place (next_to_receive q.messages) is
    where
      at_place : (at : ℕ) → slice_get q.messages at ≡ Some m → IsSoundMqMessage q.msgsize m
      at_place at is =
          subst (IsSoundMqMessage q.msgsize) (get_or_from_slice_get q.messages at m m is)
          (All-get_or (IsSoundMqMessage q.msgsize) q.messages at m (slice_get_within q.messages at m is) good.messages)

      by_place : (r : Option ℕ) → option_and_then (slice_get q.messages) r ≡ Some m → IsSoundMqMessage q.msgsize m
      by_place None is = cc
      by_place (Some at) is = at_place at is

  module _ (s : State) (pid : ℕ) where
    arrived-registered : (notifies : Bool) (q : Mq) (m : PlainMessage) (n : ℕ) → is_by_descriptor s.processes.entries n q.registration ≡ true
        → is_by_descriptor s.processes.entries n (arrived notifies q m).registration ≡ true
    arrived-registered true q m n is = refl
    arrived-registered false q m n is = is

    arrived-room : (notifies : Bool) (q : Mq) (m : PlainMessage)
        → bytes_of_mq (arrived notifies q m).maxmsg (arrived notifies q m).msgsize ≡ bytes_of_mq q.maxmsg q.msgsize
    arrived-room true q m = refl
    arrived-room false q m = refl

    given_up-room : (own : Bool) (q : Mq)
        → bytes_of_mq (if own then deregistered q else q).maxmsg (if own then deregistered q else q).msgsize ≡ bytes_of_mq q.maxmsg q.msgsize
    given_up-room true q = refl
    given_up-room false q = refl

    given_up-registered : (own : Bool) (q : Mq) (n : ℕ) → is_by_descriptor s.processes.entries n q.registration ≡ true
        → is_by_descriptor s.processes.entries n (if own then deregistered q else q).registration ≡ true
    given_up-registered true q n is = refl
    given_up-registered false q n is = is

    -- What is shown of what a call leaves and answers. It is good, if its process does not wait. Each process has no more
    -- registrations than before, with those that are fired, but for one that the call made; and another than the caller
    -- has the same objects.
    pub record Leaves (touches : Option Object) (d : Done) : Type 0 where
      pub good : is_waiting s pid ≡ false → IsGood limits s touches (done_firing d.state d.body d.fired)
      pub owes : (p : ℕ) → own p d.fired + registrations d.state p ≤ registrations s p + may_make pid d.body p
      pub objects : (p : ℕ) → p ≢ pid → (on : Awaited) → object_of d.state p on ≡ object_of s p on

    module _ {never : Bool} {touches : Option Object} where
      -- the processes are as they were
      same-ends : (t : State) (body : PlainBody) (fired : Option Registration) → t.processes ≡ s.processes → t.clock ≡ s.clock → t.wait ≡ s.wait
          → (HasSoundParts limits s → HasSoundParts limits t) → (HasSoundParts limits s → FitsBody limits body)
          → (HasSoundParts limits s → (p : ℕ) (on : Awaited) → touches ≢ object_of s p on → IsAsBefore p on s t)
          → (HasSoundParts limits s → (o : Object) → touches ≢ Some o → IsSameIn o s t)
          → ((p : ℕ) → own p fired + registrations t p ≤ registrations s p + may_make pid body p)
          → AtEnd never (Leaves touches) (answer_firing t body fired)
      same-ends t body fired same clock wait sound fits others rest owes =
          at-value _ (record {
            good = λ free. record {
              state = sound;
              body = fits;
              kept = same-processes s t same;
              clock = clock;
              wait = wait;
              others = λ h p on waits apart there. others h p on apart;
              same = rest;
            };
            owes = owes;
            objects = λ p other on. same-objects s t p on same;
          })

      read-ends : (body : PlainBody) → FitsBody limits body → AtEnd never (Leaves touches) (answer s body)
      read-ends body fits =
          same-ends s body None refl refl refl (λ h. h) (λ _. fits) (λ h p on apart. as_before p on s) (λ h o apart e is. is) (λ p. omega arith)

      -- the descriptors of the caller alone are others
      table-ends : (t : State) (body : PlainBody) (table : Table) → t.processes ≡ with_table s.processes pid table → t.clock ≡ s.clock → t.wait ≡ s.wait
          → (HasSoundParts limits s → HasSoundParts limits t) → FitsBody limits body
          → (HasSoundParts limits s → (p : ℕ) (on : Awaited) → p ≢ pid → touches ≢ object_of s p on → IsAsBefore p on s t)
          → (HasSoundParts limits s → (o : Object) → touches ≢ Some o → IsSameIn o s t)
          → ((p : ℕ) → registrations t p ≤ registrations s p) → AtEnd never (Leaves touches) (answer t body)
      table-ends t body table same clock wait sound fits others rest owes =
          at-value _ (record {
            good = λ free. record {
              state = sound;
              body = λ _. fits;
              kept = same-but-table s t pid table same;
              clock = clock;
              wait = wait;
              others = λ h p on waits apart there.
                  others h p on (λ one. let both : true ≡ false = sym waits ∙ (ap (is_waiting s) one ∙ free) in cc) apart;
              same = rest;
            };
            owes = λ p. omega (arith, owes p);
            objects = λ p other on. same-objects (with_descriptors s pid table) t p on same ∙ table-objects s pid table p other on;
          })

    -- other flags with the access mode that it had
    keeps-access : {fd : ℕ} (f : Found) (o : IsOpen s pid fd f) (flags : ℕ) → bit_and flags 3 ≡ bit_and o.descriptor.flags 3 → HasSoundParts limits s
        → (d : Descriptor) → descriptor_at s.processes.entries pid fd ≡ Some d → has_access d.on.kind flags ≡ true
    keeps-access {fd} f o flags same h d at =
        let good = (and_parts (is_there_for (objects_in s) o.descriptor.on) _ (descriptor-sound limits s pid fd o.descriptor o.at h)).1 in
        let one : d ≡ o.descriptor = same-some (sym at ∙ o.at) in
        let on : d.on ≡ opened_as names.Mq f.number = ap (λ (e : Descriptor). e.on) one ∙ o.on in
        let was : not (nat_eq (bit_and o.descriptor.flags 3) 3) ≡ true = subst (λ (k : Object). has_access k.kind o.descriptor.flags ≡ true) o.on good in
        subst (λ (k : Object). has_access k.kind flags ≡ true) (sym on) (rw same was)

    -- ---- each call

    -- another queue in the place of one that is open
    put-ends : {never : Bool} (fd : ℕ) (f : Found) (q : Mq) (body : PlainBody) (fired : Option Registration) → IsOpen s pid fd f
        → bytes_of_mq q.maxmsg q.msgsize ≡ bytes_of_mq f.queue.maxmsg f.queue.msgsize
        → (IsSoundMq limits f.queue → IsSoundMq limits q)
        → (is_by_descriptor s.processes.entries f.number f.queue.registration ≡ true → is_by_descriptor s.processes.entries f.number q.registration ≡ true)
        → (IsSoundMq limits f.queue → FitsBody limits body)
        → ((p : ℕ) → own p fired + own p q.registration ≤ own p f.queue.registration + may_make pid body p)
        → AtEnd never (Leaves (on_descriptor s pid fd)) (answer_firing (with_mq s f.number q) body fired)
    put-ends fd f q body fired o room good stays fits owes =
        let e = has-entry s (kinds.Named names.Mq) f.number f.queue o.there in
        let was : HasSoundParts limits s → IsSoundMq limits f.queue = queue-sound limits s f.number f.queue o.there in
        same-ends (with_mq s f.number q) body fired refl refl refl
        (λ h. let by = subst (λ (r : Mq). is_by_descriptor s.processes.entries f.number r.registration ≡ true) e.object
        (mq-registered limits s f.number e.entry e.there h) in
        with_object-sound limits s (kinds.Named names.Mq) f.number e.entry q e.there (good (was h))
        (stays by, room ∙ ap (λ (r : Mq). bytes_of_mq r.maxmsg r.msgsize) (sym e.object)) h)
        (λ h. fits (was h))
        (λ h p on apart. elsewhere-object s (kinds.Named names.Mq) f.number q p on refl (λ _ same. apart (on-object s pid fd o.descriptor _ o.at o.on ∙ same)))
        (λ h this apart. same_in-object s this (kinds.Named names.Mq) f.number q (λ same. apart (on-object s pid fd o.descriptor _ o.at o.on ∙ same)))
        (λ p. omega (arith, put-mq p s f.number f.queue q o.there, owes p))

    mq_send-ends : (fd priority : ℕ) (text : List ℕ) → AtEnd false (Leaves (on_descriptor s pid fd)) (mq_send s pid fd priority text)
    mq_send-ends fd priority text =
        after (at-all (sends s pid fd priority text)) (λ f ok.
        let m : PlainMessage = record { priority = priority; text = text } in
        let notifies : Bool = is_to_notify s f.number f.queue in
        put-ends fd f (arrived notifies f.queue m) Empty (firing notifies f.queue) ok.queue (arrived-room notifies f.queue m)
        (λ good. arrived-sound notifies f.queue m (sent_mq-sound limits f.queue m good ok.room (grind (arith, nat_tests, ok.low))
        (grind (arith, nat_tests, ok.short))))
        (arrived-registered notifies f.queue m f.number) (λ _. omega arith) (λ p. omega (arith, fewer-arrived p notifies f.queue m)))

    mq_receive-ends : (fd size : ℕ) → AtEnd false (Leaves (on_descriptor s pid fd)) (mq_receive s pid fd size)
    mq_receive-ends fd size =
        after (at-all (receives s pid fd size)) (λ f ok.
        put-ends fd f.0 (received f.0.queue) (message_body f.1) None ok.queue refl (λ good. received_mq-sound limits f.0.queue good) (λ by. by)
        (λ good. let short = (message-sound f.0.queue f.1 ok.message good).short in let few = good.msgsize.1 in fits_message f.1 (omega (arith, short, few)))
        (λ p. omega arith))
      where
        fits_message : (m : PlainMessage) → length m.text ≤ limits.msgsize → FitsBody limits (message_body m)
        fits_message m short = omega (arith, length-append (to_be_bytes w32 m.priority) m.text, short)

    -- nothing has changed
    as_it_is : HasSoundParts limits s → (p : ℕ) (on : Awaited) → IsAsBefore p on s s
    as_it_is h p on = as_before p on s

    module _ {never : Bool} where
      registering-ends : (fd kind cookie : ℕ) (f : Found) → IsOpen s pid fd f
          → AtEnd never (Leaves (on_descriptor s pid fd)) (registering s f (registration pid fd kind cookie))
      registering-ends fd kind cookie f o =
          after-refuse EBUSY {b = is_some f.queue.registration} (λ free.
          put-ends fd f (registered f.queue (registration pid fd kind cookie)) Empty None o refl
          (λ good. record { maxmsg = good.maxmsg; msgsize = good.msgsize; count = good.count; messages = good.messages })
          (λ _. registers-by s pid fd f o) (λ _. omega arith)
          (λ p. omega (arith, made-one p pid fd kind cookie, none-own p f.queue.registration free)))

      mq_notify-ends : (fd kind cookie : ℕ) → AtEnd never (Leaves (on_descriptor s pid fd)) (mq_notify s pid fd kind cookie)
      mq_notify-ends fd kind cookie =
          after-refuse EINVAL (λ few. after (open-ends s pid fd) (λ f o.
          let own-one : Bool = is_own pid f.queue.registration in
          by-test (kind == 0)
          (put-ends fd f (given_up pid f.queue) Empty None o (given_up-room own-one f.queue) (given_up-sound own-one f.queue)
          (given_up-registered own-one f.queue f.number)
          (λ _. omega arith) (λ p. omega (arith, fewer-given_up p own-one f.queue)))
          (registering-ends fd kind cookie f o)))

      mq_getattr-ends : (fd : ℕ) → AtEnd never (Leaves None) (mq_getattr s pid fd)
      mq_getattr-ends fd = after (open-ends s pid fd) (λ f o. read-ends (Record (record_bytes (attr_fields f))) (omega arith))

      -- the name of an object is gone, and it, if it is not open
      unlink-ends : (kind : NameKind) (cred : Cred) (name : List ℕ) → AtEnd never (Leaves (named_object kind s name)) (unlink kind s cred name)
      unlink-ends kind cred name =
          after-then (proper-ends kind name) (λ _. after (unlinkable-ends (named_of s kind) cred name) (λ n is.
          same-ends (unlinked s (kinds.Named kind) n) Empty None refl refl refl (unlinked-sound limits s (kinds.Named kind) n refl) (λ _. omega arith)
          (λ h p on apart. elsewhere-unlinked limits s h (kinds.Named kind) n p on refl)
          (λ h this apart. same_in-unlinked s this limits h (kinds.Named kind) n (λ same. apart (ap (option_map (opened_as kind)) is ∙ same)))
          (λ p. omega (arith, fewer-unlinked p s kind n))))

      close-ends : (fd : ℕ) → AtEnd never (Leaves (closed_on s pid fd)) (close s pid fd)
      close-ends fd =
          after (at-some EBADF (descriptor_at s.processes.entries pid fd)) (λ d _. after-refuse EBADF {b = is_segment d.on.kind} (λ _.
          table-ends (closed s pid fd) Empty _ refl refl refl (closed-sound limits s pid fd) (omega arith)
          (λ h p on other apart. elsewhere-closed limits s h pid fd p on other apart) (λ h this apart. same_in-closed s this limits h pid fd apart)
          (λ p. fewer-closed p s pid fd)))

      mq_setattr-ends : (fd flags : ℕ) → AtEnd never (Leaves None) (mq_setattr s pid fd flags)
      mq_setattr-ends fd flags =
          after (open-ends s pid fd) (λ f o. after-refuse EINVAL (λ within.
          let left : ℕ = access_of f.flags + flags in
          table-ends (with_descriptor_flags s pid fd left) (Record (record_bytes (attr_fields f))) _ refl refl refl
          (λ h. with_descriptor_flags-sound limits s pid fd left (λ d at. keeps-access f o left
          (set-mode f.flags flags (eqb-true _ _ (not-false _ within)) ∙ ap (λ (n : ℕ). bit_and n 3) (sym o.flags)) h d at) h)
          (omega arith) (λ h p on other apart. elsewhere-table s pid _ p on other) (λ h this apart e is. is) (λ p. omega arith)))

      -- a descriptor on an object that is there, in a state of which others see nothing new
      opens-ends : {touches : Option Object} (t : State) (flags : ℕ) (on : Object) → t.processes ≡ s.processes → t.clock ≡ s.clock → t.wait ≡ s.wait
          → has_all_descriptors limits t pid ≡ false → (HasSoundParts limits s → HasSoundParts limits t)
          → (HasSoundParts limits s → is_there_for (objects_in t) on ≡ true) → has_access on.kind flags ≡ true
          → (HasSoundParts limits s → (p : ℕ) (on : Awaited) → IsAsBefore p on s t)
          → (HasSoundParts limits s → (o : Object) → touches ≢ Some o → IsSameIn o s t) → ((p : ℕ) → registrations t p ≤ registrations s p)
          → AtEnd never (Leaves touches) (opens t pid flags on)
      opens-ends t flags on same clock wait few sound there access others rest owes =
          let d : Descriptor = record { on = on; flags = flags } in
          let table = opened_table (descriptors_of t.processes.entries pid) d in
          table-ends (with_descriptor t pid d) (Number (lowest_unused (descriptors_of t.processes.entries pid))) table
          (ap (λ (ps : Numbered Process). with_table ps pid table) same) clock wait
          (λ h. with_descriptor-sound limits t pid d few (and_from _ _ (there h) access) (sound h)) (omega arith)
          (λ h p on other apart. before-then p on s t _ (others h p on) (elsewhere-table t pid table p on other)) rest owes

      module _ (kind : NameKind) (cred : Cred) (flags : ℕ) (few : has_all_descriptors limits s pid ≡ false)
          (access : has_access (kinds.Named kind) flags ≡ true) where
        -- a descriptor on an object that is there, and that the caller may use
        there-ends : {touches : Option Object} (n asked : ℕ)
            → AtEnd never (Leaves touches) (usable (named_of s kind) cred n asked >>= (λ e. opens s pid flags (opened_as kind n)))
        there-ends n asked =
            after (usable-ends (named_of s kind) cred n asked) (λ e there.
            opens-ends s flags (opened_as kind n) refl refl refl few (λ h. h) (λ _. ap is_some there) access as_it_is (λ h this apart e is. is)
            (λ p. omega arith))

        -- a descriptor on a new object
        new-ends : {touches : Option Object} (name : List ℕ) (mode : ℕ) (x : Content (kinds.Named kind)) → is_ok (check_name kind name) ≡ true
            → named (named_of s kind) name ≡ None → touches ≡ Some (opened_as kind (named_of s kind).next)
            → is_full (most_of limits (kinds.Named kind)) (named_of s kind) ≡ false → IsSoundContent limits (kinds.Named kind) x
            → (HasSoundParts limits s → MayJoin limits (kinds.Named kind) (named_of s kind) x)
            → ((p : ℕ) → registrations (with_new_of s (kinds.Named kind) name cred mode x) p ≤ registrations s p)
            → AtEnd never (Leaves touches) (opens (with_new_of s (kinds.Named kind) name cred mode x) pid flags (opened_as kind (named_of s kind).next))
        new-ends name mode x right unused makes room good may owes =
            let those : Those (kinds.Named kind) = named_of s kind in
            let e : EntryOf (kinds.Named kind) = record { bound = name; perm = perm_of cred mode; object = x } in
            opens-ends (with_new_of s (kinds.Named kind) name cred mode x) flags (opened_as kind those.next) refl refl refl few
            (λ h. with_new-sound limits s (kinds.Named kind) name cred mode x unused room right good (may h) h)
            (λ h. ap (λ (o : Those (kinds.Named kind)). is_some (entry_of o those.next)) (put-kind (objects_in s) kind (with_new those e))
            ∙ new-there those e (h.named kind).held.bound.numbered.numbers)
            access (λ h p on. elsewhere-new limits s h (kinds.Named kind) e p on refl)
            (λ h this apart. same_in-new s this (kinds.Named kind) e (λ same. apart (makes ∙ same))) owes

      mq_open-ends : (cred : Cred) (flags mode attr : ℕ) (maxmsg msgsize : ℤ) (name : List ℕ)
          → AtEnd never (Leaves (made_object names.Mq s name)) (mq_open limits s cred pid flags mode attr maxmsg msgsize name)
      mq_open-ends cred flags mode attr maxmsg msgsize name =
          after-then (proper-ends names.Mq name) (λ right. after-refuse EINVAL (λ access. after-refuse EMFILE (λ few.
          after (sought-ends s.mq name flags) (λ found is.
          by-if_some {o = found} (λ n _. there-ends names.Mq cred (kept_flags flags) few (kept-mode flags access) n (asked_by flags))
          (λ none. after (attributes-ends limits attr maxmsg msgsize) (λ given good. after-refuse ENOSPC (λ room. after-refuse ENOSPC (λ few_bytes.
          let q : Mq = empty_queue given.0 given.1 None in
          let e : NamedEntry Mq = record { bound = name; perm = perm_of cred mode; object = q } in
          new-ends names.Mq cred (kept_flags flags) few (kept-mode flags access) name mode q right (is ∙ none)
          (ap (option_made names.Mq s.mq.next) (is ∙ none)) room good (λ _. (refl, few_bytes))
          (λ p. omega (arith, sum_by-append (of-entry p) s.mq.entries ((s.mq.next, e) ∷ [])))))))))))

    -- ---- named semaphores

    -- another value of one that is open
    change-ends : {never : Bool} (fd : ℕ) (f : FoundPsem) (value : ℕ) → IsOpenPsem s pid fd f → (f.value ≤ sem_value_max → value ≤ sem_value_max)
        → AtEnd never (Leaves (on_descriptor s pid fd)) (answer (with_psem s f.number value) Empty)
    change-ends fd f value o good =
        let e = has-entry s (kinds.Named names.Psem) f.number f.value o.there in
        same-ends (with_psem s f.number value) Empty None refl refl refl
        (λ h. let most = content-sound limits s (kinds.Named names.Psem) f.number e.entry e.there h in
        with_object-sound limits s (kinds.Named names.Psem) f.number e.entry value e.there (good (subst (λ (n : ℕ). n ≤ sem_value_max) e.object most)) tt h)
        (λ _. omega arith)
        (λ h p on apart. elsewhere-object s (kinds.Named names.Psem) f.number value p on refl
        (λ _ same. apart (on-object s pid fd o.descriptor _ o.at o.on ∙ same)))
        (λ h this apart. same_in-object s this (kinds.Named names.Psem) f.number value (λ same. apart (on-object s pid fd o.descriptor _ o.at o.on ∙ same)))
        (λ p. omega arith)

    posted-few : (n : ℕ) → n ≤ sem_value_max → posted n ≤ sem_value_max
    posted-few n few = by_test (n == sem_value_max) refl
      where
        by_test : (b : Bool) → (n == sem_value_max) ≡ b → (if b then n else n + 1) ≤ sem_value_max
        by_test true is = few
        by_test false is = let other : n ≢ sem_value_max = λ same. grind (arith, nat_tests) in omega (arith, few, other)

    sem_wait-ends : (fd : ℕ) → AtEnd false (Leaves (on_descriptor s pid fd)) (sem_wait s pid fd)
    sem_wait-ends fd = after (at-all (lowers s pid fd)) (λ f ok. change-ends fd f (waited f.value) ok.semaphore (λ few. omega (arith, few)))

    module _ {never : Bool} where
      sem_post-ends : (fd : ℕ) → AtEnd never (Leaves (on_descriptor s pid fd)) (sem_post s pid fd)
      sem_post-ends fd =
          after (open_psem-ends s pid fd) (λ f o. after-then (passed-ends (post_answer f.value)) (λ _.
          change-ends fd f (posted f.value) o (posted-few f.value)))

      sem_trywait-ends : (fd : ℕ) → AtEnd never (Leaves (on_descriptor s pid fd)) (sem_trywait s pid fd)
      sem_trywait-ends fd =
          after (open_psem-ends s pid fd) (λ f o. after-then (passed-ends (wait_answer f.value)) (λ _.
          change-ends fd f (waited f.value) o (λ few. omega (arith, few))))

      sem_getvalue-ends : (fd : ℕ) → AtEnd never (Leaves None) (sem_getvalue s pid fd)
      sem_getvalue-ends fd = after (open_psem-ends s pid fd) (λ f o. read-ends (Number f.value) (omega arith))

      sem_open-ends : (cred : Cred) (flags mode value : ℕ) (name : List ℕ)
          → AtEnd never (Leaves (made_object names.Psem s name)) (sem_open limits s cred pid flags mode value name)
      sem_open-ends cred flags mode value name =
          after-then (proper-ends names.Psem name) (λ right. after-refuse EMFILE (λ few. after (sought-ends s.psem name flags) (λ found is.
          by-if_some {o = found} (λ n _. there-ends names.Psem cred 0 few refl n 6)
          (λ none. after-refuse EINVAL (λ most. after-refuse ENOSPC (λ room.
          let short : value ≤ sem_value_max = grind (arith, nat_tests) in
          new-ends names.Psem cred 0 few refl name mode value right (is ∙ none) (ap (option_made names.Psem s.psem.next) (is ∙ none)) room short (λ _. tt)
          (λ p. omega arith)))))))

      -- ---- segments

      -- another segment in the place of one that is open
      put_segment-ends : (fd : ℕ) (f : FoundPshm) (x : Segment) → IsOpenPshm s pid fd f
          → (HasSoundParts limits s → segment_bytes s.pshm - length f.entry.object.bytes + length x.bytes ≤ limits.segment_bytes)
          → AtEnd never (Leaves (on_descriptor s pid fd)) (answer (with_pshm s f.number x) Empty)
      put_segment-ends fd f x o few =
          same-ends (with_pshm s f.number x) Empty None refl refl refl
          (λ h. with_object-sound limits s (kinds.Named names.Pshm) f.number f.entry x o.there tt (few h) h) (λ _. omega arith)
          (λ h p on apart. elsewhere-object s (kinds.Named names.Pshm) f.number x p on refl (λ no. cc))
          (λ h this apart. same_in-object s this (kinds.Named names.Pshm) f.number x (λ same. apart (on-object s pid fd o.descriptor _ o.at o.on ∙ same)))
          (λ p. omega arith)

      ftruncate-ends : (fd len : ℕ) → AtEnd never (Leaves (on_descriptor s pid fd)) (ftruncate limits s pid fd len)
      ftruncate-ends fd len =
          after (writable-ends s pid fd) (λ f o. after-refuse ENOSPC (λ few.
          put_segment-ends fd f (truncated len f.entry.object) o (λ _. grind (arith, nat_tests, truncated-length f.entry.object len))))

      shm_write-ends : (fd offset : ℕ) (bytes : List ℕ) → AtEnd never (Leaves (on_descriptor s pid fd)) (shm_write limits s pid fd offset bytes)
      shm_write-ends fd offset bytes =
          after (writable-ends s pid fd) (λ f o. after-refuse EINVAL (λ _. after-refuse EINVAL (λ within.
          put_segment-ends fd f (written offset bytes f.entry.object) o (λ h.
          let same = written-length f.entry.object offset bytes (not-false _ within) in
          omega (arith, (h.named names.Pshm).together, same, fewer-of s.pshm f.number f.entry o.there)))))

      shm_read-ends : (fd offset len : ℕ) → AtEnd never (Leaves None) (shm_read limits s pid fd offset len)
      shm_read-ends fd offset len =
          after (open_pshm-ends s pid fd) (λ f o. after-refuse EINVAL {b = nat_lt limits.call_bytes len} (λ few. after-refuse EINVAL (λ within.
          let short : len ≤ limits.call_bytes = grind (arith, nat_tests) in
          read-ends (Record (part offset len f.entry.object)) (omega (arith, short, length-take len (drop offset f.entry.object.bytes))))))

      shm_stat-ends : (fd : ℕ) → AtEnd never (Leaves None) (shm_stat s pid fd)
      shm_stat-ends fd = after (open_pshm-ends s pid fd) (λ f o. read-ends (Record (record_bytes (segment_fields f.entry))) (omega arith))

      opened_pshm-ends : {touches : Option Object} (cred : Cred) (flags n : ℕ) → touches ≡ made_or_cut flags s.pshm.next (Some n)
          → (bit_and flags 1 == 1) ≡ false → has_all_descriptors limits s pid ≡ false → AtEnd never (Leaves touches) (opened_pshm s cred pid flags n)
      opened_pshm-ends cred flags n cuts access few =
          after (usable-ends s.pshm cred n (asked_of_pshm flags)) (λ e there.
          let t : State = cut_as flags s n e in
          opens-ends t (access_of flags) (opened_as names.Pshm n) (cut-same (λ (u : State). u.processes) (λ x t m. refl) flags s n e)
          (cut-same (λ (u : State). u.clock) (λ x t m. refl) flags s n e) (cut-same (λ (u : State). u.wait) (λ x t m. refl) flags s n e)
          (ap (λ (ps : Numbered Process). nat_le limits.descriptors (length (descriptors_of ps.entries pid)))
          (cut-same (λ (u : State). u.processes) (λ x t m. refl) flags s n e) ∙ few)
          (cut-sound flags s n e limits there) (λ _. cut-there flags s n e there) (segment-mode flags access)
          (λ h p on. cut-elsewhere flags s n e p on) (λ h this apart. cut-same_in flags s n e this (λ same. apart (cuts ∙ same)))
          (λ p. omega (arith, ap (λ (o : Named Mq). sum_by (of-entry p) o.entries) (cut-same (λ (u : State). u.mq) (λ x t m. refl) flags s n e))))

      shm_open-ends : (cred : Cred) (flags mode : ℕ) (name : List ℕ)
          → AtEnd never (Leaves (made_or_cut flags s.pshm.next (named s.pshm name))) (shm_open limits s cred pid flags mode name)
      shm_open-ends cred flags mode name =
          after-then (proper-ends names.Pshm name) (λ right. after-refuse EINVAL (λ access. after-refuse EMFILE (λ few.
          after (sought-ends s.pshm name flags) (λ found is.
          by-if_some {o = found} (λ n one. opened_pshm-ends cred flags n (ap (made_or_cut flags s.pshm.next) (is ∙ one)) access few)
          (λ none. after-refuse ENOSPC (λ room.
          new-ends names.Pshm cred (access_of flags) few (segment-mode flags access) name mode empty_segment right (is ∙ none)
          (ap (made_or_cut flags s.pshm.next) (is ∙ none)) room tt
          (λ h. omega (arith, (h.named names.Pshm).together)) (λ p. omega arith)))))))

    pub call-ends : (call : PlainPosix) → AtEnd (not (may_wait (Posix call))) (Leaves (touched s pid call)) (definition_of limits s pid call)
    call-ends (requests.Close fd) = close-ends fd
    call-ends (requests.MqOpen flags mode attr maxmsg msgsize name) = mq_open-ends (cred_of s pid) flags mode attr maxmsg msgsize name
    call-ends (requests.MqUnlink name) = unlink-ends names.Mq (cred_of s pid) name
    call-ends (requests.MqSend fd deadline priority text) = mq_send-ends fd priority text
    call-ends (requests.MqReceive fd deadline size) = mq_receive-ends fd size
    call-ends (requests.MqNotify fd kind cookie) = mq_notify-ends fd kind cookie
    call-ends (requests.MqGetattr fd) = mq_getattr-ends fd
    call-ends (requests.MqSetattr fd flags) = mq_setattr-ends fd flags
    call-ends (requests.SemOpen flags mode value name) = sem_open-ends (cred_of s pid) flags mode value name
    call-ends (requests.SemUnlink name) = unlink-ends names.Psem (cred_of s pid) name
    call-ends (requests.SemPost fd) = sem_post-ends fd
    call-ends (requests.SemWait fd deadline) = sem_wait-ends fd
    call-ends (requests.SemTrywait fd) = sem_trywait-ends fd
    call-ends (requests.SemGetvalue fd) = sem_getvalue-ends fd
    call-ends (requests.ShmOpen flags mode name) = shm_open-ends (cred_of s pid) flags mode name
    call-ends (requests.ShmUnlink name) = unlink-ends names.Pshm (cred_of s pid) name
    call-ends (requests.Ftruncate fd len) = ftruncate-ends fd len
    call-ends (requests.ShmRead fd offset len) = shm_read-ends fd offset len
    call-ends (requests.ShmWrite fd offset bytes) = shm_write-ends fd offset bytes
    call-ends (requests.ShmStat fd) = shm_stat-ends fd
