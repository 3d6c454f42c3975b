-- An event sends a process no more than it has asked for: of replies, and of bytes.
use Rattle.std.proofs.Common.{◌≡◌, ◌≢◌, ℕ, ◌+◌, ◌*◌, ◌<◌, ◌≤◌, Bool, true, false, not, List, [], ◌∷◌, ◌++◌, Option, Some}
use Rattle.std.proofs.Common.{None, is_some, arith, refl, sym, ap, ◌∙◌, subst, inl, inr, length, map}
use Rattle.std.specs.Prelude.{◌==◌, if◌then◌else◌, nat_eq}
use Rattle.std.specs.Cmp.{nat_eq_equiv}
use Rattle.std.proofs.lemmas.Bool.Decides.{nat_tests}
use Rattle.ipc_limits.specs.Limits.{longest_reply}
use Rattle.ipc_base.specs.declared.errno.Errno.{Errno}
use Rattle.ipc_base.specs.declared.errno.Errno.TheVariants.{EALREADY, EINTR, ENFILE, EPROTO}
use Rattle.ipc_base.specs.declared.identity.Cred.{Cred}
use Rattle.ipc_base.specs.declared.identity.Pid.{Pid}
use Rattle.ipc_limits.specs.declared.limits.Limits.{Limits}
use Rattle.ipc_base.proofs.CallerLemmas.{choice, is_some-push, rising-found}
use Rattle.ipc_base.specs.declared.identity.Moment.{Moment}
use Rattle.ipc_wait.specs.Waits.{waiting_call_of, calls_due, calls_left, without, is_due, is_of}
use Rattle.ipc_wait.proofs.CallerLemmas.{waiting_call_of-without_same, waiting_call_of-without_other}
use Rattle.ipc_wire.specs.Request.{PlainKind, PlainRequest, Hello, Interrupt as Interrupts, Sysv, Posix}
use Rattle.ipc_wire.specs.declared.reply.Body.TheVariants.{Empty}
use Rattle.ipc_wire.specs.Reply.{reply_bytes}
use Rattle.ipc_wire.proofs.CallerLemmas.{length-reply_bytes}
use Rattle.ipc_state.specs.declared.parked.Awaited.{Awaited}
use Rattle.ipc_state.specs.Finish.{Finish, Tried, Finishes, Waits, IfFinishes, has_to_wait, refused}
use Rattle.ipc_state.specs.Sound.{HasSoundParts, FitsBody}
use Rattle.ipc_state.specs.State.{State, has_all_processes, is_process, is_waiting, exit, restart, with_process, with_waiting, without_waiting}
use Rattle.ipc_state.specs.Waiting.{PlainWaiting, awaited_by, expiry}
use Rattle.ipc_state.proofs.CallerLemmas.{exit-sound}
use Rattle.posix_calls.specs.Registrations.{may_make, own, registrations}
use Rattle.posix_calls.proofs.CallerLemmas.{registrations-exited, registrations-few, registrations-none, registrations-restarted}
use Rattle.ipc_engine.specs.Bytes.{IsGreeted, allowed, asked_count, asks, bytes_to, most_owed, notice_bytes, owed, replies_to, unanswered}
use Rattle.ipc_engine.specs.Event.{PlainEvent, Connect, Call, Interrupt, Tick, Exit, Restart, PlainOutcome}
use Rattle.ipc_engine.specs.Settling.{touched_by}
use Rattle.ipc_engine.specs.Sound.{IsSound, HasToWait}
use Rattle.ipc_engine.proofs.Soundness.{greeting-fits}
use Rattle.ipc_engine.specs.Step.{Step, after, step, due, expired, greeting, waiting_on, asked, called, connect, replied_or_joined, joins, tried}
use Rattle.ipc_engine.specs.Step.{interrupt, interrupted, replied, settle}
use Rattle.ipc_engine.specs.View.{reply_of}
use Rattle.ipc_engine.proofs.Lists.{found-all, found-passes}
use Rattle.ipc_engine.proofs.Settled.{settle-has}
use Rattle.ipc_engine.proofs.Soundness.{due-sound}
use Rattle.ipc_engine.proofs.Tries.{HasEnded, tried-ended, tried-never}
use Rattle.ipc_engine.proofs.Weights.{weight_to, weight_to-append, one-weighs, replied-weighs, due-owes, held, notes, notes-less, notes-same, IsLight}
use Rattle.ipc_engine.proofs.Weights.{one_each, size_of, one-light, size-light, replies-weigh, bytes-weigh}

-- ---- what is owed

-- of two states in which the same calls wait
same-waits : (most : ℕ) (s t : State) (pid : ℕ) → t.wait ≡ s.wait → held most t pid ≡ held most s pid
same-waits most s t pid same = ap (λ (ws : List PlainWaiting). if is_some (waiting_call_of (record { 0 = pid }) ws) then most else 0) same

other_pid : (p r : Pid) → (r.0 == p.0) ≡ false → r ≢ p
other_pid p r other same = absurd (let is : r.0 ≡ p.0 = ap (λ (p : Pid). p.0) same in grind (arith, nat_tests))

-- a process whose call has left is owed nothing, each other one what it was
left-owes : (most : ℕ) (s t : State) (pid q : ℕ) → t.wait ≡ without (record { 0 = pid }) s.wait
    → held most t q ≡ (if q == pid then 0 else held most s q)
left-owes most s t pid q is = by_test (q == pid) refl
  where
    by_test : (b : Bool) → (q == pid) ≡ b → (if is_waiting t q then most else 0) ≡ (if b then 0 else (if is_waiting s q then most else 0))
    by_test true same =
        let one : q ≡ pid = grind (arith, nat_tests) in
        let none : is_waiting t q ≡ false =
        ap (λ (p : ℕ). is_waiting t p) one ∙ (ap (λ (ws : List PlainWaiting). is_some (waiting_call_of (record { 0 = pid }) ws)) is
        ∙ ap is_some (waiting_call_of-without_same (record { 0 = pid }) s.wait)) in
        rw none refl
    by_test false other =
        ap (λ (b : Bool). if b then most else 0)
        (ap (λ (ws : List PlainWaiting). is_some (waiting_call_of (record { 0 = q }) ws)) is
        ∙ ap is_some (waiting_call_of-without_other (record { 0 = pid }) (record { 0 = q }) s.wait (other_pid (record { 0 = pid }) (record { 0 = q }) other)))

-- a call more: its process, which was owed nothing, is owed one reply
is_waiting-push : (ws : List PlainWaiting) (w : PlainWaiting) (q : ℕ)
    → is_some (waiting_call_of (record { 0 = q }) (ws ++ w ∷ [])) ≡ (if is_some (waiting_call_of (record { 0 = q }) ws) then true else w.pid.0 == q)
is_waiting-push [] w q = by_test (w.pid.0 == q)
  where
    by_test : (b : Bool) → is_some (if b then Some w else None) ≡ b
    by_test true = refl
    by_test false = refl
is_waiting-push (v ∷ ws) w q = by_test (v.pid.0 == q) (is_waiting-push ws w q)
  where
    by_test : (b : Bool) → is_some (waiting_call_of (record { 0 = q }) (ws ++ w ∷ []))
        ≡ (if is_some (waiting_call_of (record { 0 = q }) ws) then true else w.pid.0 == q)
        → is_some (if b then Some v else waiting_call_of (record { 0 = q }) (ws ++ w ∷ [])) ≡ (if is_some (if b then Some v else waiting_call_of
        (record { 0 = q }) ws) then true else w.pid.0 == q)
    by_test true rest = refl
    by_test false rest = rest

joined-owes : (most : ℕ) (s : State) (w : PlainWaiting) (q : ℕ) → held most (with_waiting s w) q ≤ held most s q + (if q == w.pid.0 then most else 0)
joined-owes most s w q = by_tests (is_waiting s q) (w.pid.0 == q) (is_waiting-push s.wait w q) refl
  where
    by_tests : (before is : Bool) → is_waiting (with_waiting s w) q ≡ (if before then true else is) → (w.pid.0 == q) ≡ is
        → (if is_waiting (with_waiting s w) q then most else 0) ≤ (if before then most else 0) + (if q == w.pid.0 then most else 0)
    by_tests true is now same = rw now (omega arith)
    by_tests false true now same = let turned : (q == w.pid.0) ≡ true = grind (arith, nat_tests) in rw now (rw turned (omega arith))
    by_tests false false now same = rw now (omega arith)

-- ---- what an event sends

-- what a process is owed, a reply and notifications
abbrev debt : ℕ → ℕ → State → ℕ → ℕ
debt most note s pid = held most s pid + notes note s pid

module _ (limits : Limits) (weigh : PlainOutcome → ℕ) (most note : ℕ) (light : IsLight limits weigh most note) where
  -- it is sent no more than it was owed, with what it is owed then, and so much
  abbrev Owes : State → Step → ℕ → ℕ → Type 0
  Owes s t pid n = weight_to weigh pid t.outcomes + debt most note t.state pid ≤ debt most note s pid + n

  abbrev asking : ℕ → ℕ → ℕ
  asking pid asker = if pid == asker then most else 0

  empty-fits : FitsBody limits Empty
  empty-fits = omega arith

  -- one reply that fits, to who asks, and a notification that was owed
  one-owes : (s : State) (pid asker serial : ℕ) (f : Finish) → own pid f.fired + registrations f.state pid ≤ registrations s pid + may_make asker f.body pid
      → FitsBody limits f.body → f.state.wait ≡ s.wait → Owes s (replied asker serial f) pid (asking pid asker)
  one-owes s pid asker serial f owed fits same =
      omega (arith, replied-weighs weigh limits most note light s asker serial f pid fits owed, same-waits most s f.state pid same)

  refused-owes : (s : State) (pid asker serial : ℕ) (e : Errno) → Owes s (replied asker serial (refused s e)) pid (asking pid asker)
  refused-owes s pid asker serial e = one-owes s pid asker serial (refused s e) (omega arith) empty-fits refl

  interrupt-owes : (s : State) (pid asker serial : ℕ) → Owes s (interrupt asker serial s) pid (asking pid asker)
  interrupt-owes s pid asker serial = by_call (waiting_call_of (record { 0 = asker }) s.wait) refl
    where
      last : PlainOutcome
      last = record { pid = asker; serial = serial; errno = None; body = Empty }

      own-one : weight_to weigh pid (last ∷ []) ≤ asking pid asker
      own-one = one-weighs weigh limits most note light last pid (pid == asker) empty-fits refl

      by_call : (r : Option PlainWaiting) → waiting_call_of (record { 0 = asker }) s.wait ≡ r
          → weight_to weigh pid ((interrupted s asker r).outcomes ++ last ∷ []) + debt most note (interrupted s asker r).state pid
          ≤ debt most note s pid + asking pid asker
      by_call None is = omega (arith, own-one)
      by_call (Some w) is =
          let o : PlainOutcome = record { pid = asker; serial = w.call.serial; errno = Some EINTR; body = Empty } in
          let first = one-weighs weigh limits most note light o pid (pid == asker) empty-fits refl in
          let both = weight_to-append weigh pid (o ∷ []) (last ∷ []) in
          let left = left-owes most s (without_waiting s asker) asker pid refl in
          let replied_or_joined = notes-same note s (without_waiting s asker) pid refl in
          let before : (pid == asker) ≡ true → held most s pid ≡ most =
          (λ same. let one : pid ≡ asker = grind (arith, nat_tests) in
          let waits : is_waiting s pid ≡ true = ap (λ (q : ℕ). is_waiting s q) one ∙ ap is_some is in
          rw waits refl) in
          by_test (pid == asker) refl o first both left replied_or_joined before
        where
          by_test : (b : Bool) → (pid == asker) ≡ b → (o : PlainOutcome) → weight_to weigh pid (o ∷ []) ≤ asking pid asker
              → weight_to weigh pid ((o ∷ []) ++ last ∷ []) ≡ weight_to weigh pid (o ∷ []) + weight_to weigh pid (last ∷ [])
              → held most (without_waiting s asker) pid ≡ (if pid == asker then 0 else held most s pid)
              → notes note (without_waiting s asker) pid ≡ notes note s pid
              → ((pid == asker) ≡ true → held most s pid ≡ most)
              → weight_to weigh pid ((o ∷ []) ++ last ∷ []) + debt most note (without_waiting s asker) pid
              ≤ debt most note s pid + asking pid asker
          by_test true same o first both left replied_or_joined before =
              let mine = rw same at own-one in
              let one = rw same at first in
              let gone = rw same at left in
              rw same (omega (arith, mine, one, both, gone, replied_or_joined, before same))
          by_test false other o first both left replied_or_joined before =
              let mine = rw other at own-one in
              let one = rw other at first in
              let stays = rw other at left in
              rw other (omega (arith, mine, one, both, stays, replied_or_joined))

  joins-owes : (s : State) (pid asker : ℕ) (request : PlainRequest) (on : Option Awaited) → Owes s (joins s asker request on) pid (asking pid asker)
  joins-owes s pid asker request None = omega arith
  joins-owes s pid asker request (Some on) =
      let w = waiting_on s asker request on in
      choice (λ (t : Step). Owes s t pid (asking pid asker)) (is_due (record { 0 = s.clock }) w) _ _
      (λ _. refused-owes s pid asker request.serial (expiry request.kind))
      (λ _. omega (arith, joined-owes most s w pid, notes-same note s (with_waiting s w) pid refl))

  replied_or_joined-owes : (s : State) (pid asker : ℕ) (request : PlainRequest) (t : Tried) → IsSound limits s
      → IfFinishes (HasEnded limits s asker (touched_by s asker request.kind)) t
      → Owes s (replied_or_joined limits asker request s t) pid (asking pid asker)
  unfolding settle
  replied_or_joined-owes s pid asker request (Finishes f) h ended =
      let good = ended.good in
      let first = one-owes s pid asker request.serial f (ended.leaves pid).owed (good.body h.parts) good.wait in
      let later = (settle-has limits (length f.state.wait) f.state (good.state h.parts)).owes weigh most note light pid in
      let both = weight_to-append weigh pid (replied asker request.serial f).outcomes (settle limits f.state).outcomes in
      omega (arith, first, later, both)
  replied_or_joined-owes s pid asker request Waits h ended = joins-owes s pid asker request (awaited_by request.kind)

  called-owes : (s : State) (pid asker : ℕ) (request : PlainRequest) → IsSound limits s
      → Owes s (called limits asker request s) pid (asking pid asker)
  called-owes s pid asker request h =
      choice (λ (t : Step). Owes s t pid (asking pid asker)) (is_waiting s asker) _ _
      (λ _. refused-owes s pid asker request.serial EALREADY)
      (λ free. replied_or_joined-owes s pid asker request (tried limits s asker false request.kind) h (tried-ended limits s asker false request.kind free))

  asked-owes : (s : State) (pid asker : ℕ) (request : PlainRequest) (kind : PlainKind) → IsSound limits s
      → Owes s (asked limits asker request kind s) pid (asking pid asker)
  asked-owes s pid asker request (Hello cred) h = refused-owes s pid asker request.serial EPROTO
  asked-owes s pid asker request Interrupts h = interrupt-owes s pid asker request.serial
  asked-owes s pid asker request (Sysv call) h = called-owes s pid asker request h
  asked-owes s pid asker request (Posix call) h = called-owes s pid asker request h

  connect-owes : (s : State) (cred : Cred) (serial pid : ℕ) → 0 < pid
      → Owes s (connect limits cred serial s) pid (if pid == s.processes.next then most else 0)
  connect-owes s cred serial pid some =
      choice (λ (t : Step). Owes s t pid (if pid == s.processes.next then most else 0)) (has_all_processes limits s) _ _
      (λ _. let none : (pid == 0) ≡ false = grind (arith, nat_tests) in rw none (omega arith))
      (λ _. omega (
        arith,
        one-weighs weigh limits most note light (record { pid = s.processes.next; serial = serial; errno = None; body = greeting limits s.processes.next }) pid
            (pid == s.processes.next) (greeting-fits limits s.processes.next) refl,
        notes-same note s (with_process s cred) pid refl,
      ))

  -- first those are answered whose deadline has come
  then-owes : (s : State) (moment pid n : ℕ) (next : State → Step) → IsSound limits s
      → Owes (due moment s).state (next (due moment s).state) pid n → Owes s (after (due moment s) next) pid n
  then-owes s moment pid n next h later =
      omega (
        arith,
        later,
        due-owes weigh limits most note light (record { 0 = (due moment s).state.clock }) pid s.wait h.parts.wait.pids,
        notes-same note s (due moment s).state pid refl,
        weight_to-append weigh pid (due moment s).outcomes (next (due moment s).state).outcomes,
      )

  -- those that go on after it are owed no more either
  settled-owes : (t : State) → HasSoundParts limits t → (pid : ℕ) {n : ℕ} → debt most note t pid ≤ n
      → weight_to weigh pid (settle limits t).outcomes + debt most note (settle limits t).state pid ≤ n + 0
  unfolding settle
  settled-owes t h pid less = omega (arith, less, (settle-has limits (length t.wait) t h).owes weigh most note light pid)

  -- it is owed no more then, by so much
  pub step-weighs : (s : State) (e : PlainEvent) (pid : ℕ) → IsSound limits s → 0 < pid
      → weight_to weigh pid (step limits s e).outcomes + (held most (step limits s e).state pid + notes note (step limits s e).state pid)
      ≤ held most s pid + notes note s pid + (if asks s e pid then most else 0)
  step-weighs s (Connect cred serial moment) pid h some =
      then-owes s moment pid _ (connect limits cred serial) h (connect-owes (due moment s).state cred serial pid some)
  step-weighs s (Call asker request moment) pid h some =
      then-owes s moment pid _ (asked limits asker request request.kind) h
      (asked-owes (due moment s).state pid asker request request.kind (due-sound limits s moment h))
  step-weighs s (Interrupt asker serial moment) pid h some =
      then-owes s moment pid _ (interrupt asker serial) h (interrupt-owes (due moment s).state pid asker serial)
  step-weighs s (Tick moment) pid h some =
      omega (
        arith,
        due-owes weigh limits most note light (record { 0 = (due moment s).state.clock }) pid s.wait h.parts.wait.pids,
        notes-same note s (due moment s).state pid refl,
      )
  step-weighs s (Exit gone moment) pid h some =
      let d = (due moment s).state in
      let t = exit d gone in
      let fewer = notes-less note d t pid (registrations-exited d gone pid) in
      let free = choice (λ (n : ℕ). n ≡ held most t pid → held most t pid ≤ held most d pid) (pid == gone) 0 (held most d pid)
      (λ _ is. omega arith) (λ _ is. omega arith) (sym (left-owes most d t gone pid refl)) in
      then-owes s moment pid 0 (λ u. settle limits (exit u gone)) h
      (settled-owes t (exit-sound limits d gone (due-sound limits s moment h).parts) pid (omega (arith, fewer, free)))
  step-weighs s Restart pid h some = omega (arith, notes-less note s (restart limits s) pid (registrations-restarted limits s pid))

module _ (limits : Limits) where
  -- a notification is no reply
  no-notes : (s : State) (pid : ℕ) → notes 0 s pid ≡ 0
  unfolding notes
  no-notes s pid = omega arith

  -- each request is answered once at most
  pub step-once : (s : State) (e : PlainEvent) (pid : ℕ) → IsSound limits s → 0 < pid
      → replies_to pid (step limits s e).outcomes + unanswered (step limits s e).state pid ≤ unanswered s pid + asked_count s e pid
  step-once s e pid h some =
      omega (
        arith,
        step-weighs limits one_each 1 0 (one-light limits) s e pid h some,
        replies-weigh pid (step limits s e).outcomes,
        no-notes s pid,
        no-notes (step limits s e).state pid,
      )

  -- what is owed is a reply while a call waits, and the notifications
  owed-debt : (s : State) (pid : ℕ) → owed limits s pid ≡ held (longest_reply limits) s pid + notes notice_bytes s pid
  unfolding owed notes
  owed-debt s pid = refl

  -- and its bytes are no more than a reply may have
  pub step-owes : (s : State) (e : PlainEvent) (pid : ℕ) → IsSound limits s → 0 < pid
      → bytes_to pid (step limits s e).outcomes + owed limits (step limits s e).state pid ≤ owed limits s pid + allowed limits s e pid
  step-owes s e pid h some =
      omega (
        arith,
        step-weighs limits size_of (longest_reply limits) notice_bytes (size-light limits) s e pid h some,
        bytes-weigh pid (step limits s e).outcomes,
        owed-debt s pid,
        owed-debt (step limits s e).state pid,
      )

  pub owed-most : (s : State) (pid : ℕ) → HasSoundParts limits s → owed limits s pid ≤ most_owed limits
  unfolding owed
  owed-most s pid h =
      let few = registrations-few limits s pid h in
      choice (λ (n : ℕ). n + notice_bytes * registrations s pid ≤ most_owed limits) (is_waiting s pid) (longest_reply limits) 0
      (λ _. omega (arith, few)) (λ _. omega (arith, few))

  -- who waits is a process
  waits-process : (s : State) (pid : ℕ) → IsSound limits s → is_process s pid ≡ false → is_waiting s pid ≡ false
  waits-process s pid h gone = by_call (waiting_call_of (record { 0 = pid }) s.wait) refl
    where
      by_call : (r : Option PlainWaiting) → waiting_call_of (record { 0 = pid }) s.wait ≡ r → is_some r ≡ false
      by_call None is = refl
      by_call (Some w) is = absurd (
          let there = (found-all (is_of (record { 0 = pid })) (HasToWait limits s) s.wait w h.waits is).process in
          let passes : (w.pid.0 == pid) ≡ true = found-passes (is_of (record { 0 = pid })) s.wait w is in
          let one : w.pid.0 ≡ pid = grind (arith, nat_tests) in
          let no : is_process s pid ≡ true = ap (λ (q : ℕ). is_process s q) (sym one) ∙ there in cc)

  pub owed-none : (s : State) (pid : ℕ) → IsSound limits s → is_process s pid ≡ false → owed limits s pid ≡ 0
  unfolding owed
  owed-none s pid h gone =
      let none = registrations-none limits s pid h.parts gone in
      rw (waits-process s pid h gone) (omega (arith, none))

  -- ---- a request without a reply

  -- a reply has bytes
  one-sent : (o : PlainOutcome) (os : List PlainOutcome) (pid : ℕ) → (pid == o.pid) ≡ true → bytes_to pid (o ∷ os) ≡ 0 → ⊥
  one-sent o os pid same none =
      let sent : length (reply_bytes (reply_of o)) + bytes_to pid os ≡ 0 = rw same at none in
      omega (arith, sent, length-reply_bytes (reply_of o))

  bytes-parts : (xs ys : List PlainOutcome) (pid : ℕ) → bytes_to pid (xs ++ ys) ≡ 0 → (bytes_to pid xs ≡ 0) × (bytes_to pid ys ≡ 0)
  bytes-parts xs ys pid none =
      let all = weight_to-append size_of pid xs ys in
      let both = bytes-weigh pid (xs ++ ys) in
      let first = bytes-weigh pid xs in
      let second = bytes-weigh pid ys in
      (omega (arith, none, all, both, first, second), omega (arith, none, all, both, first, second))

  interrupt-sent : (s : State) (pid asker serial : ℕ) → (pid == asker) ≡ true → bytes_to pid (interrupt asker serial s).outcomes ≡ 0 → ⊥
  interrupt-sent s pid asker serial same none =
      let o : PlainOutcome = record { pid = asker; serial = serial; errno = None; body = Empty } in
      one-sent o [] pid same (bytes-parts (interrupted s asker (waiting_call_of (record { 0 = asker }) s.wait)).outcomes (o ∷ []) pid none).1

  replied_or_joined-unanswered : (s : State) (asker : ℕ) (request : PlainRequest) (t : Tried) → tried limits s asker false request.kind ≡ t
      → is_waiting s asker ≡ false → bytes_to asker (replied_or_joined limits asker request s t).outcomes ≡ 0
      → (unanswered s asker ≡ 0) × (unanswered (replied_or_joined limits asker request s t).state asker ≡ 1)
  replied_or_joined-unanswered s asker request (Finishes f) is free none =
      absurd (one-sent (record { pid = asker; serial = request.serial; errno = f.errno; body = f.body }) _ asker (grind (arith, nat_tests)) none)
  replied_or_joined-unanswered s asker request Waits is free none = (rw free refl, by_awaited (awaited_by request.kind) refl none)
    where
      by_awaited : (on : Option Awaited) → awaited_by request.kind ≡ on → bytes_to asker (joins s asker request on).outcomes ≡ 0
          → unanswered (joins s asker request on).state asker ≡ 1
      by_awaited None nothing quiet = absurd (
          let never = tried-never limits s asker false request.kind nothing in
          let waits : has_to_wait (tried limits s asker false request.kind) ≡ true = ap has_to_wait is in cc)
      by_awaited (Some on) there quiet =
          let w : PlainWaiting = waiting_on s asker request on in
          let same : (asker == asker) ≡ true = grind (arith, nat_tests) in
          choice (λ (t : Step). bytes_to asker t.outcomes ≡ 0 → unanswered t.state asker ≡ 1)
          (is_due (record { 0 = s.clock }) w) _ _
          (λ _ quiet. absurd (one-sent (record { pid = asker; serial = request.serial; errno = Some (expiry request.kind); body = Empty }) [] asker same quiet))
          (λ _ quiet.
          let now : is_waiting (with_waiting s w) asker ≡ true = is_waiting-push s.wait w asker
          ∙ (ap (λ (b : Bool). if b then true else asker == asker) free ∙ same) in
          rw now refl)
          quiet

  called-unanswered : (s : State) (asker : ℕ) (request : PlainRequest) → bytes_to asker (called limits asker request s).outcomes ≡ 0
      → (unanswered s asker ≡ 0) × (unanswered (called limits asker request s).state asker ≡ 1)
  called-unanswered s asker request none =
      choice (λ (t : Step). bytes_to asker t.outcomes ≡ 0 → (unanswered s asker ≡ 0) × (unanswered t.state asker ≡ 1)) (is_waiting s asker) _ _
      (λ _ no. absurd (one-sent (record { pid = asker; serial = request.serial; errno = Some EALREADY; body = Empty }) [] asker (grind
      (arith, nat_tests)) no))
      (λ free no. replied_or_joined-unanswered s asker request (tried limits s asker false request.kind) refl free no) none

  asked-unanswered : (s : State) (asker : ℕ) (request : PlainRequest) (kind : PlainKind)
      → bytes_to asker (asked limits asker request kind s).outcomes ≡ 0
      → (unanswered s asker ≡ 0) × (unanswered (asked limits asker request kind s).state asker ≡ 1)
  asked-unanswered s asker request (Hello cred) none =
      absurd (one-sent (record { pid = asker; serial = request.serial; errno = Some EPROTO; body = Empty }) [] asker (grind (arith, nat_tests)) none)
  asked-unanswered s asker request Interrupts none = absurd (interrupt-sent s asker asker request.serial (grind (arith, nat_tests)) none)
  asked-unanswered s asker request (Sysv call) none = called-unanswered s asker request none
  asked-unanswered s asker request (Posix call) none = called-unanswered s asker request none

  -- who is sent nothing at a moment waits on, if it waited
  due-left : (now : Moment) (ws : List PlainWaiting) (pid : ℕ) → is_some (waiting_call_of (record { 0 = pid }) ws) ≡ true
      → bytes_to pid (map expired (calls_due now ws)) ≡ 0 → is_some (waiting_call_of (record { 0 = pid }) (calls_left now ws)) ≡ true
  due-left now [] pid is quiet = cc
  due-left now (w ∷ ws) pid is quiet = by_test (w.pid.0 == pid) (is_due now w) refl is quiet (due-left now ws pid)
    where
      by_test : (b due : Bool) → (w.pid.0 == pid) ≡ b → is_some (if b then Some w else waiting_call_of (record { 0 = pid }) ws) ≡ true
          → bytes_to pid (map expired (if due then w ∷ calls_due now ws else calls_due now ws)) ≡ 0
          → (is_some (waiting_call_of (record { 0 = pid }) ws) ≡ true → bytes_to pid (map expired (calls_due now ws)) ≡ 0
          → is_some (waiting_call_of (record { 0 = pid }) (calls_left now ws)) ≡ true)
          → is_some (waiting_call_of (record { 0 = pid }) (if not due then w ∷ calls_left now ws else calls_left now ws)) ≡ true
      by_test true true same is quiet rest = absurd (one-sent (expired w) (map expired (calls_due now ws)) pid (grind (arith, nat_tests)) quiet)
      by_test true false same is quiet rest = rw same refl
      by_test false true other is quiet rest =
          let mine : (pid == w.pid.0) ≡ false = grind (arith, nat_tests) in
          let no : 0 + bytes_to pid (map expired (calls_due now ws)) ≡ 0 = rw mine at quiet in
          rest is (omega (arith, no))
      by_test false false other is quiet rest = rw other (rest is quiet)

  -- of whom no call waits after a moment that sends it nothing, of that none waited
  due-free : (s : State) (moment pid : ℕ) → bytes_to pid (due moment s).outcomes ≡ 0 → unanswered (due moment s).state pid ≡ 0 → unanswered s pid ≡ 0
  due-free s moment pid quiet none = by_test (is_waiting s pid) refl
    where
      by_test : (b : Bool) → is_waiting s pid ≡ b → ◌≡◌ {A = ℕ} (if b then 1 else 0) 0
      by_test true waits =
          let left = due-left (record { 0 = (due moment s).state.clock }) s.wait pid waits quiet in
          absurd (let no : ◌≡◌ {A = ℕ} 1 0 = rw left at none in omega (arith, no))
      by_test false free = refl

  pub unanswered-waits : (s : State) (e : PlainEvent) (pid : ℕ) → IsSound limits s → is_process s pid ≡ true → asks s e pid ≡ true
      → bytes_to pid (step limits s e).outcomes ≡ 0 → (unanswered s pid ≡ 0) × (unanswered (step limits s e).state pid ≡ 1)
  unanswered-waits s (Connect cred serial moment) pid sound is asking none =
      let below = (rising-found 1 s.processes.entries s.processes.next pid sound.parts.processes.numbered.numbers is).1 in
      absurd (grind (arith, nat_tests, below, asking))
  unanswered-waits s (Call asker request moment) pid sound is asking none =
      let t = (due moment s).state in
      let one : pid ≡ asker = grind (arith, nat_tests, asking) in
      let parts = bytes-parts (due moment s).outcomes (asked limits asker request request.kind t).outcomes pid none in
      let mine : bytes_to asker (asked limits asker request request.kind t).outcomes ≡ 0 =
      ap (λ (q : ℕ). bytes_to q (asked limits asker request request.kind t).outcomes) (sym one) ∙ parts.1 in
      let has = asked-unanswered t asker request request.kind mine in
      let has_here = subst (λ (q : ℕ). (unanswered t q ≡ 0) × (unanswered (asked limits asker request request.kind t).state q ≡ 1)) (sym one) has in
      (due-free s moment pid parts.0 has_here.0, has_here.1)
  unanswered-waits s (Interrupt asker serial moment) pid sound is asking none =
      absurd (interrupt-sent (due moment s).state pid asker serial asking
      (bytes-parts (due moment s).outcomes (interrupt asker serial (due moment s).state).outcomes pid none).1)
  unanswered-waits s (Tick moment) pid sound is asking none = cc
  unanswered-waits s (Exit gone moment) pid sound is asking none = cc
  unanswered-waits s Restart pid sound is asking none = cc

-- the last reply of a HELLO is its own
pub hello-greets : (limits : Limits) (s : State) (cred : Cred) (serial moment : ℕ) → IsGreeted s (step limits s (Connect cred serial moment))
hello-greets limits s cred serial moment =
    let d = due moment s in
    choice (λ (t : Step). IsGreeted s (record { state = t.state; outcomes = d.outcomes ++ t.outcomes })) (has_all_processes limits d.state) _ _
    (λ _. record {
      front = d.outcomes;
      reply = record { pid = 0; serial = serial; errno = Some ENFILE; body = Empty };
      last = refl;
      process = inl refl;
    })
    (λ _. record {
      front = d.outcomes;
      reply = record { pid = s.processes.next; serial = serial; errno = None; body = greeting limits s.processes.next };
      last = refl;
      process = inr (refl, is_some-push nat_eq nat_eq_equiv s.processes.entries s.processes.next (record { cred = cred; descriptors = [] }));
    })
