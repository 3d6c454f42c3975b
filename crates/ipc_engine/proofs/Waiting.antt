-- The laws of waiting, and what an event leaves of the processes and of the clock.
use Rattle.std.proofs.Common.{◌≡◌, ℕ, suc, ◌+◌, ◌*◌, ◌≤◌, Bool, true, false, not, List, [], ◌∷◌, ◌++◌, length}
use Rattle.std.proofs.Common.{length-append, map, max, Option, Some, None, refl, ap, subst, ◌∙◌, arith}
use Rattle.std.specs.Prelude.{All, find, if◌then◌else◌}
use Rattle.std.proofs.lemmas.List.{length-map}
use Rattle.std.proofs.lemmas.List.Filters.{length-filter_both}
use Rattle.std.proofs.lemmas.List.Elements.{All-head, All-tail}
use Rattle.ipc_base.specs.declared.errno.Errno.{Errno}
use Rattle.ipc_base.specs.declared.errno.Errno.TheVariants.{EALREADY}
use Rattle.ipc_limits.specs.declared.limits.Limits.{Limits}
use Rattle.ipc_base.proofs.CallerLemmas.{choice}
use Rattle.ipc_base.specs.declared.identity.Moment.{Moment}
use Rattle.ipc_wait.specs.Waits.{waiting_call_of, calls_due, calls_left, without, is_due, is_of, HaveDistinctPids}
use Rattle.ipc_wait.proofs.CallerLemmas.{due-or-left, without-here}
use Rattle.ipc_wire.specs.Request.{PlainKind, PlainRequest, Hello, Interrupt as Interrupts, Sysv, Posix}
use Rattle.ipc_wire.specs.declared.reply.Body.TheVariants.{Empty}
use Rattle.ipc_state.specs.declared.parked.Awaited.{Awaited}
use Rattle.ipc_state.specs.Finish.{Tried, Finishes, Waits, IfFinishes, has_to_wait, done, refused}
use Rattle.ipc_state.specs.Sound.{HasSoundParts}
use Rattle.ipc_state.specs.State.{State, due_calls, has_all_processes, is_waiting, exit, without_due, without_waiting, with_waiting}
use Rattle.ipc_state.specs.Waiting.{PlainWaiting, IsSoundWaiting, awaited_by, expiry}
use Rattle.ipc_state.proofs.CallerLemmas.{HasSameProcesses, exit-sound, same-processes}
use Rattle.ipc_engine.specs.Bytes.{IsAnswered}
use Rattle.ipc_engine.specs.Event.{PlainEvent, Connect, Call, Interrupt, Tick, Exit, Restart, PlainOutcome, moment_of}
use Rattle.ipc_engine.specs.Settling.{touched_by}
use Rattle.ipc_engine.specs.Sound.{IsSound, NoneIsDue}
use Rattle.ipc_engine.specs.Step.{Step, silent, after, step, due, expired, waiting_on, asked, called, replied_or_joined, joins, interrupt, interrupted}
use Rattle.ipc_engine.specs.Step.{replied, connect, settle, settle_within, resumed, resumed_first, tried, is_call}
use Rattle.ipc_engine.specs.Step.{answered, can_resume, most_replies}
use Rattle.ipc_engine.proofs.Settled.{as-before, left-free, replied-few, same-then, settle-has, settle-kept, resumed-has}
use Rattle.ipc_engine.proofs.Tries.{HasEnded, tried-alike, tried-ended}
use Rattle.ipc_engine.proofs.Soundness.{due-sound, sound-settled}
use Rattle.ipc_engine.proofs.Lists.{found-here}

-- ---- the processes and the clock

interrupted-keeps : (s : State) (pid : ℕ) (r : Option PlainWaiting)
    → ((interrupted s pid r).state.processes ≡ s.processes) × ((interrupted s pid r).state.clock ≡ s.clock)
interrupted-keeps s pid None = (refl, refl)
interrupted-keeps s pid (Some w) = (refl, refl)

joins-keeps : (s : State) (pid : ℕ) (request : PlainRequest) (on : Option Awaited)
    → ((joins s pid request on).state.processes ≡ s.processes) × ((joins s pid request on).state.clock ≡ s.clock)
joins-keeps s pid request None = (refl, refl)
joins-keeps s pid request (Some on) =
    choice (λ (t : Step). (t.state.processes ≡ s.processes) × (t.state.clock ≡ s.clock)) (is_due (record { 0 = s.clock }) (waiting_on s pid request on)) _ _
    (λ _. (refl, refl)) (λ _. (refl, refl))

joins-same : (s : State) (pid : ℕ) (request : PlainRequest) (on : Option Awaited)
    → HasSameProcesses s (joins s pid request on).state × ((joins s pid request on).state.clock ≡ s.clock)
joins-same s pid request on =
    let kept = joins-keeps s pid request on in
    (same-processes s (joins s pid request on).state kept.0, kept.1)

module _ (limits : Limits) where
  replied_or_joined-keeps : (s : State) (pid : ℕ) (request : PlainRequest) (t : Tried) → IfFinishes (HasEnded limits s pid (touched_by s pid request.kind)) t
      → HasSameProcesses s (replied_or_joined limits pid request s t).state × ((replied_or_joined limits pid request s t).state.clock ≡ s.clock)
  replied_or_joined-keeps s pid request (Finishes f) ended =
      let later = settle-kept limits f.state in
      (same-then s f.state (settle limits f.state).state ended.good.kept later.0, later.1 ∙ ended.good.clock)
  replied_or_joined-keeps s pid request Waits ended = joins-same s pid request (awaited_by request.kind)

  called-keeps : (s : State) (pid : ℕ) (request : PlainRequest)
      → HasSameProcesses s (called limits pid request s).state × ((called limits pid request s).state.clock ≡ s.clock)
  called-keeps s pid request =
      choice (λ (t : Step). HasSameProcesses s t.state × (t.state.clock ≡ s.clock)) (is_waiting s pid) _ _ (λ _. (same-processes s s refl, refl))
      (λ free. replied_or_joined-keeps s pid request (tried limits s pid false request.kind) (tried-ended limits s pid false request.kind free))

  -- a request leaves the same processes, and the clock
  pub asked-keeps : (s : State) (pid : ℕ) (request : PlainRequest) (kind : PlainKind)
      → HasSameProcesses s (asked limits pid request kind s).state × ((asked limits pid request kind s).state.clock ≡ s.clock)
  asked-keeps s pid request (Hello cred) = (same-processes s s refl, refl)
  asked-keeps s pid request Interrupts =
      let kept = interrupted-keeps s pid (waiting_call_of (record { 0 = pid }) s.wait) in
      (same-processes s (interrupt pid request.serial s).state kept.0, kept.1)
  asked-keeps s pid request (Sysv call) = called-keeps s pid request
  asked-keeps s pid request (Posix call) = called-keeps s pid request

  pub interrupt-keeps : (s : State) (pid serial : ℕ)
      → ((interrupt pid serial s).state.processes ≡ s.processes) × ((interrupt pid serial s).state.clock ≡ s.clock)
  interrupt-keeps s pid serial = interrupted-keeps s pid (waiting_call_of (record { 0 = pid }) s.wait)

  pub sets-clock : (s : State) (e : PlainEvent) → (step limits s e).state.clock ≡ max s.clock (moment_of e)
  sets-clock s (Connect cred serial moment) =
      choice (λ (t : Step). t.state.clock ≡ max s.clock moment) (has_all_processes limits (due moment s).state) _ _ (λ _. refl) (λ _. refl)
  sets-clock s (Call pid request moment) = (asked-keeps (due moment s).state pid request request.kind).1
  sets-clock s (Interrupt pid serial moment) = (interrupt-keeps (due moment s).state pid serial).1
  sets-clock s (Tick moment) = refl
  sets-clock s (Exit pid moment) = (settle-kept limits (exit (due moment s).state pid)).1
  sets-clock s Restart = omega arith

  -- ---- how many replies there are: one, and one to each that waited, and a notification with each

  joins-few : (s : State) (pid : ℕ) (request : PlainRequest) (on : Option Awaited) → length (joins s pid request on).outcomes ≤ 2 * (length s.wait + 1)
  joins-few s pid request None = omega arith
  joins-few s pid request (Some on) =
      choice (λ (t : Step). length t.outcomes ≤ 2 * (length s.wait + 1)) (is_due (record { 0 = s.clock }) (waiting_on s pid request on)) _ _
      (λ _. omega arith) (λ _. omega arith)

  replied_or_joined-few : (s : State) (pid : ℕ) (request : PlainRequest) (t : Tried) → IsSound limits s
      → IfFinishes (HasEnded limits s pid (touched_by s pid request.kind)) t
      → length (replied_or_joined limits pid request s t).outcomes ≤ 2 * (length s.wait + 1)
  unfolding settle
  replied_or_joined-few s pid request (Finishes f) h ended =
      let good = ended.good in
      let later = (settle-has limits (length f.state.wait) f.state (good.state h.parts)).few in
      omega (
        arith,
        later,
        ap length good.wait,
        replied-few pid request.serial f,
        length-append (replied pid request.serial f).outcomes (settle limits f.state).outcomes,
      )
  replied_or_joined-few s pid request Waits h ended = joins-few s pid request (awaited_by request.kind)

  interrupt-few : (s : State) (pid serial : ℕ) → length (interrupt pid serial s).outcomes ≤ 2 * (length s.wait + 1)
  interrupt-few s pid serial = by_call (waiting_call_of (record { 0 = pid }) s.wait) refl
    where
      by_call : (r : Option PlainWaiting) → waiting_call_of (record { 0 = pid }) s.wait ≡ r
          → length ((interrupted s pid r).outcomes ++ (replied pid serial (done (interrupted s pid r).state Empty)).outcomes) ≤ 2 * (length s.wait + 1)
      by_call None is = omega arith
      by_call (Some w) is = omega arith

  called-few : (s : State) (pid : ℕ) (request : PlainRequest) → IsSound limits s → length (called limits pid request s).outcomes ≤ 2 * (length s.wait + 1)
  called-few s pid request h =
      choice (λ (t : Step). length t.outcomes ≤ 2 * (length s.wait + 1)) (is_waiting s pid) _ _ (λ _. omega arith)
      (λ free. replied_or_joined-few s pid request (tried limits s pid false request.kind) h (tried-ended limits s pid false request.kind free))

  asked-few : (s : State) (pid : ℕ) (request : PlainRequest) (kind : PlainKind) → IsSound limits s
      → length (asked limits pid request kind s).outcomes ≤ 2 * (length s.wait + 1)
  asked-few s pid request (Hello cred) h = omega arith
  asked-few s pid request Interrupts h = interrupt-few s pid request.serial
  asked-few s pid request (Sysv call) h = called-few s pid request h
  asked-few s pid request (Posix call) h = called-few s pid request h

  -- those whose deadline has come, and then the others
  due-few : (s : State) (moment : ℕ) (next : State → Step) → IsSound limits s
      → length (next (due moment s).state).outcomes ≤ 2 * (length (due moment s).state.wait + 1)
      → length (after (due moment s) next).outcomes ≤ most_replies limits
  due-few s moment next h few =
      let now : Moment = record { 0 = max s.clock moment } in
      omega (
        arith,
        few,
        h.parts.wait.few,
        due-or-left now s.wait,
        length-map (calls_due now s.wait) expired,
        length-append (due moment s).outcomes (next (due moment s).state).outcomes,
      )

  settled-few : (t : State) → HasSoundParts limits t → {n : ℕ} → length t.wait ≤ n → length (settle limits t).outcomes ≤ 2 * (n + 1)
  unfolding settle
  settled-few t h less = omega (arith, less, (settle-has limits (length t.wait) t h).few)

  pub step-few : (s : State) (e : PlainEvent) → IsSound limits s → length (step limits s e).outcomes ≤ most_replies limits
  step-few s (Connect cred serial moment) h =
      due-few s moment (connect limits cred serial) h
      (choice (λ (t : Step). length t.outcomes ≤ 2 * (length (due moment s).state.wait + 1)) (has_all_processes limits (due moment s).state) _ _
      (λ _. omega arith) (λ _. omega arith))
  step-few s (Call pid request moment) h =
      due-few s moment (asked limits pid request request.kind) h (asked-few (due moment s).state pid request request.kind (due-sound limits s moment h))
  step-few s (Interrupt pid serial moment) h = due-few s moment (interrupt pid serial) h (interrupt-few (due moment s).state pid serial)
  step-few s (Tick moment) h = omega (arith, due-few s moment silent h (omega arith), length-append (due moment s).outcomes [])
  step-few s (Exit pid moment) h =
      due-few s moment (λ t. settle limits (exit t pid)) h
      (settled-few (exit (due moment s).state pid) (exit-sound limits (due moment s).state pid (due-sound limits s moment h).parts)
      (omega (
        arith,
        length-filter_both (is_of (record { 0 = pid })) (λ (w : PlainWaiting). not (is_of (record { 0 = pid }) w))
            (λ w. refl) (due moment s).state.wait,
      )))
  step-few s Restart h = omega arith

  -- ---- who goes on first

  module _ (s : State) (before later : List PlainWaiting) (w : PlainWaiting) (h : HasSoundParts limits s) (is : s.wait ≡ before ++ w ∷ later) where
    in_list : IsSoundWaiting w
    in_list = middle before (subst (λ (ws : List PlainWaiting). All IsSoundWaiting ws) is h.wait.each)
      where
        middle : (vs : List PlainWaiting) → All IsSoundWaiting (vs ++ w ∷ later) → IsSoundWaiting w
        middle [] all = All-head IsSoundWaiting w later all
        middle (v ∷ vs) all = middle vs (All-tail IsSoundWaiting v (vs ++ w ∷ later) all)

    pub goes-left : (resumed limits s w).state.wait ≡ before ++ later
    goes-left =
        (resumed-has limits s w in_list).wait ∙ (ap (without w.pid) is ∙ without-here w later before (subst HaveDistinctPids is h.wait.pids))

    pub goes-first : All (λ (v : PlainWaiting). can_resume limits s v ≡ false) before → can_resume limits s w ≡ true
        → settle limits s ≡ after (resumed limits s w) (settle limits)
    unfolding settle settle_within
    goes-first none goes =
        let found : find (can_resume limits s) s.wait ≡ Some w = ap (find (can_resume limits s)) is
        ∙ found-here (can_resume limits s) before later w none goes in
        let count : length s.wait ≡ suc (length (resumed limits s w).state.wait) =
        omega (arith, ap length is, ap length goes-left, length-append before (w ∷ later), length-append before later) in
        ap (λ (n : ℕ). settle_within limits n s) count
        ∙ ap (λ (r : Option PlainWaiting). resumed_first limits s r (settle_within limits (length (resumed limits s w).state.wait))) found

    pub goes-answered : can_resume limits s w ≡ true → IsAnswered w (resumed limits s w)
    goes-answered goes =
        by_tried (tried limits (without_waiting s w.pid.0) w.pid.0 true w.call.kind)
        (tried-ended limits (without_waiting s w.pid.0) w.pid.0 true w.call.kind (left-free s w))
        (tried-alike limits s (without_waiting s w.pid.0) w.pid.0 true true w.call.kind w.on in_list.on refl
        (as-before w.pid.0 w.on s (without_waiting s w.pid.0) refl refl refl refl (λ p k. refl) refl) ∙ opposite _ goes)
      where
        by_tried : (t : Tried) → IfFinishes
            (HasEnded limits (without_waiting s w.pid.0) w.pid.0 (touched_by (without_waiting s w.pid.0) w.pid.0 w.call.kind)) t → has_to_wait t ≡ false
            → IsAnswered w (answered w (without_waiting s w.pid.0) t)
        by_tried (Finishes f) ended never =
            let o : PlainOutcome = record { pid = w.pid.0; serial = w.call.serial; errno = f.errno; body = f.body } in
            record { reply = o; fired = f.fired; all = refl; process = refl; serial = refl }
        by_tried Waits ended never = cc

        opposite : (b : Bool) → not b ≡ true → b ≡ false
        opposite true never = cc
        opposite false never = refl

  -- ---- a call that is refused, or waits

  asked-called : (s : State) (pid : ℕ) (request : PlainRequest) (kind : PlainKind) → is_call kind ≡ true
      → asked limits pid request kind s ≡ called limits pid request s
  asked-called s pid request (Hello cred) never = cc
  asked-called s pid request Interrupts never = cc
  asked-called s pid request (Sysv call) is = refl
  asked-called s pid request (Posix call) is = refl

  -- what is no call never waits
  call-if-waits : (s : State) (pid : ℕ) (kind : PlainKind) → tried limits s pid false kind ≡ Waits → is_call kind ≡ true
  call-if-waits s pid (Hello cred) never = cc
  call-if-waits s pid Interrupts never = cc
  call-if-waits s pid (Sysv call) waits = refl
  call-if-waits s pid (Posix call) waits = refl

  module _ (s : State) (pid moment : ℕ) (request : PlainRequest) where
    abbrev here : State
    here = (due moment s).state

    -- what an event of a call comes to
    comes-to : is_call request.kind ≡ true → (next : State → Step) → called limits pid request here ≡ next here
        → step limits s (Call pid request moment) ≡ after (due moment s) next
    comes-to is next same =
        ap (λ (t : Step). let u : Step = record { state = t.state; outcomes = (due moment s).outcomes ++ t.outcomes } in u)
        (asked-called here pid request request.kind is ∙ same)

    by-waiting : (b : Bool) → is_waiting here pid ≡ b → called limits pid request here
        ≡ (if b then replied pid request.serial (refused here EALREADY)
        else replied_or_joined limits pid request here (tried limits here pid false request.kind))
    by-waiting b same =
        ap (λ (w : Bool).
        if w then replied pid request.serial (refused here EALREADY)
        else replied_or_joined limits pid request here (tried limits here pid false request.kind)) same

    pub refused-same : (e : Errno) → IsSound limits s → is_call request.kind ≡ true
        → tried limits here pid false request.kind ≡ Finishes (refused here e) → (step limits s (Call pid request moment)).state ≡ here
    refused-same e h is comes =
        ap (λ (t : Step). t.state) (comes-to is (called limits pid request) refl)
        ∙ choice (λ (u : Step). u.state ≡ here) (is_waiting here pid) _ _ (λ _. refl)
        (λ _. ap (λ (r : Tried). (replied_or_joined limits pid request here r).state) comes
        ∙ ap (λ (u : Step). u.state) (sound-settled limits here (due-sound limits s moment h)))

    pub already-same : is_call request.kind ≡ true → is_waiting here pid ≡ true
        → step limits s (Call pid request moment) ≡ after (due moment s) (λ t. replied pid request.serial (refused t EALREADY))
    already-same is waits = comes-to is (λ t. replied pid request.serial (refused t EALREADY)) (by-waiting true waits)

    module _ (on : Awaited) (awaits : awaited_by request.kind ≡ Some on) (free : is_waiting here pid ≡ false)
        (comes : tried limits here pid false request.kind ≡ Waits) where
      by-due : (b : Bool) → is_due (record { 0 = max s.clock moment }) (waiting_on here pid request on) ≡ b → called limits pid request here
          ≡ (if b then replied pid request.serial (refused here (expiry request.kind)) else silent (with_waiting here (waiting_on here pid request on)))
      by-due b same =
          by-waiting false free ∙ (ap (replied_or_joined limits pid request here) comes ∙ (ap (λ (o : Option Awaited). joins here pid request o) awaits
          ∙ ap (λ (d : Bool).
          if d then replied pid request.serial (refused here (expiry request.kind)) else silent
          (with_waiting here (waiting_on here pid request on))) same))

      pub waits-joins : is_due (record { 0 = max s.clock moment }) (waiting_on here pid request on) ≡ false
          → step limits s (Call pid request moment) ≡ after (due moment s) (λ t. silent (with_waiting t (waiting_on t pid request on)))
      waits-joins early =
          comes-to (call-if-waits here pid request.kind comes) (λ t. silent (with_waiting t (waiting_on t pid request on))) (by-due false early)

      pub waits-ends : is_due (record { 0 = max s.clock moment }) (waiting_on here pid request on) ≡ true
          → step limits s (Call pid request moment) ≡ after (due moment s) (λ t. replied pid request.serial (refused t (expiry request.kind)))
      waits-ends late =
          comes-to (call-if-waits here pid request.kind comes) (λ t. replied pid request.serial (refused t (expiry request.kind))) (by-due true late)

  -- ---- a moment that has been

  -- nobody's deadline has come
  none-due-of : (now : Moment) (ws : List PlainWaiting) → All (λ (w : PlainWaiting). is_due now w ≡ false) ws
      → (calls_due now ws ≡ []) × (calls_left now ws ≡ ws)
  none-due-of now [] all = (refl, refl)
  none-due-of now (w ∷ ws) all =
      let early = All-head (λ (v : PlainWaiting). is_due now v ≡ false) w ws all in
      let rest = none-due-of now ws (All-tail (λ (v : PlainWaiting). is_due now v ≡ false) w ws all) in
      (rw early rest.0, rw early (ap (λ (vs : List PlainWaiting). w ∷ vs) rest.1))

  pub late-nothing : (s : State) (moment : ℕ) → NoneIsDue s → moment ≤ s.clock → step limits s (Tick moment) ≡ silent s
  late-nothing s moment h late =
      let same : max s.clock moment ≡ s.clock = omega arith in
      let none = none-due-of (record { 0 = s.clock }) s.wait h in
      ap (λ (n : ℕ). let t : State = record s { clock = n } in
      let u : Step = record { state = without_due t; outcomes = map expired (due_calls t) } in u) same
      ∙ (λ i. let u : Step = record { state = record s { wait = none.1 i }; outcomes = map expired (none.0 i) } in u)
