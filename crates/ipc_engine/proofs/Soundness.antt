-- A step leads from a sound state to a sound state, and its replies fit.
use Rattle.std.proofs.Common.{◌≡◌, ◌≢◌, ℕ, Bool, true, false, not, cond, List, [], ◌∷◌, length}
use Rattle.std.proofs.Common.{get_or, Option, Some, None, is_some, unwrap_or}
use Rattle.std.proofs.Common.{refl, sym, ap, subst, ◌∙◌, arith}
use Rattle.std.specs.Prelude.{All, option_map, ◌==◌, nat_eq, ◌++◌, if◌then◌else◌}
use Rattle.std.specs.FinMap as fin
use Rattle.ipc_base.specs.Table.{value_at}
use Rattle.sem_undo.specs.Undo.{Key, Undo, adjustment}
use Rattle.std.proofs.lemmas.Bool.Decides.{nat_tests}
use Rattle.std.proofs.lemmas.List.Elements.{All-nil, All-cons, All-append, All-filter, All-map, All-push}
use Rattle.ipc_limits.specs.declared.limits.Limits.{Limits}
use Rattle.ipc_limits.specs.Limits.{has_rules_of_three}
use Rattle.ipc_base.specs.declared.identity.Cred.{Cred}
use Rattle.ipc_base.proofs.CallerLemmas.{choice, other-push, rising-found, value_at-without}
use Rattle.ipc_wait.specs.Waits.{waiting_call_of, without, is_of, is_due}
use Rattle.ipc_wire.specs.Request.{PlainKind, PlainRequest, Hello, Interrupt as Interrupts, Sysv, Posix}
use Rattle.ipc_wire.specs.Spelling.{HasFrame}
use Rattle.ipc_wire.specs.declared.reply.Body.TheVariants.{Empty, Number, Record}
use Rattle.ipc_base.specs.Numbers.{record_bytes}
use Rattle.ipc_base.specs.declared.field.Field.TheVariants.{U32}
use Rattle.ipc_state.specs.declared.parked.Awaited.{Awaited}
use Rattle.ipc_state.specs.declared.parked.Object.{Object}
use Rattle.ipc_state.specs.declared.processes.Process.{Process}
use Rattle.ipc_state.specs.Finish.{Finish, Tried, Finishes, Waits, IfFinishes, has_to_wait, refused}
use Rattle.ipc_state.specs.Numbered.{entry_of}
use Rattle.ipc_state.specs.Sound.{HasSoundParts, FitsBody}
use Rattle.ipc_state.specs.State.{State, at_moment, cred_of, due_calls, has_all_processes, is_process, is_waiting, exit, undo_of}
use Rattle.ipc_state.specs.State.{with_process, with_waiting, without_waiting}
use Rattle.ipc_state.specs.Touching.{IsAsBefore}
use Rattle.ipc_state.specs.Waiting.{PlainWaiting, IsSoundWaiting, awaited_by, expiry}
use Rattle.ipc_state.proofs.CallerLemmas.{IsGood, same-connected, set_moment-sound, exit-sound, restart-sound, with_process-sound, with_waiting-sound}
use Rattle.ipc_state.proofs.CallerLemmas.{deadline-sound, without_due-sound, without_waiting-sound}
use Rattle.ipc_engine.specs.Engine.{IsForProcess, HasRequest}
use Rattle.ipc_engine.specs.Event.{PlainEvent, Connect, Call, Interrupt, Tick, Exit, Restart, PlainOutcome}
use Rattle.ipc_engine.specs.Settling.{AreLinked, touched_by}
use Rattle.ipc_engine.specs.Sound.{IsSound, HasToWait}
use Rattle.ipc_engine.specs.Step.{Step, silent, step, due, expired, greeting, waiting_on, connect, asked, called, replied_or_joined, joins}
use Rattle.ipc_engine.specs.Step.{interrupt, interrupted, replied, settle, can_resume, tried}
use Rattle.ipc_engine.proofs.Lists.{none-left}
use Rattle.ipc_engine.proofs.Settled.{settle-has, settle-done, settle-nothing, as-before, replied-fits, HasSameUndo}
use Rattle.ipc_engine.proofs.Tries.{HasEnded, tried-alike, tried-ended}

-- no adjustment
abbrev none : Undo
none = fin.empty

module _ (limits : Limits) where
  abbrev Fits : PlainOutcome → Type 0
  Fits o = FitsBody limits o.body

  -- ---- calls that still have to wait

  -- of the same caller, and with the same object
  pub still-waits : (s t : State) (w : PlainWaiting) → IsSoundWaiting w → cred_of t w.pid.0 ≡ cred_of s w.pid.0 → IsAsBefore w.pid.0 w.on s t
      → can_resume limits t w ≡ can_resume limits s w
  still-waits s t w sound cred before = ap not (tried-alike limits s t w.pid.0 true true w.call.kind w.on sound.on cred before)

  -- the same process has the same user and group
  credited : (s t : State) (pid : ℕ) → entry_of t.processes pid ≡ entry_of s.processes pid → cred_of t pid ≡ cred_of s pid
  credited s t pid same = ap (λ (p : Option Process). unwrap_or (option_map (λ (q : Process). q.cred) p) (record { uid = 65534; gid = 65534 })) same

  -- the same process is there
  abbrev IsSame : State → State → PlainWaiting → Type 0
  IsSame s t w = entry_of t.processes w.pid.0 ≡ entry_of s.processes w.pid.0

  -- whose deadline has not come
  abbrev IsEarly : State → PlainWaiting → Type 0
  IsEarly s w = is_due (record { 0 = s.clock }) w ≡ false

  -- those that waited do so still if the objects are the same, the adjustments and their processes, and no deadline has come
  pub all-wait : (s t : State) (ws : List PlainWaiting) → All IsSoundWaiting ws → t.msg ≡ s.msg → t.semset ≡ s.semset → t.mq ≡ s.mq → t.psem ≡ s.psem
      → HasSameUndo s t → All (IsSame s t) ws → All (IsEarly t) ws
      → All (HasToWait limits s) ws → All (HasToWait limits t) ws
  all-wait s t ws sound queues sets mqs sems undo same early waits = λ k d h.
      let w = get_or ws k d in
      let process = same k d h in
      record {
        process = ap is_some process ∙ (waits k d h).process;
        early = early k d h;
        waits = still-waits s t w (sound k d h) (credited s t w.pid.0 process)
            (as-before w.pid.0 w.on s t queues sets mqs sems undo process) ∙ (waits k d h).waits;
      }

  -- settled, a state is sound whose parts are, and whose waiting calls are of its processes and not due
  pub settled-sound : (s : State) → HasSoundParts limits s → All (λ (w : PlainWaiting). is_process s w.pid.0 ≡ true) s.wait → All (IsEarly s) s.wait
      → IsSound limits (settle limits s).state
  unfolding settle
  settled-sound s h linked early =
      let t = settle limits s in
      let has = settle-has limits (length s.wait) s h in
      let none = settle-done limits (length s.wait) s h (omega arith) in
      let process = has.linked linked in
      record {
        parts = has.parts;
        waits = λ k d i. record {
          process = same-connected s t.state (get_or t.state.wait k d).pid.0 has.kept ∙ process k d i;
          early = ap (λ (n : ℕ). is_due (record { 0 = n }) (get_or t.state.wait k d)) has.clock ∙ has.early (record { 0 = s.clock }) early k d i;
          waits = none k d i;
        };
      }

  pub linked : (s : State) → IsSound limits s → All (λ (w : PlainWaiting). is_process s w.pid.0 ≡ true) s.wait
  linked s h = λ k d i. (h.waits k d i).process

  all-early : (s : State) → IsSound limits s → All (IsEarly s) s.wait
  all-early s h = λ k d i. (h.waits k d i).early

  -- ---- what an event does

  pub due-sound : (s : State) (moment : ℕ) → IsSound limits s → IsSound limits (due moment s).state
  due-sound s moment h =
      let t = at_moment s moment in
      let test : PlainWaiting → Bool = is_due (record { 0 = t.clock }) in
      let left : List PlainWaiting = (due moment s).state.wait in
      record {
        parts = without_due-sound limits t (set_moment-sound limits s moment h.parts);
        waits = all-wait s (due moment s).state left
            (All-filter (λ (w : PlainWaiting). not (test w)) IsSoundWaiting s.wait h.parts.wait.each) refl refl refl refl (λ pid k. refl)
            (λ k d i. refl) (none-left test s.wait)
            (All-filter (λ (w : PlainWaiting). not (test w)) (HasToWait limits s) s.wait h.waits);
      }

  -- who comes has no adjustments, and those of the others stay
  same-undo : (s : State) → (pid : ℕ) (k : Key) → adjustment (unwrap_or (value_at nat_eq (s.undo ++ (s.processes.next, none) ∷ []) pid) none) k
      ≡ adjustment (undo_of s pid) k
  same-undo s pid k = ap (λ (u : Undo). adjustment u k) (pushed s.undo)
    where
      pushed : (us : List (ℕ × Undo)) → unwrap_or (value_at nat_eq (us ++ (s.processes.next, none) ∷ []) pid) none
          ≡ unwrap_or (value_at nat_eq us pid) none
      pushed [] = by_test (nat_eq s.processes.next pid)
        where
          by_test : (b : Bool) → unwrap_or (cond b (Some none) None) none ≡ none
          by_test true = refl
          by_test false = refl
      pushed (u ∷ us) = by_test (nat_eq u.0 pid) (pushed us)
        where
          by_test : (b : Bool) → unwrap_or (value_at nat_eq (us ++ (s.processes.next, none) ∷ []) pid) none
              ≡ unwrap_or (value_at nat_eq us pid) none
              → unwrap_or (cond b (Some u.1) (value_at nat_eq (us ++ (s.processes.next, none) ∷ []) pid)) none
              ≡ unwrap_or (cond b (Some u.1) (value_at nat_eq us pid)) none
          by_test true rest = refl
          by_test false rest = rest

  connect-sound : (s : State) (cred : Cred) (serial : ℕ) → IsSound limits s → IsSound limits (connect limits cred serial s).state
  connect-sound s cred serial h =
      choice (λ (t : Step). IsSound limits t.state) (has_all_processes limits s) _ _ (λ _. h)
      (λ room. record {
        parts = with_process-sound limits s cred room h.parts;
        waits = all-wait s (with_process s cred) s.wait h.parts.wait.each refl refl refl refl (same-undo s)
            (λ k d i.
            let pid = (get_or s.wait k d).pid.0 in
            let below = (rising-found 1 s.processes.entries s.processes.next pid h.parts.processes.numbered.numbers (h.waits k d i).process).1 in
            other-push s.processes.entries s.processes.next pid (record { cred = cred; descriptors = [] }) (λ same. absurd (omega arith)))
            (all-early s h) h.waits;
      })

  -- who waits besides a process is another one
  pub apart : (pid : ℕ) (ws : List PlainWaiting) → All (λ (w : PlainWaiting). w.pid.0 ≢ pid) (without (record { 0 = pid }) ws)
  apart pid [] = All-nil _
  apart pid (w ∷ ws) = by_test (w.pid.0 == pid) refl (apart pid ws)
    where
      by_test : (b : Bool) → (w.pid.0 == pid) ≡ b → All (λ (v : PlainWaiting). v.pid.0 ≢ pid) (without (record { 0 = pid }) ws)
          → All (λ (v : PlainWaiting). v.pid.0 ≢ pid) (cond (not b) (w ∷ without (record { 0 = pid }) ws) (without (record { 0 = pid }) ws))
      by_test true same rest = rest
      by_test false other rest = All-cons (λ (v : PlainWaiting). v.pid.0 ≢ pid) w _ (λ same. absurd (grind (arith, nat_tests))) rest

  -- what waits besides a process does so still
  waits-besides : (s : State) (pid : ℕ) → IsSound limits s → All (HasToWait limits s) (without (record { 0 = pid }) s.wait)
  waits-besides s pid h = All-filter (λ (w : PlainWaiting). not (is_of (record { 0 = pid }) w)) (HasToWait limits s) s.wait h.waits

  sound-besides : (s : State) (pid : ℕ) → IsSound limits s → All IsSoundWaiting (without (record { 0 = pid }) s.wait)
  sound-besides s pid h = All-filter (λ (w : PlainWaiting). not (is_of (record { 0 = pid }) w)) IsSoundWaiting s.wait h.parts.wait.each

  early-besides : (s : State) (pid : ℕ) → IsSound limits s → All (IsEarly s) (without (record { 0 = pid }) s.wait)
  early-besides s pid h = All-filter (λ (w : PlainWaiting). not (is_of (record { 0 = pid }) w)) (IsEarly s) s.wait (all-early s h)

  -- after an exit those that wait are of the other processes
  pub exit-linked : (s : State) (pid : ℕ) → IsSound limits s → AreLinked (exit s pid)
  exit-linked s pid h = λ k d i.
      ap is_some (value_at-without s.processes.entries pid (get_or (without (record { 0 = pid }) s.wait) k d).pid.0 (apart pid s.wait k d i))
      ∙ All-filter (λ (w : PlainWaiting). not (is_of (record { 0 = pid }) w)) (λ (w : PlainWaiting). is_process s w.pid.0 ≡ true) s.wait (linked s h) k d i

  -- and those go on that can
  pub exit-settled : (s : State) (pid : ℕ) → IsSound limits s → IsSound limits (settle limits (exit s pid)).state
  exit-settled s pid h = settled-sound (exit s pid) (exit-sound limits s pid h.parts) (exit-linked s pid h) (early-besides s pid h)

  pub left-waits : (s : State) (pid : ℕ) → IsSound limits s → IsSound limits (without_waiting s pid)
  left-waits s pid h =
      record {
        parts = without_waiting-sound limits s pid h.parts;
        waits = all-wait s (without_waiting s pid) (without (record { 0 = pid }) s.wait) (sound-besides s pid h) refl refl refl refl (λ p k. refl)
            (λ k d i. refl)
            (early-besides s pid h) (waits-besides s pid h);
      }

  -- nothing goes on in a sound state
  pub sound-settled : (s : State) → IsSound limits s → settle limits s ≡ silent s
  sound-settled s h = settle-nothing limits s (λ k d i. (h.waits k d i).waits)

  interrupted-sound : (s : State) (pid : ℕ) (r : Option PlainWaiting) → IsSound limits s → IsSound limits (interrupted s pid r).state
  interrupted-sound s pid None h = h
  interrupted-sound s pid (Some w) h = left-waits s pid h

  pub interrupt-sound : (s : State) (pid serial : ℕ) → IsSound limits s → IsSound limits (interrupt pid serial s).state
  interrupt-sound s pid serial h = interrupted-sound s pid (waiting_call_of (record { 0 = pid }) s.wait) h

  -- a call that has to wait joins those that do, unless its deadline has come
  pub joins-sound : (s : State) (pid : ℕ) (request : PlainRequest) (on : Option Awaited) → IsSound limits s → is_process s pid ≡ true
      → is_waiting s pid ≡ false
      → HasFrame request → awaited_by request.kind ≡ on → has_to_wait (tried limits s pid false request.kind) ≡ true
      → IsSound limits (joins s pid request on).state
  joins-sound s pid request None h process free frame is waits = h
  joins-sound s pid request (Some on) h process free frame is waits =
      let w : PlainWaiting = waiting_on s pid request on in
      let sound : IsSoundWaiting w = record { frame = frame; on = is; deadline = deadline-sound s.clock request.kind } in
      choice (λ (t : Step). IsSound limits t.state) (is_due (record { 0 = s.clock }) w) (replied pid request.serial (refused s (expiry request.kind)))
      (silent (with_waiting s w)) (λ _. h)
      (λ early.
      let before = all-wait s (with_waiting s w) s.wait h.parts.wait.each refl refl refl refl (λ p k. refl) (λ k d i. refl) (all-early s h) h.waits in
      record {
        parts = with_waiting-sound limits s w h.parts sound free (linked s h) process;
        waits = All-push (HasToWait limits (with_waiting s w)) s.wait w before
            (record {
              process = process;
              early = early;
              waits = ap not (tried-alike limits s (with_waiting s w) pid false true request.kind on is refl (as-before pid on s
                  (with_waiting s w) refl refl refl refl (λ p k. refl) refl) ∙ waits);
            });
      })

  -- what a call leaves that came to its end
  pub ended-waits : (s : State) (touches : Option Object) (f : Finish) → IsSound limits s → IsGood limits s touches f
      → IsSound limits (settle limits f.state).state
  ended-waits s touches f h good =
      settled-sound f.state (good.state h.parts)
      (subst (λ (ws : List PlainWaiting). All (λ (w : PlainWaiting). is_process f.state w.pid.0 ≡ true) ws) (sym good.wait)
      (λ k d i. same-connected s f.state (get_or s.wait k d).pid.0 good.kept ∙ (h.waits k d i).process))
      (subst (λ (ws : List PlainWaiting). All (IsEarly f.state) ws) (sym good.wait)
      (λ k d i. ap (λ (n : ℕ). is_due (record { 0 = n }) (get_or s.wait k d)) good.clock ∙ (h.waits k d i).early))

  replied_or_joined-sound : (s : State) (pid : ℕ) (request : PlainRequest) (t : Tried) → IsSound limits s → is_process s pid ≡ true
      → is_waiting s pid ≡ false
      → HasFrame request → tried limits s pid false request.kind ≡ t → IfFinishes (HasEnded limits s pid (touched_by s pid request.kind)) t
      → IsSound limits (replied_or_joined limits pid request s t).state
  replied_or_joined-sound s pid request (Finishes f) h process free frame is ended = ended-waits s (touched_by s pid request.kind) f h ended.good
  replied_or_joined-sound s pid request Waits h process free frame is ended =
      joins-sound s pid request (awaited_by request.kind) h process free frame refl (ap has_to_wait is)

  called-sound : (s : State) (pid : ℕ) (request : PlainRequest) → IsSound limits s → is_process s pid ≡ true → HasFrame request
      → IsSound limits (called limits pid request s).state
  called-sound s pid request h process frame =
      choice (λ (t : Step). IsSound limits t.state) (is_waiting s pid) _ _ (λ _. h)
      (λ free. replied_or_joined-sound s pid request (tried limits s pid false request.kind) h process free frame refl
      (tried-ended limits s pid false request.kind free))

  asked-sound : (s : State) (pid : ℕ) (request : PlainRequest) (kind : PlainKind) → IsSound limits s → is_process s pid ≡ true → HasFrame request
      → IsSound limits (asked limits pid request kind s).state
  asked-sound s pid request (Hello cred) h process frame = h
  asked-sound s pid request Interrupts h process frame = interrupt-sound s pid request.serial h
  asked-sound s pid request (Sysv call) h process frame = called-sound s pid request h process frame
  asked-sound s pid request (Posix call) h process frame = called-sound s pid request h process frame

  pub step-sound : (s : State) (e : PlainEvent) → IsSound limits s → IsForProcess s e → HasRequest e → IsSound limits (step limits s e).state
  step-sound s (Connect cred serial moment) h is has = connect-sound (due moment s).state cred serial (due-sound s moment h)
  step-sound s (Call pid request moment) h is has = asked-sound (due moment s).state pid request request.kind (due-sound s moment h) is has
  step-sound s (Interrupt pid serial moment) h is has = interrupt-sound (due moment s).state pid serial (due-sound s moment h)
  step-sound s (Tick moment) h is has = due-sound s moment h
  step-sound s (Exit pid moment) h is has =
      exit-settled (due moment s).state pid (due-sound s moment h)
  step-sound s Restart h is has = record { parts = restart-sound limits s h.parts; waits = All-nil _ }

  -- ---- the bodies of the replies fit

  empty-fits : FitsBody limits Empty
  empty-fits = omega arith

  -- the greeting of a process has at most eight bytes
  pub greeting-fits : (pid : ℕ) → FitsBody limits (greeting limits pid)
  greeting-fits pid =
      elim (has_rules_of_three limits) as (λ b. FitsBody limits (if b then Record (record_bytes (U32 pid ∷ U32 limits.version ∷ [])) else Number pid)) [
        | true ↦ omega arith
        | false ↦ omega arith
      ]

  one-fits : (o : PlainOutcome) → FitsBody limits o.body → All (λ (p : PlainOutcome). FitsBody limits p.body) (o ∷ [])
  one-fits o fits = All-cons Fits o [] fits (All-nil Fits)

  interrupted-fits : (s : State) (pid : ℕ) (r : Option PlainWaiting) → All (λ (o : PlainOutcome). FitsBody limits o.body) (interrupted s pid r).outcomes
  interrupted-fits s pid None = All-nil Fits
  interrupted-fits s pid (Some w) = one-fits _ empty-fits

  interrupt-fits : (s : State) (pid serial : ℕ) → All (λ (o : PlainOutcome). FitsBody limits o.body) (interrupt pid serial s).outcomes
  interrupt-fits s pid serial =
      All-append Fits (interrupted s pid (waiting_call_of (record { 0 = pid }) s.wait)).outcomes _ (interrupted-fits s pid (waiting_call_of
      (record { 0 = pid }) s.wait)) (one-fits _ empty-fits)

  joins-fits : (s : State) (pid : ℕ) (request : PlainRequest) (on : Option Awaited) → All (λ (o : PlainOutcome). FitsBody limits o.body)
      (joins s pid request on).outcomes
  joins-fits s pid request None = All-nil Fits
  joins-fits s pid request (Some on) =
      choice (λ (t : Step). All (λ (o : PlainOutcome). FitsBody limits o.body) t.outcomes) (is_due (record { 0 = s.clock }) (waiting_on s pid request on)) _ _
      (λ _. one-fits _ empty-fits) (λ _. All-nil Fits)

  settled-fits : (s : State) → HasSoundParts limits s → All (λ (o : PlainOutcome). FitsBody limits o.body) (settle limits s).outcomes
  unfolding settle
  settled-fits s h = (settle-has limits (length s.wait) s h).fits

  replied_or_joined-fits : (s : State) (pid : ℕ) (request : PlainRequest) (t : Tried) → IsSound limits s
      → IfFinishes (HasEnded limits s pid (touched_by s pid request.kind)) t
      → All (λ (o : PlainOutcome). FitsBody limits o.body) (replied_or_joined limits pid request s t).outcomes
  unfolding settle
  replied_or_joined-fits s pid request (Finishes f) h ended =
      All-append Fits (replied pid request.serial f).outcomes _ (replied-fits limits pid request.serial f (ended.good.body h.parts))
      (settle-has limits (length f.state.wait) f.state (ended.good.state h.parts)).fits
  replied_or_joined-fits s pid request Waits h ended = joins-fits s pid request (awaited_by request.kind)

  called-fits : (s : State) (pid : ℕ) (request : PlainRequest) → IsSound limits s
      → All (λ (o : PlainOutcome). FitsBody limits o.body) (called limits pid request s).outcomes
  called-fits s pid request h =
      choice (λ (t : Step). All (λ (o : PlainOutcome). FitsBody limits o.body) t.outcomes) (is_waiting s pid) _ _ (λ _. one-fits _ empty-fits)
      (λ free. replied_or_joined-fits s pid request (tried limits s pid false request.kind) h (tried-ended limits s pid false request.kind free))

  asked-fits : (s : State) (pid : ℕ) (request : PlainRequest) (kind : PlainKind) → IsSound limits s
      → All (λ (o : PlainOutcome). FitsBody limits o.body) (asked limits pid request kind s).outcomes
  asked-fits s pid request (Hello cred) h = one-fits _ empty-fits
  asked-fits s pid request Interrupts h = interrupt-fits s pid request.serial
  asked-fits s pid request (Sysv call) h = called-fits s pid request h
  asked-fits s pid request (Posix call) h = called-fits s pid request h

  due-fits : (s : State) (moment : ℕ) → All (λ (o : PlainOutcome). FitsBody limits o.body) (due moment s).outcomes
  due-fits s moment = All-map Fits expired (due_calls (at_moment s moment)) (λ k d i. empty-fits)

  pub step-fits : (s : State) (e : PlainEvent) → IsSound limits s → All (λ (o : PlainOutcome). FitsBody limits o.body) (step limits s e).outcomes
  step-fits s (Connect cred serial moment) h =
      All-append Fits (due moment s).outcomes _ (due-fits s moment)
      (choice (λ (t : Step). All (λ (o : PlainOutcome). FitsBody limits o.body) t.outcomes) (has_all_processes limits (due moment s).state) _ _
      (λ _. one-fits _ empty-fits) (λ _. one-fits _ (greeting-fits s.processes.next)))
  step-fits s (Call pid request moment) h =
      All-append Fits (due moment s).outcomes _ (due-fits s moment) (asked-fits (due moment s).state pid request request.kind (due-sound s moment h))
  step-fits s (Interrupt pid serial moment) h =
      All-append Fits (due moment s).outcomes _ (due-fits s moment) (interrupt-fits (due moment s).state pid serial)
  step-fits s (Tick moment) h = due-fits s moment
  step-fits s (Exit pid moment) h =
      All-append Fits (due moment s).outcomes _ (due-fits s moment)
      (settled-fits (exit (due moment s).state pid) (exit-sound limits (due moment s).state pid (due-sound s moment h).parts))
  step-fits s Restart h = All-nil Fits
