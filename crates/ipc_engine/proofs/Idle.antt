-- Idle events: each leaves the state as its moment does, and is answered to who asks alone. So whether they are accepted shows in
-- no reply.
use Rattle.std.proofs.Common.{◌≡◌, ◌≢◌, ◌≤◌, ℕ, Bool, true, false, not, List, [], ◌∷◌, ◌++◌, map, max, Option, Some, None, is_some}
use Rattle.std.proofs.Common.{refl, sym, ap, subst, ◌∙◌, arith}
use Rattle.std.specs.Prelude.{◌&&◌, ◌||◌, if◌then◌else◌}
use Rattle.ipc_base.proofs.CallerLemmas.{choice}
use Rattle.ipc_base.specs.declared.errno.Errno.TheVariants.{EALREADY, EPROTO}
use Rattle.ipc_base.specs.declared.identity.Cred.{Cred}
use Rattle.ipc_limits.specs.declared.limits.Limits.{Limits}
use Rattle.ipc_limits.specs.Limits.{has_rules_of_three}
use Rattle.ipc_wait.specs.Waits.{is_due, waiting_call_of}
use Rattle.ipc_wait.proofs.CallerLemmas.{none-due}
use Rattle.ipc_wire.specs.declared.reply.Body.TheVariants.{Empty}
use Rattle.ipc_wire.specs.Request.{PlainKind, PlainRequest, Hello, Interrupt as Interrupts, Sysv, Posix}
use Rattle.posix_mq.specs.declared.queue.Registration.{Registration}
use Rattle.ipc_state.specs.declared.parked.Awaited.{Awaited}
use Rattle.ipc_state.specs.Finish.{Finish, Tried, Finishes, Waits, IfFinishes, done, refused}
use Rattle.ipc_state.specs.State.{State, at_moment, due_calls, has_all_processes, is_waiting, exit, without_due}
use Rattle.ipc_state.specs.Waiting.{PlainWaiting, awaited_by, expiry}
use Rattle.ipc_engine.specs.Engine.{IsForProcess, HasRequest}
use Rattle.ipc_engine.specs.Event.{PlainEvent, Connect, Call, Interrupt, Tick, Exit, Restart, PlainOutcome, moment_of}
use Rattle.ipc_engine.specs.Idle.{AreForProcesses, IsAnsweredAlone, Rise, answer, answers, asks_idle, ends_idle, has_none, is_accepted, is_idle}
use Rattle.ipc_engine.specs.Idle.{is_late, recorded}
use Rattle.ipc_engine.specs.Sound.{IsSound}
use Rattle.ipc_engine.specs.Step.{Step, after, asked, called, connect, due, expired, interrupt, interrupted, joins, notices, replied, replied_or_joined, run}
use Rattle.ipc_engine.specs.Step.{settle, silent, step, tried, waiting_on}
use Rattle.ipc_engine.proofs.Early.{step-early}
use Rattle.ipc_engine.proofs.Looks.{StaysIdle, idle-stays}
use Rattle.ipc_engine.proofs.Soundness.{due-sound, sound-settled, step-sound}
use Rattle.ipc_engine.proofs.Waiting.{late-nothing, sets-clock}

both : (a b : Bool) → (a && b) ≡ true → (a ≡ true) × (b ≡ true)
both true b is = (refl, is)
both false b is = cc

not-both : (a : Bool) → (a && false) ≡ true → ⊥
not-both true is = cc
not-both false is = cc

none-of : (ws : List PlainWaiting) → has_none ws ≡ true → ws ≡ []
none-of [] is = refl
none-of (w ∷ ws) is = cc

-- ---- what leaves the state, and is answered to one process alone

record IsAlone (pid : ℕ) (s : State) (t : Step) : Type 0 where
  pub state : t.state ≡ s
  pub reply : PlainOutcome
  pub only : t.outcomes ≡ reply ∷ []
  pub to : reply.pid ≡ pid

-- the reply to a call that has ended so
abbrev reply_to : ℕ → ℕ → Finish → PlainOutcome
reply_to pid serial f = record { pid = pid; serial = serial; errno = f.errno; body = f.body }

replied-alone : (s : State) (pid serial : ℕ) (f : Finish) → f.state ≡ s → f.fired ≡ None → IsAlone pid s (replied pid serial f)
replied-alone s pid serial f state fired =
    record {
      state = state;
      reply = reply_to pid serial f;
      only = ap (λ (r : Option Registration). reply_to pid serial f ∷ notices r) fired;
      to = refl;
    }

connect-alone : (limits : Limits) (s : State) (cred : Cred) (serial : ℕ) → has_all_processes limits s ≡ true
    → IsAlone 0 s (connect limits cred serial s)
connect-alone limits s cred serial full =
    choice (λ (t : Step). IsAlone 0 s t) (has_all_processes limits s) _ _
    (λ _. record { state = refl; reply = _; only = refl; to = refl })
    (λ room. absurd (let no : false ≡ true = sym room ∙ full in cc))

interrupt-alone : (s : State) (pid serial : ℕ) → not (is_waiting s pid) ≡ true → IsAlone pid s (interrupt pid serial s)
interrupt-alone s pid serial free = by_call (waiting_call_of (record { 0 = pid }) s.wait) free
  where
    by_call : (r : Option PlainWaiting) → not (is_some r) ≡ true
        → IsAlone pid s (after (interrupted s pid r) (λ (t : State). replied pid serial (done t Empty)))
    by_call None none = record { state = refl; reply = reply_to pid serial (done s Empty); only = refl; to = refl }
    by_call (Some w) none = cc

joins-alone : (s : State) (pid : ℕ) (request : PlainRequest) (on : Option Awaited) → is_late s pid request on ≡ true
    → IsAlone pid s (joins s pid request on)
joins-alone s pid request None late = cc
joins-alone s pid request (Some on) late =
    choice (λ (t : Step). IsAlone pid s t) (is_due (record { 0 = s.clock }) (waiting_on s pid request on)) _ _
    (λ _. replied-alone s pid request.serial (refused s (expiry request.kind)) refl refl)
    (λ early. absurd (let no : false ≡ true = sym early ∙ late in cc))

module _ (limits : Limits) where
  -- in a sound state none can go on after it
  ended-alone : (s : State) (pid serial : ℕ) (f : Finish) → IsSound limits s → f.state ≡ s → f.fired ≡ None
      → IsAlone pid s (after (replied pid serial f) (settle limits))
  ended-alone s pid serial f h state fired =
      let still : settle limits f.state ≡ silent s = ap (settle limits) state ∙ sound-settled limits s h in
      record {
        state = ap (λ (t : Step). t.state) still;
        reply = reply_to pid serial f;
        only = λ i. (reply_to pid serial f ∷ notices (fired i)) ++ (still i).outcomes;
        to = refl;
      }

  tried-alone : (s : State) (pid : ℕ) (request : PlainRequest) (t : Tried) → IsSound limits s → IfFinishes (StaysIdle limits s request.kind) t
      → ends_idle s pid request t ≡ true → IsAlone pid s (replied_or_joined limits pid request s t)
  tried-alone s pid request (Finishes f) h stays idle =
      let still = stays idle in ended-alone s pid request.serial f h still.0 still.1
  tried-alone s pid request Waits h stays idle = joins-alone s pid request (awaited_by request.kind) idle

  called-alone : (s : State) (pid : ℕ) (request : PlainRequest) → IsSound limits s
      → (is_waiting s pid || ends_idle s pid request (tried limits s pid false request.kind)) ≡ true → IsAlone pid s (called limits pid request s)
  called-alone s pid request h idle =
      choice (λ (t : Step). IsAlone pid s t) (is_waiting s pid) _ _
      (λ _. replied-alone s pid request.serial (refused s EALREADY) refl refl)
      (λ free. tried-alone s pid request (tried limits s pid false request.kind) h (idle-stays limits s pid false request.kind) (rw free at idle))

  asked-alone : (s : State) (pid : ℕ) (request : PlainRequest) (kind : PlainKind) → IsSound limits s → asks_idle limits s pid request kind ≡ true
      → IsAlone pid s (asked limits pid request kind s)
  asked-alone s pid request (Hello cred) h idle = replied-alone s pid request.serial (refused s EPROTO) refl refl
  asked-alone s pid request Interrupts h idle = interrupt-alone s pid request.serial idle
  asked-alone s pid request (Sysv call) h idle = called-alone s pid request h idle
  asked-alone s pid request (Posix call) h idle = called-alone s pid request h idle

  -- ---- idle events

  -- a moment at which no deadline comes sets the clock
  quiet-moment : (s : State) (moment : ℕ) → has_none (due_calls (at_moment s moment)) ≡ true → due moment s ≡ silent (at_moment s moment)
  quiet-moment s moment none =
      let nobody : due_calls (at_moment s moment) ≡ [] = none-of (due_calls (at_moment s moment)) none in
      let stay = none-due (record { 0 = max s.clock moment }) s.wait nobody in
      (λ i. record { state = record s { clock = max s.clock moment; wait = stay i }; outcomes = map expired (nobody i) })

  pub record IsQuiet (s : State) (e : PlainEvent) (t : Step) : Type 0 where
    pub state : t.state ≡ at_moment s (moment_of e)
    pub alone : IsAnsweredAlone e t.outcomes

  -- what is done after it
  then-quiet : (s : State) (moment pid : ℕ) (next : State → Step) → has_none (due_calls (at_moment s moment)) ≡ true
      → IsAlone pid (due moment s).state (next (due moment s).state) → IsAlone pid (at_moment s moment) (after (due moment s) next)
  then-quiet s moment pid next none alone =
      let come = quiet-moment s moment none in
      record {
        state = alone.state ∙ ap (λ (t : Step). t.state) come;
        reply = alone.reply;
        only = λ i. (come i).outcomes ++ alone.only i;
        to = alone.to;
      }

  pub idle-quiet : (s : State) (e : PlainEvent) → IsSound limits s → is_idle limits s e ≡ true → IsQuiet s e (step limits s e)
  unfolding is_idle
  idle-quiet s (Connect cred serial moment) h idle =
      let parts = both _ _ idle in
      let all = then-quiet s moment 0 (connect limits cred serial) parts.0 (connect-alone limits (due moment s).state cred serial parts.1) in
      record { state = all.state; alone = (all.reply, all.only, all.to) }
  idle-quiet s (Call pid request moment) h idle =
      let parts = both _ _ idle in
      let all = then-quiet s moment pid (asked limits pid request request.kind) parts.0
      (asked-alone (due moment s).state pid request request.kind (due-sound limits s moment h) parts.1) in
      record { state = all.state; alone = (all.reply, all.only, all.to) }
  idle-quiet s (Interrupt pid serial moment) h idle =
      let parts = both _ _ idle in
      let all = then-quiet s moment pid (interrupt pid serial) parts.0 (interrupt-alone (due moment s).state pid serial parts.1) in
      record { state = all.state; alone = (all.reply, all.only, all.to) }
  idle-quiet s (Tick moment) h idle =
      let come = quiet-moment s moment (both _ _ idle).0 in
      record { state = ap (λ (t : Step). t.state) come; alone = ap (λ (t : Step). t.outcomes) come }
  idle-quiet s (Exit pid moment) h idle = absurd (not-both (has_none (due_calls (at_moment s moment))) idle)
  idle-quiet s Restart h idle = absurd (not-both (has_none (due_calls (at_moment s 0))) idle)

  -- the state is as it was but for the clock
  pub idle-state : (s : State) (e : PlainEvent) → IsSound limits s → is_idle limits s e ≡ true
      → (let t : State = record (step limits s e).state { clock = s.clock } in t) ≡ s
  idle-state s e h idle = ap (λ (u : State). let t : State = record u { clock = s.clock } in t) (idle-quiet s e h idle).state

  -- ---- events that are accepted, or not

  -- what is not accepted is idle, under the rules of version 3
  refused-idle : (three idle : Bool) → not (three && idle) ≡ false → (three ≡ true) × (idle ≡ true)
  refused-idle true true off = (refl, refl)
  refused-idle true false off = cc
  refused-idle false idle off = cc

  pub idle-if-refused : (s : State) (e : PlainEvent) → is_accepted limits s e ≡ false → (has_rules_of_three limits ≡ true) × (is_idle limits s e ≡ true)
  idle-if-refused s e off = refused-idle (has_rules_of_three limits) (is_idle limits s e) off

  never-idle : (three nobody : Bool) → not (three && (nobody && false)) ≡ true
  never-idle true true = refl
  never-idle true false = refl
  never-idle false nobody = refl

  pub exit-accepted : (s : State) (pid moment : ℕ) → is_accepted limits s (Exit pid moment) ≡ true
  unfolding is_idle
  exit-accepted s pid moment = never-idle (has_rules_of_three limits) (has_none (due_calls (at_moment s moment)))

  pub restart-accepted : (s : State) → is_accepted limits s Restart ≡ true
  unfolding is_idle
  restart-accepted s = never-idle (has_rules_of_three limits) (has_none (due_calls (at_moment s 0)))

  pub recorded-run : (s : State) (e : PlainEvent) → (run limits s (recorded limits s e)).state ≡ (answer limits s e).state
  recorded-run s e = by_test (is_accepted limits s e)
    where
      by_test : (b : Bool) → (run limits s (if b then e ∷ [] else [])).state ≡ (if b then (step limits s e).state else s)
      by_test true = refl
      by_test false = refl

  pub answer-clock : (s : State) (e : PlainEvent) → IsSound limits s
      → (let t : State = record (step limits s e).state { clock = (answer limits s e).state.clock } in t) ≡ (answer limits s e).state
  answer-clock s e h = by_test (is_accepted limits s e) refl
    where
      by_test : (b : Bool) → is_accepted limits s e ≡ b
          → (let t : State = record (step limits s e).state { clock = (if b then (step limits s e).state else s).clock } in t)
          ≡ (if b then (step limits s e).state else s)
      by_test true is = refl
      by_test false is = idle-state s e h (idle-if-refused s e is).1

  pub idle-alone : (s : State) (e : PlainEvent) → IsSound limits s → is_accepted limits s e ≡ false → IsAnsweredAlone e (step limits s e).outcomes
  idle-alone s e h off = (idle-quiet s e h (idle-if-refused s e off).1).alone

  -- ---- a tick after an event

  -- a tick that does nothing but set the clock is answered by nothing, accepted or not
  tick-silent : (s t : State) (moment : ℕ) (b : Bool) → (b ≡ true → t ≡ s)
      → (let u : Step = record { state = if b then t else s; outcomes = [] } in u) ≡ silent s
  tick-silent s t moment true same = ap silent (same refl)
  tick-silent s t moment false same = refl

  pub second-tick : (s : State) (e : PlainEvent) → answer limits (answer limits s e).state (Tick (moment_of e)) ≡ silent (answer limits s e).state
  unfolding is_idle
  second-tick s e = by_test (is_accepted limits s e) refl
    where
      by_test : (b : Bool) → is_accepted limits s e ≡ b
          → answer limits (if b then (step limits s e).state else s) (Tick (moment_of e)) ≡ silent (if b then (step limits s e).state else s)
      by_test true is =
          let t = (step limits s e).state in
          let same : step limits t (Tick (moment_of e)) ≡ silent t =
          late-nothing limits t (moment_of e) (step-early limits s e) (omega (arith, sets-clock limits s e)) in
          ap (λ (u : Step). let v : Step = record { state = if is_accepted limits t (Tick (moment_of e)) then u.state else t; outcomes = u.outcomes } in v) same
          ∙ tick-silent t t (moment_of e) (is_accepted limits t (Tick (moment_of e))) (λ _. refl)
      by_test false is =
          let refusal = idle-if-refused s e is in
          let none = (both _ _ refusal.1).0 in
          let again : is_accepted limits s (Tick (moment_of e)) ≡ false =
          (λ i. not (refusal.0 i && (none i && true))) in
          (λ i. record {
            state = if again i then (step limits s (Tick (moment_of e))).state else s;
            outcomes = (quiet-moment s (moment_of e) none i).outcomes;
          })

  -- ---- replies

  -- what a moment brings, in the state as it comes
  abbrev come : State → Step
  come w = record { state = without_due w; outcomes = map expired (due_calls w) }

  -- what an event does that is no restart depends on the state as its moment comes
  same-step : (s u : State) (e : PlainEvent) → e ≢ Restart → at_moment s (moment_of e) ≡ at_moment u (moment_of e) → step limits s e ≡ step limits u e
  same-step s u (Connect cred serial moment) other same = ap (λ (w : State). after (come w) (connect limits cred serial)) same
  same-step s u (Call pid request moment) other same = ap (λ (w : State). after (come w) (asked limits pid request request.kind)) same
  same-step s u (Interrupt pid serial moment) other same = ap (λ (w : State). after (come w) (interrupt pid serial)) same
  same-step s u (Tick moment) other same = ap come same
  same-step s u (Exit pid moment) other same = ap (λ (w : State). after (come w) (λ (t : State). settle limits (exit t pid))) same
  same-step s u Restart other same = absurd (other refl)

  -- two states that differ in the clock at most, in neither of which a moment to come has been
  pub record AreBehind (now : ℕ) (s u : State) : Type 0 where
    pub sound : IsSound limits s
    pub its : IsSound limits u
    pub same : (let t : State = record u { clock = s.clock } in t) ≡ s
    pub early : s.clock ≤ now
    pub earlier : u.clock ≤ now

  -- so the same event does the same in both
  behind-step : (now : ℕ) (s u : State) (e : PlainEvent) → e ≢ Restart → now ≤ moment_of e → AreBehind now s u → step limits s e ≡ step limits u e
  behind-step now s u e other later b =
      let mine : max s.clock (moment_of e) ≡ moment_of e = omega (arith, later, b.early) in
      let its : max u.clock (moment_of e) ≡ moment_of e = omega (arith, later, b.earlier) in
      same-step s u e other
      (ap (λ (n : ℕ). let t : State = record s { clock = n } in t) mine
      ∙ (ap (λ (v : State). let t : State = record v { clock = moment_of e } in t) (sym b.same)
      ∙ ap (λ (n : ℕ). let t : State = record u { clock = n } in t) (sym its)))

  -- and leaves two such, of which the first is as the server has it
  behind-next : (now : ℕ) (s u : State) (e : PlainEvent) → e ≢ Restart → now ≤ moment_of e → IsForProcess u e → HasRequest e → AreBehind now s u
      → AreBehind (moment_of e) (answer limits s e).state (step limits u e).state
  behind-next now s u e other later process request b =
      let one = behind-step now s u e other later b in
      let after_it = step-sound limits u e b.its process request in
      let left : State = (step limits s e).state in
      let sets : left.clock ≤ moment_of e = omega (arith, sets-clock limits s e, b.early, later) in
      record {
        sound = choice (λ (t : State). IsSound limits t) (is_accepted limits s e) left s
            (λ _. subst (λ (t : Step). IsSound limits t.state) (sym one) after_it) (λ _. b.sound);
        its = after_it;
        same = ap (λ (v : Step). let t : State = record v.state { clock = (answer limits s e).state.clock } in t) (sym one)
            ∙ answer-clock s e b.sound;
        early = choice (λ (t : State). t.clock ≤ moment_of e) (is_accepted limits s e) left s (λ _. sets) (λ _. omega (arith, b.early, later));
        earlier = omega (arith, sets-clock limits u e, b.earlier, later);
      }

  -- what all of them come to
  pub record AreAnsweredAlike (s u : State) (es : List PlainEvent) : Type 0 where
    pub outcomes : (answers limits s es).outcomes ≡ (run limits u es).outcomes
    pub state : (let t : State = record (run limits u es).state { clock = (answers limits s es).state.clock } in t) ≡ (answers limits s es).state

  pub answered-alike : (es : List PlainEvent) (now : ℕ) (s u : State) → AreBehind now s u → Rise now es → AreForProcesses limits u es
      → AreAnsweredAlike s u es
  answered-alike [] now s u b rise process = record { outcomes = refl; state = b.same }
  answered-alike (e ∷ es) now s u b rise process =
      let one = behind-step now s u e rise.0 rise.1 b in
      let next = behind-next now s u e rise.0 rise.1 process.0 process.1 b in
      let rest = answered-alike es (moment_of e) (answer limits s e).state (step limits u e).state next rise.2 process.2 in
      record { outcomes = λ i. (one i).outcomes ++ rest.outcomes i; state = rest.state }

  pub replies-alike : (s : State) (es : List PlainEvent) → IsSound limits s → Rise s.clock es → AreForProcesses limits s es → AreAnsweredAlike s s es
  replies-alike s es h rise process =
      answered-alike es s.clock s s (record { sound = h; its = h; same = refl; early = omega arith; earlier = omega arith }) rise process
