-- What the crates above cite of a step.
use Rattle.std.proofs.Common.{◌≡◌, ◌≢◌, ℕ, ◌+◌, ◌<◌, ◌≤◌, is_some, true, false, List, [], ◌∷◌, ◌++◌, refl, ap, ◌∙◌}
use Rattle.std.specs.Prelude.{All, nat_eq}
use Rattle.std.proofs.lemmas.List.Elements.{All-nil}
use Rattle.ipc_base.proofs.CallerLemmas.{choice, is_some-append, value_at-without}
use Rattle.ipc_base.specs.declared.identity.Cred.{Cred}
use Rattle.ipc_limits.specs.declared.limits.Limits.{Limits}
use Rattle.ipc_wire.specs.Request.{PlainRequest}
use Rattle.ipc_engine.specs.Event.{PlainEvent, PlainOutcome, Connect, Call, Interrupt, Tick, Exit, Restart, moment_of}
use Rattle.ipc_state.specs.Sound.{FitsBody}
use Rattle.ipc_engine.specs.Engine.{IsForProcess, HasRequest}
use Rattle.ipc_engine.specs.Idle.{IsAnsweredAlone, answer, is_accepted, recorded}
use Rattle.ipc_engine.specs.Sound.{IsSound, HasToWait}
use Rattle.ipc_state.specs.Numbered.{Numbered, entry_of}
use Rattle.ipc_state.specs.State.{State, start, has_all_processes, is_process, exit, restart}
use Rattle.ipc_state.specs.declared.processes.Process.{Process}
use Rattle.ipc_engine.specs.Step.{Step, asked, settle, silent, step, due, run}
use Rattle.ipc_state.proofs.CallerLemmas.{same-connected, start-sound as start-parts}
use Rattle.ipc_engine.specs.Bytes.{IsGreeted, allowed, asked_count, asks, bytes_to, most_owed, owed, replies_to, unanswered}
use Rattle.ipc_engine.proofs.Settled.{settle-kept}
use Rattle.ipc_engine.proofs.Soundness as soundness
use Rattle.ipc_engine.proofs.Answered as answered
use Rattle.ipc_engine.proofs.Idle as idle
use Rattle.ipc_engine.proofs.Waiting.{asked-keeps, interrupt-keeps}
-- the requests of calls that wait are short
pub use Rattle.ipc_engine.proofs.WaitingRequests.{waiting-requests}

-- nothing has happened yet
pub start-sound : (limits : Limits) → IsSound limits start
start-sound limits = record { parts = start-parts limits; waits = All-nil (HasToWait limits start) }

-- a sound state stays sound
pub step-sound : (limits : Limits) (s : State) (e : PlainEvent) → IsSound limits s → IsForProcess s e → HasRequest e → IsSound limits (step limits s e).state
step-sound = soundness.step-sound

-- no body of a reply is longer than the longest one
pub step-fits : (limits : Limits) (s : State) (e : PlainEvent) → IsSound limits s
    → All (λ (o : PlainOutcome). FitsBody limits o.body) (step limits s e).outcomes
step-fits = soundness.step-fits

-- the state after a run is the state after its second part, begun where the first part ends
pub run-parts : (limits : Limits) (s : State) (before after : List PlainEvent)
    → (run limits s (before ++ after)).state ≡ (run limits (run limits s before).state after).state
run-parts limits s [] after = refl
run-parts limits s (e ∷ before) after = run-parts limits (step limits s e).state before after

-- an event sends a process no more bytes than it has asked for
pub step-owes : (limits : Limits) (s : State) (e : PlainEvent) (pid : ℕ) → IsSound limits s → 0 < pid
    → bytes_to pid (step limits s e).outcomes + owed limits (step limits s e).state pid ≤ owed limits s pid + allowed limits s e pid
step-owes = answered.step-owes

-- each request is answered once at most
pub step-once : (limits : Limits) (s : State) (e : PlainEvent) (pid : ℕ) → IsSound limits s → 0 < pid
    → replies_to pid (step limits s e).outcomes + unanswered (step limits s e).state pid ≤ unanswered s pid + asked_count s e pid
step-once = answered.step-once

-- no process is owed more than that, and what is no process is owed nothing
pub owed-most : (limits : Limits) (s : State) (pid : ℕ) → IsSound limits s → owed limits s pid ≤ most_owed limits
owed-most limits s pid sound = answered.owed-most limits s pid sound.parts

pub owed-none : (limits : Limits) (s : State) (pid : ℕ) → IsSound limits s → is_process s pid ≡ false → owed limits s pid ≡ 0
owed-none = answered.owed-none

-- a request that is not answered waits
pub unanswered-waits : (limits : Limits) (s : State) (e : PlainEvent) (pid : ℕ) → IsSound limits s → is_process s pid ≡ true → asks s e pid ≡ true
    → bytes_to pid (step limits s e).outcomes ≡ 0 → (unanswered s pid ≡ 0) × (unanswered (step limits s e).state pid ≡ 1)
unanswered-waits = answered.unanswered-waits

-- the last reply of a HELLO is its own
pub hello-greets : (limits : Limits) (s : State) (cred : Cred) (serial moment : ℕ) → IsSound limits s
    → IsGreeted s (step limits s (Connect cred serial moment))
hello-greets limits s cred serial moment sound = answered.hello-greets limits s cred serial moment

-- the state that a restart leaves
pub restart-is : (limits : Limits) (s : State) → (step limits s Restart).state ≡ restart limits s
restart-is limits s = refl

-- ---- a process stays connected, unless it exits

pub connect-stays : (limits : Limits) (s : State) (cred : Cred) (serial moment pid : ℕ) → is_process s pid ≡ true
    → is_process (step limits s (Connect cred serial moment)).state pid ≡ true
connect-stays limits s cred serial moment pid is =
    choice (λ (t : Step). is_process t.state pid ≡ true) (has_all_processes limits (due moment s).state) _ _
    (λ _. is)
    (λ _. is_some-append nat_eq s.processes.entries ((s.processes.next, record { cred = cred; descriptors = [] }) ∷ []) pid is)

pub call-stays : (limits : Limits) (s : State) (asker : ℕ) (request : PlainRequest) (moment pid : ℕ) → is_process s pid ≡ true
    → is_process (step limits s (Call asker request moment)).state pid ≡ true
call-stays limits s asker request moment pid is =
    same-connected (due moment s).state (asked limits asker request request.kind (due moment s).state).state pid
    (asked-keeps limits (due moment s).state asker request request.kind).0 ∙ is

pub interrupt-stays : (limits : Limits) (s : State) (asker serial moment pid : ℕ) → is_process s pid ≡ true
    → is_process (step limits s (Interrupt asker serial moment)).state pid ≡ true
interrupt-stays limits s asker serial moment pid is =
    ap (λ (ps : Numbered Process). is_some (entry_of ps pid)) (interrupt-keeps limits (due moment s).state asker serial).0 ∙ is

pub tick-stays : (limits : Limits) (s : State) (moment pid : ℕ) → is_process s pid ≡ true
    → is_process (step limits s (Tick moment)).state pid ≡ true
tick-stays limits s moment pid is = is

pub exit-stays : (limits : Limits) (s : State) (gone moment pid : ℕ) → pid ≢ gone → is_process s pid ≡ true
    → is_process (step limits s (Exit gone moment)).state pid ≡ true
exit-stays limits s gone moment pid apart is =
    same-connected (exit (due moment s).state gone) (settle limits (exit (due moment s).state gone)).state pid
    (settle-kept limits (exit (due moment s).state gone)).0
    ∙ (ap is_some (value_at-without s.processes.entries gone pid apart) ∙ is)

-- ---- idle events

-- the state after an event is that after the events that are recorded of it
pub recorded-run : (limits : Limits) (s : State) (e : PlainEvent) → (run limits s (recorded limits s e)).state ≡ (answer limits s e).state
recorded-run = idle.recorded-run

-- beside the state after its step it has another clock at most
pub answer-clock : (limits : Limits) (s : State) (e : PlainEvent) → IsSound limits s
    → (let t : State = record (step limits s e).state { clock = (answer limits s e).state.clock } in t) ≡ (answer limits s e).state
answer-clock = idle.answer-clock

-- what is not accepted is answered to who asks alone
pub idle-alone : (limits : Limits) (s : State) (e : PlainEvent) → IsSound limits s → is_accepted limits s e ≡ false
    → IsAnsweredAlone e (step limits s e).outcomes
idle-alone = idle.idle-alone

-- an exit and a restart are accepted
pub exit-accepted : (limits : Limits) (s : State) (pid moment : ℕ) → is_accepted limits s (Exit pid moment) ≡ true
exit-accepted = idle.exit-accepted

pub restart-accepted : (limits : Limits) (s : State) → is_accepted limits s Restart ≡ true
restart-accepted = idle.restart-accepted

-- after an event a tick at its moment does nothing and says nothing
pub second-tick : (limits : Limits) (s : State) (e : PlainEvent) → e ≢ Restart
    → answer limits (answer limits s e).state (Tick (moment_of e)) ≡ silent (answer limits s e).state
second-tick limits s e other = idle.second-tick limits s e
