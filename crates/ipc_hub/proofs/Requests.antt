-- What an event comes to for the processes: what each is sent, and owed then. What the machine does on a request of a
-- connection: no process asks by it but that of the connection, or a new one, and none leaves.
use Rattle.std.proofs.Common.{◌≡◌, ◌≢◌, ℕ, ◌+◌, ◌<◌, ◌≤◌, Bool, true, false, List, [], ◌∷◌, ◌++◌, length, Option, Some, None, refl, sym, ap, ◌∙◌, subst, arith}
use Rattle.std.specs.Prelude.{nat_eq, if◌then◌else◌, ◌&&◌, not}
use Rattle.std.proofs.Math.Bool.{and-false}
use Rattle.std.proofs.lemmas.Bool.Decides.{nat_tests}
use Rattle.ipc_limits.specs.Limits.{ArePassed, longest_reply}
use Rattle.ipc_base.specs.declared.identity.Cred.{Cred}
use Rattle.ipc_limits.specs.declared.limits.Limits.{Limits}
use Rattle.ipc_base.proofs.CallerLemmas.{rising-bounds, rising-found, same_key, other_key}
use Rattle.ipc_limits.proofs.CallerLemmas.{longest_reply-bound}
use Rattle.ipc_base.specs.Table.{keys_of}
use Rattle.ipc_wire.specs.Reply.{reply_bytes}
use Rattle.ipc_wire.specs.Request.{PlainRequest, PlainKind, Hello, Interrupt as Interrupts, Sysv, Posix}
use Rattle.ipc_wire.proofs.CallerLemmas.{length-reply_bytes}
use Rattle.ipc_state.specs.Sound.{FitsBody}
use Rattle.ipc_engine.specs.Sound.{IsSound}
use Rattle.ipc_state.specs.State.{State, is_process, is_waiting}
use Rattle.ipc_engine.specs.Bytes.{IsGreeted, asks, bytes_to, owed}
use Rattle.ipc_engine.specs.Engine.{event_takes_memory}
use Rattle.ipc_engine.specs.Event.{PlainEvent, PlainOutcome, Connect, Call, Interrupt, Tick, moment_of}
use Rattle.ipc_engine.specs.Reserved.{takes_memory}
use Rattle.ipc_engine.specs.Step.{Step, due, silent, step}
use Rattle.ipc_engine.specs.View.{reply_of}
use Rattle.ipc_engine.proofs.CallerLemmas.{step-fits, step-owes, hello-greets, connect-stays, call-stays, interrupt-stays}
use Rattle.ipc_hub.specs.Hub.{event_of, last_reply}
use Rattle.ipc_hub.specs.Relations.Delivery.{unanswered_of, IsShort}
use Rattle.ipc_hub.proofs.Kept.{last-of}

-- ---- replies

pub fits-short : (limits : Limits) (o : PlainOutcome) → ArePassed limits → FitsBody limits o.body → IsShort o
fits-short limits o passed fits = omega (arith, fits, longest_reply-bound limits passed)

-- the last reply of an event is short, and no longer than the longest one
pub last-fits : (limits : Limits) (s : State) (e : PlainEvent) (o : PlainOutcome) → ArePassed limits → IsSound limits s
    → last_reply (step limits s e).outcomes ≡ Some o → IsShort o × (length (reply_bytes (reply_of o)) ≤ longest_reply limits)
last-fits limits s e o passed sound last =
    let fits : FitsBody limits o.body =
    last-of (λ (p : PlainOutcome). FitsBody limits p.body) (step limits s e).outcomes o (step-fits limits s e sound) last in
    (fits-short limits o passed fits, omega (arith, fits, length-reply_bytes (reply_of o)))

pub last-is : (front : List PlainOutcome) (o : PlainOutcome) → last_reply (front ++ o ∷ []) ≡ Some o
last-is [] o = refl
last-is (p ∷ []) o = refl
last-is (p ∷ q ∷ front) o = last-is (q ∷ front) o

-- the process of the last reply is sent something
pub last-sent : (front : List PlainOutcome) (o : PlainOutcome) → 0 < bytes_to o.pid (front ++ o ∷ [])
last-sent [] o = let mine : o.pid ≡ o.pid = refl in grind (arith, nat_tests, length-reply_bytes (reply_of o))
last-sent (p ∷ front) o = omega (arith, last-sent front o)

-- ---- what is sent, and owed

-- a process that is connected has a number above 0
pub connected-above : (limits : Limits) (s : State) (pid : ℕ) → IsSound limits s → is_process s pid ≡ true → 0 < pid
connected-above limits s pid sound is = omega (arith, (rising-found 1 s.processes.entries s.processes.next pid sound.parts.processes.numbered.numbers is).0)

-- which has one too
pub next-above : (limits : Limits) (s : State) → IsSound limits s → 0 < s.processes.next
next-above limits s sound = omega (arith, rising-bounds 1 (keys_of s.processes.entries) s.processes.next sound.parts.processes.numbered.numbers)

-- and one below the next
pub connected-below : (limits : Limits) (s : State) (pid : ℕ) → IsSound limits s → is_process s pid ≡ true → pid < s.processes.next
connected-below limits s pid sound is = (rising-found 1 s.processes.entries s.processes.next pid sound.parts.processes.numbered.numbers is).1

-- one that does not ask is sent what it was owed, or is owed it still
pub quiet-owes : (limits : Limits) (s : State) (e : PlainEvent) (pid : ℕ) → IsSound limits s → is_process s pid ≡ true → asks s e pid ≡ false
    → bytes_to pid (step limits s e).outcomes + owed limits (step limits s e).state pid ≤ owed limits s pid
quiet-owes limits s e pid sound is none = let all = rw none at (step-owes limits s e pid sound (connected-above limits s pid sound is)) in omega (arith, all)

-- any other at most the longest reply more
pub asked-owes : (limits : Limits) (s : State) (e : PlainEvent) (pid : ℕ) → IsSound limits s → 0 < pid
    → bytes_to pid (step limits s e).outcomes + owed limits (step limits s e).state pid ≤ owed limits s pid + longest_reply limits
asked-owes limits s e pid sound some = at-most (owed limits s pid) (asks s e pid) (step-owes limits s e pid sound some)
  where
    at-most : {n : ℕ} (m : ℕ) (b : Bool) → n ≤ m + (if b then longest_reply limits else 0) → n ≤ m + longest_reply limits
    at-most m true le = le
    at-most m false le = omega (arith, le)

-- ---- requests

-- An event that a request of a process, or of none, makes: no process asks by it but this one, or a new one, which a
-- HELLO gets, and none leaves.
pub record Asks (limits : Limits) (s : State) (process : Option ℕ) (e : PlainEvent) : Type 0 where
  pub others : (pid : ℕ) → is_process s pid ≡ true → process ≢ Some pid → asks s e pid ≡ false
  pub own : (pid : ℕ) → process ≡ Some pid → asks s e pid ≡ true
  pub greets : process ≡ None → IsGreeted s (step limits s e)
  pub stay : (pid : ℕ) → is_process s pid ≡ true → is_process (step limits s e).state pid ≡ true

hello-asks : (limits : Limits) (s : State) (cred : Cred) (serial moment : ℕ) → IsSound limits s → Asks limits s None (Connect cred serial moment)
hello-asks limits s cred serial moment sound =
    record {
      others = λ pid is apart. let below = connected-below limits s pid sound is in grind (arith, nat_tests, below);
      own = λ pid never. cc;
      greets = λ _. hello-greets limits s cred serial moment sound;
      stay = λ pid is. connect-stays limits s cred serial moment pid is;
    }

-- an event by which a process asks, and no other, and none leaves
process-asks : (limits : Limits) (s : State) (q : ℕ) (e : PlainEvent) → ((pid : ℕ) → asks s e pid ≡ nat_eq pid q)
    → ((pid : ℕ) → is_process s pid ≡ true → is_process (step limits s e).state pid ≡ true) → Asks limits s (Some q) e
process-asks limits s q e asks-it stay =
    record {
      others = λ pid _ apart. asks-it pid ∙ other_key pid q (λ same. apart (ap Some (sym same)));
      own = λ pid mine. let same : q ≡ pid = cc in asks-it pid ∙ rw same (same_key pid);
      greets = λ never. cc;
      stay = stay;
    }

-- what holds of the event of each HELLO, INTERRUPT and call, holds of the event that a request makes
module _ (P : Option ℕ → PlainEvent → Type 0) (moment : ℕ) (hello : (cred : Cred) (serial : ℕ) → P None (Connect cred serial moment))
    (interrupt : (q serial : ℕ) → P (Some q) (Interrupt q serial moment)) (call : (q : ℕ) (request : PlainRequest) → P (Some q) (Call q request moment)) where
  pub of-made : (process : Option ℕ) (request : PlainRequest) (e : PlainEvent) → event_of process request moment ≡ Some e → P process e
  of-made process request e made = by_case process request.kind made
    where
      one : (a : PlainEvent) (p : Option ℕ) → P p a → Some a ≡ Some e → P p e
      one a p it is = let same : a ≡ e = cc in subst (P p) same it

      by_case : (p : Option ℕ) (kind : PlainKind) → event_of p (record request { kind = kind }) moment ≡ Some e → P p e
      by_case None (Hello cred) is = one (Connect cred request.serial moment) None (hello cred request.serial) is
      by_case None Interrupts is = cc
      by_case None (Sysv call') is = cc
      by_case None (Posix call') is = cc
      by_case (Some q) (Hello cred) is = cc
      by_case (Some q) Interrupts is = one (Interrupt q request.serial moment) (Some q) (interrupt q request.serial) is
      by_case (Some q) (Sysv c) is = let r = record request { kind = Sysv c } in one (Call q r moment) (Some q) (call q r) is
      by_case (Some q) (Posix c) is = let r = record request { kind = Posix c } in one (Call q r moment) (Some q) (call q r) is

-- whatever event a request makes
pub request-asks : (limits : Limits) (s : State) (process : Option ℕ) (request : PlainRequest) (moment : ℕ) (e : PlainEvent)
    → IsSound limits s → event_of process request moment ≡ Some e → Asks limits s process e
request-asks limits s process request moment e sound made =
    of-made (Asks limits s) moment (λ cred serial. hello-asks limits s cred serial moment sound)
    (λ q serial. process-asks limits s q (Interrupt q serial moment) (λ _. refl) (λ pid. interrupt-stays limits s q serial moment pid))
    (λ q called. process-asks limits s q (Call q called moment) (λ _. refl) (λ pid. call-stays limits s q called moment pid)) process request e made

-- it is of the moment at which the request came
pub made-at : (process : Option ℕ) (request : PlainRequest) (moment : ℕ) (e : PlainEvent) → event_of process request moment ≡ Some e → moment_of e ≡ moment
made-at process request moment e made =
    of-made (λ p a. moment_of a ≡ moment) moment (λ cred serial. refl) (λ q serial. refl) (λ q called. refl) process request e made

-- if a call of the process waits, at a moment that has been, the event needs no memory
pub waits-served : (limits : Limits) (s : State) (process : Option ℕ) (request : PlainRequest) (moment : ℕ) (e : PlainEvent)
    → step limits s (Tick moment) ≡ silent s → 0 < unanswered_of s process → event_of process request moment ≡ Some e → event_takes_memory limits s e ≡ false
waits-served limits s process request moment e late some made =
    of-made (λ p a. 0 < unanswered_of s p → event_takes_memory limits s a ≡ false) moment (λ cred serial none. absurd (omega (arith, none)))
    (λ q serial _. refl) (λ q called waits. by_call q called (is_waiting s q) refl waits) process request e made some
  where
    on : (due moment s).state ≡ s
    on = ap (λ (t : Step). t.state) late

    by_call : (q : ℕ) (called : PlainRequest) (b : Bool) → is_waiting s q ≡ b → 0 < (if b then 1 else 0)
        → event_takes_memory limits s (Call q called moment) ≡ false
    by_call q called false is waits = absurd (omega (arith, waits))
    by_call q called true is waits =
        ap (λ (t : State). takes_memory called.kind && not (is_waiting t q)) on ∙ ap (λ (w : Bool). takes_memory called.kind && not w) is
        ∙ and-false (takes_memory called.kind)
