-- What comes of a call that may wait, by what its tests answered.
use Rattle.std.proofs.Common.{◌≡◌, ℕ, ◌<◌, List, [], ◌∷◌, length, Option, Some, None, refl, sym, ap, subst, ◌∙◌, arith}
use Rattle.std.specs.Prelude.{Ok, Result, option_map}
use Rattle.std.proofs.lemmas.Bool.Decides.{nat_tests}
use Rattle.ipc_limits.specs.declared.limits.Limits.{Limits}
use Rattle.ipc_limits.specs.Limits.{ArePassed}
use Rattle.ipc_limits.proofs.CallerLemmas.{passed-bounds}
use Rattle.ipc_wire.specs.Reply.{PlainBody}
use Rattle.ipc_wire.specs.declared.reply.Body.TheVariants.{Empty}
use Rattle.posix_mq.specs.Queue.{Queue as Mq, PlainMessage, most_messages, received, received_message}
use Rattle.posix_mq.specs.declared.message.Message.{Message}
use Rattle.posix_mq.specs.declared.queue.Registration.{Registration}
use Rattle.ipc_state.specs.declared.answers.Halt.{Halt as Stops}
use Rattle.ipc_state.specs.declared.parked.ParkedPosix.{ParkedPosix}
use Rattle.ipc_state.specs.declared.parked.ParkedPosix.TheVariants as parked
use Rattle.ipc_state.specs.Finish.{Finishes, done, done_firing}
use Rattle.ipc_state.specs.Sound.{HasSoundParts}
use Rattle.ipc_state.specs.State.{State, with_mq}
use Rattle.ipc_state.specs.Touching.{mq_object, psem_value}
use Rattle.ipc_state.specs.Waiting.{parked_posix}
use Rattle.ipc_state.proofs.CallerLemmas.{Answered, HasFound, Tested, ends-as, finishes, has-found, said, tested}
use Rattle.posix_calls.specs.Calls.{attempt, definition_of}
use Rattle.posix_calls.specs.Mq.{Found, arrived, firing, is_to_notify, message_body, receivable, sendable}
use Rattle.ipc_state.specs.Steps.{attempted}
use Rattle.posix_calls.specs.Seen.{number_in}
use Rattle.posix_calls.specs.Psem.{lowerable}
use Rattle.posix_calls.specs.declared.psem.FoundPsem.{FoundPsem}
use Rattle.posix_calls.proofs.Reaching.{Lowers, Receives, Sends, lowers, queue-sound, receives, sends}

-- a call is told by its tests
call-tested : (limits : Limits) (s : State) (pid : ℕ) (call : ParkedPosix) → Tested s (definition_of limits s pid (parked_posix call)) (number_in s pid call)
call-tested limits s pid (parked.MqSend fd deadline m) = tested s _ _ _
call-tested limits s pid (parked.MqReceive fd deadline size) = tested s _ _ _
call-tested limits s pid (parked.SemWait fd deadline) = tested s _ _ _

same-value : {X : Type 0} {o : Option X} {x y : X} → o ≡ Some x → o ≡ Some y → x ≡ y
same-value a b = cc

some-message : (q : Mq) (m : PlainMessage) → received_message q ≡ Some m → 0 < length q.messages
some-message q m is = by_messages q.messages refl
  where
    by_messages : (ms : List PlainMessage) → q.messages ≡ ms → 0 < length q.messages
    by_messages [] none = let empty : None ≡ Some m = sym (ap (λ (ms : List PlainMessage). received_message (record q { messages = ms })) none) ∙ is in cc
    by_messages (x ∷ xs) some = rw some (omega arith)

-- the tests of a call answered so
pub record IsAnswered (limits : Limits) (s : State) (pid : ℕ) (call : ParkedPosix) (r : Result ℕ Stops) : Type 0 where
  pub is : Answered s (λ (c : ParkedPosix). definition_of limits s pid (parked_posix c)) (number_in s pid) call r

pub is-answered : (limits : Limits) (s : State) (pid : ℕ) (call : ParkedPosix) (r : Result ℕ Stops) → attempted r ≡ number_in s pid call
    → IsAnswered limits s pid call r
is-answered limits s pid call r told = record { is = record { tests = call-tested limits s pid call; told = told } }

-- it may go on
module _ {limits : Limits} {s : State} {pid : ℕ} {call : ParkedPosix} {r : Result ℕ Stops} (tests : IsAnswered limits s pid call r)
    {n : ℕ} (was : r ≡ Ok n) where
  -- a send
  module _ {fd deadline : ℕ} {m : Message} (is : call ≡ parked.MqSend fd deadline m) where
    pub send : HasFound (λ (f : Found). f.number) (Sends s pid fd m.priority m.text.items) (sendable s pid fd m.priority m.text.items) n
    send = has-found (sends s pid fd m.priority m.text.items) (said tests.is was _ is)

    pub send-queue : mq_object s n ≡ Some send.value.queue
    send-queue = ap (mq_object s) (sym send.is) ∙ send.holds.queue.there

    pub sends-room : HasSoundParts limits s → ArePassed limits → (q : Mq) → mq_object s n ≡ Some q → length q.messages < most_messages
    sends-room sound passed q there =
        let most = (passed-bounds limits passed).maxmsg in
        let few = (queue-sound limits s n send.value.queue send-queue sound).maxmsg.1 in
        let room = send.holds.room in
        let fewer : length send.value.queue.messages < send.value.queue.maxmsg = grind (arith, nat_tests) in
        subst (λ (r : Mq). length r.messages < most_messages) (same-value send-queue there) (omega (arith, most, few, fewer))

    pub sends-finish : (t : State) (fired : Option Registration)
        → ((q : Mq) → mq_object s n ≡ Some q → t ≡ with_mq s n (arrived (is_to_notify s n q) q (record { priority = m.priority; text = m.text.items })))
        → ((q : Mq) → mq_object s n ≡ Some q → fired ≡ firing (is_to_notify s n q) q)
        → Finishes (done_firing t Empty fired) ≡ attempt limits s pid (parked_posix call)
    sends-finish t fired left tells =
        let q : Mq = send.value.queue in
        let sent : PlainMessage = record { priority = m.priority; text = m.text.items } in
        ends-as tests.is _ is _ (finishes send s _ (done_firing t Empty fired) ((λ i. done_firing (left q send-queue i) Empty (tells q send-queue i))
        ∙ ap (λ (k : ℕ). done_firing (with_mq s k (arrived (is_to_notify s k q) q sent)) Empty (firing (is_to_notify s k q) q)) (sym send.is)))

  -- a receive
  module _ {fd deadline size : ℕ} (is : call ≡ parked.MqReceive fd deadline size) where
    pub receive : HasFound (λ (f : Found × PlainMessage). f.0.number) (Receives s pid fd) (receivable s pid fd size) n
    receive = has-found (receives s pid fd size) (said tests.is was _ is)

    pub receive-queue : mq_object s n ≡ Some receive.value.0.queue
    receive-queue = ap (mq_object s) (sym receive.is) ∙ receive.holds.queue.there

    pub receives-some : (q : Mq) → mq_object s n ≡ Some q → 0 < length q.messages
    receives-some q there =
        subst (λ (r : Mq). 0 < length r.messages) (same-value receive-queue there)
        (some-message receive.value.0.queue receive.value.1 receive.holds.message)

    pub receives-finish : (t : State) (body : PlainBody) → ((q : Mq) → mq_object s n ≡ Some q → t ≡ with_mq s n (received q))
        → ((q : Mq) → mq_object s n ≡ Some q → option_map message_body (received_message q) ≡ Some body)
        → Finishes (done t body) ≡ attempt limits s pid (parked_posix call)
    receives-finish t body left says =
        let q : Mq = receive.value.0.queue in
        let answers : body ≡ message_body receive.value.1 = same-value (says q receive-queue) (ap (option_map message_body) receive.holds.message) in
        ends-as tests.is _ is _ (finishes receive s _ (done t body) ((λ i. done (left q receive-queue i) (answers i))
        ∙ ap (λ (k : ℕ). done (with_mq s k (received q)) (message_body receive.value.1)) (sym receive.is)))

  -- a wait
  module _ {fd deadline : ℕ} (is : call ≡ parked.SemWait fd deadline) where
    pub lower : HasFound (λ (f : FoundPsem). f.number) (Lowers s pid fd) (lowerable s pid fd) n
    lower = has-found (lowers s pid fd) (said tests.is was _ is)

    pub lower-value : psem_value s n ≡ Some lower.value.value
    lower-value = ap (psem_value s) (sym lower.is) ∙ lower.holds.semaphore.there
