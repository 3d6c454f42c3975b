-- What comes of a call that may wait, by what its tests answered.
use Rattle.std.proofs.Common.{◌≡◌, ◌∙◌, ℕ, ℤ, ◌<◌, ◌≤◌, Bool, true, false, List, length, Some, sym, ap, subst, arith}
use Rattle.std.specs.Prelude.{Ok, Option, Result, ◌+◌, ◌||◌, is_some, nat_lt, take}
use Rattle.std.proofs.lemmas.Bool.{ltb-false, or_parts}
use Rattle.ipc_base.specs.declared.flags.MsgFlags.{MsgFlags}
use Rattle.ipc_base.specs.declared.identity.Cred.{Cred}
use Rattle.ipc_base.specs.declared.identity.Id.{Id}
use Rattle.ipc_limits.specs.declared.limits.Limits.{Limits}
use Rattle.ipc_limits.specs.Limits.{ArePassed, exceeds, message_limit}
use Rattle.ipc_limits.proofs.CallerLemmas.{passed-bounds}
use Rattle.ipc_wire.specs.Reply.{PlainBody}
use Rattle.ipc_wire.specs.declared.reply.Body.TheVariants.{Empty, Message as Received}
use Rattle.sysv_msg.specs.Queue.{Queue, byte_count, full, most_messages, sent, taken}
use Rattle.sysv_msg.specs.declared.message.Message.{Message}
use Rattle.sysv_sem.specs.Set.{Set}
use Rattle.ipc_state.specs.declared.parked.ObjectKind.TheVariants as kinds
use Rattle.ipc_state.specs.declared.answers.Halt.{Halt as Stops}
use Rattle.ipc_state.specs.declared.operations.Operations.{Operations}
use Rattle.ipc_state.specs.declared.parked.ParkedSysv.{ParkedSysv}
use Rattle.ipc_state.specs.declared.parked.ParkedSysv.TheVariants as parked
use Rattle.ipc_state.specs.Finish.{Finishes, done}
use Rattle.ipc_state.specs.Bound.{holding}
use Rattle.ipc_state.specs.Keyed.{KeyedEntry}
use Rattle.ipc_state.specs.Sound.{HasSoundParts}
use Rattle.ipc_state.specs.State.{State, cred_of, is_process, msg_queue_of, with_msg_queue}
use Rattle.ipc_state.specs.Steps.{attempted}
use Rattle.ipc_state.specs.Waiting.{parked_sysv}
use Rattle.ipc_state.proofs.CallerLemmas.{Answered, HasFound, Tested, content-sound, ends-as, finishes, has-found, said, tested}
use Rattle.sysv_calls.specs.Calls.{attempt, definition_of}
use Rattle.sysv_calls.specs.Msg.{message_at, receivable, sendable}
use Rattle.sysv_calls.specs.Relations.{IsReady, Passes}
use Rattle.sysv_calls.specs.Seen.{place_in}
use Rattle.sysv_calls.specs.Semop.{operated, operations_of, performable}
use Rattle.sysv_calls.proofs.Reaching.{Receives, Sends, Operates, operates, operates-passes, receives, sends}

-- a call is told by its tests
call-tested : (limits : Limits) (s : State) (pid : ℕ) (again : Bool) (call : ParkedSysv)
    → Tested s (definition_of limits s pid again (parked_sysv call)) (place_in limits s (cred_of s pid) pid again call)
call-tested limits s pid again (parked.Msgsnd id flags m) = tested s _ _ _
call-tested limits s pid again (parked.Msgrcv id flags size mtype) = tested s _ _ _
call-tested limits s pid again (parked.Semop id timeout operations) = tested s _ _ _

-- a queue that is not full has places
has_places : (limit : Option ℕ) (q : Queue) (n most : ℕ) → q.qbytes ≤ most → most ≤ most_messages → full limit q n ≡ false
    → length q.messages < most_messages
has_places limit q n most few places is =
    let bytes : Bool = nat_lt q.qbytes (byte_count q.messages + n) in
    let count : Bool = nat_lt q.qbytes (length q.messages + 1) in
    let more : Bool = exceeds (length q.messages + 1) limit in
    omega (arith, ltb-false q.qbytes (length q.messages + 1) (or_parts bytes count (or_parts (bytes || count) more is).0).1)

-- the tests of a call answered so
pub record IsAnswered (limits : Limits) (s : State) (pid : ℕ) (again : Bool) (call : ParkedSysv) (r : Result ℕ Stops) : Type 0 where
  pub is : Answered s (λ (c : ParkedSysv). definition_of limits s pid again (parked_sysv c)) (place_in limits s (cred_of s pid) pid again) call r

pub is-answered : (limits : Limits) (s : State) (pid : ℕ) (again : Bool) (cred : Cred) → cred ≡ cred_of s pid → (call : ParkedSysv) (r : Result ℕ Stops)
    → attempted r ≡ place_in limits s cred pid again call → IsAnswered limits s pid again call r
is-answered limits s pid again cred same call r told =
    record { is = record { tests = call-tested limits s pid again call; told = told ∙ ap (λ (c : Cred). place_in limits s c pid again call) same } }

-- it may go on
module _ {limits : Limits} {s : State} {pid : ℕ} {again : Bool} {call : ParkedSysv} {r : Result ℕ Stops} (tests : IsAnswered limits s pid again call r)
    {at : ℕ} (was : r ≡ Ok at) where
  -- a send
  module _ {id : Id} {flags : MsgFlags} {m : Message} (is : call ≡ parked.Msgsnd id flags m) where
    pub send : HasFound (λ (e : KeyedEntry Queue). 0) (Sends limits s id.0 m.mtype m.text.items)
        (sendable limits s (cred_of s pid) again id.0 flags.0 m.mtype m.text.items) at
    send = has-found (sends limits s (cred_of s pid) again id.0 flags.0 m.mtype m.text.items) (said tests.is was _ is)

    pub sends-there : is_some (msg_queue_of s id.0) ≡ true
    sends-there = ap is_some send.holds.there

    pub sends-room : HasSoundParts limits s → ArePassed limits → (e : KeyedEntry Queue) → msg_queue_of s id.0 ≡ Some e
        → length e.object.messages < most_messages
    sends-room sound passed e there =
        let one : send.value ≡ e = cc (send.holds.there) in
        let most = (passed-bounds limits passed).msgmnb in
        let qbytes = (content-sound limits s kinds.MsgQueue id.0 e there sound).qbytes in
        has_places (message_limit limits) e.object (length m.text.items) limits.msgmnb qbytes (omega (arith, most))
        (subst (λ (f : KeyedEntry Queue). full (message_limit limits) f.object (length m.text.items) ≡ false) one send.holds.room)

    pub sends-finish : (t : State) → ((e : KeyedEntry Queue) → msg_queue_of s id.0 ≡ Some e
        → t ≡ with_msg_queue s id.0 (holding e (sent e.object (record { mtype = m.mtype; text = m.text.items }) pid s.clock)))
        → Finishes (done t Empty) ≡ attempt limits s pid again (parked_sysv call)
    sends-finish t left =
        ends-as tests.is _ is _ (finishes send s _ (done t Empty) (ap (λ (u : State). done u Empty) (left send.value send.holds.there)))

  -- a receive
  module _ {id : Id} {flags : MsgFlags} {size : ℕ} {mtype : ℤ} (is : call ≡ parked.Msgrcv id flags size mtype) where
    pub receive : HasFound (λ (found : KeyedEntry Queue × ℕ). found.1) (Receives s id.0) (receivable s (cred_of s pid) again id.0 flags.0 size mtype) at
    receive = has-found (receives s (cred_of s pid) again id.0 flags.0 size mtype) (said tests.is was _ is)

    pub receives-there : is_some (msg_queue_of s id.0) ≡ true
    receives-there = ap is_some receive.holds.there

    pub receives-inside : (e : KeyedEntry Queue) → msg_queue_of s id.0 ≡ Some e → at < length e.object.messages
    receives-inside e there =
        let one : receive.value.0 ≡ e = cc (receive.holds.there) in
        let inside = receive.holds.inside in
        let place = receive.is in
        omega (arith, inside, place, ap (λ (f : KeyedEntry Queue). length f.object.messages) one)

    pub receives-finish : (t : State) (body : PlainBody)
        → ((e : KeyedEntry Queue) → msg_queue_of s id.0 ≡ Some e → t ≡ with_msg_queue s id.0 (holding e (taken e.object at pid s.clock)))
        → ((e : KeyedEntry Queue) → msg_queue_of s id.0 ≡ Some e
        → body ≡ Received (message_at e.object at).mtype (take size (message_at e.object at).text))
        → Finishes (done t body) ≡ attempt limits s pid again (parked_sysv call)
    receives-finish t body left says =
        let e : KeyedEntry Queue = receive.value.0 in
        ends-as tests.is _ is _ (finishes receive s _ (done t body) ((λ i. done (left e receive.holds.there i) (says e receive.holds.there i))
        ∙ (λ i. done (with_msg_queue s id.0 (holding e (taken e.object (sym receive.is i) pid s.clock)))
        (Received (message_at e.object (sym receive.is i)).mtype (take size (message_at e.object (sym receive.is i)).text)))))

  -- a list of operations, whose bytes are lent
  module _ {id : Id} {timeout : ℕ} {operations : Operations} (is : call ≡ parked.Semop id timeout operations) (checked : ArePassed limits)
      (bytes : List ℕ) (same : bytes ≡ operations.bytes.items) where
    operate : HasFound (λ (found : KeyedEntry Set × List ℕ). 0) (Operates limits s pid id.0 (operations_of operations.bytes.items))
        (performable limits s (cred_of s pid) pid again id.0 (operations_of operations.bytes.items)) at
    operate = has-found (operates limits s (cred_of s pid) pid again id.0 (operations_of operations.bytes.items)) (said tests.is was _ is)

    passes : Passes limits s pid id.0 (operations_of bytes) operate.value
    passes =
        subst (λ (l : List ℕ). Passes limits s pid id.0 (operations_of l) operate.value) (sym same)
        (operates-passes limits s pid id.0 (operations_of operations.bytes.items) operate.value checked operate.holds)

    pub operates-ready : is_process s pid ≡ true → IsReady limits s pid id.0 (operations_of bytes)
    operates-ready process = record { passed = checked; process = process; found = (operate.value, passes) }

    pub operates-finish : (t : State) → ((found : KeyedEntry Set × List ℕ) → Passes limits s pid id.0 (operations_of bytes) found
        → t ≡ operated s pid id.0 (operations_of bytes) found) → Finishes (done t Empty) ≡ attempt limits s pid again (parked_sysv call)
    operates-finish t left =
        ends-as tests.is _ is _ (finishes operate s _ (done t Empty) (ap (λ (u : State). done u Empty) (left operate.value passes
        ∙ ap (λ (l : List ℕ). operated s pid id.0 (operations_of l) operate.value) same)))
