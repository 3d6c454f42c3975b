use Rattle.std.proofs.Common.{◌≡◌, ◌∙◌, ℕ, ℤ, pos, Bool, true, false, List, length, ap, refl, arith, rules}
use Rattle.std.proofs.lemmas.Int.{ints}
use Rattle.std.specs.Prelude.{Ok, Err, int_lt, nat_lt}
use Rattle.ipc_base.specs.declared.errno.Errno.TheVariants.{EAGAIN}
use Rattle.ipc_base.specs.declared.identity.Cred.{Cred}
use Rattle.ipc_limits.specs.declared.limits.Limits.{Limits}
use Rattle.ipc_limits.specs.Limits.{message_limit}
use Rattle.sysv_msg.specs.Queue.{Queue, full}
use Rattle.ipc_state.specs.Finish.{Attempt}
use Rattle.ipc_state.specs.Keyed.{KeyedEntry}
use Rattle.ipc_state.specs.State.{State}
use Rattle.ipc_state.specs.Steps.{seen}
use Rattle.sysv_calls.specs.Access.{accessible, write}
use Rattle.sysv_calls.specs.Msg.{sendable, waits_or}
use Rattle.sysv_calls.proofs.msg.ready_to_send.Goals.{After-has_room}
use Rattle.sysv_calls.proofs.msg.ready_to_send.Goals as goal

abbrev unseen : KeyedEntry Queue → Unit {0}
unseen e = tt

-- the last test of a send, where the others are passed
module _ (limits : Limits) (s : State) (cred : Cred) (again : Bool) (id flags : ℕ) (mtype : ℤ) (text : List ℕ) (e : KeyedEntry Queue)
    (above : int_lt (pos 0) mtype ≡ true) (short : nat_lt limits.msgmax (length text) ≡ false) (there : accessible again s.msg cred id write ≡ Ok e) where
  waits : full (message_limit limits) e.object (length text) ≡ true
      → (let r : Attempt (Unit {0}) = Err (waits_or flags EAGAIN) in r) ≡ seen unseen (sendable limits s cred again id flags mtype text)
  waits is = rw above (rw short (rw there (rw is refl)))

  goes : full (message_limit limits) e.object (length text) ≡ false
      → (let r : Attempt (Unit {0}) = Ok tt in r) ≡ seen unseen (sendable limits s cred again id flags mtype text)
  goes is = rw above (rw short (rw there (rw is refl)))

pub returns-then-not-has_room-clause-tests : goal.returns-then-not-has_room-clause-tests
returns-then-not-has_room-clause-tests c =
    let m = c.args.message.now in
    let h = c.args.state.now in
    let e = c.in_ok-entry.entry.now in
    let above : int_lt (pos 0) m.mtype ≡ true = grind (arith, ints, c.if-message-le0.false) in
    let short : nat_lt h.limits.msgmax (length m.text.items) ≡ false = search rules in
    let there : accessible c.args.again h.state.msg c.args.cred c.args.id.0 write ≡ Ok e = search rules in
    let is : full (message_limit h.limits) e.object (length m.text.items) ≡ true = search rules in
    ap (λ k. Err k) c.waits_or.ensures ∙ waits h.limits h.state c.args.cred c.args.again c.args.id.0 c.args.flags.0 m.mtype m.text.items e above short there is

pub returns-clause-tests : goal.returns-clause-tests
returns-clause-tests c =
    let m = c.args.message.now in
    let h = c.args.state.now in
    let e = c.in_ok-entry.entry.now in
    let above : int_lt (pos 0) m.mtype ≡ true = grind (arith, ints, c.if-message-le0.false) in
    let short : nat_lt h.limits.msgmax (length m.text.items) ≡ false = search rules in
    let there : accessible c.args.again h.state.msg c.args.cred c.args.id.0 write ≡ Ok e = search rules in
    let is : full (message_limit h.limits) e.object (length m.text.items) ≡ false = search rules in
    goes h.limits h.state c.args.cred c.args.again c.args.id.0 c.args.flags.0 m.mtype m.text.items e above short there is
