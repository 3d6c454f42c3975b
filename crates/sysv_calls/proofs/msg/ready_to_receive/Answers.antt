use Rattle.std.proofs.Common.{◌≡◌, true, false, pos, [], length, Option, Some, refl, sym, ap, ◌∙◌, rules}
use Rattle.std.specs.Prelude.{nat_lt, slice_get, unwrap_or, Ok, Err}
use Rattle.std.specs.Int.{w64, cast_signed as to_z, cast_unsigned as of_z}
use Rattle.std.proofs.lemmas.Int.{to_z-of_z}
use Rattle.sysv_msg.specs.Queue.{Queue, PlainMessage, pick}
use Rattle.ipc_state.specs.Finish.{Halt}
use Rattle.ipc_state.specs.Numbered.{last_number}
use Rattle.sysv_calls.specs.Access.{read, has, accessible}
use Rattle.sysv_calls.specs.Msg.{except, is_too_long, message_at}
use Rattle.sysv_calls.proofs.msg.ready_to_receive.Goals.{After-select}
use Rattle.sysv_calls.proofs.msg.ready_to_receive.Goals as goal

-- the queue of a caller that was let in
in_queue : (c : After-select) → accessible c.args.again c.args.state.now.state.msg c.args.cred c.args.id.0 read ≡ Ok c.in_ok-entry.entry.now
in_queue c = search rules

small : (c : After-select) → nat_lt last_number c.args.size ≡ false
small c = search rules

picks : (c : After-select) → pick c.in_ok-entry.entry.now.object.messages c.args.mtype (has c.args.flags.0 except) ≡ c.select.result
picks c =
    let n : to_z w64 (of_z w64 c.args.mtype) ≡ c.args.mtype = to_z-of_z w64 c.args.mtype c.ranges.mtype in
    let excepts : c.contains.result ≡ has c.args.flags.0 except = search rules in
    sym (c.select.ensures.picked ∙ (λ i. pick c.in_ok-entry.entry.now.object.messages (n i) (excepts i)))

-- the message at a place
found_at : (q : Queue) (at : _) (m : PlainMessage) → slice_get q.messages at ≡ Some m → message_at q at ≡ m
found_at q at m is = ap (λ (o : Option PlainMessage). unwrap_or o (record { mtype = pos 0; text = [] })) is

pub returns-in_default-clause-tests : goal.returns-in_default-clause-tests
returns-in_default-clause-tests c =
    let a = (goal.at.returns-in_default-clause-tests c).After-select in
    let none = picks a ∙ c.in_default.is in
    rw (small a) (rw (in_queue a) (rw none (ap (λ (h : Halt). Err h) c.waits_or.ensures)))

pub returns-then-is_too_long-clause-tests : goal.returns-then-is_too_long-clause-tests
returns-then-is_too_long-clause-tests c =
    let a = (goal.at.returns-then-is_too_long-clause-tests c).After-select in
    let q = c.in_ok-entry.entry.now.object in
    let picked = picks a ∙ c.in-Some.is in
    let here : is_too_long c.args.flags.0 c.args.size (length c.message.result.now.text.items) ≡ true = search rules in
    let long : is_too_long c.args.flags.0 c.args.size (length (message_at q c.in-Some.at).text) ≡ true =
    ap (λ (m : PlainMessage). is_too_long c.args.flags.0 c.args.size (length m.text)) (found_at q c.in-Some.at _ c.message.ensures) ∙ here in
    rw (small a) (rw (in_queue a) (rw picked (rw long refl)))

pub returns-clause-tests : goal.returns-clause-tests
returns-clause-tests c =
    let a = (goal.at.returns-clause-tests c).After-select in
    let q = c.in_ok-entry.entry.now.object in
    let picked = picks a ∙ c.in-Some.is in
    let here : is_too_long c.args.flags.0 c.args.size (length c.message.result.now.text.items) ≡ false = search rules in
    let short : is_too_long c.args.flags.0 c.args.size (length (message_at q c.in-Some.at).text) ≡ false =
    ap (λ (m : PlainMessage). is_too_long c.args.flags.0 c.args.size (length m.text)) (found_at q c.in-Some.at _ c.message.ensures) ∙ here in
    rw (small a) (rw (in_queue a) (rw picked (rw short refl)))
