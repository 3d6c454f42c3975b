use Rattle.std.proofs.Common.{◌≡◌, false, refl, ◌∙◌, rules}
use Rattle.ipc_perm.specs.Perm.{perm_of}
use Rattle.ipc_wire.specs.declared.reply.Body.TheVariants.{Number}
use Rattle.ipc_state.specs.Finish.{Finishes, done}
use Rattle.ipc_state.specs.Held.{left}
use Rattle.ipc_state.specs.Numbered.{is_full}
use Rattle.ipc_state.specs.State.{with_new_msg_queue}
use Rattle.sysv_calls.proofs.Lent.{queue_in}
use Rattle.sysv_calls.proofs.msg.make_queue.Goals as goal

pub add_msg_queue-requires : goal.add_msg_queue-requires
add_msg_queue-requires c =
    (rw c.requires.ready refl, (rw c.requires.ready c.requires.unused, (c.requires.sound.msg.held.bound.numbered.numbers, search rules)))

pub returns-clause-finish : goal.returns-clause-finish
returns-clause-finish c =
    let old = c.args.state.now in
    let full : is_full old.limits.msgmni old.state.msg ≡ false = search rules in
    let made : c.add_msg_queue.new.self ≡ left old (with_new_msg_queue old.limits old.state c.args.key (perm_of c.args.cred c.args.flags.0)) =
    c.add_msg_queue.ensures.added ∙ (λ i. left old (with_new_msg_queue old.limits old.state (queue_in (c.requires.ready i)) (c.new.ensures.perm i))) in
    rw full (λ i. Finishes (done (made i).state (Number (c.add_msg_queue.ensures.id i))))
