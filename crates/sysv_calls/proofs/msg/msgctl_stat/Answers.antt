use Rattle.std.proofs.Common.{◌≡◌, false, rules}
use Rattle.std.specs.Prelude.{Ok}
use Rattle.ipc_state.specs.declared.parked.ObjectKind.TheVariants as kinds
use Rattle.ipc_state.proofs.CallerLemmas.{content-sound, queue-numbers}
use Rattle.sysv_calls.specs.Access.{read, accessible}
use Rattle.sysv_calls.proofs.Reaching.{accessible-there}
use Rattle.sysv_calls.proofs.msg.msgctl_stat.Goals as goal

pub push_queue-requires-clause-numbers : goal.push_queue-requires-clause-numbers
push_queue-requires-clause-numbers c =
    let limits = c.args.state.now.limits in
    let s = c.args.state.now.state in
    let e = c.in_ok-entry.entry.now in
    let is : accessible false s.msg c.args.cred c.args.id.0 read ≡ Ok e = search rules in
    let there = accessible-there s.msg c.args.cred c.args.id.0 e read is in
    queue-numbers limits e.object c.msg.ensures.passed (content-sound limits s kinds.MsgQueue c.args.id.0 e there c.requires.sound)
