use Rattle.std.proofs.Common.{◌≡◌, false, arith, rules}
use Rattle.std.specs.Prelude.{Ok}
use Rattle.ipc_limits.proofs.CallerLemmas.{passed-bounds}
use Rattle.ipc_state.specs.declared.parked.ObjectKind.TheVariants as kinds
use Rattle.ipc_state.proofs.CallerLemmas.{content-sound}
use Rattle.sysv_calls.specs.Access.{read, accessible}
use Rattle.sysv_calls.proofs.Reaching.{accessible-there}
use Rattle.sysv_calls.proofs.sem.semctl_stat.Goals as goal

pub push_set-requires-clause-few : goal.push_set-requires-clause-few
push_set-requires-clause-few c =
    let limits = c.args.state.now.limits in
    let s = c.args.state.now.state in
    let e = c.in_ok-entry.entry.now in
    let is : accessible false s.semset c.args.cred c.args.id.0 read ≡ Ok e = search rules in
    let there = accessible-there s.semset c.args.cred c.args.id.0 e read is in
    omega (arith, (content-sound limits s kinds.Semset c.args.id.0 e there c.requires.sound).few, (passed-bounds limits c.semset.ensures.passed).semmsl)
