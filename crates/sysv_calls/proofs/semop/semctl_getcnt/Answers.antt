use Rattle.std.proofs.Common.{◌∙◌, ap, sym, arith, true}
use Rattle.std.proofs.lemmas.Option.{slice_get_within}
use Rattle.ipc_limits.proofs.CallerLemmas.{passed-bounds}
use Rattle.sysv_sem.specs.declared.set.Semaphore.{Semaphore}
use Rattle.sysv_sem.specs.Set.{Set}
use Rattle.ipc_state.specs.declared.parked.ObjectKind.TheVariants as kinds
use Rattle.ipc_state.specs.Keyed.{KeyedEntry}
use Rattle.ipc_state.proofs.CallerLemmas.{content-sound}
use Rattle.ipc_state.proofs.CallerLemmas.{has-found}
use Rattle.sysv_calls.specs.Access.{read}
use Rattle.ipc_state.specs.Steps.{result_of}
use Rattle.sysv_calls.proofs.Reaching.{semaphore-ends}
use Rattle.sysv_calls.proofs.semop.semctl_getcnt.Goals as goal

pub overflow_cast-num : goal.overflow_cast-num
overflow_cast-num c =
    let old = c.args.state.now in
    let f = has-found {f = λ (found : KeyedEntry Set × Semaphore). found.1} (semaphore-ends {never = true} old.state c.args.cred c.args.id.0 c.args.num read)
    (sym c.semaphore.ensures.found ∙ ap result_of c.in_ok-semaphore.was) in
    let inside = slice_get_within f.value.0.object.semaphores c.args.num f.value.1 f.holds.at in
    let few = (content-sound old.limits old.state kinds.Semset c.args.id.0 f.value.0 f.holds.there c.requires.sound).few in
    omega (arith, inside, few, (passed-bounds old.limits c.in_ok-semaphore.ensures.passed).semmsl)
