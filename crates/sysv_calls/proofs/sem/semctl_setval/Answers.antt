use Rattle.std.proofs.Common.{◌≡◌, ◌∙◌, ◌<◌, length, Some, refl, ap, sym, subst, arith, true, rules}
use Rattle.std.proofs.lemmas.Option.{slice_get_within}
use Rattle.ipc_limits.proofs.CallerLemmas.{passed-bounds}
use Rattle.ipc_wire.specs.declared.reply.Body.TheVariants.{Empty}
use Rattle.sysv_sem.specs.declared.set.Semaphore.{Semaphore}
use Rattle.sysv_sem.specs.Set.{Set, with_value}
use Rattle.ipc_state.specs.declared.parked.ObjectKind.TheVariants as kinds
use Rattle.ipc_state.specs.Finish.{Finishes, done}
use Rattle.ipc_state.specs.Held.{Held}
use Rattle.ipc_state.specs.Bound.{holding}
use Rattle.ipc_state.specs.Keyed.{KeyedEntry}
use Rattle.ipc_state.specs.State.{semset_of, with_semset, without_adjustments}
use Rattle.ipc_state.proofs.CallerLemmas.{content-sound}
use Rattle.ipc_state.proofs.CallerLemmas.{HasFound, has-found}
use Rattle.sysv_calls.specs.Access.{write}
use Rattle.ipc_state.specs.Steps.{result_of}
use Rattle.sysv_calls.specs.Sem.{semaphore, value_of}
use Rattle.sysv_calls.proofs.Lent.{state-alone, with_state}
use Rattle.sysv_calls.proofs.Reaching.{IsFound, semaphore-ends}
use Rattle.sysv_calls.proofs.sem.semctl_setval.Goals.{After-clear_adjustments, After-unwrap-set}
use Rattle.sysv_calls.proofs.sem.semctl_setval.Goals as goal

-- the semaphore of a caller that may set it
found : (c : After-unwrap-set) → HasFound (λ (found : KeyedEntry Set × Semaphore). found.1) (IsFound c.args.state.now.state c.args.id.0 c.args.num)
    (semaphore c.args.state.now.state c.args.cred c.args.id.0 c.args.num write) c.in_ok-semaphore.field-0
found c =
    has-found (semaphore-ends {never = true} c.args.state.now.state c.args.cred c.args.id.0 c.args.num write)
    (sym c.semaphore.ensures.found ∙ ap result_of c.in_ok-semaphore.was)

inside : (c : After-unwrap-set) → c.args.num < length (found c).value.0.object.semaphores
inside c = slice_get_within (found c).value.0.object.semaphores c.args.num (found c).value.1 (found c).holds.at

-- its set, as it is lent
object : (c : After-unwrap-set) → c.unwrap-set.result.now ≡ (found c).value.0.object
object c = let there = (found c).holds.there in search (rules, there)

pub overflow_cast-num : goal.overflow_cast-num
overflow_cast-num c =
    let old = c.args.state.now in
    let few = (content-sound old.limits old.state kinds.Semset c.args.id.0 (found c).value.0 (found c).holds.there c.requires.sound).few in
    omega (arith, inside c, few, (passed-bounds old.limits c.in_ok-semaphore.ensures.passed).semmsl)

pub set_value-requires-clause-num : goal.set_value-requires-clause-num
set_value-requires-clause-num c = subst (λ (s : Set). c.args.num < length s.semaphores) (sym (object c)) (inside c)

leaves : (c : After-clear_adjustments) (e : KeyedEntry Set) → semset_of c.args.state.now.state c.args.id.0 ≡ Some e → c.clear_adjustments.new.self
    ≡ with_state c.args.state.now (without_adjustments c.args.id.0 (Some c.args.num)
    (with_semset c.args.state.now.state c.args.id.0 (holding e c.set_value.new.self)))
leaves c e there =
    c.clear_adjustments.ensures
    ∙ ap (λ (h : Held). with_state h (without_adjustments c.args.id.0 (Some c.args.num) h.state))
    (c.semset_mut.follows.holds c.set_value.new.self e there)

pub returns-clause-finish : goal.returns-clause-finish
returns-clause-finish c =
    let g = goal.at.returns-clause-finish c in
    let u = g.After-unwrap-set in
    let s = c.args.state.now.state in
    let num = c.args.num in
    let e : KeyedEntry Set = (found u).value.0 in
    let there = (found u).holds.there in
    let value : value_of c.args.value ≡ Some c.in-Some.value = search rules in
    let sets : c.set_value.new.self ≡ with_value e.object num c.in-Some.value c.args.pid s.clock = search (rules, there) in
    ap (λ (h : Held). Finishes (done h.state Empty)) (leaves g.After-clear_adjustments e (found u).holds.there)
    ∙ ap (λ (x : Set). Finishes (done (without_adjustments c.args.id.0 (Some num) (with_semset s c.args.id.0 (holding e x))) Empty)) sets
    ∙ rw (found u).was (rw value refl)

pub returns-clause-held : goal.returns-clause-held
returns-clause-held c =
    let g = goal.at.returns-clause-held c in
    let f = found g.After-unwrap-set in
    state-alone c.args.state.now _ (leaves g.After-clear_adjustments f.value.0 f.holds.there)
