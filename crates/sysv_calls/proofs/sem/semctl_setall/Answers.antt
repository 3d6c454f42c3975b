use Rattle.std.proofs.Common.{◌≡◌, ◌∙◌, ◌≤◌, Some, None, ℕ, All, take, refl, ap, sym, subst, arith, true, rules}
use Rattle.ipc_limits.proofs.CallerLemmas.{passed-bounds}
use Rattle.ipc_wire.specs.Values.{bytes_of, numbers_in}
use Rattle.ipc_wire.specs.declared.reply.Body.TheVariants.{Empty}
use Rattle.sysv_sem.specs.Operation.{most_value}
use Rattle.sysv_sem.specs.Set.{Set, with_values}
use Rattle.ipc_state.specs.declared.parked.ObjectKind.TheVariants as kinds
use Rattle.ipc_state.specs.Finish.{Finishes, done}
use Rattle.ipc_state.specs.Held.{Held}
use Rattle.ipc_state.specs.Bound.{holding}
use Rattle.ipc_state.specs.Keyed.{KeyedEntry}
use Rattle.ipc_state.specs.State.{semset_of, with_semset, without_adjustments}
use Rattle.ipc_state.proofs.CallerLemmas.{content-sound}
use Rattle.ipc_state.specs.Steps.{result_of}
use Rattle.ipc_state.proofs.CallerLemmas.{HasFound, has-found}
use Rattle.sysv_calls.specs.Sem.{settable}
use Rattle.sysv_calls.proofs.Lent.{state-alone, with_state}
use Rattle.sysv_calls.proofs.Reaching.{IsSettable, settable-ends}
use Rattle.sysv_calls.proofs.sem.semctl_setall.Goals.{After-clear_adjustments, After-len, In_ok-ready_to_set}
use Rattle.sysv_calls.proofs.sem.semctl_setall.Goals as goal

abbrev nothing : KeyedEntry Set → Unit {0}
nothing e = tt

-- the set of a caller that may set its values
found : (c : In_ok-ready_to_set) → HasFound nothing (IsSettable c.args.state.now.state c.args.id.0 (numbers_in (bytes_of c.args.values.now)))
    (settable c.args.state.now.state c.args.cred c.args.id.0 (numbers_in (bytes_of c.args.values.now))) tt
found c =
    has-found (settable-ends {never = true} c.args.state.now.state c.args.cred c.args.id.0 (numbers_in (bytes_of c.args.values.now)))
    (sym c.ready_to_set.ensures.tests ∙ ap result_of c.in_ok-ready_to_set.was)

pub put_values-requires : goal.put_values-requires
put_values-requires c =
    let g = (goal.at.put_values-requires c).In_ok-ready_to_set in
    let old = c.args.state.now in
    let few = (content-sound old.limits old.state kinds.Semset c.args.id.0 (found g).value (found g).holds.there c.requires.sound).few in
    omega (arith, few, (found g).holds.count, (passed-bounds old.limits c.in_ok-ready_to_set.ensures.passed).semmsl)

-- the values that are read
values : (c : After-len) → take c.len.result c.put_values.new.all ≡ numbers_in (bytes_of c.args.values.now)
values c = ap (λ (n : ℕ). take n c.put_values.new.all) c.len.ensures ∙ c.put_values.ensures

pub set_all-requires-clause-count : goal.set_all-requires-clause-count
set_all-requires-clause-count c =
    let f = found (goal.at.set_all-requires-clause-count c).In_ok-ready_to_set in
    let there = f.holds.there in
    let count = f.holds.count in
    search (rules, there, count)

pub set_all-requires-clause-values : goal.set_all-requires-clause-values
set_all-requires-clause-values c =
    let g = goal.at.set_all-requires-clause-values c in
    subst (All (λ v. v ≤ most_value)) (sym (values g.After-len)) (found g.In_ok-ready_to_set).holds.values

leaves : (c : After-clear_adjustments) (e : KeyedEntry Set) → semset_of c.args.state.now.state c.args.id.0 ≡ Some e → c.clear_adjustments.new.self
    ≡ with_state c.args.state.now (without_adjustments c.args.id.0 None (with_semset c.args.state.now.state c.args.id.0 (holding e c.set_all.new.self)))
leaves c e there =
    c.clear_adjustments.ensures
    ∙ ap (λ (h : Held). with_state h (without_adjustments c.args.id.0 None h.state)) (c.semset_mut.follows.holds c.set_all.new.self e there)

pub returns-clause-finish : goal.returns-clause-finish
returns-clause-finish c =
    let g = goal.at.returns-clause-finish c in
    let s = c.args.state.now.state in
    let f = found g.In_ok-ready_to_set in
    let e : KeyedEntry Set = f.value in
    let there = f.holds.there in
    let read = values g.After-len in
    let sets : c.set_all.new.self ≡ with_values e.object (numbers_in (bytes_of c.args.values.now)) c.args.pid s.clock =
    search (rules, there, read) in
    ap (λ (h : Held). Finishes (done h.state Empty)) (leaves g.After-clear_adjustments e f.holds.there)
    ∙ ap (λ (x : Set). Finishes (done (without_adjustments c.args.id.0 None (with_semset s c.args.id.0 (holding e x))) Empty)) sets
    ∙ rw f.was refl

pub returns-clause-held : goal.returns-clause-held
returns-clause-held c =
    let g = goal.at.returns-clause-held c in
    let f = found g.In_ok-ready_to_set in
    state-alone c.args.state.now _ (leaves g.After-clear_adjustments f.value f.holds.there)
