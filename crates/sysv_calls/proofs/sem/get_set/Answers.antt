use Rattle.std.proofs.Common.{◌≡◌, ◌∙◌, ℤ, false, Some, refl, sym, ap, rules}
use Rattle.std.specs.Prelude.{Ok, Err}
use Rattle.std.specs.Int.{w32, cast_signed as to_z, cast_unsigned as of_z}
use Rattle.std.proofs.lemmas.Int.{to_z-of_z}
use Rattle.ipc_limits.proofs.CallerLemmas.{passed-bounds}
use Rattle.ipc_perm.specs.Perm.{asked_by}
use Rattle.ipc_state.specs.Held.Ready.{Semset}
use Rattle.ipc_state.specs.Numbered.{entry_of}
use Rattle.ipc_state.proofs.CallerLemmas.{held-positive}
use Rattle.sysv_calls.specs.Access.{accessible, sought}
use Rattle.sysv_calls.specs.Seen.{attempt_of, sought_of}
use Rattle.sysv_calls.specs.Sem.{count_of, has_fewer}
use Rattle.sysv_calls.proofs.Reaching.{place-reserved}
use Rattle.sysv_calls.proofs.sem.get_set.Goals.{After-semset, After-lookup, After-has_fewer, After-accessible}
use Rattle.sysv_calls.proofs.sem.get_set.Goals as goal

-- how many are asked for
counts : (c : After-semset) → count_of c.args.state.now.limits c.args.nsems ≡ Some c.in-Some.count
counts c = search rules

-- what is found
finds : (c : After-lookup) → sought c.args.state.now.state.semset c.args.key c.args.flags.0 ≡ sought_of c.lookup.result
finds c = search rules

-- whether it is large enough
lacks : (c : After-has_fewer) → has_fewer (entry_of c.args.state.now.state.semset c.in-Some-2.id.0) c.in-Some.count ≡ c.has_fewer.result
lacks c = search rules

-- what the identifier has for the caller
has : (c : After-accessible) → accessible false c.args.state.now.state.semset c.args.cred c.in-Some-2.id.0 (asked_by c.args.flags.0)
    ≡ attempt_of c.accessible.result
has c = search rules

pub lookup-requires : goal.lookup-requires
lookup-requires c = held-positive c.semset.result.now c.args.state.now.state.semset c.semset.ensures.sets c.requires.sound.semset.held.bound

pub make_set-requires-clause-ready : goal.make_set-requires-clause-ready
make_set-requires-clause-ready c some =
    let old = c.args.state.now in
    let n : to_z w32 (of_z w32 c.args.key) ≡ c.args.key = to_z-of_z w32 c.args.key c.ranges.key in
    let few = (passed-bounds old.limits c.semset.ensures.passed).semmsl in
    c.requires.ready ∙ place-reserved old.limits c.args.key c.args.nsems c.in-Some.count few
    (counts (goal.at.make_set-requires-clause-ready c).After-semset) some ∙ ap (λ (z : ℤ). Semset z c.in-Some.count) (sym n)

pub returns-then-has_fewer-clause-finish : goal.returns-then-has_fewer-clause-finish
returns-then-has_fewer-clause-finish c =
    let g = goal.at.returns-then-has_fewer-clause-finish c in
    let found = finds g.After-lookup ∙ ap sought_of (c.in_ok-id.was ∙ ap Ok c.in-Some-2.is) in
    let small = lacks g.After-has_fewer ∙ c.if-has_fewer.true in
    rw (counts g.After-semset) (rw found (rw small refl))

pub returns-in_err-accessible-clause-finish : goal.returns-in_err-accessible-clause-finish
returns-in_err-accessible-clause-finish c =
    let g = goal.at.returns-in_err-accessible-clause-finish c in
    let found = finds g.After-lookup ∙ ap sought_of (c.in_ok-id.was ∙ ap Ok c.in-Some-2.is) in
    let large = lacks g.After-has_fewer ∙ c.if-has_fewer.false in
    let is : c.from_residual-in_err-accessible.result ≡ Err c.in_err-accessible.field-0.0 = search rules in
    let no = has g.After-accessible ∙ ap attempt_of c.in_err-accessible.was in
    rw is (rw (counts g.After-semset) (rw found (rw large (rw no refl))))

pub returns-clause-finish : goal.returns-clause-finish
returns-clause-finish c =
    let g = goal.at.returns-clause-finish c in
    let found = finds g.After-lookup ∙ ap sought_of (c.in_ok-id.was ∙ ap Ok c.in-Some-2.is) in
    let large = lacks g.After-has_fewer ∙ c.if-has_fewer.false in
    let is = has g.After-accessible ∙ ap attempt_of c.in_ok-accessible.was in
    rw (counts g.After-semset) (rw found (rw large (rw is refl)))
