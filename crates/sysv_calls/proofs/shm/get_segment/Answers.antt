use Rattle.std.proofs.Common.{◌≡◌, ◌∙◌, false, refl, ap, rules}
use Rattle.std.specs.Prelude.{Ok, Err}
use Rattle.ipc_perm.specs.Perm.{asked_by}
use Rattle.ipc_state.specs.Numbered.{entry_of}
use Rattle.ipc_state.proofs.CallerLemmas.{held-positive}
use Rattle.sysv_calls.specs.Access.{accessible, sought}
use Rattle.sysv_calls.specs.Seen.{attempt_of, sought_of}
use Rattle.sysv_calls.specs.Shm.{is_shorter}
use Rattle.sysv_calls.proofs.shm.get_segment.Goals.{After-lookup, After-is_shorter, After-accessible}
use Rattle.sysv_calls.proofs.shm.get_segment.Goals as goal

-- what is found
finds : (c : After-lookup) → sought c.args.state.now.state.shm c.args.key c.args.flags.0 ≡ sought_of c.lookup.result
finds c = search rules

-- whether it is large enough
lacks : (c : After-is_shorter) → is_shorter (entry_of c.args.state.now.state.shm c.in-Some.id.0) c.args.size ≡ c.is_shorter.result
lacks c = search rules

-- what the identifier has for the caller
has : (c : After-accessible) → accessible false c.args.state.now.state.shm c.args.cred c.in-Some.id.0 (asked_by c.args.flags.0)
    ≡ attempt_of c.accessible.result
has c = search rules

pub lookup-requires : goal.lookup-requires
lookup-requires c = held-positive c.shm.result.now c.args.state.now.state.shm c.shm.ensures.segments c.requires.sound.shm.held.bound

pub returns-then-is_shorter-clause-finish : goal.returns-then-is_shorter-clause-finish
returns-then-is_shorter-clause-finish c =
    let g = goal.at.returns-then-is_shorter-clause-finish c in
    let found = finds g.After-lookup ∙ ap sought_of (c.in_ok-id.was ∙ ap Ok c.in-Some.is) in
    let small = lacks g.After-is_shorter ∙ c.if-is_shorter.true in
    rw found (rw small refl)

pub returns-in_err-accessible-clause-finish : goal.returns-in_err-accessible-clause-finish
returns-in_err-accessible-clause-finish c =
    let g = goal.at.returns-in_err-accessible-clause-finish c in
    let found = finds g.After-lookup ∙ ap sought_of (c.in_ok-id.was ∙ ap Ok c.in-Some.is) in
    let large = lacks g.After-is_shorter ∙ c.if-is_shorter.false in
    let is : c.from_residual-in_err-accessible.result ≡ Err c.in_err-accessible.field-0.0 = search rules in
    let no = has g.After-accessible ∙ ap attempt_of c.in_err-accessible.was in
    rw is (rw found (rw large (rw no refl)))

pub returns-clause-finish : goal.returns-clause-finish
returns-clause-finish c =
    let g = goal.at.returns-clause-finish c in
    let found = finds g.After-lookup ∙ ap sought_of (c.in_ok-id.was ∙ ap Ok c.in-Some.is) in
    let large = lacks g.After-is_shorter ∙ c.if-is_shorter.false in
    let is = has g.After-accessible ∙ ap attempt_of c.in_ok-accessible.was in
    rw found (rw large (rw is refl))
