use Rattle.std.proofs.Common.{◌≡◌, ◌∙◌, false, refl, ap, rules}
use Rattle.std.specs.Prelude.{Ok, Err}
use Rattle.ipc_perm.specs.Perm.{asked_by}
use Rattle.ipc_state.proofs.CallerLemmas.{held-positive}
use Rattle.sysv_calls.specs.Access.{accessible, sought}
use Rattle.sysv_calls.specs.Seen.{attempt_of, sought_of}
use Rattle.sysv_calls.proofs.msg.get_queue.Goals.{After-lookup, After-accessible}
use Rattle.sysv_calls.proofs.msg.get_queue.Goals as goal

-- what is found
finds : (c : After-lookup) → sought c.args.state.now.state.msg c.args.key c.args.flags.0 ≡ sought_of c.lookup.result
finds c = search rules

-- what the identifier has for the caller
has : (c : After-accessible) → accessible false c.args.state.now.state.msg c.args.cred c.in-Some.id.0 (asked_by c.args.flags.0)
    ≡ attempt_of c.accessible.result
has c = search rules

pub lookup-requires : goal.lookup-requires
lookup-requires c = held-positive c.msg.result.now c.args.state.now.state.msg c.msg.ensures.queues c.requires.sound.msg.held.bound

pub returns-in_err-accessible-clause-finish : goal.returns-in_err-accessible-clause-finish
returns-in_err-accessible-clause-finish c =
    let g = goal.at.returns-in_err-accessible-clause-finish c in
    let found = finds g.After-lookup ∙ ap sought_of (c.in_ok-id.was ∙ ap Ok c.in-Some.is) in
    let is : c.from_residual-in_err-accessible.result ≡ Err c.in_err-accessible.field-0.0 = search rules in
    let no = has g.After-accessible ∙ ap attempt_of c.in_err-accessible.was in
    rw is (rw found (rw no refl))

pub returns-clause-finish : goal.returns-clause-finish
returns-clause-finish c =
    let g = goal.at.returns-clause-finish c in
    let found = finds g.After-lookup ∙ ap sought_of (c.in_ok-id.was ∙ ap Ok c.in-Some.is) in
    let is = has g.After-accessible ∙ ap attempt_of c.in_ok-accessible.was in
    rw found (rw is refl)
