use Rattle.std.proofs.Common.{◌≡◌, ◌∙◌, sym, true, false}
use Rattle.ipc_state.specs.Finish.{has_to_wait}
use Rattle.ipc_state.specs.Waiting.{parked_posix}
use Rattle.ipc_state.proofs.CallerLemmas.{is_blocked, waits-on}
use Rattle.posix_calls.specs.Calls.{attempt}
use Rattle.ipc_state.specs.Steps.{attempted}
use Rattle.posix_calls.proofs.Trying.{is-answered}
use Rattle.posix_calls.proofs.waiting.has_to_wait.Goals.{After-ready}
use Rattle.posix_calls.proofs.waiting.has_to_wait.Goals as goal

by_tests : (c : After-ready) → is_blocked (attempted c.ready.result)
    ≡ has_to_wait (attempt c.args.state.now.limits c.args.state.now.state c.args.pid.0 (parked_posix c.args.call.now))
by_tests c = waits-on (is-answered c.args.state.now.limits c.args.state.now.state c.args.pid.0 c.args.call.now c.ready.result c.ready.ensures.tests).is

pub returns-in-Err-Blocks : goal.returns-in-Err-Blocks
returns-in-Err-Blocks c =
    let here : is_blocked (attempted c.ready.result) ≡ true = cc in
    sym here ∙ by_tests (goal.at.returns-in-Err-Blocks c).After-ready

pub returns-in-Err-Fails : goal.returns-in-Err-Fails
returns-in-Err-Fails c =
    let here : is_blocked (attempted c.ready.result) ≡ false = cc in
    sym here ∙ by_tests (goal.at.returns-in-Err-Fails c).After-ready

pub returns-in-Ok : goal.returns-in-Ok
returns-in-Ok c =
    let here : is_blocked (attempted c.ready.result) ≡ false = cc in
    sym here ∙ by_tests (goal.at.returns-in-Ok c).After-ready
