use Rattle.std.proofs.Common.{List, ◌++◌, ◌∙◌, sym, ap, subst}
use Rattle.ipc_state.specs.Waiting.{PlainWaiting}
use Rattle.ipc_wait.specs.Waits.{HaveDistinctPids}
use Rattle.ipc_image.proofs.WaitingCalls.{waits_one}
use Rattle.ipc_image.proofs.waiting.restore_waits.Goals as goal

pub returns-in_default-clause-damaged : goal.returns-in_default-clause-damaged
returns-in_default-clause-damaged c is ws few fit distinct same =
    let read = c.in_ok-read_counted.ensures.ok in
    let all = waits_one ws read.0 few read.1 fit read.2 (sym same ∙ read.3) in
    let twice = rw c.in_default.is at c.in_ok-list.ensures.none in
    twice (subst HaveDistinctPids
    (all ∙ ap (λ (before : List PlainWaiting). before ++ read.0) (sym c.new-calls.ensures.items) ∙ sym read.4) distinct)
