use Rattle.std.proofs.Common.{[], sym, append-nil}
use Rattle.ipc_hub.proofs.Replying.{told-call}
use Rattle.ipc_hub.proofs.laws.calls_keep_answers.Goals as goal

pub returns : goal.returns
returns c limits base h next answered call =
    let told = told-call limits base h.events h next (record { state = (answered.state, ([], sym (append-nil h.events))); each = answered.each }) call in
    (record { state = told.state.0; each = told.each }, told.state.1)
