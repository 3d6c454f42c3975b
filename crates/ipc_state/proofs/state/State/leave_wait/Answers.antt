use Rattle.std.proofs.Common.{ap, ◌∙◌}
use Rattle.ipc_state.specs.contracts.state.State.{the_view}
use Rattle.ipc_state.specs.Held.{Held}
use Rattle.ipc_state.specs.State.{without_waiting}
use Rattle.ipc_state.proofs.state.State.leave_wait.Goals as goal

pub returns-clause-held : goal.returns-clause-held
returns-clause-held c =
    let v = the_view c.self.inside in
    (λ i. let h : Held = record v { state = record v.state { wait = c.leave.ensures.others i }; waits = c.leave.ensures.room i } in h)
    ∙ ap (λ (m : Held). let h : Held = record m { state = without_waiting m.state c.args.pid.0 } in h) c.self.view_is
