use Rattle.std.proofs.Common.{ap, ◌∙◌}
use Rattle.ipc_engine.specs.Engine.{Machine}
use Rattle.ipc_state.specs.State.{is_process}
use Rattle.ipc_engine.proofs.engine.Engine.connected.Goals as goal

pub returns : goal.returns
returns c = c.has_process.ensures ∙ ap (λ (m : Machine). is_process m.state c.args.pid.0) c.self.view_is
