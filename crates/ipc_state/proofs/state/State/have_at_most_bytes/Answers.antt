use Rattle.std.proofs.Common.{◌≤◌, subst}
use Rattle.std.specs.Bool.{Decides}
use Rattle.ipc_state.specs.Held.{Held}
use Rattle.ipc_state.specs.Sound.{segment_bytes}
use Rattle.ipc_state.proofs.state.State.have_at_most_bytes.Goals as goal

pub returns : goal.returns
returns c = subst (λ (m : Held). Decides c.count_at_most.result (segment_bytes m.state.pshm ≤ c.args.most)) c.self.view_is c.count_at_most.ensures
