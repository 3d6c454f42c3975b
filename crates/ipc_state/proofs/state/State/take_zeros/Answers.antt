use Rattle.std.proofs.Common.{◌∙◌, ap}
use Rattle.ipc_state.specs.Held.{Held}
use Rattle.ipc_state.specs.Held.Ready.{Zeros}
use Rattle.ipc_state.proofs.Inside.{ready-in}
use Rattle.ipc_state.proofs.state.State.take_zeros.Goals as goal

pub returns-clause-zeros : goal.returns-clause-zeros
returns-clause-zeros c zeros is =
    c.take-zeros.ensures.value ∙ ready-in c.self.inside (Zeros zeros) (ap (λ (m : Held). m.ready) c.self.view_is ∙ is)
