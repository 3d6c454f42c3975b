use Rattle.std.proofs.Common.{◌∙◌, ap}
use Rattle.ipc_wire.specs.SemBufs.{operations_in}
use Rattle.ipc_state.specs.declared.operations.Demands.{Demands}
use Rattle.ipc_state.specs.Demands.{no_demands}
use Rattle.ipc_state.proofs.Demands.{all-patient}
use Rattle.ipc_state.proofs.operations.Operations.are_patient.Goals as goal

pub returns : goal.returns
returns c =
    ap (λ (d : Demands). d.patient) c.args.self.now.demanded ∙ all-patient no_demands (operations_in c.args.self.now.bytes.items)
