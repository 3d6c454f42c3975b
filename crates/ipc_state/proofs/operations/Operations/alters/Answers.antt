use Rattle.std.proofs.Common.{◌∙◌, ap}
use Rattle.ipc_wire.specs.SemBufs.{operations_in}
use Rattle.ipc_state.specs.declared.operations.Demands.{Demands}
use Rattle.ipc_state.specs.Demands.{no_demands}
use Rattle.ipc_state.proofs.Demands.{some-alter}
use Rattle.ipc_state.proofs.operations.Operations.alters.Goals as goal

pub returns : goal.returns
returns c =
    ap (λ (d : Demands). d.alters) c.args.self.now.demanded
    ∙ some-alter no_demands (operations_in c.args.self.now.bytes.items)
