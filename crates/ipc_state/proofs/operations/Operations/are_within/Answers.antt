use Rattle.std.proofs.Common.{◌∙◌, ap}
use Rattle.std.specs.Prelude.{nat_le}
use Rattle.ipc_wire.specs.SemBufs.{operations_in}
use Rattle.ipc_state.specs.declared.operations.Demands.{Demands}
use Rattle.ipc_state.proofs.Demands.{all-within}
use Rattle.ipc_state.proofs.operations.Operations.are_within.Goals as goal

pub returns : goal.returns
returns c =
    ap (λ (d : Demands). nat_le d.semaphores c.args.nsems) c.args.self.now.demanded
    ∙ all-within c.args.nsems (operations_in c.args.self.now.bytes.items)
