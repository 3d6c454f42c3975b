use Rattle.std.proofs.Common.{◌∙◌, nat_lt, sym}
use Rattle.std.proofs.lemmas.List.Folds.{list_all-map}
use Rattle.ipc_wire.specs.SemBufs.{operations_in}
use Rattle.sysv_sem.specs.declared.operation.Operation.{Operation}
use Rattle.sysv_calls.specs.Semop.{operation_of}
use Rattle.sysv_calls.proofs.semop.are_within.Goals as goal

pub returns : goal.returns
returns c =
    c.are_within.ensures
    ∙ sym (list_all-map (λ (o : Operation). nat_lt o.num c.args.nsems) operation_of (operations_in c.args.operations.now.bytes.items))
