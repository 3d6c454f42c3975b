use Rattle.std.proofs.Common.{◌∙◌, sym}
use Rattle.ipc_wire.specs.SemBufs.{operations_in}
use Rattle.ipc_perm.specs.Perm.{may as may_use}
use Rattle.sysv_calls.proofs.Asking.{allowed, asked-all}
use Rattle.sysv_calls.proofs.semop.are_allowed.Goals as goal

pub returns : goal.returns
returns c =
    (λ i. allowed (c.may-may_read.ensures i) (c.reads.ensures i) (c.may-may_write.ensures i) (c.alters.ensures i))
    ∙ sym (asked-all (may_use c.args.cred c.args.perm.now) (operations_in c.args.operations.now.bytes.items))
