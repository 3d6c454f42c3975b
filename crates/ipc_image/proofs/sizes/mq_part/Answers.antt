use Rattle.std.proofs.Common.{arith}
use Rattle.ipc_image.proofs.Bounds.{bounds}
use Rattle.ipc_image.proofs.sizes.mq_part.Goals as goal

pub sectors_for_each-requires : goal.sectors_for_each-requires
sectors_for_each-requires c =
    let b = bounds c.args.form c.args.limits.now c.requires.known c.requires.passed in
    rw (c.from-2.ensures, c.from-message.ensures) (omega (arith, b.posix_queues))

pub returns-clause-bounded : goal.returns-clause-bounded
returns-clause-bounded c =
    let b = bounds c.args.form c.args.limits.now c.requires.known c.requires.passed in
    rw (c.sectors_for_each.ensures, c.from-2.ensures, c.from-message.ensures) (omega (arith, b.posix_queues))
