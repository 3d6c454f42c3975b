use Rattle.std.proofs.Common.{take, arith}
use Rattle.sysv_sem.proofs.Trials.{value-on_way}
use Rattle.sysv_sem.proofs.trial.perform.Goals as goal

pub value_after-value-requires : goal.value_after-value-requires
value_after-value-requires c =
    value-on_way c.args.pid c.args.semaphores.now c.loop-operation.semaphores (take c.loop-operation.operation-index c.args.operations.now) _
    c.loop-operation.invariant (c.requires.range c.loop-operation.operation-index _ (omega (arith, c.loop-operation-test.true)))
