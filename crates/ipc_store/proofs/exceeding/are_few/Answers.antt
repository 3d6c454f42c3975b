use Rattle.std.proofs.Common.{ap, arith}
use Rattle.std.proofs.lemmas.List.Sums.{sum_by_more}
use Rattle.ipc_store.specs.Larger.{room}
use Rattle.ipc_store.proofs.exceeding.are_few.Goals as goal

pub loop-queue-preserved : goal.loop-queue-preserved
loop-queue-preserved c =
    grind (
      arith,
      sum_by_more (λ e. room e.value.object) c.args.queues.now c.loop-queue.queue-index c.queue-item.result c.loop-queue-test.true,
      ap (λ e. room e.value.object) c.queue-item.is,
      c.bytes_of_mq-bytes.ensures,
      c.loop-queue.invariant,
      c.if-left-bytes.false,
    )
