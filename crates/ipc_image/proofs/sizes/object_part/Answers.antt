use Rattle.std.proofs.Common.{◌≤◌, arith}
use Rattle.ipc_limits.specs.declared.limits.Limits.{Limits}
use Rattle.ipc_image.proofs.Bounds.{bounds}
use Rattle.ipc_image.proofs.sizes.object_part.Goals as goal

pub returns-clause-bounded : goal.returns-clause-bounded
returns-clause-bounded c =
    let l : Limits = c.args.limits.now in
    let b = bounds c.args.form l c.requires.known c.requires.passed in
    let queues : c.sectors_for_each.result ≤ 19333120000 =
    rw (c.sectors_for_each.ensures, c.queue_len.ensures.exact) b.queues in
    let sets : c.sectors_for_each-2.result ≤ 32768 = rw (c.sectors_for_each-2.ensures, c.from.ensures) b.sets in
    omega (
      arith,
      queues,
      sets,
      c.mq_part.ensures.bounded,
      c.sectors_for_each-3.ensures,
      b.named_semaphores,
      c.from-2.ensures,
      c.from-3.ensures,
      c.sectors_for.ensures,
      b.each.segments,
      b.each.segment_bytes,
      c.shm_part.ensures.bounded,
    )
