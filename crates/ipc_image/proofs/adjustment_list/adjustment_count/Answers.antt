use Rattle.std.proofs.Common.{arith}
use Rattle.ipc_image.proofs.AdjustmentLists.{count-next}
use Rattle.ipc_image.proofs.adjustment_list.adjustment_count.Goals as goal

pub overflow_cast-count : goal.overflow_cast-count
overflow_cast-count c =
    let next = count-next c.args.items.now _ c.item-item.result c.rows.result.now c.loop-item-test.true c.item-item.is c.rows.ensures.rows in
    omega (arith, next.0, next.1, c.requires)

pub overflow_add-count : goal.overflow_add-count
overflow_add-count c =
    let next = count-next c.args.items.now _ c.item-item.result c.rows.result.now c.loop-item-test.true c.item-item.is c.rows.ensures.rows in
    omega (arith, next.0, next.1, c.requires, c.loop-item.invariant)

pub loop-item-preserved : goal.loop-item-preserved
loop-item-preserved c =
    let next = count-next c.args.items.now _ c.item-item.result c.rows.result.now c.loop-item-test.true c.item-item.is c.rows.ensures.rows in
    omega (arith, next.0, c.loop-item.invariant)
