use Rattle.std.proofs.Common.{◌+◌, arith}
use Rattle.ipc_image.proofs.Marks.{first-fit, first-next, told-at}
use Rattle.ipc_image.proofs.saved.list_len.Goals as goal

pub overflow_add-len : goal.overflow_add-len
overflow_add-len g c =
    let t = g.L.Listed in
    let at = c.loop-at.at in
    let xs = t.items c.args.items.now in
    let here = told-at _ xs at c.len_at-len.result (omega (arith, c.loop-at-test.true, c.count-at-end.ensures)) c.len_at-len.ensures in
    omega (arith, first-next t.bytes xs at here.0 here.1, first-fit t.bytes xs (at + 1), c.requires.short, c.loop-at.invariant, here.2)

pub loop-at-preserved : goal.loop-at-preserved
loop-at-preserved g c =
    let t = g.L.Listed in
    let at = c.loop-at.at in
    let xs = t.items c.args.items.now in
    let here = told-at _ xs at c.len_at-len.result (omega (arith, c.loop-at-test.true, c.count-at-end.ensures)) c.len_at-len.ensures in
    omega (arith, first-next t.bytes xs at here.0 here.1, c.loop-at.invariant, here.2)
