use Rattle.std.proofs.Common.{◌∙◌, ap, arith}
use Rattle.ipc_image.specs.Window.{passed}
use Rattle.ipc_image.proofs.Marks.{told-at}
use Rattle.ipc_image.proofs.Windows.{passed-full, passed-next}
use Rattle.ipc_image.proofs.saved.put_from.Goals as goal

pub returns-then-is_full : goal.returns-then-is_full
returns-then-is_full g c begun is =
    let t = g.L.Listed in
    passed-full begun t.bytes (t.items c.args.items.now) c.loop-at.at c.loop-at.window (c.loop-at.invariant begun is)
    (c.is_full.ensures c.if-is_full.true)

pub loop-at-preserved : goal.loop-at-preserved
loop-at-preserved g c begun is =
    let t = g.L.Listed in
    let at = c.loop-at.at in
    let xs = t.items c.args.items.now in
    let here = told-at _ xs at c.put_at.new.window (omega (arith, c.loop-at-test.true, c.count-at-end.ensures)) c.put_at.ensures in
    here.2 ∙ ap (passed (t.bytes here.0)) (c.loop-at.invariant begun is) ∙ passed-next begun t.bytes xs at here.0 here.1
