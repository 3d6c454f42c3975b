use Rattle.std.proofs.Common.{◌∙◌, ◌+◌, ap, sym, arith}
use Rattle.ipc_image.specs.Window.{passed}
use Rattle.ipc_image.proofs.Marks.{first-fit, first-next, told-at}
use Rattle.ipc_image.proofs.Windows.{passed-next}
use Rattle.ipc_image.proofs.saved.pass_over.Goals as goal

pub overflow_add-mark-in-loop-mark : goal.overflow_add-mark-in-loop-mark
overflow_add-mark-in-loop-mark g c =
    let t = g.L.Listed in
    let at = c.loop-mark.mark.parts in
    let xs = t.items c.args.items.now in
    let here = told-at _ xs at c.len_at-len.result (omega (arith, c.loop-mark-test.true, c.count.ensures)) c.len_at-len.ensures in
    omega (arith, first-next t.bytes xs at here.0 here.1, first-fit t.bytes xs (at + 1), c.requires.short, c.loop-mark.invariant.mark, here.2)

pub loop-mark-preserved : goal.loop-mark-preserved
loop-mark-preserved g c =
    let t = g.L.Listed in
    let at = c.loop-mark.mark.parts in
    let xs = t.items c.args.items.now in
    let here = told-at _ xs at c.len_at-len.result (omega (arith, c.loop-mark-test.true, c.count.ensures)) c.len_at-len.ensures in
    record {
      mark = omega (arith, first-next t.bytes xs at here.0 here.1, c.loop-mark.invariant.mark, here.2);
      passed = λ begun is.
          c.passes_over.ensures.over c.if-not-passes_over.false (t.bytes here.0) (sym here.2)
          ∙ ap (passed (t.bytes here.0)) (c.loop-mark.invariant.passed begun is) ∙ passed-next begun t.bytes xs at here.0 here.1;
    }
