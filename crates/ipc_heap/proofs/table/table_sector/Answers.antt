-- One word more, and all of them.
use Rattle.std.proofs.Common.{arith}
use Rattle.ipc_heap.proofs.Parts.{filled-none, filled-more, filled-all}
use Rattle.ipc_heap.proofs.table.table_sector.Goals as goal

pub loop-k-init : goal.loop-k-init
loop-k-init g c = filled-none (g.T.Table.words c.args.table.now) c.put_word.new.sector c.args.j c.args.next c.put_word.ensures

pub loop-k-preserved : goal.loop-k-preserved
loop-k-preserved g c =
    filled-more (g.T.Table.words c.args.table.now) c.args.j c.loop-k.k c.args.next c.loop-k.sector _ c.word.result c.loop-k.invariant
    (omega (arith, c.min-k-end.ensures, c.len.ensures, c.loop-k-test.true)) c.word.ensures c.put_word-in-loop-k.ensures

pub returns : goal.returns
returns g c = filled-all (g.T.Table.words c.args.table.now) c.args.j c.loop-k.k c.args.next c.loop-k.sector c.loop-k.invariant
    (omega (arith, c.min-k-end.ensures, c.len.ensures, c.loop-k-test.false, c.loop-k.auto.k-end))
