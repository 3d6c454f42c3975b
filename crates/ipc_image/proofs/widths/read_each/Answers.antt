use Rattle.std.proofs.Common.{subst}
use Rattle.std.specs.Prelude.{All}
use Rattle.std.proofs.lemmas.List.{take_all}
use Rattle.std.proofs.lemmas.List.Elements.{All-more}
use Rattle.ipc_image.proofs.widths.read_each.Goals as goal

pub loop-item-preserved : goal.loop-item-preserved
loop-item-preserved g c =
    All-more g.T.Wide.IsWide c.args.items.now c.loop-item.item-index c.item-item.result c.loop-item-test.true c.loop-item.invariant
    (subst g.T.Wide.IsWide c.item-item.is c.read.ensures)

pub returns : goal.returns
returns g c = subst (All g.T.Wide.IsWide) (take_all c.loop-item.item-index c.args.items.now c.loop-item-test.false) c.loop-item.invariant
