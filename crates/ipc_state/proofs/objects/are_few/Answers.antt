use Rattle.std.proofs.Common.{ℕ, ap, arith}
use Rattle.std.proofs.lemmas.List.Sums.{sum_by_more}
use Rattle.ipc_state.specs.declared.numbered.Item.{Item}
use Rattle.ipc_state.specs.declared.objects.Entry.{Entry}
use Rattle.ipc_state.proofs.objects.are_few.Goals as goal

pub loop-item-preserved : goal.loop-item-preserved
loop-item-preserved g c =
    let size : Item (Entry _ _) → ℕ = λ e. g.T.Counted.count e.value.object in
    omega (
      arith,
      sum_by_more size c.args.items.now c.loop-item.item-index c.item-item.result c.loop-item-test.true,
      ap size c.item-item.is,
      c.count-count.ensures,
      c.loop-item.invariant,
      c.if-left-count.false,
    )
