use Rattle.std.proofs.Common.{refl, subst, sym}
use Rattle.std.specs.Prelude.{All}
use Rattle.std.proofs.lemmas.List.{take_all}
use Rattle.std.proofs.lemmas.List.Elements.{All-more}
use Rattle.ipc_state.proofs.Adjusting.{AreKept}
use Rattle.ipc_state.proofs.adjustments.are_at_semaphores.Goals as goal

pub loop-item-preserved : goal.loop-item-preserved
loop-item-preserved c =
    All-more (AreKept c.args.sets.now.objects) c.args.items.now c.loop-item.item-index c.item-item.result c.loop-item-test.true c.loop-item.invariant
    (subst (AreKept c.args.sets.now.objects) c.item-item.is (c.is_at_semaphores.ensures.0 c.if-not-is_at_semaphores.false))

pub returns-then-not-is_at_semaphores : goal.returns-then-not-is_at_semaphores
returns-then-not-is_at_semaphores c = (
  λ no. cc,
  λ all. absurd (let yes = c.is_at_semaphores.ensures.1 (subst (AreKept c.args.sets.now.objects) (sym c.item-item.is)
      (all c.loop-item.item-index c.item-item.result c.loop-item-test.true)) in
      let no = c.if-not-is_at_semaphores.true in cc),
)

pub returns : goal.returns
returns c = (
  λ _. subst (All (AreKept c.args.sets.now.objects)) (take_all c.loop-item.item-index c.args.items.now c.loop-item-test.false) c.loop-item.invariant,
  λ _. refl,
)
