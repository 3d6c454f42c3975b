-- One slot more is chosen; at the end all are.
use Rattle.std.proofs.Common.{arith}
use Rattle.premises.proofs.Sectors.{chosen-more}
use Rattle.premises.proofs.remembering.choose.Goals as goal

pub loop-place-preserved : goal.loop-place-preserved
loop-place-preserved c =
    chosen-more c.args.slots.now c.loop-place.left.items _ c.loop-place.place _ _ (omega arith) c.loop-place.invariant c.in_ok-push.ensures.items
    c.choose_one.ensures
