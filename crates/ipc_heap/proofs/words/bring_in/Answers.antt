-- The words of the object are in their place.
use Rattle.std.proofs.Common.{arith}
use Rattle.ipc_heap.proofs.Edits.{brought-over, brought-new}
use Rattle.ipc_heap.proofs.words.bring_in.Goals as goal

pub returns-then-place-eq0-clause-items : goal.returns-then-place-eq0-clause-items
returns-then-place-eq0-clause-items c =
    brought-new c.args.words.now.items c.args.place c.args.end c.requires.some c.requires.within c.requires.end c.bring_before.new.words.items
    c.take_away.new.words.items _ c.index_mut.result.now
    (omega (arith, c.len.ensures)) c.bring_before.ensures.items c.take_away.ensures.items c.if-place-eq0.true
    c.index_mut.ensures.value

pub returns-else-place-eq0-clause-items : goal.returns-else-place-eq0-clause-items
returns-else-place-eq0-clause-items c =
    brought-over c.args.words.now.items c.args.place c.args.end c.requires.some c.requires.within c.requires.end c.bring_before.new.words.items
    c.take_away.new.words.items _ (omega (arith, c.len.ensures)) c.bring_before.ensures.items c.take_away.ensures.items (omega (arith, c.if-place-eq0.false))
