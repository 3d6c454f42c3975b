-- One slot more is synced; at the end all are.
use Rattle.std.proofs.Common.{arith}
use Rattle.std.proofs.lemmas.List.{length-map}
use Rattle.premises.specs.Remembered.{slot_of, slots_of}
use Rattle.premises.proofs.Sectors.{flushed-more, flushed-all}
use Rattle.premises.proofs.remembering.flush.Goals as goal

pub loop-slot-preserved : goal.loop-slot-preserved
loop-slot-preserved c =
    flushed-more c.args.slots.now c.loop-slot.slots c.loop-slot.slot-index _ _ (omega arith) (omega arith) c.loop-slot.invariant c.flush_one.ensures

pub returns : goal.returns
returns c =
    flushed-all (slots_of c.args.slots.now) _ c.loop-slot.slot-index (omega (arith, length-map c.args.slots.now slot_of)) c.loop-slot.invariant
