-- One slot more is synced.
use Rattle.std.proofs.Common.{arith, ap, ◌∙◌}
use Rattle.std.specs.Prelude.{slice_set}
use Rattle.ipc_disk.specs.declared.memory.Slot.{Slot}
use Rattle.ipc_disk.proofs.SlotsLemmas.{flushed_more}
use Rattle.ipc_disk.proofs.memory.flush_all.Goals as goal

pub loop-slot-preserved : goal.loop-slot-preserved
loop-slot-preserved c =
    ap (λ (s : Slot). slice_set c.loop-slot.slots c.loop-slot.slot-index s) c.flush_one.ensures
    ∙ flushed_more c.args.slots.now c.loop-slot.slots c.loop-slot.slot-index _ (omega arith) (omega arith) c.loop-slot.invariant
