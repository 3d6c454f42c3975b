-- One listed sector more is flushed.
use Rattle.std.proofs.Common.{arith, ap, sym, ◌∙◌}
use Rattle.std.proofs.lemmas.List.{drop_all}
use Rattle.ipc_disk.specs.declared.memory.Slot.{Slot}
use Rattle.ipc_disk.proofs.Listed.{ListsUnsynced-flushed, flushed-listed, flushed-one}
use Rattle.ipc_disk.proofs.memory.flush_listed.Goals as goal

pub loop-at-preserved : goal.loop-at-preserved
loop-at-preserved c =
    let last = ap (λ (s : Slot). s.synced) c.flush_one.ensures ∙ sym (ap (λ (s : Slot). s.last) c.flush_one.ensures) in
    record {
      same = flushed-one c.loop-at.slots _ _ _ c.flush_one.ensures ∙ c.loop-at.invariant.same;
      rest = ListsUnsynced-flushed c.args.listed.now c.loop-at.at-index _ c.loop-at.slots _ (omega arith) last c.loop-at.invariant.rest;
    }

pub returns : goal.returns
returns c = flushed-listed c.args.slots.now c.loop-at.slots _ (drop_all c.loop-at.at-index c.args.listed.now (omega arith)) c.loop-at.invariant.same
    c.loop-at.invariant.rest
