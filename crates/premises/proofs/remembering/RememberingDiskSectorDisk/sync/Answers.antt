-- A sync leaves one image, that which is read; what was there is kept.
use Rattle.std.proofs.Common.{List, map, sym, ◌∙◌, ap, arith}
use Rattle.std.proofs.lemmas.List.{length-map, with_items_is}
use Rattle.ipc_disk.specs.Relations.Slots.{flushed}
use Rattle.premises.specs.declared.remembering.Slot.{Slot}
use Rattle.premises.specs.Remembered.{slot_of, slots_of}
use Rattle.ipc_disk.proofs.CallerLemmas.{durable-flushed, whole-flushed}
use Rattle.premises.proofs.Sectors.{length-flushed, past_of-kept, were-kept, Stays-flushed}
use Rattle.premises.proofs.remembering.RememberingDiskSectorDisk.sync.Goals as goal

pub invariant_of-self-2 : goal.invariant_of-self-2
invariant_of-self-2 c =
    let slots = c.args.self.now.slots in
    let items = with_items_is slots c.flush.new.slots (omega arith) in
    let is = ap slots_of items ∙ c.flush.ensures ∙ ap (λ (l : List Slot). map flushed (slots_of l)) c.deref_mut.ensures.value in
    let count = sym (length-map _ slot_of) ∙ length-flushed (slots_of slots.items) _ is ∙ length-map slots.items slot_of in
    record {
      whole = whole-flushed (slots_of slots.items) _ is c.args.self.now.whole;
      few = omega (arith, count, c.args.self.now.few);
      were = were-kept _ _ _ slots.items c.in-Ok.ensures.ok c.deref.ensures.value _ count c.args.self.now.were c.args.self.now.whole;
      failures_fit = c.args.self.now.failures_fit;
      writes_fit = c.args.self.now.writes_fit;
      syncs_fit = omega arith;
    }

pub returns-clause-durable : goal.returns-clause-durable
returns-clause-durable c =
    let slots = c.args.self.now.slots in
    let items = with_items_is slots c.flush.new.slots (omega arith) in
    let is = ap slots_of items ∙ c.flush.ensures ∙ ap (λ (l : List Slot). map flushed (slots_of l)) c.deref_mut.ensures.value in
    durable-flushed (slots_of slots.items) _ is

pub returns-clause-medium : goal.returns-clause-medium
returns-clause-medium c =
    let slots = c.args.self.now.slots in
    let items = with_items_is slots c.flush.new.slots (omega arith) in
    let is = ap slots_of items ∙ c.flush.ensures ∙ ap (λ (l : List Slot). map flushed (slots_of l)) c.deref_mut.ensures.value in
    Stays-flushed (slots_of slots.items) _ is _ _ (past_of-kept _ _ _ slots.items c.in-Ok.ensures.ok c.deref.ensures.value)
