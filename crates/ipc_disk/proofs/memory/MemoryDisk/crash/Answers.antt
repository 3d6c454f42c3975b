-- What a crash leaves is whole, synced, and as the number chooses.
use Rattle.std.proofs.Common.{◌<◌, ◌≤◌, ◌^◌, List, map, length, vec_capacity, arith, ◌∙◌, ap, sym, subst}
use Rattle.std.proofs.lemmas.List.{with_items_is}
use Rattle.ipc_disk.specs.declared.memory.Slot.{Slot}
use Rattle.ipc_disk.specs.Crash.{survivors}
use Rattle.ipc_disk.specs.Relations.Slots.{synced_slot}
use Rattle.ipc_disk.proofs.Choices.{whole-chosen, contents-chosen, synced-chosen, durable-chosen}
use Rattle.ipc_disk.proofs.Listed.{ListsUnsynced-none}
use Rattle.ipc_disk.proofs.memory.MemoryDisk.crash.Goals as goal

pub invariant_of-disk : goal.invariant_of-disk
invariant_of-disk c =
    let slots = c.args.self.slots in
    let items = with_items_is slots c.choose.new.slots (omega arith) in
    let is = items ∙ c.choose.ensures ∙ ap (λ (l : List Slot). map synced_slot (survivors c.args.keep 0 l)) c.deref_mut.ensures.value in
    record {
      whole = whole-chosen c.args.keep slots.items _ is c.args.self.whole;
      few = subst (λ (l : List Slot). length l < 2 ^ 32) (sym items) (omega (arith, c.args.self.few));
      room = subst (λ (l : List Slot). length l ≤ vec_capacity c.clear.new.self) (sym items) (omega (arith, c.args.self.room, c.clear.ensures.capacity));
      places = λ k d lt. absurd (omega (arith, lt, ap length c.clear.ensures.items));
      listed = λ room. ListsUnsynced-none _ _ (synced-chosen c.args.keep slots.items _ is);
      writes_fit = c.args.self.writes_fit;
      syncs_fit = c.args.self.syncs_fit;
    }

pub returns-clause-contents : goal.returns-clause-contents
returns-clause-contents c =
    let items = with_items_is c.args.self.slots c.choose.new.slots (omega arith) in
    let is = items ∙ c.choose.ensures ∙ ap (λ (l : List Slot). map synced_slot (survivors c.args.keep 0 l)) c.deref_mut.ensures.value in
    contents-chosen c.args.keep c.args.self.slots.items _ is

pub returns-clause-durable : goal.returns-clause-durable
returns-clause-durable c =
    let items = with_items_is c.args.self.slots c.choose.new.slots (omega arith) in
    let is = items ∙ c.choose.ensures ∙ ap (λ (l : List Slot). map synced_slot (survivors c.args.keep 0 l)) c.deref_mut.ensures.value in
    durable-chosen c.args.keep c.args.self.slots.items _ is

pub returns-clause-synced : goal.returns-clause-synced
returns-clause-synced c =
    let items = with_items_is c.args.self.slots c.choose.new.slots (omega arith) in
    let is = items ∙ c.choose.ensures ∙ ap (λ (l : List Slot). map synced_slot (survivors c.args.keep 0 l)) c.deref_mut.ensures.value in
    synced-chosen c.args.keep c.args.self.slots.items _ is
