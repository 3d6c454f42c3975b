-- A sync leaves one image, that which is read.
use Rattle.std.proofs.Common.{◌<◌, ◌≤◌, ◌^◌, List, map, length, vec_capacity, arith, ◌∙◌, ap, sym, subst}
use Rattle.std.proofs.lemmas.List.{with_items_is}
use Rattle.ipc_disk.specs.declared.memory.Slot.{Slot}
use Rattle.ipc_disk.specs.Relations.Slots.{flushed}
use Rattle.ipc_disk.proofs.Listed.{ListsUnsynced-none}
use Rattle.ipc_disk.proofs.CallerLemmas.{whole-flushed, contents-flushed, durable-flushed}
use Rattle.ipc_disk.proofs.SlotsLemmas.{synced-flushed, images-flushed, Elapses-slots}
use Rattle.ipc_disk.proofs.memory.MemoryDiskSectorDisk.sync.Goals as goal

pub invariant_of-self : goal.invariant_of-self
invariant_of-self c =
    let slots = c.args.self.now.slots in
    let items = with_items_is slots c.flush.new.slots (omega arith) in
    let is = items ∙ c.flush.ensures ∙ ap (λ (l : List Slot). map flushed l) c.deref_mut.ensures.value in
    record {
      whole = whole-flushed slots.items _ is c.args.self.now.whole;
      few = subst (λ (l : List Slot). length l < 2 ^ 32) (sym items) (omega (arith, c.args.self.now.few));
      room = subst (λ (l : List Slot). length l ≤ vec_capacity c.clear.new.self) (sym items) (omega (arith, c.args.self.now.room, c.clear.ensures.capacity));
      places = λ k d lt. absurd (omega (arith, lt, ap length c.clear.ensures.items));
      listed = λ room. ListsUnsynced-none _ _ (synced-flushed slots.items _ is ∙ sym (contents-flushed slots.items _ is));
      writes_fit = c.args.self.now.writes_fit;
      syncs_fit = omega arith;
    }

pub returns-clause-durable : goal.returns-clause-durable
returns-clause-durable c =
    let items = with_items_is c.args.self.now.slots c.flush.new.slots (omega arith) in
    let is = items ∙ c.flush.ensures ∙ ap (λ (l : List Slot). map flushed l) c.deref_mut.ensures.value in
    durable-flushed c.args.self.now.slots.items _ is

pub returns-clause-medium : goal.returns-clause-medium
returns-clause-medium c =
    let items = with_items_is c.args.self.now.slots c.flush.new.slots (omega arith) in
    let is = items ∙ c.flush.ensures ∙ ap (λ (l : List Slot). map flushed l) c.deref_mut.ensures.value in
    record {
      contents = λ honest. contents-flushed c.args.self.now.slots.items _ is;
      images = images-flushed c.args.self.now.slots.items _ is;
      time = Elapses-slots _ _;
    }

pub returns-clause-synced : goal.returns-clause-synced
returns-clause-synced c =
    let items = with_items_is c.args.self.now.slots c.flush.new.slots (omega arith) in
    let is = items ∙ c.flush.ensures ∙ ap (λ (l : List Slot). map flushed l) c.deref_mut.ensures.value in
    synced-flushed c.args.self.now.slots.items _ is
