-- A write changes one last value, and in each image at most that sector; it is listed.
use Rattle.std.proofs.Common.{◌<◌, ◌≤◌, ◌^◌, ℕ, vec_capacity, inr, sym, subst, arith}
use Rattle.std.specs.Prelude.{All}
use Rattle.std.proofs.Math.ListN.{length-set}
use Rattle.std.proofs.lemmas.List.{map-set}
use Rattle.ipc_disk.proofs.Listed.{listed-write, places-write}
use Rattle.ipc_disk.proofs.CallerLemmas.{MayLeave-written}
use Rattle.ipc_disk.proofs.SlotsLemmas.{synced_values-written, Elapses-slots}
use Rattle.ipc_disk.proofs.memory.MemoryDiskSectorDisk.write.Goals as goal

pub invariant_of-self-clause-few : goal.invariant_of-self-clause-few
invariant_of-self-clause-few c =
    subst (λ (n : ℕ). n < 2 ^ 32) (sym (length-set c.args.self.now.slots.items c.args.at _)) c.args.self.now.few

pub invariant_of-self-clause-room : goal.invariant_of-self-clause-room
invariant_of-self-clause-room c =
    subst (λ (n : ℕ). n ≤ vec_capacity c.list.new.unsynced) (sym (length-set c.args.self.now.slots.items c.args.at _))
    (omega (arith, c.list.ensures.room, c.len.ensures, c.args.self.now.slots.ok.0))

pub invariant_of-self-clause-places : goal.invariant_of-self-clause-places
invariant_of-self-clause-places c =
    let count = c.args.self.now.slots.ok.0 in
    subst (λ (n : ℕ). All (λ i. i < n) c.list.new.unsynced.items) (sym (length-set c.args.self.now.slots.items c.args.at _))
    (places-write c.args.self.now.unsynced.items _ c.args.at c.args.self.now.slots.items
    (λ lt. c.list.ensures.listed (omega (arith, lt, count, c.len.ensures)))
    (λ le. c.list.ensures.full (omega (arith, le, count, c.len.ensures))) _ c.requires c.args.self.now.places)

pub invariant_of-self-clause-listed : goal.invariant_of-self-clause-listed
invariant_of-self-clause-listed c = λ room.
    let count = c.args.self.now.slots.ok.0 in
    listed-write c.args.self.now.unsynced.items _ c.args.at c.args.self.now.slots.items
    (λ lt. c.list.ensures.listed (omega (arith, lt, count, c.len.ensures)))
    (λ le. c.list.ensures.full (omega (arith, le, count, c.len.ensures))) _ room c.args.self.now.listed

pub returns-clause-written : goal.returns-clause-written
returns-clause-written c = λ honest. map-set _ _ _ _

pub returns-clause-medium : goal.returns-clause-medium
returns-clause-medium c = record {
  contents = λ honest. inr (map-set _ _ _ _);
  images = λ image left.
      MayLeave-written c.args.self.now.slots.items c.args.at c.index_mut.result.now c.args.from.now image c.requires c.index_mut.ensures.value left;
  time = Elapses-slots _ _;
}

pub returns-clause-synced : goal.returns-clause-synced
returns-clause-synced c =
    synced_values-written c.args.self.now.slots.items c.args.at c.index_mut.result.now c.args.from.now c.index_mut.ensures.value
