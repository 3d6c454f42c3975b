-- A new disk reads as zeros, and a crash leaves them.
use Rattle.std.proofs.Common.{arith}
use Rattle.ipc_disk.specs.Relations.Slots.{IsHonest-slots}
use Rattle.ipc_disk.proofs.SlotsLemmas.{whole-zeros, length-zeros, contents-zeros, synced-zeros, durable-zeros}
use Rattle.ipc_disk.proofs.Listed.{ListsUnsynced-none}
use Rattle.ipc_disk.proofs.memory.MemoryDisk.new.Goals as goal

pub invariant_of-result-clause-whole : goal.invariant_of-result-clause-whole
invariant_of-result-clause-whole c = whole-zeros c.args.sectors _ c.in_ok-slots.ensures

pub invariant_of-result-clause-few : goal.invariant_of-result-clause-few
invariant_of-result-clause-few c = omega (arith, length-zeros c.args.sectors _ c.in_ok-slots.ensures)

pub returns-clause-zeros : goal.returns-clause-zeros
returns-clause-zeros c = contents-zeros c.args.sectors _ c.in_ok-slots.ensures

pub returns-clause-durable : goal.returns-clause-durable
returns-clause-durable c = durable-zeros c.args.sectors _ c.in_ok-slots.ensures

pub returns-clause-honest : goal.returns-clause-honest
returns-clause-honest c = IsHonest-slots c.in_ok-slots.slots.items

pub returns-clause-synced : goal.returns-clause-synced
returns-clause-synced c = synced-zeros c.args.sectors _ c.in_ok-slots.ensures

pub invariant_of-result-clause-listed : goal.invariant_of-result-clause-listed
invariant_of-result-clause-listed c = λ room. ListsUnsynced-none _ _ (synced-zeros c.args.sectors _ c.in_ok-slots.ensures)
