-- The disk below is honest.
use Rattle.ipc_disk.specs.Relations.Slots.{IsHonest-slots}
use Rattle.ipc_disk.proofs.once.OnceDisk.new.Goals as goal

pub returns-clause-honest : goal.returns-clause-honest
returns-clause-honest c = IsHonest-slots c.args.disk.slots.items
