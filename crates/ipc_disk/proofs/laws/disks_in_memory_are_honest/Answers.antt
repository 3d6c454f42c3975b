-- The last values are one of the images, and no other moment is spoken of.
use Rattle.ipc_disk.specs.Relations.Slots.{IsHonest-slots}
use Rattle.ipc_disk.proofs.laws.disks_in_memory_are_honest.Goals as goal

pub returns-clause-memory : goal.returns-clause-memory
returns-clause-memory c = λ disk. IsHonest-slots disk.slots.items

pub returns-clause-fuse : goal.returns-clause-fuse
returns-clause-fuse c = λ fuse. IsHonest-slots fuse.disk.slots.items
