-- What is left is one of the images.
use Rattle.std.proofs.Common.{sym, subst}
use Rattle.ipc_disk.specs.Slots.{MayLeave}
use Rattle.ipc_disk.specs.Relations.Slots.{IsHonest-slots}
use Rattle.ipc_disk.proofs.Choices.{MayLeave-survivors}
use Rattle.ipc_disk.proofs.fuse.FuseDisk.crash.Goals as goal

pub returns-clause-image : goal.returns-clause-image
returns-clause-image c =
    let slots = c.args.self.disk.slots.items in
    subst (MayLeave slots) (sym c.crash.ensures.contents) (MayLeave-survivors c.args.self.keep 0 slots)

pub returns-clause-honest : goal.returns-clause-honest
returns-clause-honest c = IsHonest-slots c.crash.result.slots.items
