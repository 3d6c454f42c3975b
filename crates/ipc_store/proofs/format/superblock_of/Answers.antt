-- What was written is read back.
use Rattle.ipc_image.specs.Format.{device_form}
use Rattle.ipc_image.proofs.CallerLemmas.{form-known}
use Rattle.ipc_store.proofs.format.superblock_of.Goals as goal

pub returns : goal.returns
returns c =
    let limits = c.args.limits.now in
    rw (c.write_superblock.ensures, c.of.ensures.is)
    (c.superblock_is_read.ensures (device_form limits) (form-known limits) c.args.sectors limits c.requires.of c.requires.room)
