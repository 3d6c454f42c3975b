use Rattle.ipc_image.proofs.Reading.{written}
use Rattle.ipc_image.proofs.laws.superblock_is_read.Goals as goal

pub returns : goal.returns
returns c = written
