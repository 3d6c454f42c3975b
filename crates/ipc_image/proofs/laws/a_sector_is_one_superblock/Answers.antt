use Rattle.ipc_image.proofs.Reading.{one_superblock}
use Rattle.ipc_image.proofs.laws.a_sector_is_one_superblock.Goals as goal

pub returns : goal.returns
returns c = one_superblock
