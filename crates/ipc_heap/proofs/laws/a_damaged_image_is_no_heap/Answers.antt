-- What stands there is not damaged in any of the ways.
use Rattle.ipc_heap.proofs.Damages.{no-damage}
use Rattle.ipc_heap.proofs.laws.a_damaged_image_is_no_heap.Goals as goal

pub returns : goal.returns
returns c = no-damage
