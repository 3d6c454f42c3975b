-- The root names the table, and the table names the objects.
use Rattle.ipc_heap.proofs.Damages.{Holds-one}
use Rattle.ipc_heap.proofs.laws.an_image_is_one_heap.Goals as goal

pub returns : goal.returns
returns c = Holds-one
