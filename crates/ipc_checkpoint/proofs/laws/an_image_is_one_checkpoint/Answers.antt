-- A checkpoint is a heap, and an image is one heap.
use Rattle.ipc_checkpoint.proofs.CallerLemmas.{Holds-one}
use Rattle.ipc_checkpoint.proofs.laws.an_image_is_one_checkpoint.Goals as goal

pub returns : goal.returns
returns c = Holds-one
