-- Where a journal ends, and the length field of each batch, are told by the image.
use Rattle.ipc_journal.proofs.CallerLemmas.{Holds-one}
use Rattle.ipc_journal.proofs.laws.an_image_is_one_journal.Goals as goal

pub returns : goal.returns
returns c = Holds-one
