use Rattle.ipc_image.proofs.CallerLemmas.{record-read}
use Rattle.ipc_image.proofs.laws.record_is_read.Goals as goal

pub returns : goal.returns
returns c e rest has = record-read e rest has
