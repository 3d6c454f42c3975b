use Rattle.ipc_image.proofs.CallerLemmas.{one-record}
use Rattle.ipc_image.proofs.laws.a_record_is_of_one_event.Goals as goal

pub returns : goal.returns
returns c bytes e f is also = one-record bytes e f is also
