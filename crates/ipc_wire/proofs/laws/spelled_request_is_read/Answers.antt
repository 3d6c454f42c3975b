use Rattle.ipc_wire.proofs.Spellings.{request_again}
use Rattle.ipc_wire.proofs.laws.spelled_request_is_read.Goals as goal

pub returns : goal.returns
returns c = request_again
