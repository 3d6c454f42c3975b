use Rattle.ipc_wire.proofs.Read.{bytes_back, has_back}
use Rattle.ipc_wire.proofs.laws.read_request_is_spelled.Goals as goal

pub returns-clause-bytes : goal.returns-clause-bytes
returns-clause-bytes c = bytes_back

pub returns-clause-has_frame : goal.returns-clause-has_frame
returns-clause-has_frame c = has_back
