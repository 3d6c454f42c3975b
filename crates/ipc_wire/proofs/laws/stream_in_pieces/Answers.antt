use Rattle.ipc_wire.proofs.Streams.{pieces}
use Rattle.ipc_wire.proofs.laws.stream_in_pieces.Goals as goal

pub returns : goal.returns
returns c = pieces
