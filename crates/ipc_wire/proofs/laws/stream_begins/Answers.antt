use Rattle.ipc_wire.proofs.Streams.{stream_step}
use Rattle.ipc_wire.proofs.laws.stream_begins.Goals as goal

pub returns : goal.returns
returns c = stream_step
