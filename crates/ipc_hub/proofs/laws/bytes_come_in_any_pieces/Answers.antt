use Rattle.ipc_hub.proofs.Pieces.{take_in-pieces}
use Rattle.ipc_hub.proofs.laws.bytes_come_in_any_pieces.Goals as goal

pub returns : goal.returns
returns c limits h conn moment bytes more refused later = take_in-pieces limits h conn moment bytes more refused later
