use Rattle.std.proofs.Common.{drop, ap}
use Rattle.ipc_hub.proofs.Deliveries.{all-confirmed}
use Rattle.ipc_hub.proofs.laws.released_frames_are_all_shown.Goals as goal

pub returns : goal.returns
returns c accepted client frames = ap (drop client.consumed) (all-confirmed accepted client.frames frames)
