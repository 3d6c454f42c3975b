use Rattle.std.proofs.Common.{append_assoc}
use Rattle.ipc_script.proofs.listing.SegLineDisplay.fmt.Goals as goal

pub returns-clause-writes : goal.returns-clause-writes
returns-clause-writes g c = simp append_assoc (simp append_assoc at c.write.ensures.writes)
