use Rattle.ipc_script.proofs.DumpText.{right_signed}
use Rattle.ipc_script.proofs.listing.KeyDisplay.fmt.Goals as goal

pub returns-clause-writes : goal.returns-clause-writes
returns-clause-writes g c =
    rw (← right_signed 11 c.args.self.now.0) (rw c.laid_out.ensures at c.write.ensures.writes)
