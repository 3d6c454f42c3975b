use Rattle.std.proofs.Common.{false}
use Rattle.std.specs.Fmt.{decimal}
use Rattle.ipc_script.proofs.DumpText.{right_padded}
use Rattle.ipc_script.proofs.listing.NumberDisplay.fmt.Goals as goal

pub returns-clause-writes : goal.returns-clause-writes
returns-clause-writes g c =
    rw (← right_padded 10 false (decimal c.args.self.now.0)) (rw c.laid_out.ensures at c.write.ensures.writes)
