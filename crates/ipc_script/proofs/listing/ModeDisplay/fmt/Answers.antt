use Rattle.ipc_script.proofs.DumpText.{zero_padded}
use Rattle.ipc_script.proofs.listing.ModeDisplay.fmt.Goals as goal

pub returns-clause-writes : goal.returns-clause-writes
returns-clause-writes g c =
    rw (← zero_padded 8 4 c.args.self.now.0) (rw (c.laid_out.ensures, c.in_radix.ensures) at c.write.ensures.writes)
