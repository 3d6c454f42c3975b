use Rattle.std.proofs.Common.{sym, ◌∙◌}
use Rattle.ipc_script.proofs.DumpText.{zero_padded}
use Rattle.ipc_script.proofs.listing.ByteDisplay.fmt.Goals as goal

pub returns-else-is_plain-clause-writes : goal.returns-else-is_plain-clause-writes
returns-else-is_plain-clause-writes g c =
    rw (sym c.is_plain.ensures ∙ c.if-is_plain.false, ← zero_padded 16 2 c.args.self.now.0)
    (rw (c.laid_out.ensures, c.in_radix.ensures) at c.write-else-is_plain.ensures.writes)
