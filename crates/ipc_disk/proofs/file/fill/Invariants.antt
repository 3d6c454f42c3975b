-- Each write comes nearer to the end.
use Rattle.std.proofs.Common.{◌-◌}
use Rattle.ipc_disk.proofs.file.fill.Given as goal

abbrev pub decreases-loop-at : goal.decreases-loop-at
decreases-loop-at g l = l.end - l.at
