-- So many slots of zeros.
use Rattle.std.proofs.Common.{◌≡◌, replicate}
use Rattle.premises.specs.declared.remembering.TheConstants.{ZEROS}
use Rattle.premises.proofs.remembering.RememberingDisk.new.Given as goal

abbrev pub invariant-loop : goal.invariant-loop
invariant-loop l = l.slots.items ≡ replicate l.counter ZEROS
