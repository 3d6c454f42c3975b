-- So many slots of zeros.
use Rattle.std.proofs.Common.{◌≡◌, replicate}
use Rattle.ipc_disk.specs.declared.memory.TheConstants.{ZEROS}
use Rattle.ipc_disk.proofs.memory.zeros.Given as goal

abbrev pub invariant-loop : goal.invariant-loop
invariant-loop l = l.slots.items ≡ replicate l.counter ZEROS
