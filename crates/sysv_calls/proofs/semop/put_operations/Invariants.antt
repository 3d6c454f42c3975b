use Rattle.std.proofs.Common.{◌≡◌, take}
use Rattle.ipc_wire.specs.SemBufs.{bytes_of}
use Rattle.sysv_calls.specs.Semop.{operations_of}
use Rattle.sysv_calls.proofs.semop.put_operations.Given as goal

-- those before this one are put
abbrev pub invariant-loop-place : goal.invariant-loop-place
invariant-loop-place l = take l.place l.all ≡ take l.place (operations_of (bytes_of l.operations))
