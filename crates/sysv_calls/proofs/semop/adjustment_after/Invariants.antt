use Rattle.std.proofs.Common.{◌≡◌}
use Rattle.ipc_wire.specs.SemBufs.{bytes_of}
use Rattle.sem_undo.specs.Undo.{adjustment}
use Rattle.sysv_calls.specs.Relations.{noted_by}
use Rattle.sysv_calls.specs.Semop.{operations_of}
use Rattle.sysv_calls.proofs.semop.adjustment_after.Given as goal

-- what those before this one leave there
abbrev pub invariant-loop-place : goal.invariant-loop-place
invariant-loop-place l =
    l.adjustment ≡ adjustment (noted_by l.list.state.now.state l.list.pid.0 l.list.id.0 (operations_of (bytes_of l.list.operations)) l.place)
    (l.list.id.0, l.num)
