use Rattle.std.proofs.Common.{◌≡◌, ◌≤◌, ◌+◌, ◌^◌}
use Rattle.std.specs.FinMap as fin
use Rattle.ipc_wire.specs.SemBufs.{bytes_of}
use Rattle.sysv_calls.specs.Relations.{noted_by}
use Rattle.sysv_calls.specs.Semop.{operations_of}
use Rattle.sysv_calls.proofs.semop.count_noted.Given as goal

-- how many there are after those before this one
abbrev pub invariant-loop-place : goal.invariant-loop-place
invariant-loop-place l = record {
  count : l.count ≡ fin.len (noted_by l.list.state.now.state l.list.pid.0 l.list.id.0 (operations_of (bytes_of l.list.operations)) l.place);
  few : l.count ≤ 2 ^ 64 + l.place;
}
