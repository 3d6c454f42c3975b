use Rattle.std.proofs.Common.{◌≡◌, map, take}
use Rattle.ipc_state.specs.Attached.{detached_all}
use Rattle.ipc_state.specs.Descriptors.{descriptor_row}
use Rattle.ipc_state.proofs.attached.detach_rows.Given as goal

-- those before this one are detached
abbrev pub invariant-loop-row : goal.invariant-loop-row
invariant-loop-row l =
    l.segments ≡ record l.initial.segments {
      objects = detached_all l.now.0 l.pid.0 l.initial.segments.objects (map descriptor_row (take l.row-index l.rows));
    }
