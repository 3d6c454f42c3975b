use Rattle.std.proofs.Common.{◌≡◌, map, take}
use Rattle.ipc_state.specs.Attached.{detached_each}
use Rattle.ipc_state.specs.Tables.{item_row}
use Rattle.ipc_state.proofs.attached.detach_processes.Given as goal

-- those of the processes before this one are detached
abbrev pub invariant-loop-item : goal.invariant-loop-item
invariant-loop-item l =
    l.segments ≡ record l.initial.segments {
      objects = detached_each l.now.0 l.initial.segments.objects (map item_row (take l.item-index l.processes));
    }
