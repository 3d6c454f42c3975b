use Rattle.std.proofs.Common.{◌≡◌, take}
use Rattle.std.specs.List.{fold}
use Rattle.ipc_state.specs.State.{undo_of, with_undo}
use Rattle.sysv_calls.specs.Semop.{noted}
use Rattle.sysv_calls.proofs.semop.note_undo.Given as goal

-- those before this one are noted
abbrev pub invariant-loop-operation : goal.invariant-loop-operation
invariant-loop-operation l =
    l.state ≡ record l.initial.state {
      state = with_undo l.initial.state.state l.pid.0 (fold (noted l.id.0) (undo_of l.initial.state.state l.pid.0) (take l.operation-index l.operations));
    }
