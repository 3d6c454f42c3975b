use Rattle.std.proofs.Common.{◌≡◌, map, take}
use Rattle.std.specs.List.{fold}
use Rattle.sem_undo.specs.Undo.{entry_of}
use Rattle.ipc_state.specs.State.{adjusted}
use Rattle.ipc_state.proofs.adjustments.add_adjustments.Given as goal

-- those before this one are added
abbrev pub invariant-loop-row : goal.invariant-loop-row
invariant-loop-row l =
    l.sets ≡ record l.initial.sets { objects = fold (adjusted l.pid.0) l.initial.sets.objects (map entry_of (take l.row-index l.rows)) }
