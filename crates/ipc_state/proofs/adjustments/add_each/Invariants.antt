use Rattle.std.proofs.Common.{◌≡◌, map, take}
use Rattle.std.specs.List.{fold}
use Rattle.ipc_state.specs.State.{undone}
use Rattle.ipc_state.specs.Tables.{item_row}
use Rattle.ipc_state.proofs.adjustments.add_each.Given as goal

-- those before this one are added
abbrev pub invariant-loop-item : goal.invariant-loop-item
invariant-loop-item l =
    l.sets ≡ record l.initial.sets { objects = fold undone l.initial.sets.objects (map item_row (take l.item-index l.items)) }
