use Rattle.std.proofs.Common.{◌≡◌, ◌++◌, map, take}
use Rattle.ipc_state.specs.Tables.{item_row}
use Rattle.ipc_image.specs.Relations.Adjustments.{plain_of}
use Rattle.ipc_image.specs.Saved.{adjustments_in}
use Rattle.ipc_image.proofs.adjustments.are_adjustments.Given as goal

-- the first of all are those of the processes before this one
abbrev pub invariant-loop-item : goal.invariant-loop-item
invariant-loop-item l =
    map plain_of l.rows ≡ adjustments_in (map item_row (take l.item-index l.items)) ++ map plain_of l.left
