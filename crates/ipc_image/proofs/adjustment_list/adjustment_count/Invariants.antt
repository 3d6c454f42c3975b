use Rattle.std.proofs.Common.{◌≡◌, length, map, take}
use Rattle.std.specs.List.{flat_map}
use Rattle.ipc_state.specs.Tables.{item_row}
use Rattle.ipc_image.specs.Saved.{adjustments_of}
use Rattle.ipc_image.proofs.adjustment_list.adjustment_count.Given as goal

-- those of the processes before this one
abbrev pub invariant-loop-item : goal.invariant-loop-item
invariant-loop-item l = l.count ≡ length (flat_map adjustments_of (take l.item-index (map item_row l.items)))
