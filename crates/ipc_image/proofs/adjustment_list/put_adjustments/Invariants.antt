use Rattle.std.proofs.Common.{◌≡◌, map}
use Rattle.ipc_state.specs.Tables.{item_row}
use Rattle.ipc_image.specs.SavedParts.{first_bytes}
use Rattle.ipc_image.specs.Window.{passed}
use Rattle.ipc_image.proofs.AdjustmentLists.{own_bytes}
use Rattle.ipc_image.proofs.adjustment_list.put_adjustments.Given as goal

-- those of the processes before this one have passed
abbrev pub invariant-loop-item : goal.invariant-loop-item
invariant-loop-item l = l.window ≡ passed (first_bytes own_bytes l.item-index (map item_row l.items)) l.initial.window
