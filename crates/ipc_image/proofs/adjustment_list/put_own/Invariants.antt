use Rattle.std.proofs.Common.{◌≡◌}
use Rattle.ipc_image.specs.SavedParts.{first_bytes}
use Rattle.ipc_image.specs.Window.{passed}
use Rattle.ipc_image.proofs.AdjustmentLists.{row_bytes}
use Rattle.ipc_image.proofs.adjustment_list.put_own.Given as goal

-- those before this one have passed
abbrev pub invariant-loop-at : goal.invariant-loop-at
invariant-loop-at l = l.window ≡ passed (first_bytes (row_bytes l.item.number) l.at l.rows) l.fn.window
