use Rattle.std.proofs.Common.{◌≡◌, ℕ, ◌<◌, get_or}
use Rattle.sem_undo.specs.declared.undo.UndoRow.{UndoRow}
use Rattle.ipc_image.specs.declared.adjustments.Adjustment.{Adjustment}
use Rattle.ipc_image.specs.Relations.Adjustments.{plain_of}
use Rattle.ipc_image.specs.SavedParts.{of_process}
use Rattle.ipc_image.proofs.adjustments.are_own.Given as goal

-- those before this place are the same
abbrev pub invariant-loop-place : goal.invariant-loop-place
invariant-loop-place l =
    (k : ℕ) (d : UndoRow) (e : Adjustment) → k < l.place → of_process l.pid (get_or l.own k d) ≡ plain_of (get_or l.rows k e)
