-- What an adjustment that was read is for the definitions.
use Rattle.sem_undo.specs.Undo.{entry_of}
use Rattle.ipc_image.specs.declared.adjustments.Adjustment.{Adjustment as Read}
use Rattle.ipc_image.specs.Saved.{Adjustment}

abbrev pub plain_of : Read → Adjustment
plain_of x = (x.pid.0, entry_of x.row)
