use Rattle.std.proofs.Common.{map, arith}
use Rattle.ipc_state.specs.Tables.{item_row}
use Rattle.ipc_image.proofs.SavedObjects.{adjustments-long}
use Rattle.ipc_image.proofs.adjustment_list.adjustments_len.Goals as goal

pub returns : goal.returns
returns c = omega (arith, adjustments-long (map item_row c.args.items.now), c.adjustment_count.ensures, c.from.ensures)
