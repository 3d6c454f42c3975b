use Rattle.std.proofs.Common.{◌≡◌, map, take}
use Rattle.std.specs.FinMap as fin
use Rattle.ipc_base.specs.Table.{seen_as}
use Rattle.ipc_state.specs.Tables.{item_row, numbered_of}
use Rattle.ipc_state.proofs.adjustments.no_adjustments.Given as goal

-- those before this one have theirs
abbrev pub invariant-loop-process : goal.invariant-loop-process
invariant-loop-process l =
    (numbered_of l.undo).entries ≡ seen_as (λ p. fin.empty) (map item_row (take l.process-index l.processes))
