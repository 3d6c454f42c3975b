use Rattle.std.proofs.Common.{◌≡◌, map, drop}
use Rattle.ipc_state.specs.Descriptors.{unused_from, lowest_unused, descriptor_row}
use Rattle.ipc_state.proofs.descriptors.lowest_unused_place.Given as goal

-- the numbers before this place are in use, each at its own place
abbrev pub invariant-loop-row : goal.invariant-loop-row
invariant-loop-row l =
    (l.lowest ≡ l.row-index) × (unused_from l.lowest (map descriptor_row (drop l.row-index l.rows)) ≡ lowest_unused (map descriptor_row l.rows))
