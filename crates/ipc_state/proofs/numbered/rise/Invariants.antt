use Rattle.std.proofs.Common.{map, take}
use Rattle.ipc_state.proofs.Numbering.{RiseTo}
use Rattle.ipc_state.proofs.numbered.rise.Given as goal

abbrev pub invariant-loop-item : goal.invariant-loop-item
invariant-loop-item g l = RiseTo l.fn.low (map g.T.HasNumber.number_of (take l.item-index l.items)) l.least
