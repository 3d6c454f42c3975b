-- Those so far are turned over.
use Rattle.std.proofs.Common.{◌≡◌, ◌++◌, map, take, drop}
use Rattle.ipc_heap.specs.View.{turned}
use Rattle.ipc_heap.proofs.uses.turn_first.Given as goal

abbrev pub invariant-loop-each : goal.invariant-loop-each
invariant-loop-each l = l.each-items ≡ map turned (take l.each-index l.initial.each-items) ++ drop l.each-index l.initial.each-items
