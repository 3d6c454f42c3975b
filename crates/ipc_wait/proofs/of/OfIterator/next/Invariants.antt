use Rattle.std.proofs.Common.{◌≡◌, length}
use Rattle.ipc_wait.specs.Waits.{calls_on}
use Rattle.ipc_wait.proofs.of.OfIterator.next.Given as goal

abbrev pub invariant-loop-first : goal.invariant-loop-first
invariant-loop-first g l = calls_on g.O.PartialEq.eq l.self-inside.on l.self-inside.rest.now ≡ l.fn.self

abbrev pub decreases-loop-first : goal.decreases-loop-first
decreases-loop-first g l = length l.self-inside.rest.now
