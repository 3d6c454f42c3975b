use Rattle.std.proofs.Common.{◌≡◌, ◌++◌, length}
use Rattle.ipc_arrivals.proofs.arrivals.Arrivals.take_over.Given as goal

abbrev pub decreases-loop-self : goal.decreases-loop-self
decreases-loop-self g l = length l.other.items

-- those moved and those left are all that there were
abbrev pub invariant-loop-self : goal.invariant-loop-self
invariant-loop-self g l =
    (l.self.items ++ l.other.items ≡ l.fn.self.items ++ l.fn.other.items) × (l.self.places ≡ l.fn.self.places)
