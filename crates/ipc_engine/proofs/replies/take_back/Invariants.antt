use Rattle.std.proofs.Common.{◌≤◌, max, vec_capacity}
use Rattle.ipc_engine.specs.Buffer.{room_in}
use Rattle.ipc_engine.proofs.replies.take_back.Given as goal

-- what the replies had that are gone is spare
abbrev pub invariant-loop-outcome : goal.invariant-loop-outcome
invariant-loop-outcome l =
    (vec_capacity l.fn.outcomes ≤ vec_capacity l.outcomes)
    × (max (vec_capacity l.fn.spare) (room_in l.fn.outcomes.items) ≤ max (vec_capacity l.spare) (room_in l.outcomes.items))

abbrev pub decreases-loop-outcome : goal.decreases-loop-outcome
decreases-loop-outcome l = goal.left-loop-outcome l
