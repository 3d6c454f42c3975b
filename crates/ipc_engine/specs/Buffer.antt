-- The buffer in which a call makes the body of its reply: it is spare, or stands in a reply.
use Rattle.std.specs.Prelude.{ℕ, ◌≤◌, max, List, [], ◌∷◌, vec_capacity}
use Rattle.std.specs.Global.{Vec}
use Rattle.ipc_limits.specs.declared.limits.Limits.{Limits}
use Rattle.ipc_limits.specs.Limits.{longest_body}
use Rattle.ipc_state.specs.Spare.{room_of}
use Rattle.ipc_engine.specs.declared.event.Outcome.{Outcome}

-- the most room that one of the replies brings
abbrev pub room_in : List Outcome → ℕ
room_in [] = 0
room_in (o ∷ os) = max (room_of o.body) (room_in os)

-- the longest body has room in it
abbrev pub HasBuffer : Limits → Vec ℕ → List Outcome → Type 0
HasBuffer limits spare outcomes = longest_body limits ≤ max (vec_capacity spare) (room_in outcomes)
