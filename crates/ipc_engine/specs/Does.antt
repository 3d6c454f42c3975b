-- What a function of the machine has done: a step of the definitions, told by what is held and by the replies.
use Rattle.std.specs.Prelude.{◌≡◌, ◌≤◌, ◌++◌, map, vec_capacity}
use Rattle.std.specs.Global.{Vec}
use Rattle.ipc_state.specs.Held.{Held}
use Rattle.ipc_state.specs.Held.Ready.{Nothing}
use Rattle.ipc_engine.specs.View.{plain_outcome}
use Rattle.ipc_engine.specs.Step.{Step}
use Rattle.ipc_engine.specs.declared.event.Outcome.{Outcome}

-- what is held when nothing is ready any more
abbrev pub emptied : Held → Held
emptied held = record held { ready = Nothing }

-- the state is the step's, and its replies follow those that stood there, whose places stay
pub record Does (step : Step) (old new : Held) (before after : Vec Outcome) : Type 0 where
  pub state : new ≡ record old { state = step.state }
  pub outcomes : map plain_outcome after.items ≡ map plain_outcome before.items ++ step.outcomes
  pub capacity : vec_capacity before ≤ vec_capacity after
