-- Calls that wait, on whatever object makes a call wait (msgop(2), semop(2), mq_receive(3), sem_wait(3)).
-- They stand in one list, in the order in which they came. A process has one call at a time, so no two are
-- of one process. A call with a deadline is due from that moment on.
use Rattle.std.specs.Prelude.{◌≡◌, ℕ, ◌==◌, nat_le, Bool, false, not, if◌then◌else◌, List, [], ◌∷◌}
use Rattle.std.specs.Prelude.{Option, Some, None, find, filter, fold}
use Rattle.ipc_base.specs.declared.identity.Pid.{Pid}
use Rattle.ipc_base.specs.declared.identity.Moment.{Moment}
use Rattle.ipc_wait.specs.declared.list.Waiting.{Waiting}

-- the earlier of two deadlines, of which each may be none
abbrev pub earlier : Option Moment → Option Moment → Option Moment
earlier None b = b
earlier (Some a) None = Some a
earlier (Some a) (Some b) = if nat_le a.0 b.0 then Some a else Some b

-- whether a deadline is at or before the moment
abbrev pub has_come : Moment → Option Moment → Bool
has_come now None = false
has_come now (Some deadline) = nat_le deadline.0 now.0

module _ {O C : Type 0} where
  -- whether it is the call of the process
  abbrev pub is_of : Pid → Waiting O C → Bool
  is_of pid w = w.pid.0 == pid.0

  -- the call of the process
  abbrev pub waiting_call_of : Pid → List (Waiting O C) → Option (Waiting O C)
  waiting_call_of pid calls = find (is_of pid) calls

  -- the calls of the other processes, in order
  abbrev pub without : Pid → List (Waiting O C) → List (Waiting O C)
  without pid calls = filter (λ w. not (is_of pid w)) calls

  -- no process has two
  abbrev pub HaveDistinctPids : List (Waiting O C) → Type 0
  HaveDistinctPids [] = Unit {0}
  HaveDistinctPids (w ∷ calls) = (waiting_call_of w.pid calls ≡ None) × HaveDistinctPids calls

  -- the calls on an object, in order
  abbrev pub calls_on : (O → O → Bool) → O → List (Waiting O C) → List (Waiting O C)
  calls_on eq on calls = filter (λ w. eq w.on on) calls

  -- whether its deadline is at or before the moment
  abbrev pub is_due : Moment → Waiting O C → Bool
  is_due now w = has_come now w.deadline

  -- the calls that are due, in order
  abbrev pub calls_due : Moment → List (Waiting O C) → List (Waiting O C)
  calls_due now calls = filter (is_due now) calls

  -- the others, in order
  abbrev pub calls_left : Moment → List (Waiting O C) → List (Waiting O C)
  calls_left now calls = filter (λ w. not (is_due now w)) calls

  -- the earliest deadline
  abbrev pub next_deadline : List (Waiting O C) → Option Moment
  next_deadline calls = fold (λ soonest w. earlier soonest w.deadline) None calls

-- the calls, and for how many there is room
pub record Waits (O C : Type 0) : Type 0 where
  pub calls : List (Waiting O C)
  pub room : ℕ
