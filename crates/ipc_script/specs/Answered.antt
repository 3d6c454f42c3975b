-- What the text of lines says: a line of each frame, and one of each connection that the server has ended.
use Rattle.std.specs.Prelude.{◌≡◌, ◌+◌, ℕ, List, [], ◌∷◌, ◌++◌, Option, option_and_then, Ok}
use Rattle.ipc_limits.specs.declared.limits.Limits.{Limits}
use Rattle.ipc_state.specs.State.{State}
use Rattle.ipc_engine.specs.Event.{PlainEvent}
use Rattle.ipc_hub.specs.Clients.{Clients, Frame, client_at}
use Rattle.ipc_hub.specs.Replies.{IsAnswer}
use Rattle.ipc_script.specs.Line.{line_of}
use Rattle.ipc_script.specs.Script.{Cut, Progress, Run, end_line, frame_line, start_run, text_done}

-- A text of lines, of each frame in which this holds, and of its connection.
pub data TellsOf (Says : ℕ → Frame → Type 0) : List ℕ → Type 0 where
  Nothing : TellsOf Says []
  OfFrame : (conn : ℕ) (f : Frame) (rest : List ℕ) → Says conn f → TellsOf Says rest
      → TellsOf Says (frame_line conn f.bytes ++ rest)
  OfEnd : (conn : ℕ) (rest : List ℕ) → TellsOf Says rest → TellsOf Says (end_line conn ++ rest)

-- the process that the connection with the number has joined as, if there is one and it has
abbrev pub joined_at : Clients → ℕ → Option ℕ
joined_at h conn = option_and_then (λ c. c.joined_as) (client_at h conn)

-- a frame of a connection of this hub is an answer to it
abbrev pub Answers : Limits → State → List PlainEvent → Clients → ℕ → Frame → Type 0
Answers limits base events h conn f = IsAnswer limits base events (joined_at h conn) f

-- These lines were run, one after another, from this hub to this run; what comes next has this number. They have
-- written this text. Each frame in the text of a line is an answer to its connection, as the line has left that.
pub data TellsLines (limits : Limits) (base : State) (events : List PlainEvent) (h : Clients)
    : ℕ → List (List ℕ) → Run → List ℕ → Type 0 where
  None : TellsLines limits base events h 1 [] (start_run h) []
  Line : (number : ℕ) (lines : List (List ℕ)) (line : List ℕ) (r : Run) (text : List ℕ) (cut : Cut) (p : Progress)
      → TellsLines limits base events h number lines r text → text_done limits number r (line_of line) cut ≡ Ok p
      → TellsOf (Answers limits base events p.run.hub) p.text
      → TellsLines limits base events h (number + 1) (lines ++ line ∷ []) p.run (text ++ p.text)
