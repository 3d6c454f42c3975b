-- What a run has written when the disk has failed within a line.
use Rattle.std.specs.Prelude.{◌≡◌, ℕ, Bool, List, [], ◌∷◌, ◌++◌, take, drop, Option, Some}
use Rattle.std.specs.Io.KnownBytes.{Appends}
use Rattle.ipc_limits.specs.declared.limits.Limits.{Limits}
use Rattle.ipc_hub.specs.Clients.{fail, feed, hangup, tick}
use Rattle.ipc_script.specs.Line.{PlainLine, Open, Data, End, Tick, line_of}
use Rattle.ipc_script.specs.Script.{Cut, Progress, Run, fed_in_pieces, opened, report}

-- What was done of a line, and what that let out was written: nothing, or of `data` so many of its bytes were fed.
pub data IsDone (limits : Limits) (r : Run) : PlainLine → ℕ → Progress → Type 0 where
  None : (line : PlainLine) → IsDone limits r line 0 (record { text = []; run = r })
  Fed : (moment conn count : ℕ) (bytes : List ℕ) (cut : Cut) → IsDone limits r (Data moment conn bytes) count
      (fed_in_pieces limits r moment conn (take count bytes) cut)

-- What was done besides, of which nothing is written yet: nothing, or what the line does; of `data` from which so many
-- bytes are fed, some of the others.
pub data IsBegun (limits : Limits) (r : Run) (place : ℕ) : PlainLine → Run → Type 0 where
  None : (line : PlainLine) → IsBegun limits r place line r
  Opens : (conn : ℕ) → IsBegun limits r place (Open conn) (opened r conn)
  Feeds : (moment conn : ℕ) (bytes : List ℕ) (count : ℕ) (refused : List Bool)
      → IsBegun limits r place (Data moment conn bytes)
      (record r { hub = feed limits r.hub conn (take count (drop place bytes)) moment refused })
  Ends : (moment conn : ℕ)
      → IsBegun limits r place (End moment conn) (record r { hub = hangup limits r.hub conn moment })
  Ticks : (moment : ℕ) → IsBegun limits r place (Tick moment) (record r { hub = tick limits r.hub moment })

-- what the connections have to say when the disk has failed: their frames that are confirmed, if so many events are,
-- an EIO frame, and that they have ended
abbrev pub last_words : ℕ → Run → List ℕ
last_words confirmed r = (report (record r { hub = fail confirmed r.hub })).text

-- The disk failed within a line, when so many events were confirmed. After the text of the lines before stands what
-- was done of this one and written, and then what the connections had to say, as far as memory and the writer allowed.
pub record HaltsIn (limits : Limits) (r : Run) (line : PlainLine) (confirmed : ℕ) (text : List ℕ)
    (before after : Option (List ℕ)) : Type 0 where
  pub place : ℕ
  pub part : Progress
  pub done : IsDone limits r line place part
  pub now : Run
  pub begun : IsBegun limits part.run place line now
  pub words : List ℕ
  pub others : List ℕ
  pub begins : words ++ others ≡ last_words confirmed now
  pub written : Appends before after (text ++ (part.text ++ words))

-- the disk failed within the next of some lines
pub record HaltsNext (limits : Limits) (r : Run) (rest : List (List ℕ)) (confirmed : ℕ) (text : List ℕ)
    (before after : Option (List ℕ)) : Type 0 where
  pub line : List ℕ
  pub beyond : List (List ℕ)
  pub next : rest ≡ line ∷ beyond
  pub form : PlainLine
  pub is : line_of line ≡ Some form
  pub halts : HaltsIn limits r form confirmed text before after
