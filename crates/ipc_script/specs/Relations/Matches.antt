-- The program's hub and list of open connections match a run of the definitions: the hub matches
-- the run's clients, and the list has their numbers in rising order, each with whether its end was
-- told.
use Rattle.std.specs.Prelude.{◌≡◌, ◌^◌, ℕ, Bool, List, [], map, Option, IfSome}
use Rattle.std.specs.Io.KnownBytes.{Appends}
use Rattle.ipc_base.specs.Table.{keys_of, IsRising}
use Rattle.ipc_limits.specs.declared.limits.Limits.{Limits}
use Rattle.ipc_hub.specs.View.{HubView, StoredHub}
use Rattle.ipc_hub.specs.Clients.{Client, accepted, client_at, fail}
use Rattle.ipc_hub.specs.Relations.Matches.{HubMatches, StoredMatches}
use Rattle.ipc_script.specs.declared.report.Opened.{Opened}
use Rattle.ipc_script.specs.Halting.{IsBegun, IsDone}
use Rattle.ipc_script.specs.Line.{PlainLine}
use Rattle.ipc_script.specs.Script.{Run, Progress}

-- an open connection, as the program keeps it
abbrev pub opened_of : (ℕ → Bool) → ℕ → Opened
opened_of told conn = record { conn = conn; told = told conn }

abbrev pub OpenedMatches : List Opened → Run → Type 0
OpenedMatches opened r = opened ≡ map (opened_of r.told) (keys_of r.hub.clients)

-- no frame is consumed in part
abbrev pub HasWholeFrames : Client → Type 0
HasWholeFrames c = c.consumed ≡ 0

-- a run matches, somewhere in a line
pub record RunMatches {D : Type 0} (limits : Limits) (hub : StoredHub D) (opened : List Opened)
    (r : Run) : Type 0 where
  pub matches : StoredMatches limits hub r.hub
  pub kept : OpenedMatches opened r
  pub whole : (conn : ℕ) → IfSome (client_at r.hub conn) HasWholeFrames
  -- the numbers of the connections rise
  pub rising : IsRising 0 (keys_of r.hub.clients) (2 ^ 32)

-- a run matches, between two lines: besides, no frame waits
pub record RunMatchesBetween {D : Type 0} (limits : Limits) (hub : StoredHub D)
    (opened : List Opened) (r : Run) : Type 0 where
  pub run : RunMatches limits hub opened r
  pub quiet : (conn : ℕ) → IfSome (client_at r.hub conn) (λ c. c.frames ≡ [])

-- so does the run of some progress, and its text is written
abbrev pub ProgressMatches : {D : Type 0} → Limits → StoredHub D → List Opened
    → Option (List ℕ) → Option (List ℕ) → Progress → Type 0
ProgressMatches limits hub opened before after p =
    RunMatchesBetween limits hub opened p.run × Appends before after p.text

-- a run matches so that all its frames can be written: all its events are confirmed
pub record CanReport (limits : Limits) (hub : HubView) (opened : List Opened) (r : Run) : Type 0 where
  pub matches : HubMatches limits (accepted r.hub) hub r.hub
  pub kept : OpenedMatches opened r
  pub whole : (conn : ℕ) → IfSome (client_at r.hub conn) HasWholeFrames
  pub rising : IsRising 0 (keys_of r.hub.clients) (2 ^ 32)

-- the disk has failed: the run as it was then matches, when its hub has failed
pub record MatchesFailed {D : Type 0} (limits : Limits) (hub : StoredHub D) (opened : List Opened) (r : Run)
    : Type 0 where
  pub matches : HubMatches limits hub.store.confirmed hub.hub (fail hub.store.confirmed r.hub)
  pub kept : OpenedMatches opened r
  pub whole : (conn : ℕ) → IfSome (client_at r.hub conn) HasWholeFrames
  pub rising : IsRising 0 (keys_of r.hub.clients) (2 ^ 32)

-- it has failed within a line: what was done of the line and written, and what was begun
pub record HaltsAt {D : Type 0} (limits : Limits) (r : Run) (line : PlainLine) (hub : StoredHub D)
    (opened : List Opened) (before after : Option (List ℕ)) : Type 0 where
  pub place : ℕ
  pub part : Progress
  pub done : IsDone limits r line place part
  pub now : Run
  pub begun : IsBegun limits part.run place line now
  pub failed : MatchesFailed limits hub opened now
  pub written : Appends before after part.text
