-- The run of a script line by line, as its store and its disk go through it: which lines were run, and what was written
-- by then.
use Rattle.std.specs.Prelude.{◌≡◌, ◌≢◌, ◌⊎◌, ⊤, ◌+◌, ℕ, false, Some, List, [], ◌∷◌, ◌++◌, Option, Result, Ok, Err}
use Rattle.std.specs.Prelude.{OnOk}
use Rattle.std.specs.Io.KnownBytes.{Appends}
use Rattle.ipc_limits.specs.declared.limits.Limits.{Limits}
use Rattle.ipc_disk.specs.Medium.{Medium}
use Rattle.ipc_disk.specs.Since.{EachImageSince}
use Rattle.ipc_engine.specs.Event.{PlainEvent}
use Rattle.ipc_store.specs.Histories.{History, StandsForPrefix, Takes, accepted, full_past_of, grown}
use Rattle.ipc_store.specs.View.{StoreView}
use Rattle.ipc_state.specs.State.{State}
use Rattle.ipc_engine.specs.Step.{run as machine_run}
use Rattle.ipc_hub.specs.Clients.{Clients}
use Rattle.ipc_hub.specs.Replies.{IsAnswered}
use Rattle.ipc_script.specs.Answered.{TellsLines}
use Rattle.ipc_script.specs.declared.fault.ScriptFault.{ScriptFault}
use Rattle.ipc_script.specs.declared.fault.ScriptFault.TheVariants.{NoMemory, Input, Output, Device}
use Rattle.ipc_script.specs.declared.fault.ScriptFault.TheVariants.{NotFormatted, Version, Damaged}
use Rattle.ipc_script.specs.declared.fault.ScriptFault.TheVariants.{TooLong, BadLine, InUse, Unknown}
use Rattle.ipc_script.specs.Halting.{HaltsNext}
use Rattle.ipc_script.specs.Line.{PlainLine, Stop, line_of, lines_of}
use Rattle.ipc_script.specs.Script.{Cut, IsYoung, Progress, Run, WritesMore, start_run, stopped, text_done}
use Rattle.ipc_script.specs.Stops.{IsReopened}
use Rattle.ipc_script.specs.Relations.Lasts.{LastsAs, StaysCommitted, TakesPart}

-- These lines were run, one after another; what comes next has this number. They have written this text. The store
-- takes the events of each, and if nothing waited before it, nothing waits when it has ended: its events were made last
-- then. If the store was young before all of them, it goes on.
pub data HasRunLines {D : Type 0} (medium : D → Medium) (limits : Limits) (old : StoreView D) (h : Clients)
    : ℕ → List (List ℕ) → StoreView D → Run → List ℕ → Type 0 where
  None : HasRunLines medium limits old h 1 [] old (start_run h) []
  Line : (number : ℕ) (lines : List (List ℕ)) (line : List ℕ) (last next : StoreView D) (r : Run) (text : List ℕ)
      (cut : Cut) (p : Progress) → HasRunLines medium limits old h number lines last r text
      → line_of line ≢ Some Stop → text_done limits number r (line_of line) cut ≡ Ok p
      → LastsAs medium r.hub p.run.hub last next → StaysCommitted last next
      → (IsYoung old → next.stopped ≡ false)
      → HasRunLines medium limits old h (number + 1) (lines ++ line ∷ []) next p.run (text ++ p.text)
  -- a line `stop`, which writes nothing: the store that is closed is in the state of the run, and accepts no event
  Again : (number : ℕ) (lines : List (List ℕ)) (line : List ℕ) (last closed opened : StoreView D) (r : Run)
      (text : List ℕ) → HasRunLines medium limits old h number lines last r text → line_of line ≡ Some Stop
      → Takes medium last [] closed → closed.machine.state ≡ r.hub.state → IsReopened medium closed opened
      → HasRunLines medium limits old h (number + 1) (lines ++ line ∷ []) opened (stopped limits r) text

-- one thing if memory, a write or the disk failed; another if all lines were run, the next one is wrong, or the script
-- was not read
abbrev pub ByEnd : Result ⊤ ScriptFault → Type 0 → Type 0 → Type 0
ByEnd (Ok _) F P = P
ByEnd (Err NoMemory) F P = F
ByEnd (Err Input) F P = P
ByEnd (Err Output) F P = F
ByEnd (Err Device) F P = F
ByEnd (Err NotFormatted) F P = F
ByEnd (Err (Version found)) F P = F
ByEnd (Err (Damaged sector)) F P = F
ByEnd (Err TooLong) F P = P
ByEnd (Err (BadLine number)) F P = P
ByEnd (Err (InUse number)) F P = P
ByEnd (Err (Unknown number)) F P = P

-- a first part of the next line was done, and the store takes the events of that
pub record TakesNext {D : Type 0} (medium : D → Medium) (limits : Limits) (number : ℕ) (r : Run)
    (rest : List (List ℕ)) (last closed : StoreView D) : Type 0 where
  pub line : List ℕ
  pub beyond : List (List ℕ)
  pub next : rest ≡ line ∷ beyond
  pub form : PlainLine
  pub is : line_of line ≡ Some form
  pub part : TakesPart medium limits number r form last closed

-- The first lines of a script were run, and their whole text was written. If the answer is Ok these are all. If it is,
-- or the next line is wrong, or the script was not read, nothing more was written, and the store that is there at the
-- end is as these lines left it, in the state of the run. If memory, a write or the disk failed, it took the events of
-- a first part of the next line, or none, and maybe more was written: after a failure of the disk, of a store that was
-- young, what was done of the line, and what the connections then had to say.
pub record EndsAfter {D : Type 0} (medium : D → Medium) (limits : Limits) (h : Clients) (script : List ℕ)
    (before after : Option (List ℕ)) (store closed : StoreView D) (result : Result ⊤ ScriptFault) : Type 0 where
  pub number : ℕ
  pub lines : List (List ℕ)
  pub rest : List (List ℕ)
  pub all : lines_of script ≡ lines ++ rest
  pub last : StoreView D
  pub run : Run
  pub text : List ℕ
  pub runs : HasRunLines medium limits store h number lines last run text
  pub written : WritesMore before after text
  pub whole : OnOk result (rest ≡ [])
  pub ends : ByEnd result (Takes medium last [] closed ⊎ TakesNext medium limits number run rest last closed)
      ((closed ≡ last) × (closed.machine.state ≡ run.hub.state) × Appends before after text)
  pub halted : result ≡ Err Device → IsYoung store
      → HaltsNext limits run rest closed.confirmed text before after

-- The history of a device after lines that were run: these events, and before them others. If what the hub was before
-- the script was answered, each frame in the text of the lines is an answer of these events and the others: a reply of
-- one of them to the process that its connection has joined as, or a refusal.
pub record IsTold (limits : Limits) (base : State) (found : List PlainEvent) (h : Clients) (number : ℕ)
    (lines : List (List ℕ)) (r : Run) (text : List ℕ) (all : List PlainEvent) : Type 0 where
  pub others : List PlainEvent
  pub ends : all ≡ others ++ r.hub.events
  pub answers : IsAnswered limits (machine_run limits base found).state h
      → TellsLines limits base all h number lines r text

-- After lines that were run the store takes these events, those of the next line. What was accepted before the script
-- and in the lines is acknowledged. So what a crash leaves at any moment of the next line stands for the state after
-- all of that, and some of these events, from the first on. If the events of the hub before the script are the last of
-- those that were accepted then, the events of the run's are the last of all, and the lines have told them.
pub record KeepsLines {D : Type 0} (medium : D → Medium) (limits : Limits) (before : History) (h : Clients)
    (number : ℕ) (lines : List (List ℕ)) (last : StoreView D) (r : Run) (text : List ℕ) (events : List PlainEvent)
    (next : StoreView D) : Type 0 where
  pub more : List PlainEvent
  pub crash : EachImageSince (medium last.disk) (medium next.disk)
      (StandsForPrefix (grown (full_past_of last.machine.limits before) more) events)
  pub named : (found : List PlainEvent) → accepted before ≡ found ++ h.events
      → IsTold limits before.base found h number lines r text (accepted before ++ more)
