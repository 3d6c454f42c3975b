-- What a line does to the store's history, whatever it answers.
use Rattle.std.specs.Prelude.{◌≡◌, ◌≢◌, ◌⊎◌, ⊤, ℕ, List, [], ◌++◌, Result, Ok, Err}
use Rattle.ipc_limits.specs.declared.limits.Limits.{Limits}
use Rattle.ipc_disk.specs.Medium.{Medium}
use Rattle.ipc_engine.specs.Event.{PlainEvent}
use Rattle.ipc_store.specs.Histories.{Takes}
use Rattle.ipc_store.specs.View.{StoreView}
use Rattle.ipc_hub.specs.Clients.{Clients}
use Rattle.ipc_script.specs.declared.fault.ScriptFault.{ScriptFault}
use Rattle.ipc_script.specs.Line.{PlainLine, Stop}
use Rattle.ipc_script.specs.Script.{Cut, Progress, Run, first_part, line_done}
use Rattle.ipc_script.specs.Relations.Faults.{ByFault}

-- Some events are accepted, and the store takes them. What a crash leaves at any moment of it is what
-- `Takes` says.
abbrev pub Lasts : {D : Type 0} → (D → Medium) → StoreView D → StoreView D → Type 0
Lasts medium old new = (events : List PlainEvent) × Takes medium old events new

-- The store takes the events by which one hub of the definitions comes to another, and no others.
pub record LastsAs {D : Type 0} (medium : D → Medium) (before after : Clients) (old new : StoreView D) : Type 0 where
  pub events : List PlainEvent
  pub adds : after.events ≡ before.events ++ events
  pub takes : Takes medium old events new

-- A first part of a line, which is not `stop`, was done: the store takes the events of that part, and no others.
pub record TakesPart {D : Type 0} (medium : D → Medium) (limits : Limits) (number : ℕ) (r : Run) (line : PlainLine)
    (old new : StoreView D) : Type 0 where
  pub goes : line ≢ Stop
  pub count : ℕ
  pub cut : Cut
  pub part : Progress
  pub done : line_done limits number r (first_part count line) cut ≡ Ok part
  pub lasts : LastsAs medium r.hub part.run.hub old new

-- memory, a write or the disk failed within a line: nothing of it was done, or a first part
abbrev pub FailsWithin : {D : Type 0} → (D → Medium) → Limits → ℕ → Run → PlainLine → StoreView D → StoreView D
    → Type 0
FailsWithin medium limits number r line old new =
    Takes medium old [] new ⊎ TakesPart medium limits number r line old new

-- if nothing waited, nothing waits
abbrev pub StaysCommitted : {D : Type 0} → StoreView D → StoreView D → Type 0
StaysCommitted old new = old.waiting ≡ 0 → new.waiting ≡ 0

-- so it is, unless the disk failed
abbrev pub CommitsOrFails : {A D : Type 0} → StoreView D → StoreView D → Result A ScriptFault → Type 0
CommitsOrFails old new (Ok _) = StaysCommitted old new
CommitsOrFails old new (Err e) = ByFault e (StaysCommitted old new) ⊤ (StaysCommitted old new)

-- nothing waits, unless the disk failed
abbrev pub Empties : {A D : Type 0} → StoreView D → Result A ScriptFault → Type 0
Empties new (Ok _) = new.waiting ≡ 0
Empties new (Err e) = ByFault e (new.waiting ≡ 0) ⊤ (new.waiting ≡ 0)
