-- What is left of a store's numbers, what a call uses of them, and what a line may use.
use Rattle.std.specs.Prelude.{◌≡◌, ◌<◌, ℕ, ◌+◌, ◌*◌, ◌^◌, false, List, [], length, Result, Ok, Err}
use Rattle.ipc_disk.specs.Counts.{Counts}
use Rattle.ipc_store.specs.View.{StoreView, Spends, numbers_used}
use Rattle.ipc_script.specs.declared.fault.ScriptFault.{ScriptFault}
use Rattle.ipc_script.specs.Line.{PlainLine, Open, Data, End, Tick, Save, Stop}
use Rattle.ipc_script.specs.Script.{DiskFailed}

-- the store goes on, and has so many numbers left
pub record HasNumbers {D : Type 0} (n : ℕ) (store : StoreView D) : Type 0 where
  pub running : store.stopped ≡ false
  pub left : numbers_used store + n + 3 < 2 ^ 64

-- a call was Ok and has used so many at most, or its fault is not the disk's unless that has failed
abbrev pub Ends : {A D : Type 0} → (D → Counts) → ℕ → StoreView D → StoreView D → Result A ScriptFault → Type 0
Ends counts n old new (Ok _) = Spends counts n old new
Ends counts n old new (Err e) = DiskFailed e (counts old.disk).failures (counts new.disk).failures

-- so it is if so many were left
abbrev pub Costs : {A D : Type 0} → (D → Counts) → ℕ → StoreView D → StoreView D → Result A ScriptFault → Type 0
Costs counts n old new result = HasNumbers n old → Ends counts n old new result

-- the bytes that a line gives
abbrev pub bytes_in : PlainLine → List ℕ
bytes_in (Open conn) = []
bytes_in (Data moment conn bytes) = bytes
bytes_in (End moment conn) = []
bytes_in (Tick moment) = []
bytes_in Save = []
bytes_in Stop = []

-- a line uses so many numbers at most
abbrev pub line_cost : PlainLine → ℕ
line_cost line = 5 * (length (bytes_in line) + 1)

-- and a script so many for each of its bytes
abbrev pub byte_cost : ℕ
byte_cost = 10
