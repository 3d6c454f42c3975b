-- What the run of a script leaves on its disk.
use Rattle.std.specs.Prelude.{◌≡◌, ⊤, ℕ, false, List, Option, Result, Ok, Err, OnOk}
use Rattle.std.specs.Io.KnownBytes.{Appends}
use Rattle.ipc_limits.specs.declared.limits.Limits.{Limits}
use Rattle.ipc_disk.specs.Medium.{Medium}
use Rattle.ipc_store.specs.View.{StoreView}
use Rattle.ipc_hub.specs.Clients.{Clients}
use Rattle.ipc_script.specs.declared.fault.ScriptFault.{ScriptFault}
use Rattle.ipc_script.specs.declared.fault.ScriptFault.TheVariants.{NoMemory, Input, Output, Device}
use Rattle.ipc_script.specs.declared.fault.ScriptFault.TheVariants.{NotFormatted, Version, Damaged}
use Rattle.ipc_script.specs.declared.fault.ScriptFault.TheVariants.{TooLong, BadLine, InUse, Unknown}
use Rattle.ipc_script.specs.ByLines.{ByEnd, EndsAfter}
use Rattle.ipc_script.specs.Script.{Cut, HasNoStop, IsYoung, script_run, script_after}
use Rattle.ipc_script.specs.Stops.{IsHanded, LivesOn}
use Rattle.ipc_script.specs.Relations.Lasts.{Lasts, StaysCommitted}

-- this holds, unless the fault is the disk's
abbrev pub UnlessDisk : ScriptFault → Type 0 → Type 0
UnlessDisk NoMemory P = P
UnlessDisk Input P = P
UnlessDisk Output P = P
UnlessDisk Device P = ⊤
UnlessDisk NotFormatted P = ⊤
UnlessDisk (Version found) P = ⊤
UnlessDisk (Damaged sector) P = ⊤
UnlessDisk TooLong P = P
UnlessDisk (BadLine number) P = P
UnlessDisk (InUse number) P = P
UnlessDisk (Unknown number) P = P

-- a run, by its answer: if nothing waited, nothing waits, unless the disk failed
abbrev pub EndsSettled : {D : Type 0} → StoreView D → StoreView D → Result ⊤ ScriptFault → Type 0
EndsSettled old new (Ok _) = StaysCommitted old new
EndsSettled old new (Err e) = UnlessDisk e (StaysCommitted old new)

-- What a run leaves on the disk that it hands back, which was that of this store: lives of it, one more than there were
-- lines `stop`. The store that was closed at the end of each has taken some events, those of the lines that were run in
-- it. So a crash at any moment of a life leaves what was acknowledged before it, and some of the other events, from the
-- first on; and at a stop nothing waited, so that the next life begins with all that the one before has taken. If no
-- line is `stop`, there is one life, and its disk is handed back. If nothing waited before, all events stand there,
-- unless the disk failed. If all lines were run, they lead to the state to which the lines lead, for the same cut of
-- each line as what was written, and a store that was young goes on. All this is so line by line (`by_lines`): the
-- lines whose whole text was written were run before, and their events, which are those of the definitions, were made
-- last then; after them nothing was accepted but a first part of the next line, and nothing at all if that was wrong.
pub record Leaves {D : Type 0} (medium : D → Medium) (limits : Limits) (h : Clients) (script : List ℕ)
    (before after : Option (List ℕ)) (store : StoreView D) (disk : D) (result : Result ⊤ ScriptFault)
    : Type 0 where
  pub closed : StoreView D
  pub lives : LivesOn medium store closed
  pub by_lines : EndsAfter medium limits h script before after store closed result
  pub handed : ByEnd result (IsHanded medium closed disk) (disk ≡ closed.disk)
  pub one : HasNoStop script → Lasts medium store closed × (disk ≡ closed.disk)
  pub committed : EndsSettled store closed result
  pub state : OnOk result ((cuts : List Cut) × Appends before after (script_run limits h script cuts).text
      × (closed.machine.state ≡ (script_after limits h script cuts).state) × (disk ≡ closed.disk)
      × (IsYoung store → closed.stopped ≡ false))
