-- What the program does with a line, and with all lines of a script, is what the definitions do.
use Rattle.std.specs.Prelude.{◌≡◌, ◌≢◌, ℕ, List, [], Option, None, Some, Result, Ok, Err, ⊤}
use Rattle.std.specs.Io.KnownBytes.{Appends}
use Rattle.ipc_limits.specs.declared.limits.Limits.{Limits}
use Rattle.ipc_disk.specs.Medium.{Medium}
use Rattle.ipc_hub.specs.Clients.{Clients}
use Rattle.ipc_hub.specs.View.{StoredHub}
use Rattle.ipc_script.specs.declared.fault.ScriptFault.{ScriptFault}
use Rattle.ipc_script.specs.declared.report.Opened.{Opened}
use Rattle.ipc_script.specs.Line.{PlainLine, Stop}
use Rattle.ipc_script.specs.Script.{Progress, Cut, Run, WritesPart, WritesMore, EndsAs, BreaksOff, Halts, line_done}
use Rattle.ipc_script.specs.Relations.Faults.{ByFault}
use Rattle.ipc_script.specs.Relations.Lasts.{LastsAs, FailsWithin}
use Rattle.ipc_script.specs.Relations.Matches.{ProgressMatches}

-- what a line writes if it is run
abbrev pub text_of : Result Progress ScriptFault → List ℕ
text_of (Ok p) = p.text
text_of (Err e) = []

-- A line is not run: it is refused however it is cut, and the hub is as it was; or memory or a write failed within
-- it, and a beginning of what it writes for some cut is written; or the disk failed within it, and something is
-- written.
abbrev pub LineStops : {D : Type 0} → (D → Medium) → Limits → ℕ → Run → PlainLine → StoredHub D → StoredHub D
    → Option (List ℕ) → Option (List ℕ) → ScriptFault → Type 0
LineStops medium limits number r line old new before after e =
    ByFault e (FailsWithin medium limits number r line old.store new.store
    × ((cut : Cut) × WritesPart before after (text_of (line_done limits number r line cut))))
    (FailsWithin medium limits number r line old.store new.store × WritesMore before after [])
    (((cut : Cut) → line_done limits number r line cut ≡ Err e) × Appends before after [] × (new ≡ old))

-- What a line comes to: it is run for some cut, and the store takes its events; or it is not run.
abbrev pub SimulatesLine : {D : Type 0} → (D → Medium) → Limits → ℕ → Run → PlainLine → StoredHub D → StoredHub D
    → List Opened → Option (List ℕ) → Option (List ℕ) → Result ⊤ ScriptFault → Type 0
SimulatesLine medium limits number r line old hub opened before after (Ok _) =
    (cut : Cut) × (p : Progress) × (line_done limits number r line cut ≡ Ok p)
    × ProgressMatches limits hub opened before after p × LastsAs medium r.hub p.run.hub old.store hub.store
    × (line ≢ Stop)
SimulatesLine medium limits number r line old hub opened before after (Err e) =
    LineStops medium limits number r line old hub before after e

-- all lines of a script do what the definitions say
abbrev pub SimulatesScript : Limits → Clients → List ℕ → Option (List ℕ) → Option (List ℕ)
    → Result ⊤ ScriptFault → Type 0
SimulatesScript limits h script before after (Ok _) = EndsAs limits h script before after None
SimulatesScript limits h script before after (Err e) =
    ByFault e (BreaksOff limits h script before after) (Halts limits h script before after)
    (EndsAs limits h script before after (Some e))
