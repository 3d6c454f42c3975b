-- What a server that serves for some turns makes of its hub.
use Rattle.std.specs.Prelude.{◌≡◌, ◌<◌, ◌≤◌, ◌+◌, ℕ}
use Rattle.ipc_disk.specs.Counts.{Counts}
use Rattle.ipc_disk.specs.Medium.{Medium}
use Rattle.ipc_hub.specs.View.{StoredHub}
use Rattle.ipc_server.specs.declared.fault.ServeFault.{ServeFault}
use Rattle.ipc_server.specs.Runs.{BreaksOff, RunsRound}

-- So many turns went on, one after another, each at a moment that is not below the one before; the last was at this
-- moment. After each of them no event waits.
pub data Served {D : Type 0} (medium : D → Medium) (since : ℕ) (old : StoredHub D) : ℕ → ℕ → StoredHub D → Type 0 where
  None : Served medium since old 0 since old
  More : (count before moment : ℕ) (last next : StoredHub D) → Served medium since old count before last
      → before ≤ moment → RunsRound medium moment last next → next.store.waiting ≡ 0
      → Served medium since old (count + 1) moment next

-- Fewer turns than these went on, and this fault broke off the next one.
pub record StopsShort {D : Type 0} (medium : D → Medium) (counts : D → Counts) (since : ℕ) (old : StoredHub D)
    (turns : ℕ) (new : StoredHub D) (fault : ServeFault) : Type 0 where
  pub count : ℕ
  pub fewer : count < turns
  pub before : ℕ
  pub last : StoredHub D
  pub served : Served medium since old count before last
  pub moment : ℕ
  pub later : before ≤ moment
  pub breaks : BreaksOff medium counts moment last new fault
