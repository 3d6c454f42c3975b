-- The calls that may wait, each by itself, and all others together.
use Rattle.std.proofs.Common.{◌≡◌, ℕ, ℤ, List, None, refl}
use Rattle.ipc_wire.specs.Request.{PlainSysv, Sysv}
use Rattle.ipc_wire.specs.Request as requests
use Rattle.ipc_state.specs.Waiting.{awaited_by}

-- a call that never waits: it waits on nothing
pub record IsOther (call : PlainSysv) : Type 0 where
  pub never : awaited_by (Sysv call) ≡ None

-- what holds of the calls that may wait, and of all others, holds of every call
pub by-waiting : (P : PlainSysv → Type 0) → ((id flags : ℕ) (mtype : ℤ) (text : List ℕ) → P (requests.Msgsnd id flags mtype text))
    → ((id flags size : ℕ) (mtype : ℤ) → P (requests.Msgrcv id flags size mtype))
    → ((id timeout : ℕ) (operations : List ℕ) → P (requests.Semop id timeout operations)) → ((call : PlainSysv) → IsOther call → P call)
    → (call : PlainSysv) → P call
by-waiting P sends receives operates others (requests.Msgsnd id flags mtype text) = sends id flags mtype text
by-waiting P sends receives operates others (requests.Msgrcv id flags size mtype) = receives id flags size mtype
by-waiting P sends receives operates others (requests.Semop id timeout operations) = operates id timeout operations
by-waiting P sends receives operates others call = others _ (record { never = refl })
