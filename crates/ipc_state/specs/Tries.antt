-- What the program's trial of a call that may wait comes to, as a value of the definitions.
use Rattle.std.specs.Prelude.{◌≡◌}
use Rattle.ipc_state.specs.Finish.{Finishes, Waits, finish_firing}
use Rattle.ipc_state.specs.Finish as finish
use Rattle.ipc_state.specs.Held.{Held}
use Rattle.ipc_state.specs.State.{State}
use Rattle.ipc_state.specs.declared.answers.Tried.{Tried}
use Rattle.ipc_state.specs.declared.answers.Tried.TheVariants as tried

-- how it ends, if it left this state
abbrev pub tried_of : {C : Type 0} → State → Tried C → finish.Tried
tried_of s (tried.Finishes answer fired) = Finishes (finish_firing s answer fired)
tried_of s (tried.Waits call) = Waits

-- if it waits, it is the same call as before, and the state is as it was
abbrev pub WaitsUnchanged : {C P : Type 0} → (C → P) → Held → C → Held → Tried C → Type 0
WaitsUnchanged plain before call after (tried.Finishes answer fired) = Unit {0}
WaitsUnchanged plain before call after (tried.Waits kept) = (plain kept ≡ plain call) × (after ≡ before)
