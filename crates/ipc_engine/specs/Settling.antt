-- What is known when calls that waited go on: only those can that wait on the object which has changed, and which its
-- change concerns.
use Rattle.std.specs.Prelude.{◌≡◌, ◌≢◌, ℕ, Bool, true, false, All, List, Option, Some, None, find}
use Rattle.ipc_base.specs.declared.identity.Pid.{Pid}
use Rattle.ipc_limits.specs.declared.limits.Limits.{Limits}
use Rattle.ipc_wire.specs.Request.{PlainKind, Sysv, Posix}
use Rattle.ipc_state.specs.declared.parked.Object.{Object}
use Rattle.ipc_state.specs.State.{State, is_process}
use Rattle.ipc_state.specs.Touching.{object_of}
use Rattle.ipc_state.specs.Waiting.{PlainWaiting}
use Rattle.sysv_calls.specs.Calls.{touched}
use Rattle.sysv_calls.specs.Concern.{concerns}
use Rattle.sysv_calls.specs.declared.concern.Change.{Change}
use Rattle.posix_calls.specs.Calls.{touched as touched_posix}
use Rattle.ipc_engine.specs.Step.{can_resume}

-- each call that waits is one of a connected process
abbrev pub AreLinked : State → Type 0
AreLinked s = All (λ (w : PlainWaiting). is_process s w.pid.0 ≡ true) s.wait

-- the object that a request of a process may leave otherwise, so that those that wait on it may go on
abbrev pub touched_by : State → ℕ → PlainKind → Option Object
touched_by s pid (Sysv call) = touched s pid call
touched_by s pid (Posix call) = touched_posix s pid call
touched_by s pid kind = None

-- the calls that wait are on the objects on which they were
abbrev pub HaveSameObjects : State → State → Type 0
HaveSameObjects before after =
    All (λ (w : PlainWaiting). object_of after w.pid.0 w.on ≡ object_of before w.pid.0 w.on) before.wait

-- those that wait on another object than this have to; all, if it is none
abbrev pub OthersWait : Limits → State → Option Object → Type 0
OthersWait limits s None = All (λ (w : PlainWaiting). can_resume limits s w ≡ false) s.wait
OthersWait limits s (Some changed) =
    All (λ (w : PlainWaiting). Some changed ≢ object_of s w.pid.0 w.on → can_resume limits s w ≡ false) s.wait

-- an object may have changed: this one, or any
abbrev pub MayBe : Option Object → Option Object → Type 0
MayBe None on = Unit {0}
MayBe (Some changed) on = Some changed ≡ on

-- those that wait on an object that has not changed have to
abbrev pub RestWaits : Limits → State → Option Object → Type 0
RestWaits limits s among =
    All (λ (w : PlainWaiting). ¬ MayBe among (object_of s w.pid.0 w.on) → can_resume limits s w ≡ false) s.wait

-- those that a change does not concern have to
abbrev pub SparedWait : Limits → State → Change → Type 0
SparedWait limits s change =
    All (λ (w : PlainWaiting). concerns change w.call.kind ≡ false → can_resume limits s w ≡ false) s.wait

-- the process of the first that passes, or none
abbrev pub IsFirst : (PlainWaiting → Bool) → List PlainWaiting → Option Pid → Type 0
IsFirst test calls None = find test calls ≡ None
IsFirst test calls (Some pid) = (w : PlainWaiting) × (find test calls ≡ Some w) × (w.pid ≡ pid)
