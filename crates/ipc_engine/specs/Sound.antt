-- What holds of the state after every event. Each of its parts is sound by itself. A call that waits is one of a
-- connected process, its deadline has not come, and it has to wait: no event leaves one that could go on.
use Rattle.std.specs.Prelude.{◌≡◌, true, false, All}
use Rattle.ipc_limits.specs.declared.limits.Limits.{Limits}
use Rattle.ipc_wait.specs.Waits.{is_due}
use Rattle.ipc_state.specs.Sound.{HasSoundParts}
use Rattle.ipc_state.specs.State.{State, is_process}
use Rattle.ipc_state.specs.Waiting.{PlainWaiting}
use Rattle.ipc_engine.specs.Step.{can_resume}

pub record HasToWait (limits : Limits) (s : State) (w : PlainWaiting) : Type 0 where
  pub process : is_process s w.pid.0 ≡ true
  pub early : is_due (record { 0 = s.clock }) w ≡ false
  pub waits : can_resume limits s w ≡ false

pub record IsSound (limits : Limits) (s : State) : Type 0 where
  pub parts : HasSoundParts limits s
  pub waits : All (HasToWait limits s) s.wait

-- no call waits whose deadline has come
abbrev pub NoneIsDue : State → Type 0
NoneIsDue s = All (λ w. is_due (record { 0 = s.clock }) w ≡ false) s.wait
