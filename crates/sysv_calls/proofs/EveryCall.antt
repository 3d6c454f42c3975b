-- What each System V call leaves and answers, and that those that wait on nothing never wait.
use Rattle.std.proofs.Common.{◌≡◌, ◌∙◌, ℕ, Bool, true, false, not, None, refl, ap}
use Rattle.std.specs.Prelude.{Option, is_some}
use Rattle.ipc_limits.specs.declared.limits.Limits.{Limits}
use Rattle.ipc_wire.specs.Request.{PlainSysv, Sysv}
use Rattle.ipc_wire.specs.Request as requests
use Rattle.ipc_state.specs.declared.parked.Awaited.{Awaited}
use Rattle.ipc_state.specs.Finish.{IfFinishes, has_to_wait}
use Rattle.ipc_state.specs.State.{State, cred_of, is_waiting}
use Rattle.ipc_state.specs.Waiting.{awaited_by, may_wait}
use Rattle.ipc_state.proofs.CallerLemmas.{AtEnd, IsGood, by-finish, refused-good, same-fewer, waits-blocked}
use Rattle.sysv_calls.specs.Calls.{attempt, definition_of, touched}
use Rattle.sysv_calls.proofs.Ending.{IsApart, LeavesBy, by-alone}
use Rattle.sysv_calls.proofs.MsgCalls.{msgctl_rmid-ends, msgctl_set-ends, msgctl_stat-ends, msgget-ends, msgrcv-ends, msgsnd-ends}
use Rattle.sysv_calls.proofs.SemCalls.{semctl_getall-ends, semctl_getpid-ends, semctl_getval-ends, semctl_rmid-ends, semctl_set-ends, semctl_setall-ends}
use Rattle.sysv_calls.proofs.SemCalls.{semctl_setval-ends, semctl_stat-ends, semget-ends}
use Rattle.sysv_calls.proofs.SemopCalls.{semctl_getcnt-ends, semop-ends}
use Rattle.sysv_calls.proofs.ShmCalls.{attached_read-ends, attached_write-ends, shmat-ends, shmctl_rmid-ends, shmctl_set-ends, shmctl_stat-ends, shmdt-ends}
use Rattle.sysv_calls.proofs.ShmCalls.{shmget-ends}

call-ends : (limits : Limits) (s : State) (pid : ℕ) (again : Bool) (call : PlainSysv)
    → AtEnd (not (may_wait (Sysv call))) (LeavesBy limits s pid (touched s pid call)) (definition_of limits s pid again call)
call-ends limits s pid again (requests.Msgget key flags) = by-alone pid (msgget-ends limits s (cred_of s pid) key flags)
call-ends limits s pid again (requests.Msgsnd id flags mtype text) = by-alone pid (msgsnd-ends limits s (cred_of s pid) pid again id flags mtype text)
call-ends limits s pid again (requests.Msgrcv id flags size mtype) = by-alone pid (msgrcv-ends limits s (cred_of s pid) pid again id flags size mtype)
call-ends limits s pid again (requests.MsgctlStat id) = by-alone pid (msgctl_stat-ends limits s (cred_of s pid) id)
call-ends limits s pid again (requests.MsgctlSet id uid gid mode qbytes) = by-alone pid (msgctl_set-ends limits s (cred_of s pid) id uid gid mode qbytes)
call-ends limits s pid again (requests.MsgctlRmid id) = by-alone pid (msgctl_rmid-ends limits s (cred_of s pid) id)
call-ends limits s pid again (requests.Semget key nsems flags) = by-alone pid (semget-ends limits s (cred_of s pid) key nsems flags)
call-ends limits s pid again (requests.Semop id timeout operations) = by-alone pid (semop-ends limits s (cred_of s pid) pid again id operations)
call-ends limits s pid again (requests.SemctlGetNcnt id num) = by-alone pid (semctl_getcnt-ends limits s (cred_of s pid) false id num)
call-ends limits s pid again (requests.SemctlGetZcnt id num) = by-alone pid (semctl_getcnt-ends limits s (cred_of s pid) true id num)
call-ends limits s pid again (requests.SemctlGetVal id num) = by-alone pid (semctl_getval-ends limits s (cred_of s pid) id num)
call-ends limits s pid again (requests.SemctlGetPid id num) = by-alone pid (semctl_getpid-ends limits s (cred_of s pid) id num)
call-ends limits s pid again (requests.SemctlSetVal id num value) = by-alone pid (semctl_setval-ends limits s (cred_of s pid) pid id num value)
call-ends limits s pid again (requests.SemctlGetAll id) = by-alone pid (semctl_getall-ends limits s (cred_of s pid) id)
call-ends limits s pid again (requests.SemctlSetAll id values) = by-alone pid (semctl_setall-ends limits s (cred_of s pid) pid id values)
call-ends limits s pid again (requests.SemctlStat id) = by-alone pid (semctl_stat-ends limits s (cred_of s pid) id)
call-ends limits s pid again (requests.SemctlSet id uid gid mode) = by-alone pid (semctl_set-ends limits s (cred_of s pid) id uid gid mode)
call-ends limits s pid again (requests.SemctlRmid id) = by-alone pid (semctl_rmid-ends limits s (cred_of s pid) id)
call-ends limits s pid again (requests.Shmget key size flags) = shmget-ends limits s pid (cred_of s pid) key size flags
call-ends limits s pid again (requests.Shmat id flags) = shmat-ends limits s pid (cred_of s pid) id flags
call-ends limits s pid again (requests.Shmdt attachment) = shmdt-ends limits s pid attachment
call-ends limits s pid again (requests.ShmctlStat id) = shmctl_stat-ends limits s pid (cred_of s pid) id
call-ends limits s pid again (requests.ShmctlSet id uid gid mode) = shmctl_set-ends limits s pid (cred_of s pid) id uid gid mode
call-ends limits s pid again (requests.ShmctlRmid id) = shmctl_rmid-ends limits s pid (cred_of s pid) id
call-ends limits s pid again (requests.AttachedRead attachment offset len) = attached_read-ends limits s pid attachment offset len
call-ends limits s pid again (requests.AttachedWrite attachment offset bytes) = attached_write-ends limits s pid attachment offset bytes

module _ (limits : Limits) (s : State) (pid : ℕ) (again : Bool) (call : PlainSysv) where
  -- From a sound state a call of a process that does not wait ends in one, with a body that fits, and changes no more than
  -- its own object.
  pub attempt-good : is_waiting s pid ≡ false → IfFinishes (IsGood limits s (touched s pid call)) (attempt limits s pid again call)
  attempt-good free =
      by-finish (IsGood limits s (touched s pid call)) s (definition_of limits s pid again call)
      (λ d is. ((call-ends limits s pid again call).holds d is).good free) (refused-good limits s (touched s pid call))

  -- it leaves the objects of other processes, and fires and makes no registration
  pub attempt-apart : IfFinishes (IsApart s pid) (attempt limits s pid again call)
  attempt-apart =
      by-finish (IsApart s pid) s (definition_of limits s pid again call) (λ d is. ((call-ends limits s pid again call).holds d is).apart)
      (λ e. record { objects = λ p other on. refl; mq = same-fewer s.mq s.mq refl; fired = refl })

  -- a call that waits on nothing never waits
  pub never-waits : awaited_by (Sysv call) ≡ None → has_to_wait (attempt limits s pid again call) ≡ false
  never-waits is =
      waits-blocked s (definition_of limits s pid again call) ∙ (call-ends limits s pid again call).runs (ap (λ (o : Option Awaited). not (is_some o)) is)
