-- Calls that ask alone: each leaves the state as it was, and fires no registration. So does a call that is refused.
use Rattle.std.proofs.Common.{◌≡◌, ℕ, ℤ, Bool, true, false, not, Option, Some, None, is_some, refl, sym, ap, ◌∙◌}
use Rattle.std.specs.Prelude.{Ok, ◌||◌, nat_lt}
use Rattle.ipc_base.specs.declared.errno.Errno.TheVariants.{EEXIST, EINVAL, ENOENT}
use Rattle.ipc_limits.specs.declared.limits.Limits.{Limits}
use Rattle.ipc_wire.specs.Posix.{PlainPosix}
use Rattle.ipc_wire.specs.Posix as posix
use Rattle.ipc_wire.specs.declared.reply.Body.TheVariants.{Number}
use Rattle.ipc_wire.specs.Reply.{PlainBody}
use Rattle.ipc_wire.specs.Request.{PlainSysv, PlainKind, Hello, Interrupt as Interrupts, Sysv, Posix}
use Rattle.ipc_wire.specs.Request as sysv
use Rattle.shm_segment.specs.Segment.{is_within}
use Rattle.ipc_state.specs.Finish.{Attempt, Done, Finish, IfFinishes, answer, if_some, refuse, ◌>>=◌, ◌>>◌}
use Rattle.ipc_perm.specs.Perm.{asked_by}
use Rattle.ipc_state.specs.Keyed.{Keyed, keyed}
use Rattle.ipc_state.specs.State.{State, cred_of, semset_of, shm_of}
use Rattle.ipc_state.proofs.CallerLemmas.{AtEnd, after, after-orelse, after-refuse, at-value, by-finish, by-if_some}
use Rattle.posix_calls.specs.Calls as posixly
use Rattle.posix_calls.specs.Mq.{open_mq}
use Rattle.posix_calls.specs.Psem.{open_semaphore}
use Rattle.posix_calls.specs.Pshm.{open_pshm}
use Rattle.sysv_calls.specs.Access.{accessible, is_exclusive, may_make, read, sought}
use Rattle.sysv_calls.specs.Calls.{definition_of}
use Rattle.sysv_calls.specs.Msg.{found_queue, made_queue}
use Rattle.sysv_calls.specs.Sem.{count_of, found_set, has_fewer, made_set, semaphore}
use Rattle.sysv_calls.specs.Shm.{attached_by, found_shm, is_shorter, made_shm}
use Rattle.ipc_engine.specs.Idle.{only_asks}
use Rattle.ipc_engine.specs.Step.{tried}

-- the state is as it was, and nobody is told of a message
abbrev Stays : State → Done → Type 0
Stays s d = (d.state ≡ s) × (d.fired ≡ None)

-- steps of any kind, of which nothing is told
any : {Y : Type 0} (a : Attempt Y) → AtEnd false (λ (y : Y). a ≡ Ok y) a
any a = record { holds = λ y is. is; runs = λ is. cc }

-- steps that find something, and an answer of what they find
look : {Y : Type 0} (s : State) (a : Attempt Y) (body : Y → PlainBody) → AtEnd false (Stays s) (a >>= (λ y. answer s (body y)))
look s a body = after (any a) (λ y _. at-value _ (refl, refl))

-- a get whose key is in use finds an object
sought-there : {X : Type 0} (o : Keyed X) (key : ℤ) (flags : ℕ) → is_some (keyed o key) ≡ true
    → AtEnd false (λ (found : Option ℕ). is_some found ≡ true) (sought o key flags)
sought-there o key flags used = by_key (keyed o key) used
  where
    by_key : (r : Option ℕ) → is_some r ≡ true → AtEnd false (λ (found : Option ℕ). is_some found ≡ true)
        (if_some r (λ id. refuse EEXIST (is_exclusive flags) >> Ok (Some id)) (refuse ENOENT (not (may_make key flags)) >> Ok None))
    by_key None is = cc
    by_key (Some id) is = after-refuse EEXIST (λ _. at-value (Some id) refl)

-- and ends with it, if it ends so with any
get-looks : {X : Type 0} (s : State) (o : Keyed X) (key : ℤ) (flags : ℕ) (there : ℕ → Attempt Done) (missing : Attempt Done) → is_some (keyed o key) ≡ true
    → ((id : ℕ) → AtEnd false (Stays s) (there id)) → AtEnd false (Stays s) (sought o key flags >>= (λ found. if_some found there missing))
get-looks s o key flags there missing used looks =
    after (sought-there o key flags used)
    (λ found is. by-if_some {o = found} (λ id _. looks id) (λ none. absurd (let no : false ≡ true = sym (ap is_some none) ∙ is in cc)))

module _ (limits : Limits) where
  call-looks : (s : State) (pid : ℕ) (again : Bool) (call : PlainSysv) → only_asks s (Sysv call) ≡ true
      → AtEnd false (Stays s) (definition_of limits s pid again call)
  call-looks s pid again (sysv.Msgget key flags) used =
      let cred = cred_of s pid in
      get-looks s s.msg key flags (found_queue s cred flags) (made_queue limits s cred key flags) used
      (λ id. look s (accessible false s.msg cred id (asked_by flags)) (λ e. Number id))
  call-looks s pid again (sysv.Semget key nsems flags) used =
      let cred = cred_of s pid in
      after-orelse EINVAL {o = count_of limits nsems}
      (λ n _. get-looks s s.semset key flags (found_set s cred flags n) (made_set limits s cred key flags n) used
      (λ id. after-refuse EINVAL {b = has_fewer (semset_of s id) n} (λ _. look s (accessible false s.semset cred id (asked_by flags)) (λ e. Number id))))
  call-looks s pid again (sysv.Shmget key size flags) used =
      let cred = cred_of s pid in
      get-looks s s.shm key flags (found_shm s cred flags size) (made_shm limits s cred pid key flags size) used
      (λ id. after-refuse EINVAL {b = is_shorter (shm_of s id) size} (λ _. look s (accessible false s.shm cred id (asked_by flags)) (λ e. Number id)))
  call-looks s pid again (sysv.MsgctlStat id) is = look s (accessible false s.msg (cred_of s pid) id read) _
  call-looks s pid again (sysv.SemctlGetVal id num) is = look s (semaphore s (cred_of s pid) id num read) _
  call-looks s pid again (sysv.SemctlGetPid id num) is = look s (semaphore s (cred_of s pid) id num read) _
  call-looks s pid again (sysv.SemctlGetNcnt id num) is = look s (semaphore s (cred_of s pid) id num read) _
  call-looks s pid again (sysv.SemctlGetZcnt id num) is = look s (semaphore s (cred_of s pid) id num read) _
  call-looks s pid again (sysv.SemctlGetAll id) is = look s (accessible false s.semset (cred_of s pid) id read) _
  call-looks s pid again (sysv.SemctlStat id) is = look s (accessible false s.semset (cred_of s pid) id read) _
  call-looks s pid again (sysv.ShmctlStat id) is = look s (accessible false s.shm (cred_of s pid) id read) _
  call-looks s pid again (sysv.AttachedRead attachment offset length) is =
      after (any (attached_by s pid attachment))
      (λ found _. after-refuse EINVAL {b = nat_lt limits.call_bytes length} (λ _.
      after-refuse EINVAL {b = not (is_within offset length found.entry.object.memory)} (λ _. at-value _ (refl, refl))))
  call-looks s pid again call is = cc

  posix-looks : (s : State) (pid : ℕ) (call : PlainPosix) → only_asks s (Posix call) ≡ true
      → AtEnd false (Stays s) (posixly.definition_of limits s pid call)
  posix-looks s pid (posix.MqGetattr fd) is = look s (open_mq s pid fd) _
  posix-looks s pid (posix.SemGetvalue fd) is = look s (open_semaphore s pid fd) _
  posix-looks s pid (posix.ShmRead fd offset length) is =
      after (any (open_pshm s pid fd))
      (λ found _. after-refuse EINVAL {b = nat_lt limits.call_bytes length} (λ _.
      after-refuse EINVAL {b = not (is_within offset length found.entry.object)} (λ _. at-value _ (refl, refl))))
  posix-looks s pid (posix.ShmStat fd) is = look s (open_pshm s pid fd) _
  posix-looks s pid call is = cc

  -- what comes to its end with an error, or only asks, leaves the state and fires nothing
  abbrev pub StaysIdle : State → PlainKind → Finish → Type 0
  StaysIdle s kind f = (is_some f.errno || only_asks s kind) ≡ true → (f.state ≡ s) × (f.fired ≡ None)

  pub idle-stays : (s : State) (pid : ℕ) (again : Bool) (kind : PlainKind) → IfFinishes (StaysIdle s kind) (tried limits s pid again kind)
  idle-stays s pid again (Sysv call) =
      by-finish (StaysIdle s (Sysv call)) s (definition_of limits s pid again call) (λ d is idle. (call-looks s pid again call idle).holds d is)
      (λ e idle. (refl, refl))
  idle-stays s pid again (Posix call) =
      by-finish (StaysIdle s (Posix call)) s (posixly.definition_of limits s pid call) (λ d is idle. (posix-looks s pid call idle).holds d is)
      (λ e idle. (refl, refl))
  idle-stays s pid again (Hello cred) = λ idle. (refl, refl)
  idle-stays s pid again Interrupts = λ idle. (refl, refl)
