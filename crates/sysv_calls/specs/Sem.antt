-- The calls of semaphore sets: semget(2) and semctl(2), in this server's profile. Refusals stand in the order in which
-- they are tested.
use Rattle.std.specs.Prelude.{ℕ, ℤ, pos, negsuc, ◌+◌, Bool, not, List, map, length, nat_le, nat_lt, ◌==◌}
use Rattle.std.specs.Prelude.{slice_get, if◌then◌else◌, Ok, false, Option, Some, None}
use Rattle.std.specs.List.{list_all}
use Rattle.ipc_base.specs.declared.errno.Errno.TheVariants.{EACCES, EINVAL, ENOSPC, ERANGE}
use Rattle.ipc_base.specs.declared.field.Field.TheVariants.{U16}
use Rattle.ipc_base.specs.declared.identity.Cred.{Cred}
use Rattle.ipc_limits.specs.declared.limits.Limits.{Limits}
use Rattle.ipc_base.specs.Numbers.{record_bytes}
use Rattle.ipc_perm.specs.Perm.{perm_of, owned_by, asked_by, may}
use Rattle.ipc_wire.specs.Values.{numbers_in}
use Rattle.ipc_wire.specs.declared.reply.Body.TheVariants.{Empty, Number, Record}
use Rattle.sysv_sem.specs.declared.set.Semaphore.{Semaphore}
use Rattle.sysv_sem.specs.Operation.{most_value}
use Rattle.sysv_sem.specs.Set.{Set, values_of, with_value, with_values, changed}
use Rattle.ipc_state.specs.Numbered.{is_full}
use Rattle.ipc_state.specs.Bound.{holding, permitting}
use Rattle.ipc_state.specs.Keyed.{KeyedEntry}
use Rattle.ipc_state.specs.Sound.{semaphore_count}
use Rattle.ipc_state.specs.State.{State, semset_of, with_semset, with_new_semset, without_adjustments}
use Rattle.ipc_state.specs.Finish.{Attempt, Done, answer, refuse, if_some, ◌orelse◌, ◌>>◌, ◌>>=◌}
use Rattle.sysv_calls.specs.Access.{read, write, accessible, owned, sought, listed, removed}
use Rattle.sysv_calls.specs.Records.{set_fields}

-- a number of semaphores that a set may have, and a value that a semaphore may have
abbrev pub count_of : Limits → ℤ → Option ℕ
count_of limits (pos n) = if nat_le n limits.semmsl then Some n else None
count_of limits (negsuc n) = None

abbrev pub value_of : ℤ → Option ℕ
value_of (pos n) = if nat_le n most_value then Some n else None
value_of (negsuc n) = None

-- the set that an identifier has, if there is one, has fewer semaphores
abbrev pub has_fewer : Option (KeyedEntry Set) → ℕ → Bool
has_fewer None nsems = false
has_fewer (Some e) nsems = nat_lt (length e.object.semaphores) nsems

-- the set that an identifier has, if it has so many semaphores
abbrev pub found_set : State → Cred → ℕ → ℕ → ℕ → Attempt Done
found_set s cred flags n id = do
  refuse EINVAL (has_fewer (semset_of s id) n)
  e ← accessible false s.semset cred id (asked_by flags)
  answer s (Number id)

-- a new set of the caller, of so many semaphores
abbrev pub made_set : Limits → State → Cred → ℤ → ℕ → ℕ → Attempt Done
made_set limits s cred key flags n = do
  refuse EINVAL (n == 0)
  refuse ENOSPC (is_full limits.semmni s.semset)
  refuse ENOSPC (nat_lt limits.semmns (semaphore_count s.semset + n))
  answer (with_new_semset s key (perm_of cred flags) n) (Number s.semset.next)

-- semget(2): the set that the key names, or a new one
abbrev pub semget : Limits → State → Cred → ℤ → ℤ → ℕ → Attempt Done
semget limits s cred key nsems flags = do
  n ← count_of limits nsems orelse EINVAL
  found ← sought s.semset key flags
  if_some found (found_set s cred flags n) (made_set limits s cred key flags n)

-- a set and a semaphore of it, for a caller that may use it so
abbrev pub semaphore : State → Cred → ℕ → ℕ → ℕ → Attempt (KeyedEntry Set × Semaphore)
semaphore s cred id num access = do
  e ← semset_of s id orelse EINVAL
  x ← slice_get e.object.semaphores num orelse EINVAL
  refuse EACCES (not (may cred e.perm access))
  Ok (e, x)

-- GETVAL and GETPID of semctl(2)
abbrev pub semctl_getval : State → Cred → ℕ → ℕ → Attempt Done
semctl_getval s cred id num = do
  found ← semaphore s cred id num read
  answer s (Number found.1.value)

abbrev pub semctl_getpid : State → Cred → ℕ → ℕ → Attempt Done
semctl_getpid s cred id num = do
  found ← semaphore s cred id num read
  answer s (Number found.1.pid.0)

-- SETVAL of semctl(2); no process has an adjustment there any more
abbrev pub semctl_setval : State → Cred → ℕ → ℕ → ℕ → ℤ → Attempt Done
semctl_setval s cred pid id num value = do
  found ← semaphore s cred id num write
  v ← value_of value orelse ERANGE
  let set = holding found.0 (with_value found.0.object num v (record { 0 = pid }) s.clock)
  answer (without_adjustments id (Some num) (with_semset s id set)) Empty

-- GETALL of semctl(2): each value in two bytes
abbrev pub semctl_getall : State → Cred → ℕ → Attempt Done
semctl_getall s cred id = do
  e ← accessible false s.semset cred id read
  answer s (Record (record_bytes (map U16 (values_of e.object))))

-- each is a value that a semaphore may have
abbrev pub are_values : List ℕ → Bool
are_values values = list_all (λ v. nat_le v most_value) values

-- the set of which all values may be set to these
abbrev pub settable : State → Cred → ℕ → List ℕ → Attempt (KeyedEntry Set)
settable s cred id values = do
  e ← semset_of s id orelse EINVAL
  refuse EINVAL (not (length values == length e.object.semaphores))
  refuse EACCES (not (may cred e.perm write))
  refuse ERANGE (not (are_values values))
  Ok e

-- SETALL of semctl(2): the values stand in two bytes each; no process has an adjustment at the set any more
abbrev pub semctl_setall : State → Cred → ℕ → ℕ → List ℕ → Attempt Done
semctl_setall s cred pid id bytes = do
  e ← settable s cred id (numbers_in bytes)
  let set = holding e (with_values e.object (numbers_in bytes) (record { 0 = pid }) s.clock)
  answer (without_adjustments id None (with_semset s id set)) Empty

-- IPC_STAT of semctl(2)
abbrev pub semctl_stat : State → Cred → ℕ → Attempt Done
semctl_stat s cred id = listed s s.semset cred id set_fields

-- IPC_SET of semctl(2)
abbrev pub semctl_set : State → Cred → ℕ → ℕ → ℕ → ℕ → Attempt Done
semctl_set s cred id uid gid mode = do
  e ← owned s.semset cred id
  answer (with_semset s id (holding (permitting e (owned_by e.perm uid gid mode)) (changed e.object s.clock))) Empty

-- IPC_RMID of semctl(2); the adjustments at the set go with it
abbrev pub semctl_rmid : State → Cred → ℕ → Attempt Done
semctl_rmid s cred id = do
  sets ← removed s.semset cred id
  answer (without_adjustments id None (record s { semset = sets })) Empty
