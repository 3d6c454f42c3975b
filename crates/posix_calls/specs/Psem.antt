-- The calls of named semaphores (sem_overview(7)), in this server's profile. Refusals stand in the order in which they
-- are tested. A wait that cannot go on waits, and is tried again by all rules of a new one.
use Rattle.std.specs.Prelude.{ℕ, ◌==◌, nat_lt, List, Ok}
use Rattle.ipc_base.specs.declared.errno.Errno.TheVariants.{EINVAL, EMFILE, ENOSPC}
use Rattle.ipc_base.specs.declared.identity.Cred.{Cred}
use Rattle.ipc_limits.specs.declared.limits.Limits.{Limits}
use Rattle.ipc_keys.specs.declared.check.NameKind.TheVariants as names
use Rattle.ipc_wire.specs.declared.reply.Body.TheVariants.{Empty, Number}
use Rattle.posix_sem.specs.Semaphore.{sem_value_max, post_answer, posted, wait_answer, waited}
use Rattle.ipc_state.specs.Opening.{opened_as}
use Rattle.ipc_state.specs.State.{State, has_all_descriptors, has_all_psems, with_psem, with_new_psem}
use Rattle.ipc_state.specs.Touching.{psem_value}
use Rattle.ipc_state.specs.Finish.{Attempt, Done, Blocks, answer, refuse, stop, if_some, ◌orelse◌, ◌>>◌, ◌>>=◌}
use Rattle.posix_calls.specs.declared.psem.FoundPsem.{FoundPsem}
use Rattle.posix_calls.specs.Open.{number_in, described_or, opens, passed, proper, sought, usable}

-- the semaphore on which a descriptor of the process is open
abbrev pub open_semaphore : State → ℕ → ℕ → Attempt FoundPsem
open_semaphore s pid fd = do
  d ← described_or EINVAL s pid fd
  n ← number_in names.Psem d.on orelse EINVAL
  value ← psem_value s n orelse EINVAL
  Ok (record { number = n; value = value })

-- ---- sem_open(3)

-- the semaphore that the name names, for a caller that may read and write it
abbrev pub opened_semaphore : State → Cred → ℕ → ℕ → Attempt Done
opened_semaphore s cred pid n = do
  e ← usable s.psem cred n 6
  opens s pid 0 (opened_as names.Psem n)

-- a new semaphore of the caller
abbrev pub made_semaphore : Limits → State → Cred → ℕ → ℕ → ℕ → List ℕ → Attempt Done
made_semaphore limits s cred pid mode value name = do
  refuse EINVAL (nat_lt sem_value_max value)
  refuse ENOSPC (has_all_psems limits s)
  opens (with_new_psem s name cred mode value) pid 0 (opened_as names.Psem s.psem.next)

-- sem_open(3): the semaphore that the name names, or a new one
abbrev pub sem_open : Limits → State → Cred → ℕ → ℕ → ℕ → ℕ → List ℕ → Attempt Done
sem_open limits s cred pid flags mode value name = do
  proper names.Psem name
  refuse EMFILE (has_all_descriptors limits s pid)
  found ← sought s.psem name flags
  if_some found (opened_semaphore s cred pid) (made_semaphore limits s cred pid mode value name)

-- ---- sem_post(3), sem_wait(3), sem_trywait(3), sem_getvalue(3)

abbrev pub sem_post : State → ℕ → ℕ → Attempt Done
sem_post s pid fd = do
  found ← open_semaphore s pid fd
  passed (post_answer found.value)
  answer (with_psem s found.number (posted found.value)) Empty

-- the semaphore that may be lowered now
abbrev pub lowerable : State → ℕ → ℕ → Attempt FoundPsem
lowerable s pid fd = do
  found ← open_semaphore s pid fd
  stop Blocks (found.value == 0)
  Ok found

abbrev pub sem_wait : State → ℕ → ℕ → Attempt Done
sem_wait s pid fd = do
  found ← lowerable s pid fd
  answer (with_psem s found.number (waited found.value)) Empty

abbrev pub sem_trywait : State → ℕ → ℕ → Attempt Done
sem_trywait s pid fd = do
  found ← open_semaphore s pid fd
  passed (wait_answer found.value)
  answer (with_psem s found.number (waited found.value)) Empty

abbrev pub sem_getvalue : State → ℕ → ℕ → Attempt Done
sem_getvalue s pid fd = do
  found ← open_semaphore s pid fd
  answer s (Number found.value)
