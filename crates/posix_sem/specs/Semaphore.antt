-- Named semaphores, after sem_overview(7). A semaphore is a counter that never falls below 0. A post raises it by one,
-- up to the greatest value; a wait lowers it by one, and at 0 has to wait.
use Rattle.std.specs.Prelude.{ℕ, ◌+◌, ◌-◌, ◌==◌, if◌then◌else◌, Result, Ok, Err}
use Rattle.ipc_base.specs.declared.errno.Errno.{Errno}
use Rattle.ipc_base.specs.declared.errno.Errno.TheVariants.{EAGAIN, EOVERFLOW}

-- the greatest value, SEM_VALUE_MAX of limits.h
abbrev pub sem_value_max : ℕ
sem_value_max = 2147483647

-- what a post at a value answers
abbrev pub post_answer : ℕ → Result (Unit {0}) Errno
post_answer value = if value == sem_value_max then Err EOVERFLOW else Ok tt

-- the value after a post
abbrev pub posted : ℕ → ℕ
posted value = if value == sem_value_max then value else value + 1

-- what a wait that is not to block answers at a value, as sem_trywait(3) does
abbrev pub wait_answer : ℕ → Result (Unit {0}) Errno
wait_answer value = if value == 0 then Err EAGAIN else Ok tt

-- the value after such a wait
abbrev pub waited : ℕ → ℕ
waited value = value - 1
