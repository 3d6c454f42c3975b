-- How many registrations a process has (mq_notify(3)): each may bring one frame more. A call that fires one takes it
-- away, and one that makes one answers nothing else.
use Rattle.std.specs.Prelude.{ℕ, Bool, true, false, ◌&&◌, if◌then◌else◌, nat_eq, sum_by, Option}
use Rattle.ipc_wire.specs.declared.reply.Body.TheVariants.{Empty}
use Rattle.ipc_wire.specs.Reply.{PlainBody}
use Rattle.posix_mq.specs.declared.queue.Registration.{Registration}
use Rattle.ipc_state.specs.State.{State}
use Rattle.posix_calls.specs.Mq.{is_own}

-- 1, if it is of the process
abbrev pub own : ℕ → Option Registration → ℕ
own pid r = if is_own pid r then 1 else 0

-- with how many queues the process is registered
abbrev pub registrations : State → ℕ → ℕ
registrations s pid = sum_by (λ e. own pid e.1.object.registration) s.mq.entries

abbrev pub is_empty : PlainBody → Bool
is_empty Empty = true
is_empty body = false

-- how many registrations of a process a call may make that another, or the same, made and that answers this
abbrev pub may_make : ℕ → PlainBody → ℕ → ℕ
may_make pid body p = if nat_eq p pid && is_empty body then 1 else 0
