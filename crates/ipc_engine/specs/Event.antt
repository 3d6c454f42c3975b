-- What happens to the server, and the frames that it answers.
use Rattle.std.specs.Prelude.{ℕ, Option}
use Rattle.ipc_base.specs.declared.errno.Errno.{Errno}
use Rattle.ipc_base.specs.declared.identity.Cred.{Cred}
use Rattle.ipc_wire.specs.Request.{PlainRequest}
use Rattle.ipc_wire.specs.Reply.{PlainBody}

-- each at a moment, but a restart, which has none
pub data PlainEvent : Type 0 where
  -- a HELLO, which asks for a process
  Connect : (cred : Cred) → (serial moment : ℕ) → PlainEvent
  -- a request of a process
  Call : (pid : ℕ) → (request : PlainRequest) → (moment : ℕ) → PlainEvent
  -- an INTERRUPT: the process waits no longer
  Interrupt : (pid serial moment : ℕ) → PlainEvent
  -- time passes
  Tick : (moment : ℕ) → PlainEvent
  -- the process is gone
  Exit : (pid moment : ℕ) → PlainEvent
  -- the server has stopped and begun anew
  Restart : PlainEvent

-- when it happens; 0 for a restart
abbrev pub moment_of : PlainEvent → ℕ
moment_of (Connect cred serial moment) = moment
moment_of (Call pid request moment) = moment
moment_of (Interrupt pid serial moment) = moment
moment_of (Tick moment) = moment
moment_of (Exit pid moment) = moment
moment_of Restart = 0

-- a reply: to which process (0 where the HELLO got none), to which request, the error or none, the body
pub record PlainOutcome : Type 0 where
  pub pid : ℕ
  pub serial : ℕ
  pub errno : Option Errno
  pub body : PlainBody
