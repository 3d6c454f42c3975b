-- What a request needs of memory, by its kind: it is taken before the call is tried.
use Rattle.std.specs.Prelude.{◌≡◌, Bool, if◌then◌else◌, Option, None, Some}
use Rattle.ipc_wire.specs.Request.{PlainKind, PlainRequest, Posix}
use Rattle.ipc_state.specs.Held.{Ready}
use Rattle.ipc_state.specs.Waiting.{may_wait}
use Rattle.sysv_calls.specs.Needs as sysv
use Rattle.posix_calls.specs.Needs as posix

-- whether a request may need memory
abbrev pub takes_memory : PlainKind → Bool
takes_memory (Posix call) = posix.takes_memory (Posix call)
takes_memory kind = sysv.takes_memory kind

-- what has to be ready for a call, besides what is kept of it
abbrev pub needs : PlainKind → Ready
needs (Posix call) = posix.needs (Posix call)
needs kind = sysv.needs kind

-- what is kept of a request: all of it, if its call may wait
abbrev pub kept_of : PlainRequest → Option PlainRequest
kept_of request = if may_wait request.kind then Some request else None

-- what a request needs is ready, and is kept; nothing of it, if a call of its process waits
pub record IsReserved (waits : Bool) (now : Ready) (request : PlainRequest) (saved : Option PlainRequest) : Type 0 where
  pub ready : now ≡ (if waits then Ready.Nothing else needs request.kind)
  pub kept : saved ≡ (if waits then None else kept_of request)
