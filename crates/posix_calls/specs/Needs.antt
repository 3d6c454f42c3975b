-- What a POSIX request may need of memory. It is taken before the call is tried, so that nothing that is answered takes
-- any: neither the call itself, nor one that waited.
use Rattle.std.specs.Prelude.{◌≡◌, ◌^◌, ℕ, Bool, true, false, if◌then◌else◌, nat_le, Option, Some, None}
use Rattle.ipc_wire.specs.Posix as posix
use Rattle.ipc_wire.specs.Request.{PlainKind, PlainRequest, Posix}
use Rattle.shm_segment.specs.Segment.{empty_segment, truncated}
use Rattle.ipc_state.specs.Held.{Held, Ready}
use Rattle.ipc_state.specs.Held.Ready.{Nothing, Mq, Psem, Pshm, Zeros}
use Rattle.ipc_state.specs.Waiting.{may_wait}

-- segments have together no more bytes than this, under any limits
abbrev pub most_segment_bytes : ℕ
most_segment_bytes = 2 ^ 20

-- zeros for a segment of this length, if it may be so long
abbrev pub zeros_of : ℕ → Ready
zeros_of len = if nat_le len most_segment_bytes then Zeros (truncated len empty_segment) else Nothing

-- what is reserved for a request: one that the table does not name needs nothing here
abbrev pub needs : PlainKind → Ready
needs (Posix (posix.MqOpen flags mode attr maxmsg msgsize name)) = Mq name
needs (Posix (posix.SemOpen flags mode value name)) = Psem name
needs (Posix (posix.ShmOpen flags mode name)) = Pshm name
needs (Posix (posix.Ftruncate fd len)) = zeros_of len
needs _ = Nothing

-- whether a request may need memory: for what is reserved, or for a text
abbrev pub takes_memory : PlainKind → Bool
takes_memory (Posix (posix.MqOpen flags mode attr maxmsg msgsize name)) = true
takes_memory (Posix (posix.MqSend fd deadline priority text)) = true
takes_memory (Posix (posix.SemOpen flags mode value name)) = true
takes_memory (Posix (posix.ShmOpen flags mode name)) = true
takes_memory (Posix (posix.Ftruncate fd len)) = true
takes_memory _ = false

-- whether a request is kept while its call waits: a POSIX one is, if it may wait
abbrev pub keeps_request : PlainKind → Bool
keeps_request (Posix call) = may_wait (Posix call)
keeps_request _ = false

-- what is kept of a request
abbrev pub kept_of : PlainRequest → Option PlainRequest
kept_of request = if keeps_request request.kind then Some request else None

-- what a request needs is there, and all else is as before
pub record IsReserved (before after : Held) (request : PlainRequest) (kept : Option PlainRequest) : Type 0 where
  pub call : kept ≡ kept_of request
  pub held : after ≡ record before { ready = needs request.kind }
