-- What a System V request may need of memory. It is taken before the call is tried, so that nothing that is answered
-- takes any: neither the call itself, nor one that waited.
use Rattle.std.specs.Prelude.{◌≡◌, ◌^◌, ℕ, ℤ, pos, suc, nat_lt, Bool, true, false, ◌||◌, if◌then◌else◌, Option, None}
use Rattle.std.specs.Prelude.{Some}
use Rattle.ipc_wire.specs.Request.{PlainKind, PlainRequest, Sysv}
use Rattle.ipc_wire.specs.Request as requests
use Rattle.ipc_state.specs.Held.{Held, Ready, zero_bytes}
use Rattle.ipc_state.specs.Held.Ready.{Nothing, MsgQueue, Semset, Shm}
use Rattle.ipc_state.specs.Waiting.{has_text, may_wait}

-- a set of so many semaphores, if one may have as many under any limits: from 1 to 64
abbrev pub semset_place : ℤ → ℤ → Ready
semset_place key (pos (suc n)) = if nat_lt n 64 then Semset key (suc n) else Nothing
semset_place key _ = Nothing

-- a segment of so many bytes, if one may have as many under any limits: from 1 to 2^20
abbrev pub segment_place : ℤ → ℕ → Ready
segment_place key (suc n) = if nat_lt n (2 ^ 20) then Shm key (zero_bytes (suc n)) else Nothing
segment_place key _ = Nothing

-- What is reserved for a request: an object more, where it may make one. What a POSIX request needs, the POSIX calls
-- tell.
abbrev pub needs : PlainKind → Ready
needs (Sysv (requests.Msgget key flags)) = MsgQueue key
needs (Sysv (requests.Semget key nsems flags)) = semset_place key nsems
needs (Sysv (requests.Shmget key size flags)) = segment_place key size
needs _ = Nothing

abbrev pub is_something : Ready → Bool
is_something Nothing = false
is_something _ = true

-- whether a request may need memory: for an object, or for a text or a list of operations that is kept
abbrev pub takes_memory : PlainKind → Bool
takes_memory (Sysv call) = is_something (needs (Sysv call)) || has_text (Sysv call)
takes_memory _ = false

-- whether a request is kept while its call waits: one of System V is, if it may wait
abbrev pub keeps_request : PlainKind → Bool
keeps_request (Sysv call) = may_wait (Sysv call)
keeps_request _ = false

-- what is kept of a request
abbrev pub kept_of : PlainRequest → Option PlainRequest
kept_of request = if keeps_request request.kind then Some request else None

-- what a request needs is there, and all else is as before
pub record IsReserved (before after : Held) (request : PlainRequest) (kept : Option PlainRequest) : Type 0 where
  pub call : kept ≡ kept_of request
  pub held : after ≡ record before { ready = needs request.kind }
