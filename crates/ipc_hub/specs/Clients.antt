-- The server as its clients see it: connections by number over the engine's state, bytes in, frames out. It is
-- what each call of the hub is to do; nothing in it tells how bytes are kept or in what pieces they come. What events,
-- requests and bytes of a connection do is said in Hub.antt; here is what is kept for a client, and what it may see.
use Rattle.std.specs.Prelude.{ℕ, ◌+◌, ◌-◌, Bool, false, true, List, [], ◌∷◌, ◌++◌, length, drop, nat_eq, nat_le}
use Rattle.std.specs.Prelude.{if◌then◌else◌, Option, Some, None, option_and_then}
use Rattle.std.specs.List.{flat_map}
use Rattle.ipc_base.specs.declared.errno.Errno.TheVariants.{EIO}
use Rattle.ipc_limits.specs.declared.limits.Limits.{Limits}
use Rattle.ipc_base.specs.Table.{with_entry, without, seen_as}
use Rattle.ipc_wire.specs.Reply.{reply_bytes}
use Rattle.ipc_wire.specs.Request.{PlainRequest}
use Rattle.ipc_state.specs.State.{State}
use Rattle.ipc_engine.specs.Event.{PlainEvent, Tick, PlainOutcome}
use Rattle.ipc_engine.specs.View.{reply_of}
use Rattle.ipc_hub.specs.Hub.{Endpoint, Hub, accept, leave}
use Rattle.ipc_hub.specs.Hub as hub
pub use Rattle.ipc_hub.specs.Hub.{accepted, client_at, with_client, refusal, fitted}

-- a frame that waits, and how many events were accepted up to its own, that one included
pub record Frame : Type 0 where
  pub mark : ℕ
  pub bytes : List ℕ

pub record Client : Type 0 where
  -- the process that its HELLO gave, also after the server has ended it
  pub joined_as : Option ℕ
  -- its bytes that are no whole frame yet
  pub input : List ℕ
  -- its frames that are not wholly consumed, and how many bytes of the first are
  pub frames : List Frame
  pub consumed : ℕ
  -- the server has ended it: what comes is dropped
  pub ended : Bool

-- a reply is the last of its frames
abbrev pub with_frame : Client → ℕ → PlainOutcome → Client
with_frame c mark o =
    let frame : Frame = record { mark = mark; bytes = reply_bytes (reply_of o) } in
    record c { frames = c.frames ++ frame ∷ [] }

-- its process, once it has said HELLO and until it ends
abbrev pub own_process : Client → Option ℕ
own_process c = if c.ended then None else c.joined_as

-- the server ends it
abbrev pub over : Client → Client
over c = record c { input = []; ended = true }

-- what a hub does with a client
abbrev pub client_endpoint : Endpoint Client
client_endpoint = record {
  process = own_process;
  input = λ c. c.input;
  ended = λ c. c.ended;
  joined = λ c pid. record c { joined_as = Some pid };
  keeping = λ c bytes. record c { input = bytes };
  over = over;
  push = with_frame;
}

-- the server: the state, the events that were accepted, and the clients by number
abbrev pub Clients : Type 0
Clients = Hub Client

-- a client that has just come
abbrev pub start_client : Client
start_client = record { joined_as = None; input = []; frames = []; consumed = 0; ended = false }

-- no connection, over a state that is there after these events
abbrev pub no_clients : State → List PlainEvent → Clients
no_clients s events = record { state = s; events = events; clients = [] }

abbrev pub process_at : Clients → ℕ → Option ℕ
process_at h conn = option_and_then own_process (client_at h conn)

-- ---- the calls

abbrev pub connect : Clients → ℕ → Clients
connect h conn = record h { clients = with_entry h.clients conn start_client }

abbrev pub tick : Limits → Clients → ℕ → Clients
tick limits h moment = accept client_endpoint limits h (Tick moment)

-- Bytes of a connection: each request that they complete is answered, where the last list says of each whether memory
-- was refused; what is after the requests is kept, or is a fault.
abbrev pub take_in : Limits → Clients → ℕ → List ℕ → ℕ → List Bool → Clients
take_in = hub.take_in client_endpoint

-- the requests that bytes complete on a connection
abbrev pub arriving : Option Client → List ℕ → List PlainRequest
arriving = hub.arriving client_endpoint

-- bytes of a connection at a moment: time passes, and then they are taken in
abbrev pub feed : Limits → Clients → ℕ → List ℕ → ℕ → List Bool → Clients
feed limits h conn bytes moment refused = take_in limits (tick limits h moment) conn bytes moment refused

-- the client is gone: time passes, its number is free, and its process leaves
abbrev pub hangup : Limits → Clients → ℕ → ℕ → Clients
hangup limits h conn moment =
    let now = tick limits h moment in
    leave client_endpoint limits (record now { clients = without nat_eq now.clients conn }) (process_at now conn) moment

-- the frames and how much of the first is consumed, when so many bytes of them are
abbrev pub consumed_from : List Frame → ℕ → List Frame × ℕ
consumed_from [] n = ([], 0)
consumed_from (f ∷ fs) n = if nat_le (length f.bytes) n then consumed_from fs (n - length f.bytes) else (f ∷ fs, n)

abbrev pub consume : Clients → ℕ → ℕ → Clients
consume h conn n = taken (client_at h conn)
  where
    taken : Option Client → Clients
    taken None = h
    taken (Some c) =
        let rest = consumed_from c.frames (c.consumed + n) in
        with_client h conn (record c { frames = rest.0; consumed = rest.1 })

-- the bytes of frames up to the first whose mark is above what is confirmed
abbrev pub confirmed_bytes : ℕ → List Frame → List ℕ
confirmed_bytes confirmed [] = []
confirmed_bytes confirmed (f ∷ fs) = if nat_le f.mark confirmed then f.bytes ++ confirmed_bytes confirmed fs else []

-- the bytes of all frames
abbrev pub all_bytes : List Frame → List ℕ
all_bytes frames = flat_map (λ f. f.bytes) frames

-- the bytes that a client may see when so many events are confirmed
abbrev pub shown : ℕ → Client → List ℕ
shown confirmed c = drop c.consumed (confirmed_bytes confirmed c.frames)

abbrev pub shown_at : ℕ → Clients → ℕ → List ℕ
shown_at confirmed h conn = of_client (client_at h conn)
  where
    of_client : Option Client → List ℕ
    of_client None = []
    of_client (Some c) = shown confirmed c

-- the frames up to the first whose mark is above what is confirmed
abbrev pub confirmed_frames : ℕ → List Frame → List Frame
confirmed_frames confirmed [] = []
confirmed_frames confirmed (f ∷ fs) = if nat_le f.mark confirmed then f ∷ confirmed_frames confirmed fs else []

-- The disk has failed, or its epochs are at their end. The frames that are confirmed stay, the others are dropped, and
-- an EIO frame is the last of each connection, which has ended.
abbrev pub cut_off : ℕ → Client → Client
cut_off confirmed c =
    with_frame (record (over c) { frames = confirmed_frames confirmed c.frames }) confirmed (refusal 0 EIO)

abbrev pub fail : ℕ → Clients → Clients
fail confirmed h = record h { clients = seen_as (cut_off confirmed) h.clients }

-- whether the server has ended a connection; not so where none has the number
abbrev pub ended_at : Clients → ℕ → Bool
ended_at h conn = of_client (client_at h conn)
  where
    of_client : Option Client → Bool
    of_client None = false
    of_client (Some c) = c.ended
