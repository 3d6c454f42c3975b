-- What a hub does, whatever it keeps of a connection: events over the engine's state, the requests that bytes make, and
-- the replies. How an endpoint keeps its frames is left open here: a client keeps them one by one (Clients.antt), and
-- the code their bytes.
use Rattle.std.specs.Prelude.{ℕ, zero, suc, ◌==◌, Bool, false, ◌&&◌, List, [], ◌∷◌, ◌++◌, length, drop}
use Rattle.std.specs.Prelude.{nat_eq, if◌then◌else◌, Option, Some, None}
use Rattle.ipc_base.specs.declared.errno.Errno.TheVariants.{ENOMEM, EPROTO}
use Rattle.ipc_base.specs.declared.errno.Errno.{Errno}
use Rattle.ipc_limits.specs.declared.limits.Limits.{Limits}
use Rattle.ipc_base.specs.Table.{value_at, with_value, seen_as}
use Rattle.ipc_wire.specs.Request.{PlainKind, PlainRequest, Hello, Interrupt as Interrupts}
use Rattle.ipc_wire.specs.declared.reply.Body.TheVariants.{Empty}
use Rattle.ipc_wire.specs.Stream.{Ending, Stream, stream_of}
use Rattle.ipc_wire.specs.Stream.Ending.{Rest, Broken}
use Rattle.ipc_state.specs.State.{State}
use Rattle.ipc_engine.specs.Engine.{event_takes_memory}
use Rattle.ipc_engine.specs.Event.{PlainEvent, Connect, Call, Interrupt, Exit, PlainOutcome}
use Rattle.ipc_engine.specs.Step.{step}

-- what is kept of a connection, and what is done to it
pub record Endpoint (E : Type 0) : Type 0 where
  -- its process, once it has said HELLO and until it ends
  pub process : E → Option ℕ
  -- its bytes that are no whole frame yet
  pub input : E → List ℕ
  -- the server has ended it: what comes is dropped
  pub ended : E → Bool
  -- it has a process; it keeps other bytes; it is over, without a process or bytes
  pub joined : E → ℕ → E
  pub keeping : E → List ℕ → E
  pub over : E → E
  -- it has a frame more, with how many events were accepted up to the frame's own
  pub push : E → ℕ → PlainOutcome → E

pub record Hub (E : Type 0) : Type 0 where
  pub state : State
  -- the events that were accepted since the store was opened, the restart first
  pub events : List PlainEvent
  -- the connections, by number
  pub clients : List (ℕ × E)

-- how many events were accepted
abbrev pub accepted : {E : Type 0} → Hub E → ℕ
accepted h = length h.events

-- what is kept of the connection that has the number
abbrev pub client_at : {E : Type 0} → Hub E → ℕ → Option E
client_at h conn = value_at nat_eq h.clients conn

abbrev pub with_client : {E : Type 0} → Hub E → ℕ → E → Hub E
with_client h conn c = record h { clients = with_value nat_eq h.clients conn c }

-- ---- replies and requests

abbrev pub refusal : ℕ → Errno → PlainOutcome
refusal serial e = record { pid = 0; serial = serial; errno = Some e; body = Empty }

abbrev pub is_for : ℕ → Option ℕ → Bool
is_for pid None = false
is_for pid (Some process) = process == pid

-- the reply to a request is the last one of its event
abbrev pub last_reply : List PlainOutcome → Option PlainOutcome
last_reply [] = None
last_reply (o ∷ []) = Some o
last_reply (o ∷ p ∷ os) = last_reply (p ∷ os)

-- the event that a request of a process, or of none, makes: a HELLO asks for a process; an INTERRUPT and a call need
-- one
abbrev pub event_of : Option ℕ → PlainRequest → ℕ → Option PlainEvent
event_of process request moment = by_kind process request.kind
  where
    by_kind : Option ℕ → PlainKind → Option PlainEvent
    by_kind None (Hello cred) = Some (Connect cred request.serial moment)
    by_kind None kind = None
    by_kind (Some pid) (Hello cred) = None
    by_kind (Some pid) Interrupts = Some (Interrupt pid request.serial moment)
    by_kind (Some pid) kind = Some (Call pid request moment)

-- the first of a list of answers, or no if it has none
abbrev pub first_of : List Bool → Bool
first_of [] = false
first_of (b ∷ bs) = b

-- so many answers: those of a list, and `false` after its end
abbrev pub fitted : ℕ → List Bool → List Bool
fitted zero bs = []
fitted (suc n) bs = first_of bs ∷ fitted n (drop 1 bs)

module _ {E : Type 0} (kind : Endpoint E) where
  -- ---- events

  -- a reply goes to the connection of its process; if there is none it is dropped
  abbrev pub delivered : ℕ → PlainOutcome → E → E
  delivered mark o c = if is_for o.pid (kind.process c) then kind.push c mark o else c

  -- the replies of an event reach a connection one after the other
  abbrev pub heard : ℕ → List PlainOutcome → E → E
  heard mark [] c = c
  heard mark (o ∷ os) c = heard mark os (delivered mark o c)

  abbrev pub deliver_all : ℕ → List (ℕ × E) → List PlainOutcome → List (ℕ × E)
  deliver_all mark clients os = seen_as (heard mark os) clients

  -- an event: the step, and its replies to the connections of their processes
  abbrev pub accept : Limits → Hub E → PlainEvent → Hub E
  accept limits h e =
      let now = step limits h.state e in
      let events = h.events ++ e ∷ [] in
      record { state = now.state; events = events; clients = deliver_all (length events) h.clients now.outcomes }

  -- the process of a connection that is over leaves, if it had one
  abbrev pub leave : Limits → Hub E → Option ℕ → ℕ → Hub E
  leave limits h None moment = h
  leave limits h (Some pid) moment = accept limits h (Exit pid moment)

  -- a fault of the frames: the process leaves, and an EPROTO frame is the last of the connection
  abbrev pub break_off : Limits → Hub E → ℕ → E → ℕ → ℕ → Hub E
  break_off limits h conn c serial moment =
      let left = leave limits (with_client h conn (kind.over c)) (kind.process c) moment in
      with_client left conn (kind.push (kind.over c) (accepted left) (refusal serial EPROTO))

  -- a request that was refused for memory is no event
  abbrev pub refuse : Hub E → ℕ → E → ℕ → Hub E
  refuse h conn c serial = with_client h conn (kind.push c (accepted h) (refusal serial ENOMEM))

  -- the connection that has said HELLO: it has the process that the reply names, or gets the reply that names none
  abbrev pub greeted : ℕ → Option PlainOutcome → E → E
  greeted mark None c = c
  greeted mark (Some o) c = if o.pid == 0 then kind.push c mark o else kind.joined c o.pid

  -- the connection of a request is told the reply, by its process: one that has none has said HELLO
  abbrev pub told : ℕ → Option ℕ → Option PlainOutcome → E → E
  told mark None reply c = greeted mark reply c
  told mark (Some pid) reply c = c

  abbrev pub welcomed : ℕ → Option PlainOutcome → E → E
  welcomed mark reply c = told mark (kind.process c) reply c

  -- the event of a connection: it is accepted, and a HELLO is answered to the connection that said it
  abbrev pub serve : Limits → Hub E → ℕ → E → PlainEvent → Hub E
  serve limits h conn c e =
      let reply = last_reply (step limits h.state e).outcomes in
      accept limits (with_client h conn (welcomed (length (h.events ++ e ∷ [])) reply c)) e

  -- ---- requests

  -- A request with this serial, by the event that it makes. If it makes none, it has no place here. Refused says
  -- whether memory was refused, which only an event that may need some can meet.
  abbrev pub on_event : Limits → Hub E → ℕ → E → ℕ → ℕ → Bool → Option PlainEvent → Hub E
  on_event limits h conn c serial moment refused None = break_off limits h conn c serial moment
  on_event limits h conn c serial moment refused (Some e) =
      if refused && event_takes_memory limits h.state e then refuse h conn c serial else serve limits h conn c e

  abbrev pub on_request : Limits → Hub E → ℕ → E → ℕ → PlainRequest → Bool → Hub E
  on_request limits h conn c moment request refused =
      on_event limits h conn c request.serial moment refused (event_of (kind.process c) request moment)

  -- what a connection does, unless it has ended or there is none
  abbrev pub acted : Hub E → (E → Hub E) → Option E → Hub E
  acted h act None = h
  acted h act (Some c) = if kind.ended c then h else act c

  abbrev pub unless_ended : Hub E → ℕ → (E → Hub E) → Hub E
  unless_ended h conn act = acted h act (client_at h conn)

  -- requests one after the other, where refused says of each whether memory was refused
  abbrev pub on_requests : Limits → Hub E → ℕ → ℕ → List PlainRequest → List Bool → Hub E
  on_requests limits h conn moment [] refused = h
  on_requests limits h conn moment (r ∷ rs) refused =
      let now = unless_ended h conn (λ c. on_request limits h conn c moment r (first_of refused)) in
      on_requests limits now conn moment rs (drop 1 refused)

  -- what stands after the requests: the beginning of another, or a fault
  abbrev pub on_ending : Limits → Hub E → ℕ → ℕ → Ending → Hub E
  on_ending limits h conn moment (Rest bytes) =
      unless_ended h conn (λ c. with_client h conn (kind.keeping c bytes))
  on_ending limits h conn moment (Broken serial) =
      unless_ended h conn (λ c. break_off limits h conn c serial moment)

  -- each request of a stream is answered; what is after the requests is kept, or is a fault
  abbrev pub on_stream : Limits → Hub E → ℕ → ℕ → Stream → List Bool → Hub E
  on_stream limits h conn moment s refused =
      on_ending limits (on_requests limits h conn moment s.requests refused) conn moment s.ending

  -- bytes of a connection: with those that were no whole frame yet they are a stream
  abbrev pub take_in : Limits → Hub E → ℕ → List ℕ → ℕ → List Bool → Hub E
  take_in limits h conn bytes moment refused =
      unless_ended h conn (λ c.
      on_stream limits (with_client h conn (kind.keeping c [])) conn moment (stream_of (kind.input c ++ bytes)) refused)

  -- the requests that bytes complete on a connection
  abbrev pub arriving : Option E → List ℕ → List PlainRequest
  arriving None bytes = []
  arriving (Some c) bytes = if kind.ended c then [] else (stream_of (kind.input c ++ bytes)).requests
