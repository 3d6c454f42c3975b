-- Replies put into the outboxes of their processes.
use Rattle.std.specs.Prelude.{◌≡◌, ℕ, ◌+◌, ◌-◌, ◌<◌, ◌≤◌, ◌^◌, true, false}
use Rattle.std.specs.Prelude.{List, [], ◌∷◌, ◌++◌, length, drop}
use Rattle.std.specs.Prelude.{Option, Some, None, IfSome, nat_eq}
use Rattle.ipc_base.specs.declared.errno.Errno.TheVariants.{EIO}
use Rattle.ipc_base.specs.Table.{value_at, seen_as, EachValue}
use Rattle.ipc_limits.specs.declared.limits.Limits.{Limits}
use Rattle.ipc_wire.specs.Reply.{PlainReply, reply_bytes, body_bytes}
use Rattle.ipc_state.specs.State.{State}
use Rattle.ipc_engine.specs.Bytes.{owed, unanswered}
use Rattle.ipc_engine.specs.Event.{PlainOutcome}
use Rattle.ipc_engine.specs.View.{reply_of}
use Rattle.ipc_hub.specs.Hub.{Endpoint, delivered, deliver_all, heard, is_for, last_reply, refusal, welcomed}
use Rattle.ipc_hub.specs.View.{Outgoing, ConnectionView, HubView, kept}
use Rattle.ipc_hub.specs.Relations.Rows.{Table, changed, process_in}

-- the bytes of a frame without a body, such as the last one of a connection that the server ends
abbrev pub last_frame : ℕ
last_frame = 10

-- the bytes of the two frames that may be the last of a connection: EPROTO when the server ends it, and EIO when the
-- disk fails
abbrev pub last_frames : ℕ
last_frames = 20

-- an outbox with a frame more
abbrev pub with_bytes : Outgoing → List ℕ → Outgoing
with_bytes o bytes = record { visible = o.visible; waiting = o.waiting ++ bytes; free = o.free - length bytes }

-- an outbox of which all is seen, and one of which so many bytes that were seen are taken
abbrev pub all_seen : Outgoing → Outgoing
all_seen o = record { visible = kept o; waiting = []; free = o.free }

abbrev pub less : ℕ → Outgoing → Outgoing
less count o = record { visible = drop count o.visible; waiting = o.waiting; free = o.free + count }

-- an outbox of which what waits is dropped
abbrev pub retracted : Outgoing → Outgoing
retracted o = record { visible = o.visible; waiting = []; free = o.free + length o.waiting }

-- a connection of which all that waits was let out
abbrev pub released : ConnectionView → ConnectionView
released c = record c { outbox = all_seen c.outbox }

abbrev pub consumed : ℕ → ConnectionView → ConnectionView
consumed count c = record c { outbox = less count c.outbox }

-- a connection with a reply more
abbrev pub pushed : PlainReply → ConnectionView → ConnectionView
pushed r c = record c { outbox = with_bytes c.outbox (reply_bytes r) }

-- a connection that is over
abbrev pub closed : ConnectionView → ConnectionView
closed c = record c { process = None; input = []; ended = true }

-- what a hub does with a connection: a frame is put after those that it keeps, whatever event it belongs to
abbrev pub view_endpoint : Endpoint ConnectionView
view_endpoint = record {
  process = λ c. c.process;
  input = λ c. c.input;
  ended = λ c. c.ended;
  joined = λ c pid. record c { process = Some pid };
  keeping = λ c bytes. record c { input = bytes };
  over = closed;
  push = λ c mark o. pushed (reply_of o) c;
}

-- a connection when the disk has failed
abbrev pub failed : ConnectionView → ConnectionView
failed c =
    released (pushed (reply_of (refusal 0 EIO)) (record (closed c) { outbox = retracted c.outbox }))

-- a reply, if it is for the process of the connection
abbrev pub put_for : PlainOutcome → ConnectionView → ConnectionView
put_for = delivered view_endpoint 0

-- a connection that has heard the replies of an event
abbrev pub hears : List PlainOutcome → ConnectionView → ConnectionView
hears = heard view_endpoint 0

abbrev pub put_all : List PlainOutcome → Table → Table
put_all os table = deliver_all view_endpoint 0 table os

-- a connection that has been told the reply to its request
abbrev pub answered : Option PlainOutcome → ConnectionView → ConnectionView
answered = welcomed view_endpoint 0

-- an EIO frame has room
abbrev pub HasSpare : ConnectionView → Type 0
HasSpare c = last_frame ≤ c.outbox.free

-- a reply is not too long for its length field
abbrev pub IsShort : PlainOutcome → Type 0
IsShort o = 6 + length (body_bytes o.body) < 2 ^ 32

-- a reply has room in the outbox, and the last frames after it
abbrev pub HasSpace : PlainOutcome → ConnectionView → Type 0
HasSpace o c = length (reply_bytes (reply_of o)) + last_frames ≤ c.outbox.free

-- a reply has room in the outbox of its process
abbrev pub HasSpaceIn : PlainOutcome → ConnectionView → Type 0
HasSpaceIn o c = is_for o.pid c.process ≡ true → HasSpace o c

-- replies have room, one after the other, each in the outbox of its process, and none is too long for its length field
abbrev pub HaveSpace : List PlainOutcome → Table → Type 0
HaveSpace [] table = Unit {0}
HaveSpace (o ∷ os) table = IsShort o × EachValue (HasSpaceIn o) table × HaveSpace os (seen_as (put_for o) table)

-- the reply to a HELLO has room in the connection that said it
abbrev pub HasSpaceToGreet : Option PlainOutcome → ConnectionView → Type 0
HasSpaceToGreet None c = Unit {0}
HasSpaceToGreet (Some o) c = IsShort o × HasSpace o c

-- the table in which a connection has been told the reply to its request
abbrev pub with_answer : List PlainOutcome → ℕ → Table → Table
with_answer os conn table = changed (answered (last_reply os)) conn table

-- the replies to the request of a connection, and the others of its event, have room
pub record HasSpaceToAnswer (os : List PlainOutcome) (conn : ℕ) (table : Table) : Type 0 where
  pub own : IfSome (value_at nat_eq table conn) (λ c. c.process ≡ None → HasSpaceToGreet (last_reply os) c)
  pub all : HaveSpace os (with_answer os conn table)

-- how many bytes of frames a process, if there is one, is owed
abbrev pub owed_to : Limits → State → Option ℕ → ℕ
owed_to limits s None = 0
owed_to limits s (Some pid) = owed limits s pid

-- how many requests of a process, if there is one, are not answered yet
abbrev pub unanswered_of : State → Option ℕ → ℕ
unanswered_of s None = 0
unanswered_of s (Some pid) = unanswered s pid

-- how many requests of the process of a connection are not answered yet
abbrev pub unanswered_at : HubView → ℕ → ℕ
unanswered_at h conn = unanswered_of h.state (process_in h.connections conn)

-- in a connection that goes on, what its process is owed has room, and after it a reply of so many bytes and the last
-- frames
abbrev pub HasSpaceAt : HubView → ℕ → Option ConnectionView → Type 0
HasSpaceAt h reply r =
    IfSome r (λ c. c.ended ≡ false → owed_to h.limits h.state c.process + reply + last_frames ≤ c.outbox.free)

abbrev pub HasSpaceFor : HubView → ℕ → ℕ → Type 0
HasSpaceFor h reply conn = HasSpaceAt h reply (value_at nat_eq h.connections conn)
