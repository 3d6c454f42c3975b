-- The requests of a stream of bytes. A frame is the length of what follows (four bytes, 5 at least), a
-- serial of four bytes that is not 0, an opcode of one byte, and the fields of the opcode's row.
use Rattle.std.specs.Prelude.{◌≤◌, ◌+◌, ◌-◌, ℕ, zero, suc, Bool, true, false, List, [], ◌∷◌, ◌++◌, length, take, drop}
use Rattle.std.specs.Prelude.{slice_index, nat_lt, ◌==◌, ◌||◌, if◌then◌else◌, Option, Some, None}
use Rattle.std.specs.Int.{w32, from_be_bytes}
use Rattle.ipc_wire.specs.declared.request.Frame.{Frame}
use Rattle.ipc_wire.specs.declared.request.Frame.TheVariants as frames
use Rattle.ipc_base.specs.Numbers.{total, values_of}
use Rattle.ipc_wire.specs.Fields.{fits}
use Rattle.ipc_wire.specs.Request.{PlainKind, PlainRequest}
use Rattle.ipc_wire.specs.Sizes.{least_length, greatest_length}
use Rattle.ipc_wire.specs.Table.{Row, row_of}
use Rattle.ipc_wire.specs.View.{plain_request}

-- What stands at the front of a stream: no whole frame yet, a request and how many bytes its frame takes, or
-- a fault, with the serial of the frame or 0.
pub data PlainFrame : Type 0 where
  More : PlainFrame
  Whole : (used : ℕ) → (request : PlainRequest) → PlainFrame
  Fault : (serial : ℕ) → PlainFrame

abbrev pub plain_frame : Frame → PlainFrame
plain_frame frames.More = More
plain_frame (frames.Whole used request) = Whole used (plain_request request)
plain_frame (frames.Fault serial) = Fault serial

-- the n bytes from a place on
abbrev pub part : ℕ → ℕ → List ℕ → List ℕ
part at n bytes = take n (drop at bytes)

-- the number of four bytes at a place
unfoldable pub u32_at : ℕ → List ℕ → ℕ
u32_at at bytes = from_be_bytes w32 (part at 4 bytes)

-- ---- what an opcode and its fields ask

-- whether the bytes have the size that a row wants
abbrev pub fits_row : Row → List ℕ → Bool
fits_row row bytes = fits (total row.fields) row.rest (length bytes)

abbrev pub made_by : Row → List ℕ → Option PlainKind
made_by row bytes =
    if fits_row row bytes then Some (row.make (values_of row.fields bytes) (drop (total row.fields) bytes)) else None

abbrev pub made_by_some : Option Row → List ℕ → Option PlainKind
made_by_some None bytes = None
made_by_some (Some row) bytes = made_by row bytes

-- What a request with this opcode asks, or None where no row has it or the fields have another size.
unfoldable pub kind_of : ℕ → List ℕ → Option PlainKind
kind_of opcode bytes = made_by_some (row_of opcode) bytes

-- ---- frames

abbrev pub request_or_fault : ℕ → ℕ → Option PlainKind → PlainFrame
request_or_fault used serial None = Fault serial
request_or_fault used serial (Some kind) = Whole used (record { serial = serial; kind = kind })

-- the frame of which these bytes stand after the length
unfoldable pub frame_of : List ℕ → PlainFrame
frame_of text =
    if u32_at 0 text == 0 then Fault 0
    else request_or_fault (4 + length text) (u32_at 0 text) (kind_of (slice_index text 4) (drop 5 text))

-- the first frame of a stream
unfoldable pub first : List ℕ → PlainFrame
first bytes =
    let size = u32_at 0 bytes in
    if nat_lt (length bytes) 4 then More
    else if nat_lt size least_length || nat_lt greatest_length size then Fault 0
    else if nat_lt (length bytes) (4 + size) then More
    else frame_of (part 4 size bytes)

abbrev pub is_more : PlainFrame → Bool
is_more More = true
is_more (Whole used request) = false
is_more (Fault serial) = false

-- How many bytes are missing, at least, of a frame that is not whole: those of its length, and then those that the
-- length counts.
unfoldable pub missing : List ℕ → ℕ
missing bytes = if nat_lt (length bytes) 4 then 4 - length bytes else 4 + u32_at 0 bytes - length bytes

-- a request takes at least nine bytes, and no more than there are
abbrev pub TakesBytes : PlainFrame → ℕ → Type 0
TakesBytes More available = Unit {0}
TakesBytes (Whole used request) available = (9 ≤ used) × (used ≤ available)
TakesBytes (Fault serial) available = Unit {0}

-- ---- the whole stream

-- What stands after the last whole request: bytes that are no whole frame yet, or a fault.
pub data Ending : Type 0 where
  Rest : (bytes : List ℕ) → Ending
  Broken : (serial : ℕ) → Ending

pub record Stream : Type 0 where
  pub requests : List PlainRequest
  pub ending : Ending

-- The stream that begins with a frame, where after gives the stream after so many bytes.
abbrev pub begins_with : PlainFrame → List ℕ → (ℕ → Stream) → Stream
begins_with More bytes beyond = record { requests = []; ending = Rest bytes }
begins_with (Fault serial) bytes beyond = record { requests = []; ending = Broken serial }
begins_with (Whole used request) bytes beyond =
    record { requests = request ∷ (beyond used).requests; ending = (beyond used).ending }

-- at most so many requests
unfoldable pub stream_within : ℕ → List ℕ → Stream
stream_within zero bytes = record { requests = []; ending = Rest bytes }
stream_within (suc n) bytes = begins_with (first bytes) bytes (λ used. stream_within n (drop used bytes))

-- The requests of a stream and what stands after them; each request takes bytes, so its length bounds their number.
unfoldable pub stream_of : List ℕ → Stream
stream_of bytes = stream_within (length bytes) bytes

-- The stream when more bytes come: they follow the rest; after a fault nothing is read.
abbrev pub continued : List PlainRequest → Ending → List ℕ → Stream
continued requests (Rest bytes) more =
    record { requests = requests ++ (stream_of (bytes ++ more)).requests; ending = (stream_of (bytes ++ more)).ending }
continued requests (Broken serial) more = record { requests = requests; ending = Broken serial }
