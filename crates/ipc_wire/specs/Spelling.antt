-- The bytes of a request: the one spelling of it.
use Rattle.std.specs.Prelude.{◌≤◌, ◌<◌, ◌+◌, ◌^◌, ℕ, List, ◌∷◌, ◌++◌, length}
use Rattle.std.specs.Int.{w32, to_be_bytes}
use Rattle.ipc_base.specs.Numbers.{AreInRange, values_bytes}
use Rattle.ipc_wire.specs.Fields.{MayHave}
use Rattle.ipc_wire.specs.Request.{PlainKind, PlainRequest}
use Rattle.ipc_wire.specs.Sizes.{greatest_fields}
use Rattle.ipc_wire.specs.Table.{Parts, parts_of}

-- the fields, and the rest after them
abbrev pub spelled : Parts → List ℕ
spelled p = values_bytes p.row.fields p.values ++ p.rest

abbrev pub opcode_of : PlainKind → ℕ
opcode_of kind = (parts_of kind).row.opcode

abbrev pub fields_of : PlainKind → List ℕ
fields_of kind = spelled (parts_of kind)

-- the serial, the opcode and the fields: a frame without its length
abbrev pub request_bytes : PlainRequest → List ℕ
request_bytes r = to_be_bytes w32 r.serial ++ opcode_of r.kind ∷ fields_of r.kind

-- the frame: these bytes after their length
unfoldable pub frame : PlainRequest → List ℕ
frame r = to_be_bytes w32 (5 + length (fields_of r.kind)) ++ request_bytes r

-- the requests that have a frame: each number is in the range of its field, the rest is in whole units, and both are
-- not too long
pub record HasFrame (r : PlainRequest) : Type 0 where
  pub serial : (1 ≤ r.serial) × (r.serial < 2 ^ 32)
  pub fields : AreInRange (parts_of r.kind).row.fields (parts_of r.kind).values
  pub rest : MayHave (parts_of r.kind).row.rest (length (parts_of r.kind).rest)
  pub short : length (fields_of r.kind) ≤ greatest_fields
