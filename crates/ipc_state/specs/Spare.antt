-- The buffer in which a call makes the body of its reply: it is handed to the call, and stands in the reply afterwards
-- or is given back.
use Rattle.std.specs.Prelude.{◌≡◌, ◌≤◌, ℕ, max, [], Result, Ok, Err, vec_capacity}
use Rattle.std.specs.Global.{Vec}
use Rattle.ipc_base.specs.declared.errno.Errno.{Errno}
use Rattle.ipc_limits.specs.declared.limits.Limits.{Limits}
use Rattle.ipc_limits.specs.Limits.{longest_body}
use Rattle.ipc_wire.specs.declared.reply.Body.{Body}
use Rattle.ipc_wire.specs.declared.reply.Body.TheVariants.{Record}

-- it is empty, and any body of a reply has room in it
pub record IsSpare (limits : Limits) (buffer : Vec ℕ) : Type 0 where
  pub empty : buffer.items ≡ []
  pub room : longest_body limits ≤ vec_capacity buffer

-- how much room a reply brings in its body
abbrev pub room_of : Body (Vec ℕ) → ℕ
room_of (Record bytes) = vec_capacity bytes
room_of body = 0

abbrev pub room_in : Result (Body (Vec ℕ)) Errno → ℕ
room_in (Ok body) = room_of body
room_in (Err e) = 0

-- the buffer is still there: it was given back, or it stands in the body
abbrev pub KeepsBuffer : Limits → Vec ℕ → Result (Body (Vec ℕ)) Errno → Type 0
KeepsBuffer limits given result = longest_body limits ≤ max (vec_capacity given) (room_in result)
