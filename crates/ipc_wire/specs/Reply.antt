-- Replies as plain values, and the bytes of one: the length of what follows (four bytes), the serial (four),
-- the error number (two, 0 for success) and the body.
use Rattle.std.specs.Prelude.{ℕ, ◌+◌, List, [], ◌++◌, length, Option, Some, None}
use Rattle.std.specs.Borrow.{Bor}
use Rattle.std.specs.Int.{w16, w32, w64, to_be_bytes}
use Rattle.ipc_base.specs.declared.errno.Errno.{Errno}
use Rattle.ipc_base.specs.Errno.{number_of}
use Rattle.ipc_base.specs.Fields.{signed_bytes}
use Rattle.ipc_wire.specs.declared.reply.Body.{Body}
use Rattle.ipc_wire.specs.declared.reply.Body.TheVariants.{Empty, Number, Message, MqMessage, Notification, Record}
use Rattle.ipc_wire.specs.declared.reply.Reply.{Reply}

-- a body whose bytes are a list
abbrev pub PlainBody : Type 0
PlainBody = Body (List ℕ)

pub record PlainReply : Type 0 where
  pub serial : ℕ
  pub errno : Option Errno
  pub body : PlainBody

-- a body, if it is told what the bytes are
abbrev pub body_of : {T : Type 0} → (T → List ℕ) → Body T → PlainBody
body_of bytes Empty = Empty
body_of bytes (Number number) = Number number
body_of bytes (Message mtype text) = Message mtype (bytes text)
body_of bytes (MqMessage priority text) = MqMessage priority (bytes text)
body_of bytes (Notification fd cookie) = Notification fd cookie
body_of bytes (Record fields) = Record (bytes fields)

abbrev pub plain_body : Body (Bor (List ℕ)) → PlainBody
plain_body body = body_of (λ bytes. bytes.now) body

abbrev pub plain_reply : Reply → PlainReply
plain_reply r = record { serial = r.serial; errno = r.errno; body = plain_body r.body }

abbrev pub error_number : Option Errno → ℕ
error_number None = 0
error_number (Some e) = number_of e

abbrev pub body_bytes : PlainBody → List ℕ
body_bytes Empty = []
body_bytes (Number number) = to_be_bytes w32 number
body_bytes (Message mtype text) = signed_bytes w64 mtype ++ text
body_bytes (MqMessage priority text) = to_be_bytes w32 priority ++ text
body_bytes (Notification fd cookie) = to_be_bytes w32 fd ++ to_be_bytes w32 cookie
body_bytes (Record bytes) = bytes

unfoldable pub reply_bytes : PlainReply → List ℕ
reply_bytes r =
    to_be_bytes w32 (6 + length (body_bytes r.body))
    ++ to_be_bytes w32 r.serial
    ++ to_be_bytes w16 (error_number r.errno)
    ++ body_bytes r.body
