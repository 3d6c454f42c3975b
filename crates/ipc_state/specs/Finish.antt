-- How a call ends. Its definition is a list of steps: each stops the call, or goes on with a value. A call that is
-- stopped fails, or has to wait.
use Rattle.std.specs.Prelude.{ℕ, Bool, true, false, if◌then◌else◌, Option, Some, None, Result, Ok, Err}
use Rattle.ipc_base.specs.declared.errno.Errno.{Errno}
use Rattle.ipc_wire.specs.declared.reply.Body.{Body}
use Rattle.ipc_wire.specs.declared.reply.Body.TheVariants.{Empty}
use Rattle.ipc_wire.specs.Reply.{PlainBody, body_of}
use Rattle.posix_mq.specs.declared.queue.Registration.{Registration}
use Rattle.std.specs.Global.{Vec}
use Rattle.ipc_state.specs.State.{State}

-- the state after the call, the error where it is refused, the body of its reply, and the registration of which the
-- process is told now (mq_notify(3)): one that was taken away because a message came, if a frame is sent to it
pub record Finish : Type 0 where
  pub state : State
  pub errno : Option Errno
  pub body : PlainBody
  pub fired : Option Registration

-- a call that is tried comes to its end, or has to wait
pub data Tried : Type 0 where
  Finishes : Finish → Tried
  Waits : Tried

abbrev pub has_to_wait : Tried → Bool
has_to_wait (Finishes f) = false
has_to_wait Waits = true

-- where it comes to its end, that is so
abbrev pub IfFinishes : (Finish → Type 0) → Tried → Type 0
IfFinishes P (Finishes f) = P f
IfFinishes P Waits = Unit {0}

-- it is done, and fires this registration, if one
abbrev pub done_firing : State → PlainBody → Option Registration → Finish
done_firing s body fired = record { state = s; errno = None; body = body; fired = fired }

-- it is done, and fires none
abbrev pub done : State → PlainBody → Finish
done s body = done_firing s body None

-- it is refused and changes nothing
abbrev pub refused : State → Errno → Finish
refused s e = record { state = s; errno = Some e; body = Empty; fired = None }

-- why a call does not go on
pub data Halt : Type 0 where
  Fails : Errno → Halt
  Blocks : Halt

-- a call on its way: stopped, or gone on to a value
abbrev pub Attempt : Type 0 → Type 0
Attempt X = Result X Halt

infixl 10 ◌>>=◌
abbrev pub ◌>>=◌ : {X Y : Type 0} → Attempt X → (X → Attempt Y) → Attempt Y
Err h >>= next = Err h
Ok x >>= next = next x

infixl 10 ◌>>◌
abbrev pub ◌>>◌ : {Y : Type 0} → Attempt (Unit {0}) → Attempt Y → Attempt Y
Err h >> next = Err h
Ok x >> next = next

-- stopped where the test holds
abbrev pub stop : Halt → Bool → Attempt (Unit {0})
stop h b = if b then Err h else Ok tt

-- refused where the test holds
abbrev pub refuse : Errno → Bool → Attempt (Unit {0})
refuse e b = stop (Fails e) b

-- stopped where there is no value
infixl 20 ◌orstop◌
abbrev pub ◌orstop◌ : {X : Type 0} → Option X → Halt → Attempt X
None orstop h = Err h
Some x orstop h = Ok x

-- refused where there is no value
infixl 20 ◌orelse◌
abbrev pub ◌orelse◌ : {X : Type 0} → Option X → Errno → Attempt X
o orelse e = o orstop Fails e

-- one way on where there is a value, another where there is none
abbrev pub if_some : {X Y : Type 0} → Option X → (X → Attempt Y) → Attempt Y → Attempt Y
if_some None there missing = missing
if_some (Some x) there missing = there x

-- what a call that is done leaves and answers, and the registration that it fires
pub record Done : Type 0 where
  pub state : State
  pub body : PlainBody
  pub fired : Option Registration

abbrev pub answer_firing : State → PlainBody → Option Registration → Attempt Done
answer_firing s body fired = Ok (record { state = s; body = body; fired = fired })

-- it fires none
abbrev pub answer : State → PlainBody → Attempt Done
answer s body = answer_firing s body None

-- what comes of the call that began in a state
abbrev pub ended : State → Attempt Done → Tried
ended s (Ok d) = Finishes (done_firing d.state d.body d.fired)
ended s (Err (Fails e)) = Finishes (refused s e)
ended s (Err Blocks) = Waits

-- what comes of the answer of a call of the code, which left this state and fired this registration, if one
abbrev pub finish_firing : State → Result (Body (Vec ℕ)) Errno → Option Registration → Finish
finish_firing s (Ok body) fired = done_firing s (body_of (λ text. text.items) body) fired
finish_firing s (Err e) fired = refused s e

-- and fired none
abbrev pub finish_of : State → Result (Body (Vec ℕ)) Errno → Finish
finish_of s answer = finish_firing s answer None
