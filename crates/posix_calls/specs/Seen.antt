-- What the program's functions answer, as values of the definitions.
use Rattle.std.specs.Prelude.{ℕ, Result, Ok, Err}
use Rattle.std.specs.Borrow.{Bor}
use Rattle.ipc_base.specs.declared.errno.Errno.{Errno}
use Rattle.ipc_wire.specs.declared.reply.Body.TheVariants.{Number}
use Rattle.ipc_state.specs.State.{State}
use Rattle.ipc_state.specs.Finish.{Attempt, Done, Fails, answer}
use Rattle.ipc_state.specs.Steps.{seen}
use Rattle.ipc_state.specs.declared.parked.ParkedPosix.{ParkedPosix}
use Rattle.ipc_state.specs.declared.parked.ParkedPosix.TheVariants as parked
use Rattle.posix_calls.specs.Mq.{Found as PlainFound, sendable, receivable}
use Rattle.posix_calls.specs.Psem.{lowerable}
use Rattle.posix_calls.specs.Pshm.{FoundPshm as PlainSegment}
use Rattle.posix_calls.specs.declared.mq.Found.{Found}
use Rattle.posix_calls.specs.declared.pshm.FoundPshm.{FoundPshm}

-- what a descriptor found
abbrev pub plain_found : Found → PlainFound
plain_found f = record { number = f.number; queue = f.queue.now; flags = f.flags.0 }

abbrev pub found_of : Result Found Errno → Attempt PlainFound
found_of (Ok f) = Ok (plain_found f)
found_of (Err e) = Err (Fails e)

-- a segment that is open
abbrev pub plain_segment : FoundPshm → PlainSegment
plain_segment f = record { number = f.number; entry = f.entry.now; flags = f.flags.0 }

abbrev pub segment_of : Result FoundPshm Errno → Attempt PlainSegment
segment_of (Ok f) = Ok (plain_segment f)
segment_of (Err e) = Err (Fails e)

-- what a reference shows, or why there is none
abbrev pub lent_of : {X : Type 0} → Result (Bor X) Errno → Attempt X
lent_of (Ok x) = Ok x.now
lent_of (Err e) = Err (Fails e)

-- what an open left, and the number of the descriptor
abbrev pub opened_of : State → ℕ → Attempt Done
opened_of s fd = answer s (Number fd)

-- the tests of a call that may wait: the number of the queue or the semaphore, if it may go on now
abbrev pub number_in : State → ℕ → ParkedPosix → Attempt ℕ
number_in s pid (parked.MqSend fd deadline message) =
    seen (λ found. found.number) (sendable s pid fd message.priority message.text.items)
number_in s pid (parked.MqReceive fd deadline size) = seen (λ found. found.0.number) (receivable s pid fd size)
number_in s pid (parked.SemWait fd deadline) = seen (λ found. found.number) (lowerable s pid fd)
