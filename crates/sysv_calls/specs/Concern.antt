-- What a call changes in its object, as far as calls that wait there look at it, and which of them it concerns: each
-- other one has to wait on, and need not be tried again.
use Rattle.std.specs.Prelude.{Bool, true, false, not, ◌==◌, bit_and, bit_or}
use Rattle.ipc_wire.specs.Request.{PlainKind, Sysv}
use Rattle.ipc_wire.specs.Request as requests
use Rattle.ipc_wire.specs.SemBufs.{operations_in}
use Rattle.sysv_msg.specs.Queue.{is_sought}
use Rattle.ipc_state.specs.Bits.{bit_of, bits_of}
use Rattle.sysv_calls.specs.declared.concern.Change.{Change}
use Rattle.sysv_calls.specs.declared.concern.Change.TheVariants.{Anything, Semaphores, Received, Sent}
use Rattle.sysv_calls.specs.Access.{has}
use Rattle.sysv_calls.specs.Msg.{except}

-- what a call changes if it is done: a list of operations and SETVAL the semaphores that they name, each with the
-- adjustments there; a receive takes a message, and a send brings one; of any other call nothing is told
abbrev pub change_of : PlainKind → Change
change_of (Sysv (requests.Semop id timeout operations)) = Semaphores (bits_of (operations_in operations))
change_of (Sysv (requests.SemctlSetVal id num value)) = Semaphores (bit_of num)
change_of (Sysv (requests.Msgrcv id flags size mtype)) = Received
change_of (Sysv (requests.Msgsnd id flags mtype text)) = Sent mtype
change_of kind = Anything

-- one change after another
abbrev pub joined : Change → Change → Change
joined (Semaphores word) (Semaphores more) = Semaphores (bit_or word more)
joined Received Received = Received
joined change more = Anything

-- Whether a call that waits may go on by a change of its object: a list of operations, if it names one of the
-- semaphores, also one after the operation that stops it now; a receive, if it may take the message that has come, and
-- not if one was taken; a send not by another.
abbrev pub concerns : Change → PlainKind → Bool
concerns (Semaphores word) (Sysv (requests.Semop id timeout operations)) =
    not (bit_and (bits_of (operations_in operations)) word == 0)
concerns Received (Sysv (requests.Msgrcv id flags size mtype)) = false
concerns (Sent sent) (Sysv (requests.Msgrcv id flags size mtype)) = is_sought mtype (has flags except) sent
concerns (Sent sent) (Sysv (requests.Msgsnd id flags mtype text)) = false
concerns change kind = true
