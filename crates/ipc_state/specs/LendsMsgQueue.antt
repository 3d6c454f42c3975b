-- What the state is, once a `&mut` to a message queue has ended.
use Rattle.std.specs.Prelude.{◌≡◌, ℕ, Option, Some}
use Rattle.std.specs.Borrow.{Fml, MutBor, LendsSo}
use Rattle.sysv_msg.specs.Queue.{Queue}
use Rattle.sysv_msg.specs.contracts.queue.MsgQueue as msg
use Rattle.ipc_state.specs.contracts.state.State.{the_row}
use Rattle.ipc_state.specs.Held.{Held}
use Rattle.ipc_state.specs.Bound.{holding}
use Rattle.ipc_state.specs.Keyed.{KeyedEntry}
use Rattle.ipc_state.specs.Numbered.{entry_of}
use Rattle.ipc_state.specs.State.{with_msg_queue}

-- the identifier, which has a queue, has this one now, under the same key, and all else is as before
abbrev pub HasPutMsgQueue : Held → ℕ → Queue → Held → Type 0
HasPutMsgQueue old id q new =
    (e : KeyedEntry Queue) → entry_of old.state.msg id ≡ Some e
    → new ≡ record old { state = with_msg_queue old.state id (holding e q) }

-- the identifier has the last value written through r, and at `None` nothing has changed
abbrev pub lends_msg_queue : MutBor Held → ℕ → Option (MutBor Queue) → Fml
lends_msg_queue s id r = LendsSo the_row msg.the_row s r (λ new q. HasPutMsgQueue s.now id q new) (λ new. new ≡ s.now)
