-- What the state is, once a `&mut` to a POSIX message queue has ended.
use Rattle.std.specs.Prelude.{◌≡◌, ℕ, true, is_some, Option}
use Rattle.std.specs.Borrow.{Fml, MutBor, LendsSo}
use Rattle.posix_mq.specs.Queue.{Queue as Mq}
use Rattle.posix_mq.specs.contracts.queue.Mq as mq
use Rattle.ipc_state.specs.contracts.state.State.{the_row}
use Rattle.ipc_state.specs.Held.{Held}
use Rattle.ipc_state.specs.Numbered.{entry_of}
use Rattle.ipc_state.specs.State.{with_mq}

-- the number, which has a queue, has this one now, and all else is as before
abbrev pub HasPutMq : Held → ℕ → Mq → Held → Type 0
HasPutMq old n q new = is_some (entry_of old.state.mq n) ≡ true → new ≡ record old { state = with_mq old.state n q }

-- the number has the last value written through r, and at `None` nothing has changed
abbrev pub lends_mq : MutBor Held → ℕ → Option (MutBor Mq) → Fml
lends_mq s n r = LendsSo the_row mq.the_row s r (λ new q. HasPutMq s.now n q new) (λ new. new ≡ s.now)
