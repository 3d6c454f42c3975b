-- What the state is, once a `&mut` to a named semaphore or to a segment has ended.
use Rattle.std.specs.Prelude.{◌≡◌, ℕ, true, is_some, Option}
use Rattle.std.specs.Borrow.{Fml, MutBor, LendsSo}
use Rattle.posix_sem.specs.contracts.semaphore.NamedSem as semaphore
use Rattle.shm_segment.specs.Segment.{Segment}
use Rattle.shm_segment.specs.contracts.segment.Segment as segment
use Rattle.ipc_state.specs.contracts.state.State.{the_row}
use Rattle.ipc_state.specs.Held.{Held}
use Rattle.ipc_state.specs.Numbered.{entry_of}
use Rattle.ipc_state.specs.State.{with_psem, with_pshm}

-- the number, which has a semaphore, has this value now, and all else is as before
abbrev pub HasPutPsem : Held → ℕ → ℕ → Held → Type 0
HasPutPsem old n value new =
    is_some (entry_of old.state.psem n) ≡ true → new ≡ record old { state = with_psem old.state n value }

abbrev pub lends_psem : MutBor Held → ℕ → Option (MutBor ℕ) → Fml
lends_psem s n r =
    LendsSo the_row semaphore.the_row s r (λ new x. HasPutPsem s.now n x new) (λ new. new ≡ s.now)

-- the number, which has a segment, has this one now, and all else is as before
abbrev pub HasPutPshm : Held → ℕ → Segment → Held → Type 0
HasPutPshm old n x new =
    is_some (entry_of old.state.pshm n) ≡ true → new ≡ record old { state = with_pshm old.state n x }

abbrev pub lends_pshm : MutBor Held → ℕ → Option (MutBor Segment) → Fml
lends_pshm s n r = LendsSo the_row segment.the_row s r (λ new x. HasPutPshm s.now n x new) (λ new. new ≡ s.now)
