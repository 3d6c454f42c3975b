-- What the state is, once a `&mut` to a semaphore set has ended.
use Rattle.std.specs.Prelude.{◌≡◌, ℕ, Option, Some}
use Rattle.std.specs.Borrow.{Fml, MutBor, LendsSo}
use Rattle.sysv_sem.specs.Set.{Set}
use Rattle.sysv_sem.specs.contracts.set.SemSet as set
use Rattle.ipc_state.specs.contracts.state.State.{the_row}
use Rattle.ipc_state.specs.Held.{Held}
use Rattle.ipc_state.specs.Bound.{holding}
use Rattle.ipc_state.specs.Keyed.{KeyedEntry}
use Rattle.ipc_state.specs.Numbered.{entry_of}
use Rattle.ipc_state.specs.State.{with_semset}

-- the identifier, which has a set, has this one now, under the same key, and all else is as before
abbrev pub HasPutSemset : Held → ℕ → Set → Held → Type 0
HasPutSemset old id x new =
    (e : KeyedEntry Set) → entry_of old.state.semset id ≡ Some e
    → new ≡ record old { state = with_semset old.state id (holding e x) }

-- the identifier has the last value written through r, and at `None` nothing has changed
abbrev pub lends_semset : MutBor Held → ℕ → Option (MutBor Set) → Fml
lends_semset s id r = LendsSo the_row set.the_row s r (λ new x. HasPutSemset s.now id x new) (λ new. new ≡ s.now)
