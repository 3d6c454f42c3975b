-- What the state is, once a `&mut` to a System V segment has ended.
use Rattle.std.specs.Prelude.{◌≡◌, ℕ, Option, Some}
use Rattle.std.specs.Borrow.{Fml, MutBor, LendsSo}
use Rattle.shm_segment.specs.SysSegment.{SysSegment}
use Rattle.shm_segment.specs.contracts.sys_segment.SysSegment as segment
use Rattle.ipc_state.specs.contracts.state.State.{the_row}
use Rattle.ipc_state.specs.Held.{Held}
use Rattle.ipc_state.specs.Bound.{holding}
use Rattle.ipc_state.specs.Keyed.{KeyedEntry}
use Rattle.ipc_state.specs.Numbered.{entry_of}
use Rattle.ipc_state.specs.State.{with_shm}

-- the identifier, which has a segment, has this one now, under the same key, and all else is as before
abbrev pub HasPutShm : Held → ℕ → SysSegment → Held → Type 0
HasPutShm old id x new =
    (e : KeyedEntry SysSegment) → entry_of old.state.shm id ≡ Some e
    → new ≡ record old { state = with_shm old.state id (holding e x) }

-- the identifier has the last value written through r, and at `None` nothing has changed
abbrev pub lends_shm : MutBor Held → ℕ → Option (MutBor SysSegment) → Fml
lends_shm s id r = LendsSo the_row segment.the_row s r (λ new x. HasPutShm s.now id x new) (λ new. new ≡ s.now)
