-- What tables are, once a `&mut` to something in them has ended.
use Rattle.std.specs.Prelude.{◌≡◌, ℕ, Option, Some}
use Rattle.std.specs.Borrow.{Fml, RattleType, MutBor, LendsSo}
use Rattle.ipc_state.specs.declared.bound.Bound as bound
use Rattle.ipc_state.specs.declared.objects.Entry.{Entry}
use Rattle.ipc_state.specs.declared.numbered.Numbered.{Numbered as Table}
use Rattle.ipc_state.specs.contracts.numbered.Numbered as numbered
use Rattle.ipc_state.specs.contracts.objects.ObjectTable.{the_row}
use Rattle.ipc_state.specs.Numbered.{entry_of, with_entry}
use Rattle.ipc_state.specs.Bound.{holding}
use Rattle.ipc_state.specs.Tables.{HeldObjects, numbered_of, has_place}

-- what has the number is this now, and all else is as before
pub record HasPut {T : Type 0} (old : Table T) (number : ℕ) (x : T) (new : Table T) : Type 0 where
  pub numbered : numbered_of new ≡ with_entry (numbered_of old) number x
  pub place : has_place new ≡ has_place old

-- the number has this object now, bound as before, and all else is as before
abbrev pub HasPutObject : {B X : Type 0} → HeldObjects B X → ℕ → X → HeldObjects B X → Type 0
HasPutObject {B} {X} old number x new =
    (e : Entry B X) → entry_of old.objects number ≡ Some e
    → new ≡ record old { objects = with_entry old.objects number (holding e x) }

-- the number has the last value written through r, and at `None` nothing has changed
module _ (T : RattleType) where
  abbrev pub lends_numbered : MutBor (Table T.Denot) → ℕ → Option (MutBor T.Denot) → Fml
  lends_numbered o number r = LendsSo (numbered.the_row T) T o r (λ n x. HasPut o.now number x n) (λ n. n ≡ o.now)

module _ (B T D : RattleType) (b : bound.Ghosts B.Denot D.Denot) where
  abbrev pub lends_object : MutBor (HeldObjects B.Denot T.Denot) → ℕ → Option (MutBor T.Denot) → Fml
  lends_object o number r =
      LendsSo (the_row B T D b) T o r (λ n x. HasPutObject o.now number x n) (λ n. n ≡ o.now)
