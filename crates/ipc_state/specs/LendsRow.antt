-- What a list of items is, once a `&mut` to the value of one has ended.
use Rattle.std.specs.Prelude.{◌≡◌, ℕ, map, nat_eq, Option}
use Rattle.std.specs.Borrow.{Fml, RattleType, MutBor, LendsSo}
use Rattle.std.specs.Global.{Vec}
use Rattle.ipc_base.specs.Table.{with_value}
use Rattle.ipc_state.specs.declared.numbered.Item.{Item}
use Rattle.ipc_state.specs.contracts.rows.Rows as rows
use Rattle.ipc_state.specs.Rows.{has_room, item_row}

-- what has the number is this now, and all else is as before
pub record HasPutRow {T : Type 0} (old : Vec (Item T)) (number : ℕ) (x : T) (new : Vec (Item T)) : Type 0 where
  pub rows : map item_row new.items ≡ with_value nat_eq (map item_row old.items) number x
  pub room : has_room new ≡ has_room old

-- the number has the last value written through r, and at `None` nothing has changed
abbrev pub lends_row : (T : RattleType) → MutBor (Vec (Item T.Denot)) → ℕ → Option (MutBor T.Denot) → Fml
lends_row T o number r = LendsSo (rows.the_row T) T o r (λ n x. HasPutRow o.now number x n) (λ n. n ≡ o.now)
