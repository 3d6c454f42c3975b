-- Items with their numbers, in a list.
use Rattle.std.specs.Prelude.{ℕ, Bool, nat_lt, vec_len, vec_capacity}
use Rattle.std.specs.Global.{Vec}
use Rattle.ipc_state.specs.declared.numbered.Item.{Item}

-- one with its number
abbrev pub item_row : {T : Type 0} → Item T → ℕ × T
item_row e = (e.number, e.value)

-- room for one more
abbrev pub has_room : {T : Type 0} → Vec (Item T) → Bool
has_room items = nat_lt (vec_len items) (vec_capacity items)
