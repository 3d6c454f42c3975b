-- How the state is kept: each part of the tables as a value of the definitions.
use Rattle.std.specs.Prelude.{Bool, map, Option}
use Rattle.ipc_state.specs.declared.numbered.Numbered.{Numbered as Table}
use Rattle.ipc_state.specs.Rows.{has_room}
pub use Rattle.ipc_state.specs.Rows.{item_row}
use Rattle.ipc_state.specs.Numbered.{Numbered}
use Rattle.ipc_state.specs.Bound.{ObjectsOf}

abbrev pub numbered_of : {T : Type 0} → Table T → Numbered T
numbered_of o = record { next = o.next; entries = map item_row o.items.items }

-- room for one more
abbrev pub has_place : {T : Type 0} → Table T → Bool
has_place o = has_room o.items

-- what a contract sees of the objects of one kind that are held: these, and the object that is ready to be added, with
-- what it is to be bound to
pub record HeldObjects (B X : Type 0) : Type 0 where
  pub objects : ObjectsOf B X
  pub ready : Option (B × X)
