-- What a save relies on while it brings objects into its heap.
use Rattle.std.specs.Prelude.{◌≡◌, ℕ, Bool, true, false, List, is_some, nat_eq, slice_get, Some}
use Rattle.ipc_base.specs.Objects.{PlainObjects}
use Rattle.ipc_base.specs.Table.{value_at}

-- each object that does not differ is there with these bytes, by its number
abbrev pub AreThere : (ℕ → Bool) → PlainObjects → PlainObjects → Type 0
AreThere differs objects map =
    (i : ℕ) (o : ℕ × List ℕ) → slice_get objects i ≡ Some o → differs i ≡ false
    → value_at nat_eq map o.0 ≡ Some o.1

-- a table has no numbers but those of some objects
abbrev pub HasNoOthers : {X : Type 0} → List (ℕ × X) → PlainObjects → Type 0
HasNoOthers table objects =
    (n : ℕ) → is_some (value_at nat_eq table n) ≡ true → is_some (value_at nat_eq objects n) ≡ true
