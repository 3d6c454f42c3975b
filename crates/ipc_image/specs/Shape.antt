-- The form of a thing that stands in a saved list: numbers in fields, and then bytes, as many as the numbers say.
use Rattle.std.specs.Prelude.{◌≡◌, ℕ, List, ◌++◌, length}
use Rattle.ipc_base.specs.declared.field.Size.{Size}
use Rattle.ipc_base.specs.Numbers.{fields_bytes, FitFields}

-- the sizes of the numbers; how many bytes come after them, by the numbers
pub data Shape : Type 0 where
  Fields : List Size → Shape
  Texts : List Size → (List ℕ → ℕ) → Shape

-- its numbers; the bytes after them
abbrev pub Tree : Shape → Type 0
Tree (Fields sizes) = List ℕ
Tree (Texts sizes count) = List ℕ × List ℕ

abbrev pub tree_bytes : (s : Shape) → Tree s → List ℕ
tree_bytes (Fields sizes) numbers = fields_bytes sizes numbers
tree_bytes (Texts sizes count) t = fields_bytes sizes t.0 ++ t.1

-- each number has its place, and as many bytes come after them as they say
abbrev pub IsTree : (s : Shape) → Tree s → Type 0
IsTree (Fields sizes) numbers = FitFields sizes numbers
IsTree (Texts sizes count) t = FitFields sizes t.0 × (length t.1 ≡ count t.0)

-- the bytes of what has such a tree
abbrev pub bytes_in : (s : Shape) {X : Type 0} → (X → Tree s) → X → List ℕ
bytes_in s tree x = tree_bytes s (tree x)
