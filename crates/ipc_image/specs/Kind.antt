-- Objects of one kind: each is of one thing, and its number is that of the kind and the thing's identifier.
use Rattle.std.specs.Prelude.{◌≢◌, ℕ, ◌+◌, ◌<◌, ◌^◌, List, [], ◌∷◌}
use Rattle.ipc_base.specs.Objects.{PlainObjects}

abbrev pub object_in : ℕ → {X : Type 0} → (X → List ℕ) → ℕ × X → ℕ × List ℕ
object_in first bytes_of e = (first + e.0, bytes_of e.1)

-- the identifier and the thing have their places
abbrev pub FitsIn : {X : Type 0} → (X → Type 0) → ℕ × X → Type 0
FitsIn Fits e = (e.0 < 2 ^ 32) × Fits e.1

-- the first of these objects, if there is one, is of another kind
abbrev pub IsOther : ℕ → PlainObjects → Type 0
IsOther first [] = Unit {0}
IsOther first (o ∷ objects) = (id : ℕ) → id < 2 ^ 32 → o.0 ≢ first + id
