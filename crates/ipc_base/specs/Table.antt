-- A table: pairs of a key and a value, each key once. A table of objects, processes or connections is in the order of
-- its keys: numbers rise and are never given again, and a connection is put in at its place.
use Rattle.std.specs.Prelude.{◌≡◌, ℕ, ◌+◌, ◌≤◌, Bool, List, [], ◌∷◌, if◌then◌else◌, map, nat_lt, Option, Some, None}
use Rattle.std.specs.Coded.{×_prop, le_prop}

-- the keys, and the values, in their order
abbrev pub keys_of : {K X : Type 0} → List (K × X) → List K
keys_of table = map (λ e. e.0) table

abbrev pub values_of : {K X : Type 0} → List (K × X) → List X
values_of table = map (λ e. e.1) table

-- the value at a key, by a test that two keys are equal
abbrev pub value_at : {K X : Type 0} → (K → K → Bool) → List (K × X) → K → Option X
value_at same [] k = None
value_at same (e ∷ es) k = if same e.0 k then Some e.1 else value_at same es k

-- the table with another value at a key that it has
abbrev pub with_value : {K X : Type 0} → (K → K → Bool) → List (K × X) → K → X → List (K × X)
with_value same [] k x = []
with_value same (e ∷ es) k x = if same e.0 k then (e.0, x) ∷ es else e ∷ with_value same es k x

-- the table without a key
abbrev pub without : {K X : Type 0} → (K → K → Bool) → List (K × X) → K → List (K × X)
without same [] k = []
without same (e ∷ es) k = if same e.0 k then es else e ∷ without same es k

-- the table of numbers that rise with an entry more, at its place
abbrev pub with_entry : {X : Type 0} → List (ℕ × X) → ℕ → X → List (ℕ × X)
with_entry [] k x = (k, x) ∷ []
with_entry (e ∷ es) k x = if nat_lt k e.0 then (k, x) ∷ e ∷ es else e ∷ with_entry es k x

-- the table with each value seen in another way
abbrev pub seen_as : {K X Y : Type 0} → (X → Y) → List (K × X) → List (K × Y)
seen_as see table = map (λ e. (e.0, see e.1)) table

-- each value of a table is such a one
abbrev pub EachValue : {K X : Type 0} → (X → Type 0) → List (K × X) → Type 0
EachValue P [] = Unit {0}
EachValue P (e ∷ es) = P e.1 × EachValue P es

-- two tables with the same keys in the same order, of which each two values are related
abbrev pub ArePaired : {K X Y : Type 0} → (X → Y → Type 0) → List (K × X) → List (K × Y) → Type 0
ArePaired R [] [] = Unit {0}
ArePaired R [] (y ∷ ys) = ⊥
ArePaired R (x ∷ xs) [] = ⊥
ArePaired R (x ∷ xs) (y ∷ ys) = (x.0 ≡ y.0) × (R x.1 y.1 × ArePaired R xs ys)

-- the numbers rise, each at least low and below high
abbrev pub IsRising : ℕ → List ℕ → ℕ → Type 0
IsRising low [] high = low ≤ high
IsRising low (n ∷ ns) high = (low ≤ n) × IsRising (n + 1) ns high

-- numbers rise in one way at most, so that a ghost field may say that they do
pub IsRising-prop : (low : ℕ) (ns : List ℕ) (high : ℕ) → IsProp (IsRising low ns high)
IsRising-prop low [] high = le_prop
IsRising-prop low (n ∷ ns) high = ×_prop le_prop (IsRising-prop (n + 1) ns high)
