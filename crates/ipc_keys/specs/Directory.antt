-- A directory: which object has a key. It is a finite map from keys to numbers above 0, and some keys more have a place
-- in it and no number yet, so that giving them one takes no memory: these are vacant.
use Rattle.std.specs.Prelude.{◌≡◌, ℕ, zero, suc, Bool, true, false, List, map, Option, Some, None}
use Rattle.std.specs.FinMap as fin
use Rattle.std.specs.Map.{lookup, KeepsOthers}
use Rattle.std.specs.declared.cmp.Ordering.{Ordering}

-- what an entry shows: its number, unless it is vacant
abbrev pub shown : Option ℕ → Option ℕ
shown None = None
shown (Some zero) = None
shown (Some (suc n)) = Some (suc n)

-- there is an entry, and it is vacant
abbrev pub has_place : Option ℕ → Bool
has_place None = false
has_place (Some zero) = true
has_place (Some (suc n)) = false

module _ {K : Type 0} {R : K → K → Ordering} where
  -- the number of the object that has the key
  abbrev pub found : fin.FinMap R ℕ → K → Option ℕ
  found dir key = shown (fin.get dir key)

  -- whether the key is vacant
  abbrev pub is_vacant : fin.FinMap R ℕ → K → Bool
  is_vacant dir key = has_place (fin.get dir key)

  -- of this key two directories say the same
  abbrev pub SameAt : fin.FinMap R ℕ → fin.FinMap R ℕ → K → Type 0
  SameAt old new key = (found new key ≡ found old key) × (is_vacant new key ≡ is_vacant old key)

-- ---- how directories are kept

-- entries as a directory, by what their keys are to a caller
abbrev pub seen : {K P : Type 0} (R : P → P → Ordering) → (K → P) → List (K × ℕ) → fin.FinMap R ℕ
seen R plain entries = fin.from_entries (map (λ e. (plain e.0, e.1)) entries)

-- the entries with this number at the key for which the test stands (None: without the key); of each other key they say
-- what they said
abbrev pub Puts : {K : Type 0} → (K → K → Bool) → (K → Bool) → List (K × ℕ) → List (K × ℕ) → Option ℕ → Type 0
Puts eq test old new number = (lookup test new ≡ number) × KeepsOthers eq test old new
