-- The directory of the keys or names of one kind: which number a key has. One key has none: of System V keys
-- (sysvipc(7)) it is IPC_PRIVATE, which is 0, and no bytes are no name.
use Rattle.std.specs.Prelude.{◌≡◌, ◌≢◌, ◌<◌, ℕ, ℤ, pos, Bool, true, if◌then◌else◌}
use Rattle.std.specs.Prelude.{List, [], All, Option, Some, None, is_some}
use Rattle.std.specs.FinMap.{FinMap}
use Rattle.std.specs.Cmp.Lexicographic.{slice_cmp}
use Rattle.std.specs.Ordering.{int_cmp, int_eq, nat_cmp}
use Rattle.std.specs.Str.{bytes_eq}
use Rattle.ipc_base.specs.Table.{keys_of}
use Rattle.ipc_keys.specs.Directory.{found}
use Rattle.ipc_keys.specs.Names.{is_none}

-- the identifier of a key
abbrev pub named_by : FinMap int_cmp ℕ → ℤ → Option ℕ
named_by keys key = if int_eq key (pos 0) then None else found keys key

-- the first of two that is there
abbrev pub or_else : Option ℕ → Option ℕ → Option ℕ
or_else None other = other
or_else (Some n) other = Some n

-- what an object with this key and number adds for another key, of keys that a test tells apart; one of them has none
abbrev pub adds : {K : Type 0} → (K → K → Bool) → K → K → ℕ → K → Option ℕ
adds same none key n other = if same other none then None else if same key other then Some n else None

-- of System V keys
abbrev pub added : ℤ → ℕ → ℤ → Option ℕ
added = adds int_eq (pos 0)

-- each number is above 0
abbrev pub ArePositive : {X : Type 0} → List (ℕ × X) → Type 0
ArePositive es = All (λ n. 0 < n) (keys_of es)

-- what is found at the keys is what they name, if none of them names 0
abbrev pub Agrees : {K : Type 0} → (K → Option ℕ) → (K → Option ℕ) → Type 0
Agrees {K} found named = ((key : K) (n : ℕ) → named key ≡ Some n → 0 < n) → (key : K) → found key ≡ named key

-- What is ready to be added, if anything is: no key is vacant but its own, which is if it names nothing and is one; and
-- there is a place for it.
pub record IsReady {K : Type 0} (none : K) (vacant : K → Bool) (number : K → Option ℕ) (has_place : Bool)
    (ready : Option K) : Type 0 where
  pub only : (key : K) → vacant key ≡ true → (ready ≡ Some key) × (key ≢ none)
  pub own : (key : K) → ready ≡ Some key → key ≢ none → number key ≡ None → vacant key ≡ true
  pub place : is_some ready ≡ true → has_place ≡ true

-- ---- of names

-- the number of a name
abbrev pub number_at : FinMap (slice_cmp nat_cmp) ℕ → List ℕ → Option ℕ
number_at names name = if is_none name then None else found names name

-- what an object with this name and number adds for another name
abbrev pub name_added : List ℕ → ℕ → List ℕ → Option ℕ
name_added = adds bytes_eq []
